-- What each service answers, and what it leaves in a lent buffer, for every request: document 01 from "Scores, drops and passing" to "Turned away".
use Rattle.std.specs.Prelude.{ℕ, cond, List, [], ◌∷◌, length}
use Rattle.std.proofs.Math.Option.{none, some}
use Rattle.diagram.specs.Table.{Table, table_of, variable_count, record_count, choice_count, scale}
use Rattle.diagram.specs.Score.{score}
use Rattle.diagram.specs.Plans.{completions, upper_bound, derivatives, none_of, passing, forced_plan, forced_count}
use Rattle.diagram.specs.Ranking.{best_plan}
use Rattle.diagram.specs.Visits.{visit_count}
use Rattle.diagram.specs.Checks.{Check, table_checks, score_checks, sweep_checks, filter_checks, search_checks}

-- A request is refused with a number and a place ("turned away"), or answered
pub data Outcome (A : Type 0) : Type 0 where
  refused : (number place : ℕ) → Outcome A
  answered : A → Outcome A

-- The first check that finds a fault refuses the file; a file without fault is answered
unfoldable pub checked : {A : Type 0} → List Check → (List ℕ → Outcome A) → List ℕ → Outcome A
checked {A} [] answer s = answer s
checked {A} (c ∷ cs) answer s =
    elim (c.fault s) as (λ _. Outcome A) [ none ↦ checked cs answer s | some i ↦ refused c.number i ]

-- "every lent buffer holds what it held" where the request is refused; else it holds the part of the answer that is written
unfoldable pub written : {A : Type 0} → (A → List ℕ) → Outcome A → List ℕ → List ℕ
written part (refused number place) held = held
written part (answered a) held = part a

-- "Reading takes a file and returns V, N, the number of choices and B."
pub record Reading : Type 0 where
  pub variables : ℕ
  pub records : ℕ
  pub choices : ℕ
  pub scale : ℕ

-- V, N, the number of choices and B of a file
unfoldable pub reading : List ℕ → Reading
reading s =
    record {
      variables = variable_count s;
      records = record_count s;
      choices = choice_count (table_of s).variables;
      scale = scale (table_of s);
    }

-- What reading answers
unfoldable pub read_outcome : List ℕ → Outcome Reading
read_outcome s = checked table_checks (λ file. answered (reading file)) s

-- "The score takes file and full plan."
unfoldable pub score_outcome : (file plan : List ℕ) → Outcome ℕ
score_outcome s p = checked (score_checks p) (λ file. answered (score (table_of file) p)) s

-- "The sweep takes file, plan and a drops buffer of 64-bit numbers, fills the buffer and returns the top." The buffer comes with a size.
pub record Sweeping : Type 0 where
  pub upper_bound : ℕ
  pub derivatives : List ℕ

-- What the sweep answers and writes
unfoldable pub sweep_outcome : (file plan : List ℕ) → (size : ℕ) → Outcome Sweeping
sweep_outcome s p size =
    checked (sweep_checks p size)
    (λ file. answered (record { upper_bound = upper_bound (table_of file) p; derivatives = derivatives (table_of file) p }))
    s

-- What the drops buffer holds after the request
unfoldable pub sweep_buffer : (file plan held : List ℕ) → List ℕ
sweep_buffer s p held = written (λ a. a.derivatives) (sweep_outcome s p (length held)) held

-- "The filter takes file, plan, percent and a plan buffer. It writes the plan with forced lines taken and returns how many lines it forced."
-- 31: "no completion passes"
pub record Filtering : Type 0 where
  pub forced : ℕ
  pub plan : List ℕ

-- The filter of a table and a legal plan: 31 "no completion passes", else the forced lines
unfoldable pub filtering : Table → (percent : ℕ) → List ℕ → Outcome Filtering
filtering t percent p =
    cond (none_of (passing t percent) (completions p))
    (refused 31 0)
    (answered (record { forced = forced_count t percent p; plan = forced_plan t percent p }))

-- What the filter answers and writes
unfoldable pub filter_outcome : (file plan : List ℕ) → (percent size : ℕ) → Outcome Filtering
filter_outcome s p percent size = checked (filter_checks p percent size) (λ file. filtering (table_of file) percent p) s

-- What the plan buffer holds after the request
unfoldable pub filter_buffer : (file plan : List ℕ) → (percent : ℕ) → (held : List ℕ) → List ℕ
filter_buffer s p percent held = written (λ a. a.plan) (filter_outcome s p percent (length held)) held

-- "The search takes file, plan, kits, percent and a plan buffer, and returns score and visits." The plan it writes is the first candidate in the ranking.
-- 32: "no candidate"
pub record Searching : Type 0 where
  pub score : ℕ
  pub visits : ℕ
  pub plan : List ℕ

-- The search of a table and a legal plan: 32 "no candidate", else the first candidate in the ranking, with the visits of the rule
unfoldable pub searching : Table → (budget percent : ℕ) → List ℕ → Outcome Searching
searching t budget percent p =
    elim (best_plan t budget percent p) as (λ _. Outcome Searching) [
      | none ↦ refused 32 0
      | some c ↦ answered (record { score = score t c; visits = visit_count t budget percent p; plan = c })
    ]

-- What the search answers and writes
unfoldable pub search_outcome : (file plan : List ℕ) → (budget percent size : ℕ) → Outcome Searching
search_outcome s p budget percent size =
    checked (search_checks p budget percent size) (λ file. searching (table_of file) budget percent p) s

-- What the plan buffer holds after the request
unfoldable pub search_buffer : (file plan : List ℕ) → (budget percent : ℕ) → (held : List ℕ) → List ℕ
search_buffer s p budget percent held = written (λ a. a.plan) (search_outcome s p budget percent (length held)) held
