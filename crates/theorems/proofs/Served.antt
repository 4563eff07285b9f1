-- Two accepted files of the same V, N and variables, whose tables answer alike, are served alike, and the program prints the same of both.
-- Assumes nothing.
use Prim.Native.Nat.{ℕ, ◌+◌, ◌*◌, ◌/◌, ◌^◌, ◌≤◌, ◌<◌}
use native.Mathlib.Decide.{dec_lt}
use native.Mathlib.Omega.{arith}
use mathlib.Core.Path.{◌≡◌, refl, ap, sym, ◌∙◌}
use mathlib.Core.Logic.{inl, inr, by_cases}
use mathlib.Core.Option.{Option, none, some}
use mathlib.Core.List.{List, [], ◌∷◌, ◌++◌}
use lib.ListN.{length, drop}
use lib.Seq.{take_all}
use borrow.Author.Tests.{lt-ltb}
use Rattle.diagram.specs.Words.{word_at}
use Rattle.diagram.specs.Table.{table_of, variable_count, record_count}
use Rattle.diagram.specs.Checks.{Check, plan_length_fault, plan_mark_fault, full_plan_fault, percent_fault, budget_fault, buffer_fault, job_fault, job_checks, table_checks, score_checks, sweep_checks, filter_checks, search_checks}
use Rattle.diagram.specs.Services.{Outcome, refused, answered, checked, reading, read_outcome, score_outcome, sweep_outcome, filter_outcome, Searching, search_outcome}
use Rattle.diagram.specs.Printout.{plan_text, search_text, job_outcome, program_outcome, printout}
use Rattle.diagram.proofs.Checked.{checked-passes, checked_stops, checked_end, read-answers}
use Rattle.theorems.specs.Reasons.{Wrong, passes_row, file_reasons, Accepted}
use Rattle.theorems.specs.Roots.{AnswerAlike, ServedAlike}
use Rattle.theorems.proofs.Deciding.{accepted-read}

-- ---------------------------------------------------------------------------
-- Checks that find the same in two files

-- Each check of a list finds the same
FindsSame : (file other : List ℕ) → List Check → Type 0
FindsSame file other [] = Unit {0}
FindsSame file other (c ∷ cs) = (c.fault file ≡ c.fault other) × FindsSame file other cs

same_checks : {A : Type 0} (file other : List ℕ) (cs : List Check) (answer : List ℕ → Outcome A) → FindsSame file other cs → answer file ≡ answer other → checked cs answer file ≡ checked cs answer other
unfolding FindsSame
same_checks file other [] answer same e = checked_end answer file ∙ e ∙ sym (checked_end answer other)
same_checks {A} file other (c ∷ cs) answer same e = go (c.fault other) refl (same_checks file other cs answer same.1 e)
  where
    go : (o : Option ℕ) → c.fault other ≡ o → checked cs answer file ≡ checked cs answer other → checked (c ∷ cs) answer file ≡ checked (c ∷ cs) answer other
    go none q rest = checked-passes c cs answer file (same.0 ∙ q) ∙ rest ∙ sym (checked-passes c cs answer other q)
    go (some i) q rest = checked_stops c cs answer file i (same.0 ∙ q) ∙ sym (checked_stops c cs answer other i q)

-- ---------------------------------------------------------------------------
-- The program's input

-- an accepted file is no longer than 11 allows
short : (s : List ℕ) → Accepted s → length s ≤ 1324
unfolding file_reasons Wrong
short s (passes_row p rest) =
    by_cases (dec_lt 1324 (length s)) (λ l. absurd (p 0 (refl, inr (inl l)))) (λ f. omega (arith, f))

module _ (a b c d : ℕ) where
  -- all of it is read
  read_whole : (s : List ℕ) → length s ≤ 1324 → printout (a ∷ b ∷ c ∷ d ∷ s) ≡ search_text (table_of s) (program_outcome (a ∷ b ∷ c ∷ d ∷ s))
  unfolding printout
  read_whole s h =
      ap (λ (read : List ℕ). search_text (table_of (drop 4 read)) (program_outcome read)) (take_all 1329 (a ∷ b ∷ c ∷ d ∷ s) (omega arith))

  -- the job word
  job-word : (s : List ℕ) → word_at (a ∷ b ∷ c ∷ d ∷ s) 0 ≡ a * 2 ^ 24 + b * 2 ^ 16 + c * 2 ^ 8 + d
  unfolding word_at
  job-word s =
      let some : 0 < length (a ∷ b ∷ c ∷ d ∷ s) / 4 = omega arith in
      rw (lt-ltb 0 (length (a ∷ b ∷ c ∷ d ∷ s) / 4) some) refl

-- ---------------------------------------------------------------------------
-- The services and the program

module _ {file other : List ℕ} (first : Accepted file) (second : Accepted other) (same-V : variable_count file ≡ variable_count other) (same-N : record_count file ≡ record_count other) (variables : (table_of file).variables ≡ (table_of other).variables) (h : AnswerAlike (table_of file) (table_of other)) where
  same-reading : reading file ≡ reading other
  unfolding reading
  same-reading = rw (h.scales, same-V, same-N, variables) refl

  reads : read_outcome file ≡ read_outcome other
  reads = accepted-read file first ∙ ap answered same-reading ∙ sym (accepted-read other second)

  -- what comes after the checks of a table
  served : {A : Type 0} (cs : List Check) (answer : List ℕ → Outcome A) → FindsSame file other cs → answer file ≡ answer other → checked (table_checks ++ cs) answer file ≡ checked (table_checks ++ cs) answer other
  served cs answer same e =
      read-answers file cs answer _ (accepted-read file first)
      ∙ same_checks file other cs answer same e
      ∙ sym (read-answers other cs answer _ (accepted-read other second))

  same_21 : (p : List ℕ) → plan_length_fault p file ≡ plan_length_fault p other
  unfolding plan_length_fault
  same_21 p = rw variables refl

  same_25 : (size : ℕ) → buffer_fault size file ≡ buffer_fault size other
  unfolding buffer_fault
  same_25 size = rw variables refl

  scores : (p : List ℕ) → score_outcome file p ≡ score_outcome other p
  unfolding score_outcome score_checks FindsSame full_plan_fault
  scores p = served _ _ (same_21 p, (refl, tt)) (ap answered (h.scores p))

  sweeps : (p : List ℕ) (size : ℕ) → sweep_outcome file p size ≡ sweep_outcome other p size
  unfolding sweep_outcome sweep_checks FindsSame plan_mark_fault
  sweeps p size = served _ _ (same_21 p, (refl, (same_25 size, tt))) (rw (h.tops p, h.drops p) refl)

  filters : (p : List ℕ) (percent size : ℕ) → filter_outcome file p percent size ≡ filter_outcome other p percent size
  unfolding filter_outcome filter_checks FindsSame plan_mark_fault percent_fault
  filters p percent size = served _ _ (same_21 p, (refl, (refl, (same_25 size, tt)))) (h.filters percent p)

  searches : (p : List ℕ) (budget percent size : ℕ) → search_outcome file p budget percent size ≡ search_outcome other p budget percent size
  unfolding search_outcome search_checks FindsSame plan_mark_fault percent_fault budget_fault
  searches p budget percent size =
      served _ _ (same_21 p, (refl, (refl, (refl, (same_25 size, tt))))) (h.searches budget percent p)

  same-job : (budget percent : ℕ) → job_outcome file budget percent ≡ job_outcome other budget percent
  unfolding job_outcome
  same-job budget percent = searches _ budget percent _ ∙ rw variables refl

  same_text : (o : Outcome Searching) → search_text (table_of file) o ≡ search_text (table_of other) o
  unfolding search_text plan_text
  same_text (refused number place) = refl
  same_text (answered found) = rw (h.scales, h.costs found.plan, variables) refl

  module _ (a b c d : ℕ) where
    same_program : program_outcome (a ∷ b ∷ c ∷ d ∷ file) ≡ program_outcome (a ∷ b ∷ c ∷ d ∷ other)
    unfolding program_outcome job_checks job_fault FindsSame
    same_program =
        let word = job-word a b c d in
        same_checks (a ∷ b ∷ c ∷ d ∷ file) (a ∷ b ∷ c ∷ d ∷ other) _ _
        (rw (word file, word other) refl, tt)
        (rw (word file, word other) (same-job _ _))

    prints : printout (a ∷ b ∷ c ∷ d ∷ file) ≡ printout (a ∷ b ∷ c ∷ d ∷ other)
    prints =
        read_whole a b c d file (short file first)
        ∙ same_text _
        ∙ ap (search_text (table_of other)) same_program
        ∙ sym (read_whole a b c d other (short other second))

  pub served_alike : ServedAlike file other
  served_alike =
      record { reads = reads; scores = scores; sweeps = sweeps; filters = filters; searches = searches; prints = prints }
