-- A result of 0 says that the request is answered: no refusal of a service has the number 0. Assumes nothing.
use Prim.Native.Nat.{ℕ, ◌≤◌}
use native.Mathlib.Omega.{arith}
use mathlib.Core.Path.{◌≡◌, refl, ap}
use mathlib.Core.Bool.{Bool, true, false}
use mathlib.Core.Option.{Option, none, some}
use mathlib.Core.List.{List, [], ◌∷◌}
use lib.Dec.{ltb}
use borrow.Author.Tests.{ltb-true}
use Rattle.diagram.specs.Table.{Table, table_of}
use Rattle.diagram.specs.Score.{every}
use Rattle.diagram.specs.Plans.{none_of, passing, completions}
use Rattle.diagram.specs.Ranking.{best_plan}
use Rattle.diagram.specs.Checks.{Check, table_checks, score_checks, sweep_checks, filter_checks, search_checks}
use Rattle.diagram.specs.Services.{Outcome, refused, answered, checked, filtering, searching, read_outcome, score_outcome, sweep_outcome, filter_outcome, search_outcome}
use Rattle.diagram.proofs.Every.{both}
use Rattle.diagram.proofs.Checked.{checked-passes, checked_stops}
use Rattle.export.specs.Numbers.{number_of}

-- A result of 0 says that the outcome is an answer
abbrev pub ZeroAnswers : {A : Type 0} → Outcome A → Type 0
ZeroAnswers {A} o = number_of o ≡ 0 → ((a : A) × (o ≡ answered a))

answer_zero : {A : Type 0} (a : A) → ZeroAnswers (answered a)
answer_zero a z = (a, refl)

refusal_zero : {A : Type 0} (n i : ℕ) (o : Outcome A) → 1 ≤ n → o ≡ refused n i → ZeroAnswers o
unfolding number_of
refusal_zero n i o h e z = absurd (omega (arith, ap number_of e))

-- a list of checks whose numbers are above 0
numbered : Check → Bool
numbered c = ltb 0 c.number

checked_zero : {A : Type 0} (answer : List ℕ → Outcome A) (s : List ℕ) → ZeroAnswers (answer s) → (cs : List Check) → every numbered cs ≡ true → ZeroAnswers (checked cs answer s)
unfolding checked every numbered
checked_zero answer s h [] k = h
checked_zero answer s h (c ∷ cs) k = go (c.fault s) refl (checked_zero answer s h cs (both (numbered c) k).1)
  where
    go : (o : Option ℕ) → c.fault s ≡ o → ZeroAnswers (checked cs answer s) → ZeroAnswers (checked (c ∷ cs) answer s)
    go none e rest = rw (checked-passes c cs answer s e) rest
    go (some i) e rest = refusal_zero c.number i _ (ltb-true _ _ (both (numbered c) k).0) (checked_stops c cs answer s i e)

-- ---------------------------------------------------------------------------
-- Of each service

pub read-zero : (s : List ℕ) → ZeroAnswers (read_outcome s)
unfolding read_outcome table_checks every numbered
read-zero s = checked_zero _ s (answer_zero _) _ refl

pub score-zero : (s p : List ℕ) → ZeroAnswers (score_outcome s p)
unfolding score_outcome score_checks table_checks every numbered
score-zero s p = checked_zero _ s (answer_zero _) _ refl

pub sweep_zero : (s p : List ℕ) (size : ℕ) → ZeroAnswers (sweep_outcome s p size)
unfolding sweep_outcome sweep_checks table_checks every numbered
sweep_zero s p size = checked_zero _ s (answer_zero _) _ refl

filtering-zero : (t : Table) (percent : ℕ) (p : List ℕ) → ZeroAnswers (filtering t percent p)
unfolding filtering
filtering-zero t percent p = go (none_of (passing t percent) (completions p)) refl
  where
    go : (b : Bool) → none_of (passing t percent) (completions p) ≡ b → ZeroAnswers (filtering t percent p)
    go true e = refusal_zero 31 0 _ (omega arith) (rw e)
    go false e = rw e (answer_zero _)

pub filter-zero : (s p : List ℕ) (percent size : ℕ) → ZeroAnswers (filter_outcome s p percent size)
unfolding filter_outcome filter_checks table_checks every numbered
filter-zero s p percent size = checked_zero _ s (filtering-zero (table_of s) percent p) _ refl

searching-zero : (t : Table) (budget percent : ℕ) (p : List ℕ) → ZeroAnswers (searching t budget percent p)
unfolding searching
searching-zero t budget percent p = go (best_plan t budget percent p) refl
  where
    go : (o : Option (List ℕ)) → best_plan t budget percent p ≡ o → ZeroAnswers (searching t budget percent p)
    go none e = refusal_zero 32 0 _ (omega arith) (rw (e, searching))
    go (some c) e = rw (e, searching) (answer_zero _)

pub search_zero : (s p : List ℕ) (budget percent size : ℕ) → ZeroAnswers (search_outcome s p budget percent size)
unfolding search_outcome search_checks table_checks every numbered
search_zero s p budget percent size = checked_zero _ s (searching-zero (table_of s) budget percent p) _ refl
