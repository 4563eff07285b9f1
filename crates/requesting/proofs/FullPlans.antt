-- What check 22 finds of a plan: marks of at most 2, and in a full plan none that is open, so that taking its open lines changes nothing.
-- Assumes nothing.
use Prim.Native.Nat.{ℕ, zero, suc, ◌≤◌, ◌<◌}
use native.Mathlib.Nat.{zero-add}
use native.Mathlib.Decide.{dec_lt}
use native.Mathlib.Omega.{arith}
use mathlib.Core.Path.{◌≡◌, refl, ap}
use mathlib.Core.Bool.{false, ◌||◌}
use mathlib.Core.Logic.{by_cases}
use mathlib.Core.Option.{none}
use mathlib.Core.List.{List, [], ◌∷◌}
use lib.ListN.{length, get_or, get_or-eq_default}
use lib.Dec.{eqb, ltb}
use borrow.Author.Tests.{ltb-false, eqb-false}
use Rattle.diagram.specs.Plans.{open_taken}
use Rattle.diagram.specs.Checks.{plan_mark_fault, full_plan_fault}
use Rattle.diagram.proofs.Every.{neither}
use Rattle.diagram.proofs.Places.{none-at}

-- Marks of at most 2
abbrev pub Legal : List ℕ → Type 0
Legal p = (i : ℕ) → get_or p i 0 ≤ 2

-- an index that is past the plan has the mark 0
within : (p : List ℕ) → ((i : ℕ) → i < length p → get_or p i 0 ≤ 2) → Legal p
within p h i = by_cases (dec_lt i (length p)) (λ l. h i l) (λ f. rw (get_or-eq_default p 0 {n = i} (omega (arith, f))) (omega arith))

pub legal-marks : (p s : List ℕ) → plan_mark_fault p s ≡ none → Legal p
unfolding plan_mark_fault
legal-marks p s e = within p (λ i l. ltb-false 2 (get_or p i 0) (rw zero-add at (none-at (λ j. ltb 2 (get_or p j 0)) 0 (length p) i e l)))

module _ (p s : List ℕ) (e : full_plan_fault p s ≡ none) where
  full_at : (i : ℕ) → i < length p → (ltb 2 (get_or p i 0) ≡ false) × (eqb (get_or p i 0) 0 ≡ false)
  unfolding full_plan_fault
  full_at i l = neither (ltb 2 (get_or p i 0)) (rw zero-add at (none-at (λ j. ltb 2 (get_or p j 0) || eqb (get_or p j 0) 0) 0 (length p) i e l))

  pub full_legal : Legal p
  full_legal = within p (λ i l. ltb-false 2 _ (full_at i l).0)

  pub full_closed : (i : ℕ) → i < length p → get_or p i 0 ≡ 0 → ⊥
  full_closed i l = eqb-false _ _ (full_at i l).1

-- a plan with no open line
pub open_taken-same : (p : List ℕ) → ((i : ℕ) → i < length p → get_or p i 0 ≡ 0 → ⊥) → open_taken p ≡ p
unfolding open_taken
open_taken-same [] h = refl
open_taken-same (zero ∷ p) h = absurd (h 0 (omega arith) refl)
open_taken-same (suc m ∷ p) h = ap (λ (q : List ℕ). suc m ∷ q) (open_taken-same p (λ i l. h (suc i) (omega arith)))
