-- The lowest open line of a plan: where it is, and how the plan's completions and open lines follow from those with it settled.
-- Assumes nothing but that a line is open, or that none is, where a law says so.
use Prim.Native.Nat.{ℕ, zero, suc, ◌<◌}
use native.Mathlib.Omega.{arith}
use mathlib.Core.Path.{◌≡◌, refl}
use mathlib.Core.Bool.{true}
use mathlib.Core.List.{List, [], ◌∷◌, ◌++◌, map-append}
use lib.ListN.{length, set}
use Rattle.diagram.specs.Plans.{completions, open_count, is_open, Completes, complete, keeps}
use Rattle.diagram.specs.Visits.{lowest_open}

-- where a line is open, the lowest open line is one of the plan's and is open
pub lowest_open_lem : (p : List ℕ) (n : ℕ) → open_count p ≡ suc n → (is_open p (lowest_open p) ≡ true) × (lowest_open p < length p)
unfolding open_count lowest_open is_open
lowest_open_lem [] n e = absurd (omega arith)
lowest_open_lem (zero ∷ p) n e = (refl, omega arith)
lowest_open_lem (suc m ∷ p) n e = let r = lowest_open_lem p n e in (r.0, omega (arith, r.1))

-- settling the lowest open line leaves one line less open
pub open_count-set : (p : List ℕ) (n m : ℕ) → open_count p ≡ suc n → open_count (set p (lowest_open p) (suc m)) ≡ n
unfolding open_count lowest_open
open_count-set [] n m e = absurd (omega arith)
open_count-set (zero ∷ p) n m e = omega arith
open_count-set (suc k ∷ p) n m e = open_count-set p n m e

-- the completions are those with the lowest open line taken, and then those with it left
pub completions_split : (p : List ℕ) (n : ℕ) → open_count p ≡ suc n → completions p ≡ completions (set p (lowest_open p) 1) ++ completions (set p (lowest_open p) 2)
unfolding completions open_count lowest_open
completions_split [] n e = absurd (omega arith)
completions_split (zero ∷ p) n e = refl
completions_split (suc m ∷ p) n e = rw (completions_split p n e, map-append)

-- a plan with no line open has itself as its only completion
pub completions_full : (p : List ℕ) → open_count p ≡ 0 → completions p ≡ p ∷ []
unfolding completions open_count
completions_full [] e = refl
completions_full (zero ∷ p) e = absurd (omega arith)
completions_full (suc m ∷ p) e = rw (completions_full p e)

-- it completes itself
pub full_completes : (p : List ℕ) → open_count p ≡ 0 → Completes p p
unfolding open_count
full_completes [] e = complete
full_completes (zero ∷ p) e = absurd (omega arith)
full_completes (suc m ∷ p) e = keeps (full_completes p e)
