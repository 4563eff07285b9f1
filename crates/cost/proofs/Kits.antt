-- What a plan costs when a line of it is taken or left and when the kits stand in a longer list.
-- Assumes nothing.
use Prim.Native.Nat.{ℕ, zero, suc, ◌+◌}
use native.Mathlib.Omega.{arith}
use mathlib.Core.Path.{◌≡◌, refl, sym, ◌∙◌}
use mathlib.Core.Bool.{true, false≢true}
use mathlib.Core.List.{List, [], ◌∷◌, ◌++◌}
use lib.ListN.{length, get_or, set, take}
use lib.Seq.{take_at}
use borrow.Author.Tests.{eqb-true}
use Rattle.diagram.specs.Plans.{cost_of, is_open}

-- ---------------------------------------------------------------------------
-- What a plan costs

-- the kits of the plan's own lines count
pub cost-first : (kits p : List ℕ) → cost_of (take (length p) kits) p ≡ cost_of kits p
unfolding cost_of
cost-first kits [] = refl
cost-first [] (m ∷ p) = refl
cost-first (k ∷ kits) (m ∷ p) = rw (cost-first kits p) refl

pub cost-padded : (kits rest p : List ℕ) → length p ≡ length kits → cost_of (kits ++ rest) p ≡ cost_of kits p
cost-padded kits rest p e =
    sym (cost-first (kits ++ rest) p) ∙ rw (take_at kits rest (length p) (sym e)) refl

-- an open line that is taken costs its kits
pub cost-taken : (kits p : List ℕ) (d : ℕ) → is_open p d ≡ true → cost_of kits (set p d 1) ≡ cost_of kits p + get_or kits d 0
unfolding cost_of is_open
cost-taken kits [] d h = absurd (false≢true h)
cost-taken [] (m ∷ p) zero h = refl
cost-taken [] (m ∷ p) (suc d) h = refl
cost-taken (k ∷ kits) (m ∷ p) zero h = rw (eqb-true m 0 h) (omega arith)
cost-taken (k ∷ kits) (m ∷ p) (suc d) h = omega (arith, cost-taken kits p d h)

-- one that is left costs nothing
pub cost-left : (kits p : List ℕ) (d : ℕ) → is_open p d ≡ true → cost_of kits (set p d 2) ≡ cost_of kits p
unfolding cost_of is_open
cost-left kits [] d h = refl
cost-left [] (m ∷ p) zero h = refl
cost-left [] (m ∷ p) (suc d) h = refl
cost-left (k ∷ kits) (m ∷ p) zero h = rw (eqb-true m 0 h) refl
cost-left (k ∷ kits) (m ∷ p) (suc d) h = omega (arith, cost-left kits p d h)
