-- The list of a plan's open lines, and what marking the first of them does to a plan.
-- Assumes nothing.
use Prim.Native.Nat.{ℕ, zero, suc, ◌+◌, ◌<◌}
use native.Mathlib.Omega.{arith}
use mathlib.Core.Path.{◌≡◌, refl, ap, sym, ◌∙◌}
use mathlib.Core.Bool.{true, false≢true}
use mathlib.Core.List.{List, [], ◌∷◌}
use lib.ListN.{length, set}
use borrow.Author.Tests.{eqb-true}
use Rattle.diagram.specs.Plans.{open_taken, open_count, is_open}
use Rattle.diagram.specs.Visits.{lowest_open}
use Rattle.rule.proofs.Opening.{lowest_open_lem}
use Rattle.lines.specs.Open.{open_from, open_lines}
use Rattle.lines.proofs.Listed.{lines-length}

-- the first number is the lowest open line's
first_lowest : (i : ℕ) (p : List ℕ) (d : ℕ) (ds : List ℕ) → open_from i p ≡ d ∷ ds → i + lowest_open p ≡ d
unfolding open_from lowest_open
first_lowest i [] d ds e = absurd (omega (arith, ap length e))
first_lowest i (zero ∷ p) d ds e = let same : i ≡ d = cc in omega arith
first_lowest i (suc m ∷ p) d ds e = omega (arith, first_lowest (suc i) p d ds e)

-- with the lowest open line marked, the list loses its first number
lowest_marked : (i : ℕ) (p : List ℕ) (d : ℕ) (ds : List ℕ) → open_from i p ≡ d ∷ ds → (m : ℕ) → open_from i (set p (lowest_open p) (suc m)) ≡ ds
unfolding open_from lowest_open
lowest_marked i [] d ds e m = absurd (omega (arith, ap length e))
lowest_marked i (zero ∷ p) d ds e m = cc
lowest_marked i (suc k ∷ p) d ds e m = lowest_marked (suc i) p d ds e m

-- a plan without open lines
pub lines_none : (p : List ℕ) → open_lines p ≡ [] → open_count p ≡ 0
unfolding open_lines
lines_none p e = sym (lines-length 0 p) ∙ ap length e

module _ (p : List ℕ) (d : ℕ) (ds : List ℕ) (e : open_lines p ≡ d ∷ ds) where
  -- the first of the list is the lowest open line
  pub lines_lowest : lowest_open p ≡ d
  unfolding open_lines
  lines_lowest = omega (arith, first_lowest 0 p d ds e)

  -- the list has the open lines, and no other
  pub lines-count : open_count p ≡ suc (length ds)
  unfolding open_lines
  lines-count = sym (lines-length 0 p) ∙ ap length e

  -- the first of the list is one of the plan's lines
  pub lines-within : d < length p
  lines-within = omega (arith, lines_lowest, (lowest_open_lem p (length ds) lines-count).1)

  -- the first of the list is open
  pub lines_open : is_open p d ≡ true
  lines_open = rw lines_lowest at (lowest_open_lem p (length ds) lines-count).0

  -- with the first of them marked, the others are open
  pub lines-marked : (m : ℕ) → open_lines (set p d (suc m)) ≡ ds
  unfolding open_lines
  lines-marked m = rw (← lines_lowest) (lowest_marked 0 p d ds e m)

-- taking an open line changes nothing where all open lines are taken
pub taken-same : (p : List ℕ) (d : ℕ) → is_open p d ≡ true → open_taken (set p d 1) ≡ open_taken p
unfolding open_taken is_open
taken-same [] d o = absurd (false≢true o)
taken-same (zero ∷ p) zero o = refl
taken-same (suc m ∷ p) zero o = absurd (omega (arith, eqb-true (suc m) 0 o))
taken-same (zero ∷ p) (suc d) o = ap (λ (q : List ℕ). 1 ∷ q) (taken-same p d o)
taken-same (suc m ∷ p) (suc d) o = ap (λ (q : List ℕ). suc m ∷ q) (taken-same p d o)
