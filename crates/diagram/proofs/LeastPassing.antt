-- The number that decides whether a score passes. Assumes nothing.
use Prim.Native.Nat.{ℕ, ◌+◌, ◌*◌, ◌≤◌, ◌<◌}
use native.Mathlib.Omega.{arith}
use borrow.Author.Tests.{leb-true, le-leb}
use Rattle.diagram.specs.Table.{Table, scale}
use Rattle.diagram.specs.Plans.{passes, LeastPassing}
use Rattle.diagram.proofs.Every.{both_ways}

-- every score passes exactly when it is not less than r, where 100 times r is the percentage times B or less than 100 more
pub least-passing : (t : Table) (percent r : ℕ) → percent * scale t ≤ 100 * r → 100 * r < percent * scale t + 100 → LeastPassing t percent r
unfolding passes
least-passing t percent r enough least x =
    both_ways _ _
    (λ h. le-leb r x (omega (arith, leb-true (percent * scale t) (100 * x) h, least)))
    (λ h. le-leb (percent * scale t) (100 * x) (omega (arith, leb-true r x h, enough)))
