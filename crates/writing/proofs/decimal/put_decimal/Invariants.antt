-- `put_decimal` meets its contract. The loop's invariant: from the place of the first digit on the room has the digits that come after those of what is left.
-- The measure is what is left. Assumes nothing.
use Prim.Native.Nat.{◌≤◌}
use mathlib.Core.Path.{◌≡◌}
use Rattle.writing.proofs.Digits.{Tail}
use Rattle.writing.proofs.decimal.put_decimal.Given as goal

abbrev pub invariant-loop-out : goal.invariant-loop-out
invariant-loop-out l = (l.out ≡ l.initial.out) × (l.first ≤ 20) × (l.left ≤ l.n) × Tail l.n l.left l.first l.room

abbrev pub decreases-loop-out : goal.decreases-loop-out
decreases-loop-out l = l.left
