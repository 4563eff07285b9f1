-- `force` meets its contract. The loop's invariant: of the first i lines, the forced ones are counted, and the marks of the forced plan are written over
-- the buffer (`Forcing`). Assumes nothing.
use Prim.Native.Nat.{ℕ, ◌≤◌}
use mathlib.Core.Path.{◌≡◌}
use lib.ListN.{length}
use Rattle.diagram.specs.Table.{Table}
use Rattle.filtering.specs.Forced.{Swept}
use Rattle.filtering.proofs.ForcedLines.{Forcing}
use Rattle.filtering.proofs.forced.force.Given as goal

abbrev pub invariant-loop-i : goal.invariant-loop-i
invariant-loop-i l =
    (l.count ≤ l.i) × (length l.out ≡ length l.plan) × ((t : Table) (percent : ℕ) → Swept t l.plan percent l.least l.bound l.drops → Forcing t percent l.plan l.initial.out l.i l.count l.out)
