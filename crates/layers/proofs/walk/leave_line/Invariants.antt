-- `leave_line` meets its contract. The loop's invariant: the cells are those that the nodes so far leave. Assumes nothing.
use Prim.Native.Nat.{◌-◌}
use mathlib.Core.Path.{◌≡◌}
use Rattle.layers.specs.Layers.{leave_nodes}
use Rattle.layers.proofs.walk.leave_line.Given as goal

abbrev pub invariant-loop-i : goal.invariant-loop-i
invariant-loop-i l = l.cells ≡ leave_nodes l.from (l.i - l.from) l.initial.cells
