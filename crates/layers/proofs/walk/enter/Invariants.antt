-- `enter` meets its contract. The loop's invariant: the cells are those that the nodes so far leave, and the drop is what leaving these nodes loses. The drop
-- fits because the whole drop fits. Assumes nothing.
use Prim.Native.Nat.{◌-◌}
use mathlib.Core.Path.{◌≡◌}
use Rattle.layers.specs.Layers.{own_nodes, drop_sum}
use Rattle.layers.proofs.walk.enter.Given as goal

abbrev pub invariant-loop-i : goal.invariant-loop-i
invariant-loop-i l =
    (l.cells ≡ own_nodes l.arcs l.from (l.i - l.from) l.initial.cells)
    × (l.drop ≡ drop_sum l.arcs l.losses l.from (l.i - l.from) l.initial.cells)
