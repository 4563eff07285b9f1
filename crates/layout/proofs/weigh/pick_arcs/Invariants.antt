-- `pick_arcs` meets its contract. The loop's invariant: the first j arcs of the list have their cells and weights, and the list has arcs' numbers alone. Assumes nothing.
use mathlib.Core.Path.{◌≡◌}
use lib.ListN.{length}
use Rattle.layout.specs.Weighed.{picked}
use Rattle.layout.proofs.weigh.pick_arcs.Given as goal

abbrev pub invariant-loop-j : goal.invariant-loop-j
invariant-loop-j l =
    ((length l.made.sources ≡ 1040) × (length l.made.arcs ≡ 1040))
    × (l.made.starts ≡ l.listed.starts)
    × (l.made.sources ≡ picked l.cells l.listed.list l.j)
    × (l.made.arcs ≡ picked l.weights l.listed.list l.j)
