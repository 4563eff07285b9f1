-- `number_cells` meets its contract. The loop's invariant: the cells of the first i nodes are numbered. Assumes nothing.
use mathlib.Core.Path.{◌≡◌}
use Rattle.layout.specs.Weighed.{arc_cells}
use Rattle.layout.proofs.weigh.number_cells.Given as goal

abbrev pub invariant-loop-i : goal.invariant-loop-i
invariant-loop-i l = l.cells ≡ arc_cells l.order l.i
