-- `root_weights` meets its contract. The loop's invariant: what comes to the first i roots is written, and the other cells are 0. Assumes nothing.
use Rattle.std.proofs.Common.{◌≡◌}
use Rattle.weighing.specs.Weights.{root_weights_by}
use Rattle.weighing.proofs.roots.root_weights.Given as goal

abbrev pub invariant-loop-i : goal.invariant-loop-i
invariant-loop-i l = l.weights ≡ root_weights_by l.table.nodes l.table.rewards l.table.positions l.products l.i
