-- `in_force` meets its contract. The loop's invariant: the weights of the first k records' arcs are written. Assumes nothing.
use Rattle.std.proofs.Common.{◌≡◌}
use Rattle.valuing.specs.Passes.{arcs_in_force}
use Rattle.valuing.proofs.force.in_force.Given as goal

abbrev pub invariant-loop-k : goal.invariant-loop-k
invariant-loop-k l = l.weights ≡ arcs_in_force l.positions l.marks l.arcs l.k l.initial.weights
