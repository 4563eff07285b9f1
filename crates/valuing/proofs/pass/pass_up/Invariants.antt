-- `pass_up` meets its contract. The loop's invariant: the values of the ends and of the first k records' nodes are written over the array.
-- Assumes nothing.
use Rattle.std.proofs.Common.{◌≡◌}
use Rattle.arrays.specs.Arrays.{over}
use Rattle.valuing.specs.Passes.{arcs_of, pass_up}
use Rattle.valuing.proofs.pass.pass_up.Given as goal

abbrev pub invariant-loop-k : goal.invariant-loop-k
invariant-loop-k l = l.values ≡ over (pass_up (arcs_of l.high l.low l.weights) l.k) l.initial.values
