-- `root_sum` meets its contract. The loop's invariant: the sum is that of the first i roots. Assumes nothing.
use Rattle.std.proofs.Common.{◌≡◌}
use Rattle.valuing.specs.Passes.{root_sum}
use Rattle.valuing.proofs.bound.root_sum.Given as goal

abbrev pub invariant-loop-i : goal.invariant-loop-i
invariant-loop-i l = l.sum ≡ root_sum l.roots l.values l.i
