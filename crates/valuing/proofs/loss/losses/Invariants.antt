-- `losses` meets its contract. The loop's invariant: the losses of the first k records' nodes are written. Assumes nothing.
use Rattle.std.proofs.Common.{◌≡◌}
use Rattle.valuing.specs.Passes.{losses_of}
use Rattle.valuing.proofs.loss.losses.Given as goal

abbrev pub invariant-loop-k : goal.invariant-loop-k
invariant-loop-k l = l.losses ≡ losses_of l.low l.arcs l.values l.k
