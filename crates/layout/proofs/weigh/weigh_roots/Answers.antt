-- `weigh_roots` meets its contract: the weights of the roots in use are a part of the array. Assumes nothing.
use native.Mathlib.Omega.{arith}
use Rattle.layout.proofs.Weighing.{roots_brought}
use Rattle.layout.proofs.weigh.weigh_roots.Goals as goal

pub returns : goal.returns
returns c = roots_brought c.args.roots.now c.args.weights.now (omega arith) (omega (arith, c.requires)) c.copy_from_slice.ensures.after
