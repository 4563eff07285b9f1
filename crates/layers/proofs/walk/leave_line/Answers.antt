use native.Mathlib.Omega.{arith}
use mathlib.Core.Path.{refl}
use Rattle.layers.proofs.Walking.{leave_none, leave_next}
use Rattle.layers.proofs.walk.leave_line.Goals as goal

pub loop-i-init : goal.loop-i-init
loop-i-init c = leave_none _ _

pub loop-i-preserved : goal.loop-i-preserved
loop-i-preserved c =
    leave_next _ _ (omega arith) c.loop-i.invariant refl c.new.ensures c.put_both.ensures
