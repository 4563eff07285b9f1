use native.Mathlib.Omega.{arith}
use Rattle.layers.proofs.Walking.{cross_none, cross_next}
use Rattle.layers.proofs.walk.cross.Goals as goal

pub loop-i-init : goal.loop-i-init
loop-i-init c = cross_none _ _ _

pub loop-i-preserved : goal.loop-i-preserved
loop-i-preserved c =
    cross_next _ _ _ (omega arith) c.loop-i.invariant (rw c.new-rank.ensures at c.inflow-w.ensures) c.new-rank.ensures c.put_both.ensures
