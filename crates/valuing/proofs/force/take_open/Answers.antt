use Rattle.std.proofs.Common.{arith}
use Rattle.valuing.proofs.Forcing.{taken_line, taken_other, taken_end}
use Rattle.valuing.proofs.force.take_open.Goals as goal
use Rattle.valuing.proofs.force.take_open.Goals.{then-mark-eq-OPEN, else-mark-eq-OPEN}

pub loop-mark-preserved : goal.loop-mark-preserved
loop-mark-preserved c =
    elim c.if-mark-eq-OPEN.branch [
      | then-mark-eq-OPEN w ↦ rw w.mark-items-is (taken_line c.loop-mark.invariant (omega arith) w.if-mark-eq-OPEN.true)
      | else-mark-eq-OPEN w ↦ rw w.mark-items-is (taken_other c.loop-mark.invariant (omega arith) w.if-mark-eq-OPEN.false)
    ]

pub returns : goal.returns
returns c = taken_end c.loop-mark.invariant (omega arith) (omega arith)
