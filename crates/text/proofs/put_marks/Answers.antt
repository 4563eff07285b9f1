use native.Mathlib.Omega.{arith}
use Rattle.text.proofs.Texts.{lines_start, lines_next}
use Rattle.text.proofs.put_marks.Goals as goal

pub loop-choice-init : goal.loop-choice-init
loop-choice-init c = (omega arith, lines_start)

pub loop-choice-preserved : goal.loop-choice-preserved
loop-choice-preserved c =
    let line = c.put_mark.ensures in
    (omega (arith, line.count), lines_next c.args.plan.now c.loop-choice.choice (omega arith) c.loop-choice.invariant.1 line.appends)
