-- `marks_by_position` meets its contract. The loop's invariant: the marks of the first p positions are written, the others are 3, and the choices
-- among them are counted (`Marking`). Assumes nothing.
use Rattle.valuing.proofs.Forcing.{Marking}
use Rattle.valuing.proofs.force.marks_by_position.Given as goal

abbrev pub invariant-loop-p : goal.invariant-loop-p
invariant-loop-p l = Marking l.words l.v l.plan l.p l.choice l.marks
