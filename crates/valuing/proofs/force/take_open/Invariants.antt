-- `take_open` meets its contract. The loop's invariant: the marks before the index have their open lines taken, and the others are as they were.
-- Assumes nothing.
use Rattle.valuing.proofs.Forcing.{TakenTo}
use Rattle.valuing.proofs.force.take_open.Given as goal

abbrev pub invariant-loop-mark : goal.invariant-loop-mark
invariant-loop-mark l = TakenTo l.marks l.mark-index l.mark-items
