-- `drain` meets its contract. The loop's invariant: the stack is one of the pair that was asked, whichever that is. A turn takes
-- one pair off, and each that it puts on has no more to be met. Assumes nothing.
use Rattle.implication.specs.Nodes.{to_do, Kept}
use Rattle.implication.proofs.monotone.drain.Given as goal

abbrev pub invariant-loop-top : goal.invariant-loop-top
invariant-loop-top l = Kept l.t l.initial.work l.work

abbrev pub decreases-loop-top : goal.decreases-loop-top
decreases-loop-top l = to_do l.work
