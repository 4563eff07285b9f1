-- `choices` meets its contract. The loop's invariant: the count is that of the first p variables, at most 20, and no place before is at fault.
-- Assumes nothing.
use Rattle.diagram.specs.Table.{choice_count}
use Rattle.checking.proofs.Counting.{Prefix}
use Rattle.checking.proofs.variables.choices.Given as goal

abbrev pub invariant-loop-p : goal.invariant-loop-p
invariant-loop-p l = Prefix choice_count 20 l.file l.p l.count
