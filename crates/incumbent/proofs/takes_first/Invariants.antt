-- `takes_first` meets its contract. The loop's invariant: which of the two plans takes the first line where they differ is told by the lines that are left.
-- Assumes nothing.
use Rattle.std.proofs.Common.{◌≡◌}
use Rattle.diagram.specs.Ranking.{takes_first}
use Rattle.incumbent.proofs.takes_first.Given as goal

abbrev pub invariant-loop-mark : goal.invariant-loop-mark
invariant-loop-mark l = takes_first l.marks l.best ≡ takes_first l.mark-iterator.a.rest.now l.mark-iterator.b.rest.now
