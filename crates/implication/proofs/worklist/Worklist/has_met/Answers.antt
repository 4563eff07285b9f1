-- `has_met` meets its contract: where the pair is not known at once, its bit is looked at. Assumes nothing.
use mathlib.Core.Path.{◌∙◌}
use Rattle.implication.proofs.Cells.{tested_known, tested_bit}
use Rattle.implication.proofs.worklist.Worklist.has_met.Goals as goal

pub returns-then-is_known : goal.returns-then-is_known
returns-then-is_known c = c.if-is_known.true ∙ tested_known _ _ _ c.is_known.ensures c.if-is_known.true

pub returns-else-is_known : goal.returns-else-is_known
returns-else-is_known c = tested_bit _ _ _ c.is_known.ensures c.if-is_known.false c.number.ensures c.number-else-is_known.ensures c.number-else-is_known-2.ensures
