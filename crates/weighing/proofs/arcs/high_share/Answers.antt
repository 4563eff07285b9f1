-- `high_share` meets its contract: a word of kind 2 is a choice, any other a chance. Assumes nothing.
use Rattle.std.proofs.Common.{sym, ◌∙◌}
use Rattle.terms.specs.Numbers.{kind_number}
use Rattle.weighing.specs.Value.{high_share}
use Rattle.weighing.proofs.Arcing.{word-choice, word-chance}
use Rattle.weighing.proofs.arcs.high_share.Goals as goal

pub returns-then-has_kind : goal.returns-then-has_kind
unfolding high_share kind_number
returns-then-has_kind c = rw (word-choice _ (sym c.has_kind.ensures ∙ c.if-has_kind.true))

pub returns-else-has_kind : goal.returns-else-has_kind
unfolding high_share kind_number
returns-else-has_kind c = rw (word-chance _ (sym c.has_kind.ensures ∙ c.if-has_kind.false)) (c.from.ensures ∙ c.field_q.ensures)
