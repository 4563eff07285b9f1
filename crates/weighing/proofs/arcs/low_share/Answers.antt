-- `low_share` meets its contract: a word of kind 2 is a choice, any other a chance. Assumes nothing.
use Rattle.std.proofs.Common.{arith, sym, ◌∙◌}
use Rattle.terms.specs.Numbers.{kind_number}
use Rattle.weighing.specs.Value.{low_share}
use Rattle.weighing.proofs.Arcing.{word-choice, word-chance}
use Rattle.weighing.proofs.arcs.low_share.Goals as goal

pub returns-then-has_kind : goal.returns-then-has_kind
unfolding low_share kind_number
returns-then-has_kind c = rw (word-choice _ (sym c.has_kind.ensures ∙ c.if-has_kind.true))

pub returns-else-has_kind : goal.returns-else-has_kind
unfolding low_share kind_number
returns-else-has_kind c = rw (word-chance _ (sym c.has_kind.ensures ∙ c.if-has_kind.false)) (omega (arith, c.from.ensures, c.saturating_sub.ensures, c.field_q.ensures, c.field_r.ensures))
