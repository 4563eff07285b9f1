-- `scale_of` meets its contract: a word of kind 2 is a choice, any other a chance. Assumes nothing.
use Rattle.std.proofs.Common.{arith, sym, ◌∙◌}
use Rattle.terms.specs.Numbers.{kind_number}
use Rattle.diagram.specs.Table.{scale_of}
use Rattle.weighing.proofs.Arcing.{word-choice, word-chance}
use Rattle.weighing.proofs.arcs.scale_of.Goals as goal

pub returns-then-has_kind : goal.returns-then-has_kind
unfolding scale_of kind_number
returns-then-has_kind c = rw (word-choice _ (sym c.has_kind.ensures ∙ c.if-has_kind.true))

pub returns-else-has_kind : goal.returns-else-has_kind
unfolding scale_of kind_number
returns-else-has_kind c = rw (word-chance _ (sym c.has_kind.ensures ∙ c.if-has_kind.false)) (omega (arith, c.from.ensures, c.field_r.ensures))
