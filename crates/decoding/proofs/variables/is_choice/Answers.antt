-- `is_choice` meets its contract: a variable is a choice where its word is of kind 2. Assumes nothing.
use mathlib.Core.Path.{sym}
use Rattle.terms.specs.Numbers.{kind_number}
use Rattle.decoding.proofs.Choosing.{is-choice-kind}
use Rattle.decoding.proofs.variables.is_choice.Goals as goal

pub returns : goal.returns
unfolding kind_number
returns c = rw (c.has_kind.ensures, c.word_at.ensures, c.word.ensures) (sym (is-choice-kind _))
