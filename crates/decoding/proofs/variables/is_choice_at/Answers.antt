-- `is_choice_at` meets its contract. Assumes nothing.
use mathlib.Core.Path.{refl}
use Rattle.terms.specs.Numbers.{kind_number}
use Rattle.decoding.proofs.Choosing.{is-choice-kind}
use Rattle.decoding.proofs.variables.is_choice_at.Goals as goal

pub returns : goal.returns
unfolding kind_number
returns c = rw (is-choice-kind, c.has_kind.ensures, c.number.ensures) refl
