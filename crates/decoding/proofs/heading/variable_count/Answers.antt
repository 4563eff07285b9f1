-- `variable_count` meets its contract: it is P of word 0, a field of six bits. Assumes nothing.
use native.Mathlib.Omega.{arith}
use Rattle.diagram.specs.Table.{variable_count}
use Rattle.decoding.proofs.heading.variable_count.Goals as goal

pub returns : goal.returns
unfolding variable_count
returns c = record { count = rw (c.field_p.ensures, c.word_at.ensures); small = omega (arith, c.field_p.ensures) }
