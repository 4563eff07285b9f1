-- `root_word_count` meets its contract: it is R of word 0, a field of eleven bits. Assumes nothing.
use native.Mathlib.Omega.{arith}
use Rattle.diagram.specs.Table.{root_count}
use Rattle.decoding.proofs.heading.root_word_count.Goals as goal

pub returns : goal.returns
unfolding root_count
returns c = record { count = rw (c.field_r.ensures, c.word_at.ensures); small = omega (arith, c.field_r.ensures) }
