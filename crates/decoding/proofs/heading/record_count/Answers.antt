-- `record_count` meets its contract: it is Q of word 0, a field of eleven bits. Assumes nothing.
use native.Mathlib.Omega.{arith}
use Rattle.diagram.specs.Table.{record_count}
use Rattle.decoding.proofs.heading.record_count.Goals as goal

pub returns : goal.returns
unfolding record_count
returns c = record { count = rw (c.field_q.ensures, c.word_at.ensures); small = omega (arith, c.field_q.ensures) }
