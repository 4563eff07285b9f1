-- `number` meets its contract: a number takes at most 20 places. Assumes nothing.
use native.Mathlib.Omega.{arith}
use Rattle.writing.proofs.Digits.{count_fits}
use Rattle.writing.proofs.text.Text.number.Goals as goal

pub returns-clause-count : goal.returns-clause-count
returns-clause-count c = omega (arith, c.put_decimal-self.ensures.count, count_fits c.args.n c.ranges.n.fits)
