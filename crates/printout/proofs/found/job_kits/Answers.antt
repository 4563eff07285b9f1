-- `job_kits` meets its contract. Assumes nothing.
use native.Mathlib.Omega.{arith}
use Rattle.diagram.specs.Printout.{job_kits}
use Rattle.printout.proofs.found.job_kits.Goals as goal

pub returns : goal.returns
unfolding job_kits
returns c = omega (arith, c.field_q.ensures, c.field_p.ensures)
