-- `print` meets its contract: what the job's bytes come to is appended to no text. Assumes nothing.
use Rattle.printout.proofs.Jobs.{printed, appended_within, appended_all}
use Rattle.printout.proofs.job.print.Goals as goal

pub returns-clause-text : goal.returns-clause-text
returns-clause-text c = rw (printed c.args.input.now c.min-n.ensures) at (appended_all c.put_job.ensures)

pub returns-clause-count : goal.returns-clause-count
returns-clause-count c = rw (printed c.args.input.now c.min-n.ensures) at (appended_within c.put_job.ensures)
