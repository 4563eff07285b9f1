-- `put_job` meets its contract: what is found is appended. Assumes nothing.
use Rattle.printout.specs.Found.{answer_text}
use Rattle.printout.proofs.job.put_job.Goals as goal

pub returns-in-Ok : goal.returns-in-Ok
unfolding answer_text
returns-in-Ok c = rw (← c.in-Ok.ensures.text, ← c.requires) c.append_plan.ensures.appends

pub returns-in-Err : goal.returns-in-Err
unfolding answer_text
returns-in-Err c = rw (← c.in-Err.ensures.text, ← c.requires) c.append_refusal.ensures
