-- `upper_bound` meets its contract: it is what valuing the plan finds. Assumes nothing.
use Rattle.scoring.proofs.bound.upper_bound.Goals as goal

pub returns : goal.returns
returns c = c.value_plan.ensures.bound
