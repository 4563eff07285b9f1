-- `read` meets its contract: it answers as `read_table` does. Assumes nothing.
use Rattle.std.proofs.lemmas.Result.{err_from_is_err_and}
use Rattle.steps.specs.Steps.{outcome_by}
use Rattle.reading.proofs.read.Goals as goal

pub returns-in_err-table : goal.returns-in_err-table
unfolding outcome_by
returns-in_err-table c =
    let out = err_from_is_err_and c.from_residual.result c.from_residual.ensures.1 in
    rw (out.1, out.2) c.in_err-table.ensures.outcome

pub returns : goal.returns
unfolding outcome_by
returns c = rw c.of.ensures c.in_ok-table.ensures.outcome
