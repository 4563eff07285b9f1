-- `score` meets its contract: what reading refuses is refused, then the checks of the plan decide, and a request without fault is answered with the
-- bound, which is the score where no line is open. Assumes nothing.
use mathlib.Core.Path.{refl, ◌∙◌}
use Rattle.std.proofs.lemmas.Result.{err_from_is_err_and}
use Rattle.steps.specs.Steps.{outcome_by}
use Rattle.reading.specs.Answer.{numbers_in}
use Rattle.reading.proofs.Outcomes.{refused-read, table-read, table-choices}
use Rattle.requesting.proofs.Checking.{full_plan_finds}
use Rattle.requesting.proofs.FullPlans.{full_legal}
use Rattle.requesting.proofs.Requests.{score-refused, score_turned, score-answered, plan-long, plan_full}
use Rattle.scoring.proofs.score.Goals as goal

pub returns-in_err-table : goal.returns-in_err-table
unfolding outcome_by
returns-in_err-table c =
    let out = err_from_is_err_and c.from_residual.result c.from_residual.ensures.1 in
    let read = c.in_err-table.ensures in
    rw (out.1, out.2) (score-refused _ _ _ _ (refused-read numbers_in _ read.outcome _ refl))

pub returns-in-Err : goal.returns-in-Err
unfolding outcome_by
returns-in-Err c =
    let read = c.in_ok-table.ensures in
    let found = c.check_full_plan.ensures ∙ full_plan_finds _ _ (table-choices numbers_in _ read.outcome c.in_ok-table.table refl) in
    score_turned _ _ found (table-read numbers_in _ read.outcome c.in_ok-table.table refl) _ c.in-Err.is

pub upper_bound-requires-clause-plan : goal.upper_bound-requires-clause-plan
upper_bound-requires-clause-plan c =
    let read = c.in_ok-table.ensures in
    let table = read.accepted c.in_ok-table.table refl in
    let found = c.check_full_plan.ensures ∙ full_plan_finds _ _ (table-choices numbers_in _ read.outcome c.in_ok-table.table refl) in
    let passes = c.in-Ok.is in
    (rw table.0 (plan-long _ _ found _ passes), full_legal _ _ (plan_full _ _ found _ passes))

pub returns-in-Ok : goal.returns-in-Ok
unfolding outcome_by
returns-in-Ok c =
    let read = c.in_ok-table.ensures in
    let table = read.accepted c.in_ok-table.table refl in
    let found = c.check_full_plan.ensures ∙ full_plan_finds _ _ (table-choices numbers_in _ read.outcome c.in_ok-table.table refl) in
    score-answered _ _ found _ c.in-Ok.is (table-read numbers_in _ read.outcome c.in_ok-table.table refl) _ (rw table.0 at c.upper_bound.ensures)
