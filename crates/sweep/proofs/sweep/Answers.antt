-- `sweep` meets its contract: a refused request leaves the buffer, an accepted one is answered with the top, and the drops are copied. Assumes nothing.
use native.Mathlib.Omega.{arith}
use Rattle.std.proofs.lemmas.Result.{err_from_is_err_and}
use Rattle.steps.specs.Steps.{outcome_by}
use Rattle.reading.specs.Answer.{numbers_in}
use Rattle.reading.proofs.Accepted.{passed_choices}
use Rattle.requesting.proofs.Requests.{refused_request, accepted_request, accepted_proper}
use Rattle.sweep.proofs.Serving.{sweep_turned, sweep_done}
use Rattle.sweep.proofs.sweep.Goals as goal

pub returns-in_err-table : goal.returns-in_err-table
unfolding outcome_by
returns-in_err-table c =
    let out = err_from_is_err_and c.from_residual.result c.from_residual.ensures.1 in
    let turned = sweep_turned c.args.file.now c.args.plan.now c.args.drops.now _ _ (refused_request _ _ _ _ _ c.accept.ensures.outcome _ c.in_err-table.was) in
    rw (out.1, out.2) (record { answer = turned.0; buffer = turned.1 })

pub two_passes-swept-requires-clause-plan : goal.two_passes-swept-requires-clause-plan
two_passes-swept-requires-clause-plan c =
    let ok = accepted_proper _ _ _ _ _ c.accept.ensures.outcome _ c.in_ok-table.was in
    let table = c.accept.ensures.accepted _ c.in_ok-table.was in
    (rw table.0 ok.long, ok.legal)

pub write-requires : goal.write-requires
write-requires c =
    let ok = accepted_proper _ _ _ _ _ c.accept.ensures.outcome _ c.in_ok-table.was in
    omega (arith, ok.sized, passed_choices ok.passed)

pub returns : goal.returns
unfolding outcome_by
returns c =
    let swept = c.two_passes-swept.ensures in
    let stands = (c.accept.ensures.accepted _ c.in_ok-table.was).0 in
    let done = sweep_done c.args.file.now c.args.plan.now c.args.drops.now (numbers_in c.in_ok-table.table) (accepted_request _ _ _ _ _ c.accept.ensures.outcome _ c.in_ok-table.was) (rw stands at swept.bound) (rw stands at swept.drops) c.write.ensures in
    record { answer = done.0; buffer = done.1 }
