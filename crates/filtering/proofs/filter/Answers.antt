-- `filter` meets its contract: a refused request leaves the buffer, and so does one whose top does not pass; of any other the forced lines are written and
-- counted. Assumes nothing.
use native.Mathlib.Omega.{arith}
use mathlib.Core.Path.{sym, ◌∙◌}
use Rattle.std.proofs.lemmas.Result.{err_from_is_err_and}
use Rattle.diagram.specs.Table.{table_of}
use Rattle.diagram.specs.Plans.{LeastPassing}
use Rattle.terms.specs.Numbers.{reason_number}
use Rattle.steps.specs.Steps.{outcome_by}
use Rattle.reading.proofs.Accepted.{passed_scale}
use Rattle.requesting.proofs.Requests.{refused_request}
use Rattle.filtering.proofs.Serving.{shown, request_swept, filter_turned, filter_31, filter_done}
use Rattle.filtering.proofs.filter.Goals as goal

pub returns-in_err-table : goal.returns-in_err-table
unfolding outcome_by
returns-in_err-table c =
    let out = err_from_is_err_and c.from_residual.result c.from_residual.ensures.1 in
    let turned = filter_turned c.args.file.now c.args.plan.now c.args.out.now c.args.percent _ _ (refused_request _ _ _ _ _ c.accept.ensures.outcome _ c.in_err-table.was) in
    rw (out.1, out.2) (record { answer = turned.0; buffer = turned.1 })

pub two_passes-swept-requires-clause-plan : goal.two_passes-swept-requires-clause-plan
two_passes-swept-requires-clause-plan c =
    let h = shown c.accept.ensures _ c.in_ok-table.was in
    let ok = h.proper in
    let table = h.table in
    (rw table.0 ok.long, ok.legal)

pub least_passing-least-requires : goal.least_passing-least-requires
least_passing-least-requires c =
    let h = shown c.accept.ensures _ c.in_ok-table.was in
    let ok = h.proper in
    (ok.percents, omega (arith, h.scale, passed_scale ok.passed))

pub returns-then-not-passes : goal.returns-then-not-passes
unfolding outcome_by reason_number
returns-then-not-passes c =
    let h = shown c.accept.ensures _ c.in_ok-table.was in
    let least : LeastPassing (table_of c.args.file.now) c.args.percent c.least_passing-least.result = c.least_passing-least.ensures _ h.scale in
    let turned = filter_31 c.args.file.now c.args.plan.now c.args.out.now c.args.percent _ h.answer h.none (rw h.table.0 at c.two_passes-swept.ensures.bound) (least _ ∙ sym c.passes.ensures ∙ c.if-not-passes.true) in
    record { answer = turned.0; buffer = turned.1 }

pub force-requires : goal.force-requires
force-requires c =
    let h = shown c.accept.ensures _ c.in_ok-table.was in
    let passed = c.two_passes-swept.ensures in
    let swept = request_swept h.proper (c.least_passing-least.ensures _ h.scale) (rw h.table.0 at passed.bound) (rw h.table.0 at passed.drops) in
    let ok = h.proper in
    record { swept = (_, _, swept); sizes = ok.sized ∙ sym ok.long }

pub returns : goal.returns
unfolding outcome_by
returns c =
    let h = shown c.accept.ensures _ c.in_ok-table.was in
    let passed = c.two_passes-swept.ensures in
    let least : LeastPassing (table_of c.args.file.now) c.args.percent c.least_passing-least.result = c.least_passing-least.ensures _ h.scale in
    let swept = request_swept h.proper least (rw h.table.0 at passed.bound) (rw h.table.0 at passed.drops) in
    let forced = c.force.ensures _ _ swept in
    let done = filter_done c.args.file.now c.args.plan.now c.args.out.now c.args.percent _ h.answer h.none (rw h.table.0 at passed.bound) (least _ ∙ sym c.passes.ensures ∙ c.if-not-passes.false) forced.0 forced.1 in
    record { answer = done.0; buffer = done.1 }
