-- `accept` meets its contract: what reading refuses is refused, then what comes with the file decides. Assumes nothing.
use mathlib.Core.Path.{refl, ◌∙◌}
use Rattle.std.proofs.lemmas.Result.{err_from_is_err_and}
use Rattle.reading.specs.Answer.{numbers_in}
use Rattle.reading.proofs.Outcomes.{refused-read, table-read, table-choices, reads-refused}
use Rattle.requesting.proofs.Checking.{request_finds}
use Rattle.requesting.proofs.Requests.{request_refused, request_turned, reads-found}
use Rattle.requesting.proofs.accept.Goals as goal

pub returns-in_err-table : goal.returns-in_err-table
returns-in_err-table c =
    let out = err_from_is_err_and c.from_residual.result c.from_residual.ensures.1 in
    let read = c.in_err-table.ensures in
    rw (out.1, out.2) (reads-refused _ _ (request_refused _ _ _ _ _ _ _ (refused-read numbers_in _ read.outcome _ refl)))

pub returns-in_err-check_request : goal.returns-in_err-check_request
returns-in_err-check_request c =
    let out = err_from_is_err_and c.from_residual-in_err-check_request.result c.from_residual-in_err-check_request.ensures.1 in
    let read = c.in_ok-table.ensures in
    let found = c.check_request.ensures ∙ request_finds _ _ (table-choices numbers_in _ read.outcome _ refl) _ _ _ in
    rw (out.1, out.2) (reads-refused _ _ (request_turned _ _ _ _ _ (table-read numbers_in _ read.outcome _ refl) found _ c.in_err-check_request.was))

pub returns : goal.returns
returns c =
    let read = c.in_ok-table.ensures in
    let found = c.check_request.ensures ∙ request_finds _ _ (table-choices numbers_in _ read.outcome _ refl) _ _ _ in
    reads-found _ _ _ _ _ _ read found _ c.in_ok-check_request.was
