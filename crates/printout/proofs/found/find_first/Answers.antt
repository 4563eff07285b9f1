-- `find_first` meets its contract: what reading or the search refuses is refused, and else the plan that the search has written is found. Assumes nothing.
use mathlib.Core.Path.{◌≡◌, refl, ◌∙◌}
use mathlib.Core.List.{◌++◌}
use lib.ListN.{length, take, drop, replicate}
use lib.Seq.{take_at}
use Rattle.std.proofs.lemmas.Result.{err_from_is_err_and}
use Rattle.reading.specs.Answer.{numbers_in}
use Rattle.reading.proofs.Outcomes.{refused-read, table-choices}
use Rattle.printout.specs.Found.{answer_text}
use Rattle.printout.proofs.Jobs.{plan-open, scale-read, job_unread, job-refused, job-found, cost-is}
use Rattle.printout.proofs.found.find_first.Goals as goal

pub returns-in_err-table-clause-text : goal.returns-in_err-table-clause-text
unfolding answer_text
returns-in_err-table-clause-text c =
    let start = c.args in
    let out = err_from_is_err_and c.from_residual.result c.from_residual.ensures.1 in
    let unread = refused-read numbers_in start.file.now c.in_err-table.ensures.outcome _ refl in
    rw (out.1, out.2) (job_unread start.file.now start.budget start.percent _ _ unread)

pub returns-in_err-found-clause-text : goal.returns-in_err-found-clause-text
unfolding answer_text
returns-in_err-found-clause-text c =
    let start = c.args in
    let out = err_from_is_err_and c.from_residual-in_err-found.result c.from_residual-in_err-found.ensures.1 in
    let opened = plan-open start.file.now c.in_ok-table.ensures.outcome c.in_ok-table.table refl c.fully_open-open.ensures.count c.fully_open-open.ensures.marks in
    rw (out.1, out.2)
    (job-refused start.file.now start.budget start.percent _ _ c.search.ensures.answer opened.1 (opened.2 ∙ opened.0) _ c.in_err-found.was)

pub returns-clause-text : goal.returns-clause-text
unfolding answer_text
returns-clause-text c =
    let start = c.args in
    let plan = c.fully_open-open.result in
    let opened = plan-open start.file.now c.in_ok-table.ensures.outcome c.in_ok-table.table refl c.fully_open-open.ensures.count c.fully_open-open.ensures.marks in
    -- the buffer that the search is lent has a place for each mark afterwards too
    let kept : length c.search.new.out ≡ plan.count = c.search.auto.out ∙ opened.2 in
    -- what is printed of the array is that buffer
    let shown : take plan.count (c.search.new.out ++ drop plan.count (replicate 20 0)) ≡ c.search.new.out = take_at _ _ _ kept in
    let read = c.in_ok-table.ensures in
    let handed = read.accepted c.in_ok-table.table refl in
    let cost = cost-is start.file.now _ _ (rw handed.0 at handed.1.held.kits) (kept ∙ opened.0) in
    let found = job-found start.file.now start.budget start.percent _ _ c.search.ensures.answer opened.1 (opened.2 ∙ opened.0) _ c.in_ok-found.was (table-choices numbers_in _ read.outcome c.in_ok-table.table refl) (scale-read _ read.outcome c.in_ok-table.table refl) (rw shown at c.cost_of.ensures ∙ cost) in
    rw shown found
