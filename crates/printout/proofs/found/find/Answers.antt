-- `find` meets its contract: the job word's kind decides, and kind 5 tells that the word is there. Assumes nothing.
use mathlib.Core.Path.{sym, ◌∙◌}
use borrow.Author.Rules.{part_to_end}
use Rattle.terms.specs.Numbers.{kind_number, reason_number}
use Rattle.printout.specs.Found.{answer_text}
use Rattle.printout.proofs.Jobs.{job_there, job-kind, job-taken}
use Rattle.printout.proofs.found.find.Goals as goal

pub returns-then-not-has_kind-clause-text : goal.returns-then-not-has_kind-clause-text
unfolding kind_number reason_number answer_text
returns-then-not-has_kind-clause-text c = job-kind _ c.word_at-job.ensures (sym c.has_kind.ensures ∙ c.if-not-has_kind.true)

pub slice_bounds-find_first-count : goal.slice_bounds-find_first-count
unfolding kind_number
slice_bounds-find_first-count c = job_there _ c.word_at-job.ensures (sym c.has_kind.ensures ∙ c.if-not-has_kind.false)

pub slice_bounds-find_first-start : goal.slice_bounds-find_first-start
unfolding kind_number
slice_bounds-find_first-start c = job_there _ c.word_at-job.ensures (sym c.has_kind.ensures ∙ c.if-not-has_kind.false)

pub returns-clause-text : goal.returns-clause-text
unfolding kind_number
returns-clause-text c =
    let found = c.find_first.ensures.text in
    rw (part_to_end c.args.input.now 4) at found
    ∙ job-taken _ c.word_at-job.ensures (sym c.has_kind.ensures ∙ c.if-not-has_kind.false) c.job_kits.ensures c.field_r.ensures
