-- `append_plan` meets its contract: its three parts stand one after the other. Assumes nothing.
use Rattle.text.specs.Lines.{full_text}
use Rattle.writing.proofs.Writes.{appends_then}
use Rattle.text.proofs.append_plan.Goals as goal

pub returns-clause-appends : goal.returns-clause-appends
unfolding full_text
returns-clause-appends c =
    appends_then (appends_then c.put_table.ensures.appends c.put_found.ensures.appends) c.put_marks.ensures.appends
