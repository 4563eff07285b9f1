-- `put_table` meets its contract: its five texts stand one after the other. Assumes nothing.
use Rattle.diagram.specs.Printout.{choices_word, scale_word, line}
use Rattle.text.specs.Lines.{table_text}
use Rattle.writing.proofs.Writes.{appends_then}
use Rattle.text.proofs.put_table.Goals as goal

pub returns-clause-appends : goal.returns-clause-appends
unfolding choices_word scale_word line table_text
returns-clause-appends c =
    let two = appends_then c.word.ensures.appends c.number.ensures.appends in
    let three = appends_then two c.word-2.ensures.appends in
    let four = appends_then three c.number-2.ensures.appends in
    appends_then four c.word-3.ensures.appends
