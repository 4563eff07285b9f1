-- `put_found` meets its contract: its seven texts stand one after the other. Assumes nothing.
use Rattle.diagram.specs.Printout.{kits_word, score_word, visits_word, line}
use Rattle.text.specs.Lines.{found_text}
use Rattle.writing.proofs.Writes.{appends_then}
use Rattle.text.proofs.put_found.Goals as goal

pub returns-clause-appends : goal.returns-clause-appends
unfolding kits_word score_word visits_word line found_text
returns-clause-appends c =
    let two = appends_then c.word.ensures.appends c.number.ensures.appends in
    let three = appends_then two c.word-2.ensures.appends in
    let four = appends_then three c.number-2.ensures.appends in
    let five = appends_then four c.word-3.ensures.appends in
    let six = appends_then five c.number-3.ensures.appends in
    appends_then six c.word-4.ensures.appends
