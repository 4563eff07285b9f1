-- `put_mark` meets its contract: the number, the word of the mark and the newline stand one after the other. Assumes nothing.
use mathlib.Core.Path.{◌≡◌}
use Rattle.diagram.specs.Printout.{take_word, left_word, line}
use Rattle.text.specs.Lines.{mark_text}
use Rattle.writing.proofs.Writes.{appends_then}
use Rattle.text.proofs.Texts.{mark_word, take_is, left_is}
use Rattle.text.proofs.put_mark.Goals as goal
use Rattle.text.proofs.put_mark.Goals.{then-mark-eq-TAKEN, else-mark-eq-TAKEN}

pub returns-clause-appends : goal.returns-clause-appends
unfolding take_word left_word line mark_text
returns-clause-appends c =
    let word : c.if-mark-eq-TAKEN.word.now ≡ mark_word c.args.mark = elim c.if-mark-eq-TAKEN.branch [
      | then-mark-eq-TAKEN w ↦ rw w.word-is (take_is w.if-mark-eq-TAKEN.true)
      | else-mark-eq-TAKEN w ↦ rw w.word-is (left_is w.if-mark-eq-TAKEN.false)
    ]
    in
    appends_then (appends_then c.number.ensures.appends (rw word at c.word.ensures.appends)) c.word-2.ensures.appends
