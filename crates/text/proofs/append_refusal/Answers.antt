-- `append_refusal` meets its contract: its five texts stand one after the other. Assumes nothing.
use mathlib.Core.Path.{◌≡◌, ◌∙◌}
use Rattle.diagram.specs.Printout.{refused_word, line, refusal_text}
use Rattle.terms.specs.Numbers.{reason_number}
use Rattle.writing.proofs.Writes.{appends_then}
use Rattle.text.proofs.append_refusal.Goals as goal

pub returns : goal.returns
unfolding refused_word line refusal_text
returns c =
    let number : c.from-2.result ≡ reason_number c.args.refusal.reason = c.from-2.ensures ∙ c.from.ensures in
    let two = appends_then c.word.ensures.appends (rw number at c.number.ensures.appends) in
    let three = appends_then two c.word-2.ensures.appends in
    let four = appends_then three c.number-2.ensures.appends in
    appends_then four c.word-3.ensures.appends
