-- `put_word` meets its contract: the bytes from the index on are the word's, and what stands before and after is kept. Assumes nothing.
use mathlib.Core.Path.{refl}
use Rattle.std.proofs.Common.{rules}
use Rattle.std.proofs.lemmas.Slice.{overwrites}
use Rattle.writing.proofs.words.put_word.Goals as goal

pub returns : goal.returns
returns c =
    let x = c.copy_from_slice.ensures.after in
    rw x (record { text = search (rules, overwrites); count = refl; size = search (rules, overwrites); rest = search (rules, overwrites) })
