-- `root_count` meets its contract. Assumes nothing.
use native.Mathlib.Omega.{arith}
use mathlib.Core.Path.{sym, ◌∙◌}
use Rattle.decoding.proofs.Rooting.{count_none, count-words}
use Rattle.decoding.proofs.roots.root_count.Goals as goal

pub returns-then-count-eq0 : goal.returns-then-count-eq0
returns-then-count-eq0 c = record { count = count_none _ (sym c.root_word_count-count.ensures.count ∙ c.if-count-eq0.true); some = (omega arith, omega arith) }

pub returns : goal.returns
returns c =
    let count = c.root_word_count-count.ensures in
    record { count = count.count ∙ count-words _ (omega (arith, count.count, c.if-count-eq0.false)); some = (omega (arith, c.if-count-eq0.false), count.small) }
