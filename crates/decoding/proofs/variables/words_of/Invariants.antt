-- `words_of` meets its contract. The loop's invariant: the words of the first p variables are in their cells, and the others 0. Assumes nothing.
use Prim.Native.Nat.{◌<◌}
use mathlib.Core.Path.{◌≡◌}
use Rattle.diagram.specs.Words.{word_at}
use Rattle.diagram.specs.Table.{sequence, variable_count}
use Rattle.decoding.specs.Decoding.{pad_to}
use Rattle.decoding.proofs.variables.words_of.Given as goal

abbrev pub invariant-loop-p : goal.invariant-loop-p
invariant-loop-p l =
    (l.v ≡ variable_count l.file) × (l.v < 64) × (l.words ≡ pad_to 64 (sequence (word_at l.file) 1 l.p))
