use native.Mathlib.Omega.{arith}
use mathlib.Core.Path.{refl, sym, ap}
use Prim.Native.Nat.{ℕ}
use lib.ListN.{set}
use Rattle.diagram.specs.Words.{word_at}
use Rattle.diagram.specs.Table.{sequence}
use Rattle.decoding.proofs.Padding.{pad_none, pad_sequence}
use Rattle.decoding.proofs.variables.words_of.Goals as goal

pub loop-p-init : goal.loop-p-init
unfolding sequence
loop-p-init c = (c.variable_count-v.ensures.count, c.variable_count-v.ensures.small, sym (pad_none 64))

pub loop-p-preserved : goal.loop-p-preserved
loop-p-preserved c =
    let inv = c.loop-p.invariant in
    (inv.0, inv.1, pad_sequence 64 (word_at c.args.file.now) 1 c.loop-p.p _ (omega (arith, inv.1)) inv.2 (ap (λ (p : ℕ). set c.loop-p.words p c.word_at.result) c.from.ensures) (rw (c.word_at.ensures, c.word.ensures, c.new.ensures) refl))
