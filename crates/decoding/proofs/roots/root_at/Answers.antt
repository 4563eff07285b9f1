-- `root_at` meets its contract. Assumes nothing.
use Prim.Native.Nat.{◌<◌}
use native.Mathlib.Omega.{arith}
use mathlib.Core.Path.{◌≡◌, refl, ap, sym, ◌∙◌}
use Rattle.diagram.specs.Table.{Root, root_of, root_count, table_of}
use Rattle.decoding.specs.Decoding.{root_at}
use Rattle.decoding.proofs.Shape.{heading-records, heading-roots}
use Rattle.decoding.proofs.Rooting.{count-words, root_none, root-word, root_is}
use Rattle.decoding.proofs.roots.root_at.Goals as goal

pub overflow_sub-n : goal.overflow_sub-n
overflow_sub-n c = omega (arith, c.record_count-n.ensures.count, heading-records _ c.requires.0)

pub of_record-requires : goal.of_record-requires
of_record-requires c = omega (arith, c.record_count-n.ensures.count, heading-records _ c.requires.0)

pub returns-then-root_word_count-eq0 : goal.returns-then-root_word_count-eq0
returns-then-root_word_count-eq0 c =
    let n = c.record_count-n.ensures.count in
    let none = sym c.root_word_count.ensures.count ∙ c.if-root_word_count-eq0.true in
    let e = root_none _ none c.args.i c.requires.2 in
    record { node = rw e (omega (arith, c.of_record.ensures, n, heading-records _ c.requires.0)); reward = rw e refl }

pub overflow_add-from-3 : goal.overflow_add-from-3
overflow_add-from-3 c = omega (arith, c.root_word_count.ensures, c.record_count-n.ensures, c.requires.2, count-words c.args.file.now (omega (arith, c.root_word_count.ensures.count, c.if-root_word_count-eq0.false)), heading-roots _ c.requires.0)

pub overflow_cast-field_r : goal.overflow_cast-field_r
unfolding root_of
overflow_cast-field_r c =
    let root-read : root_of c.word_at-w.result ≡ root_at (table_of c.args.file.now).roots c.args.i = let some : 0 < root_count c.args.file.now = omega (arith, c.root_word_count.ensures.count, c.if-root_word_count-eq0.false) in
    ap root_of (rw (c.from.ensures, c.variable_count.ensures.count, c.record_count-n.ensures.count) at c.word_at-w.ensures) ∙ sym (root-word _ some c.args.i c.requires.2) in
    omega (arith, c.field_r.ensures, ap (λ (r : Root). r.node) root-read, (root_is _ c.requires.0 c.requires.1 _ c.requires.2).within.1, heading-records _ c.requires.0)

pub returns : goal.returns
unfolding root_of
returns c =
    let root-read : root_of c.word_at-w.result ≡ root_at (table_of c.args.file.now).roots c.args.i = let some : 0 < root_count c.args.file.now = omega (arith, c.root_word_count.ensures.count, c.if-root_word_count-eq0.false) in
    ap root_of (rw (c.from.ensures, c.variable_count.ensures.count, c.record_count-n.ensures.count) at c.word_at-w.ensures) ∙ sym (root-word _ some c.args.i c.requires.2) in
    let read = root-read in
    record { node = c.new.ensures ∙ c.field_r.ensures ∙ ap (λ (r : Root). r.node) read; reward = c.from-2.ensures ∙ c.field_q.ensures ∙ ap (λ (r : Root). r.reward) read }
