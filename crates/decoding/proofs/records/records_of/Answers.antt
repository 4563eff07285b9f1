-- `records_of` meets its contract: each record is copied to its cells. Assumes nothing.
use Rattle.std.proofs.Common.{ℕ, List, ◌+◌, ◌≤◌, ◌<◌, ◌≡◌, arith, refl, ap, sym, ◌∙◌}
use Rattle.diagram.specs.Words.{word_at, field_p, field_q, field_r}
use Rattle.diagram.specs.Table.{Record, record_at, record_of, table_of, variable_count, record_count}
use Rattle.decoding.specs.Nodes.{column, Shaped}
use Rattle.decoding.proofs.Shape.{heading-records, record-at-word, record_past, shaped-formed}
use Rattle.decoding.proofs.Columns.{fill_from, fill_on, fill_end}
use Rattle.decoding.proofs.records.records_of.Goals as goal

-- what the word of record k says
record Read (s : List ℕ) (k w : ℕ) : Type 0 where
  less : k < 254
  position : field_p w ≡ (record_at (table_of s).records k).position
  hi : field_q w ≡ (record_at (table_of s).records k).hi
  lo : field_r w ≡ (record_at (table_of s).records k).lo
  fits : (field_p w < 256) × (field_q w < 256) × (field_r w < 256)

-- at the numbers that the code has read
read_at : (s : List ℕ) → Shaped s → (k : ℕ) {w i v : ℕ} → k < record_count s → v ≡ variable_count s → w ≡ word_at s i → i ≡ 1 + v + k → Read s k w
unfolding record_of
read_at s shaped k {w} h count read place =
    let formed = shaped-formed s shaped in
    let few = heading-records s shaped.heading in
    let same : record_of w ≡ record_at (table_of s).records k = rw (read, place, count) (sym (record-at-word s k h)) in
    record {
      less = omega (arith, few);
      position = ap (λ (r : Record). r.position) same;
      hi = ap (λ (r : Record). r.hi) same;
      lo = ap (λ (r : Record). r.lo) same;
      fits = (omega arith, omega (arith, few, ap (λ (r : Record). r.hi) same, formed.hi_less k), omega (arith, few, ap (λ (r : Record). r.lo) same, formed.lo_less k));
    }

-- past the last record every part is 0
past_at : (s : List ℕ) {n : ℕ} → n ≡ record_count s → (k : ℕ) → n ≤ k → record_at (table_of s).records k ≡ record { position = 0; hi = 0; lo = 0 }
past_at s e k h = record_past s k (omega (arith, e))

pub loop-k-init : goal.loop-k-init
loop-k-init c =
    let v = c.variable_count-v.result in
    let e = c.variable_count-v.ensures.count in
    (fill_from v v refl e e, fill_from 0 0 refl refl refl, fill_from 0 0 refl refl refl)

pub store-requires : goal.store-requires
store-requires c =
    let read = read_at c.args.file.now c.requires c.loop-k.k (omega (arith, c.record_count-k-end.ensures.count)) c.variable_count-v.ensures.count c.word_at-w.ensures (omega (arith, c.from.ensures)) in
    (read.less, omega (arith, c.field_p.ensures, read.fits))

pub store-requires-in-loop-k : goal.store-requires-in-loop-k
store-requires-in-loop-k c =
    let read = read_at c.args.file.now c.requires c.loop-k.k (omega (arith, c.record_count-k-end.ensures.count)) c.variable_count-v.ensures.count c.word_at-w.ensures (omega (arith, c.from.ensures)) in
    (read.less, omega (arith, c.field_q.ensures, read.fits))

pub store-requires-in-loop-k-2 : goal.store-requires-in-loop-k-2
store-requires-in-loop-k-2 c =
    let read = read_at c.args.file.now c.requires c.loop-k.k (omega (arith, c.record_count-k-end.ensures.count)) c.variable_count-v.ensures.count c.word_at-w.ensures (omega (arith, c.from.ensures)) in
    (read.less, omega (arith, c.field_r.ensures, read.fits))

pub loop-k-preserved : goal.loop-k-preserved
loop-k-preserved c =
    let read = read_at c.args.file.now c.requires c.loop-k.k (omega (arith, c.record_count-k-end.ensures.count)) c.variable_count-v.ensures.count c.word_at-w.ensures (omega (arith, c.from.ensures)) in
    let inv = c.loop-k.invariant in (
      fill_on c.field_p.result inv.0 read.less c.store.ensures (c.field_p.ensures ∙ read.position),
      fill_on c.field_q.result inv.1 read.less c.store-in-loop-k.ensures (c.field_q.ensures ∙ read.hi),
      fill_on c.field_r.result inv.2 read.less c.store-in-loop-k-2.ensures (c.field_r.ensures ∙ read.lo),
    )

pub returns : goal.returns
unfolding column
returns c =
    let inv = c.loop-k.invariant in
    let count = c.record_count-k-end.ensures.count in
    let few = (heading-records _ c.requires.heading).1 in
    let end : c.loop-k.k ≡ c.record_count-k-end.result = omega arith in
    let past = past_at c.args.file.now count in
    record {
      positions = fill_end (rw end at inv.0) (omega (arith, few)) (λ k h. ap (λ (r : Record). r.position) (past k h));
      high = fill_end (rw end at inv.1) (omega (arith, few)) (λ k h. ap (λ (r : Record). r.hi) (past k h));
      low = fill_end (rw end at inv.2) (omega (arith, few)) (λ k h. ap (λ (r : Record). r.lo) (past k h));
    }
