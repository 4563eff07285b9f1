use Prim.Native.Nat.{ℕ, ◌+◌, ◌<◌}
use native.Mathlib.Omega.{arith}
use mathlib.Core.Path.{◌≡◌, refl, ap, sym, ◌∙◌}
use mathlib.Core.Bool.{Bool, not}
use mathlib.Core.List.{List}
use Rattle.std.specs.Prelude.{Some}
use Rattle.diagram.specs.Words.{word_at, field_p}
use Rattle.diagram.specs.Table.{Record, record_at, record_of, table_of, variable_count, record_count}
use Rattle.diagram.specs.Checks.{record_fault}
use Rattle.diagram.proofs.Places.{place-start, place_here, place-next, place_end}
use Rattle.decoding.proofs.Shape.{heading-records, record-at-word, record-at-fault, record_test}
use Rattle.decoding.specs.Nodes.{Filled}
use Rattle.decoding.proofs.Columns.{fill_alike, fill_next, filled_positioned}
use Rattle.steps.specs.Steps.{fault_of}
use Rattle.checking_records.specs.Positioning.{record_word_by}
use Rattle.checking_records.proofs.Positioning.{word_positioned}
use Rattle.checking_records.proofs.records.record_fault.Goals as goal

-- whether record k is at fault, at the numbers that the code has read
tested : (s : List ℕ) (k : ℕ) {ps : List ℕ} {v w : ℕ} {r : Bool} → v ≡ variable_count s → Filled (variable_count s) (λ i. (record_at (table_of s).records i).position) ps k → w ≡ word_at s (1 + variable_count s + k) → r ≡ record_word_by v ps k w → record-at-fault s (1 + variable_count s + k) ≡ not r
tested s k e filled read h =
    let rs = (table_of s).records in
    record_test s k ∙ ap not (sym (rw (e, read) at h ∙ word_positioned (filled_positioned (variable_count s) rs filled) _))

-- the position that the code has read is that of record k
position_read : (s : List ℕ) (k : ℕ) {w p : ℕ} → k < record_count s → w ≡ word_at s (1 + variable_count s + k) → p ≡ field_p w → p ≡ (record_at (table_of s).records k).position
unfolding record_of
position_read s k h read e =
    e ∙ ap (λ (r : Record). r.position) (ap record_of read ∙ sym (record-at-word s k h))

pub loop-k-init : goal.loop-k-init
unfolding record_fault
loop-k-init c =
    let s = c.args.file.now in (
      place-start (record-at-fault s) (1 + variable_count s) (record_count s),
      fill_alike _ c.variable_count-v.ensures.count,
    )

pub is_record_word-requires : goal.is_record_word-requires
is_record_word-requires c = omega (arith, c.record_count-k-end.ensures.count, heading-records c.args.file.now c.requires)

pub returns-then-not-is_record_word : goal.returns-then-not-is_record_word
unfolding fault_of
returns-then-not-is_record_word c =
    let s = c.args.file.now in
    let at = c.loop-k in
    let end : c.new-end.result.0 ≡ variable_count s = c.new-end.ensures ∙ c.variable_count-v.ensures.count in
    let read : c.word_at-w.result ≡ word_at s (1 + variable_count s + at.k) = c.word_at-w.ensures ∙ ap (word_at s) (omega (arith, c.word.ensures)) in
    let found = tested s at.k end at.invariant.1 read c.is_record_word.ensures ∙ ap not c.if-not-is_record_word.true in
    rw (at.invariant.0, place_here (record-at-fault s) (1 + variable_count s) (record_count s) at.k (omega arith) found) (ap Some (omega (arith, c.word-then-not-is_record_word.ensures)))

pub store-requires : goal.store-requires
store-requires c = (omega (arith, c.record_count-k-end.ensures.count, heading-records c.args.file.now c.requires), omega (arith, c.field_p.ensures))

pub loop-k-preserved : goal.loop-k-preserved
loop-k-preserved c =
    let s = c.args.file.now in
    let at = c.loop-k in
    let end : c.new-end.result.0 ≡ variable_count s = c.new-end.ensures ∙ c.variable_count-v.ensures.count in
    let read : c.word_at-w.result ≡ word_at s (1 + variable_count s + at.k) = c.word_at-w.ensures ∙ ap (word_at s) (omega (arith, c.word.ensures)) in
    let passed = tested s at.k end at.invariant.1 read c.is_record_word.ensures ∙ ap not c.if-not-is_record_word.false in (
      at.invariant.0 ∙ place-next (record-at-fault s) (1 + variable_count s) (record_count s) at.k (omega arith) passed,
      fill_next c.field_p.result at.invariant.1 (omega (arith, heading-records s c.requires)) c.store.ensures (position_read s at.k (omega arith) read c.field_p.ensures),
    )

pub returns : goal.returns
unfolding fault_of
returns c =
    let s = c.args.file.now in
    let at = c.loop-k in
    rw (at.invariant.0, place_end (record-at-fault s) (1 + variable_count s + at.k) (record_count s) at.k (omega arith)) refl
