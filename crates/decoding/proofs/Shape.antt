-- What the checks 12 and 17 say of a file's heading and records.
-- Assumes nothing.
use Prim.Native.Nat.{ℕ, ◌+◌, ◌-◌, ◌≤◌, ◌<◌}
use native.Mathlib.Decide.{dec_lt}
use native.Mathlib.Omega.{arith}
use mathlib.Core.Path.{◌≡◌, refl, sym, ◌∙◌}
use mathlib.Core.Bool.{Bool, true, false, not, ◌&&◌}
use mathlib.Core.Logic.{by_cases}
use mathlib.Core.Option.{none}
use mathlib.Core.List.{List}
use lib.ListN.{length}
use lib.Dec.{eqb, ltb, leb}
use borrow.Author.Tests.{ltb-true, leb-true, not-false}
use Rattle.diagram.specs.Words.{word_at, kind, field_p, field_q, field_r}
use Rattle.diagram.specs.Table.{Record, record_at, record_of, table_of, variable_count, record_count, root_count}
use Rattle.diagram.specs.Checks.{place_zero, heading_fault, record_fault, is_heading, is_child, is_record_word, position_of}
use Rattle.diagram.specs.Validity.{Formed}
use Rattle.diagram.proofs.Places.{sequence-length, sequence-at, sequence_past, none-at}
use Rattle.diagram.proofs.Every.{both}
use Rattle.decoding.specs.Nodes.{Shaped}

-- ---------------------------------------------------------------------------
-- The heading

-- a test that is found to be no fault passes
pub none_passes : (b : Bool) → place_zero (not b) ≡ none → b ≡ true
unfolding place_zero
none_passes true h = refl
none_passes false h =
    let z : ◌≡◌ {A = ℕ} 0 1 = cc in
    absurd (omega arith)

heading_ranges : (s : List ℕ) → heading_fault s ≡ none → ((1 ≤ variable_count s) × (variable_count s ≤ 60)) × ((1 ≤ record_count s) × (record_count s ≤ 254))
unfolding heading_fault is_heading variable_count record_count
heading_ranges s h =
    let w = word_at s 0 in
    let first = eqb (kind w) 1 && (leb 1 (field_p w) && leb (field_p w) 60) in
    let ranges = both first (both (first && (leb 1 (field_q w) && leb (field_q w) 254)) (none_passes (is_heading w) h)).0 in
    let v = both (leb 1 (field_p w)) (both (eqb (kind w) 1) ranges.0).1 in
    let n = both (leb 1 (field_q w)) ranges.1 in
    ((leb-true 1 _ v.0, leb-true _ 60 v.1), (leb-true 1 _ n.0, leb-true _ 254 n.1))

pub heading-variables : (s : List ℕ) → heading_fault s ≡ none → (1 ≤ variable_count s) × (variable_count s ≤ 60)
heading-variables s h = (heading_ranges s h).0

pub heading-roots : (s : List ℕ) → heading_fault s ≡ none → root_count s ≤ 16
unfolding heading_fault is_heading root_count
heading-roots s h =
    let w = word_at s 0 in
    leb-true _ 16 (both (eqb (kind w) 1 && (leb 1 (field_p w) && leb (field_p w) 60) && (leb 1 (field_q w) && leb (field_q w) 254)) (none_passes (is_heading w) h)).1

pub heading-records : (s : List ℕ) → heading_fault s ≡ none → (1 ≤ record_count s) × (record_count s ≤ 254)
heading-records s h = (heading_ranges s h).1

-- ---------------------------------------------------------------------------
-- Records

pub records-length : (s : List ℕ) → length (table_of s).records ≡ record_count s
unfolding table_of
records-length s = sequence-length (λ i. record_of (word_at s i)) (1 + variable_count s) (record_count s)

pub record-at-word : (s : List ℕ) (k : ℕ) → k < record_count s → record_at (table_of s).records k ≡ record_of (word_at s (1 + variable_count s + k))
unfolding record_at table_of
record-at-word s k h = sequence-at (λ i. record_of (word_at s i)) (1 + variable_count s) (record_count s) k _ h

pub record_past : (s : List ℕ) (k : ℕ) → record_count s ≤ k → record_at (table_of s).records k ≡ record { position = 0; hi = 0; lo = 0 }
unfolding record_at table_of
record_past s k h = sequence_past (λ i. record_of (word_at s i)) (1 + variable_count s) (record_count s) k _ h

-- a child of record k, which stands at position p: it has a smaller number and stands at a larger position
abbrev Child : ℕ → List Record → (k p n : ℕ) → Type 0
Child v rs k p n = (n < k + 2) × (p < position_of v rs n)

child_facts : (v : ℕ) (rs : List Record) (k p n : ℕ) → is_child v rs k p n ≡ true → Child v rs k p n
unfolding is_child
child_facts v rs k p n h =
    let tests = both (ltb n (k + 2)) h in
    (ltb-true n (k + 2) tests.0, ltb-true p (position_of v rs n) tests.1)

-- the test of check 17, at a word of the file and at a record
abbrev pub record-at-fault : List ℕ → ℕ → Bool
record-at-fault s i = not (is_record_word (variable_count s) (table_of s).records (i - (1 + variable_count s)) (word_at s i))

pub record_test : (s : List ℕ) (k : ℕ) → record-at-fault s (1 + variable_count s + k) ≡ not (is_record_word (variable_count s) (table_of s).records k (word_at s (1 + variable_count s + k)))
record_test s k =
    let back : 1 + variable_count s + k - (1 + variable_count s) ≡ k = omega arith in
    rw back refl

pub shaped-record-word : (s : List ℕ) → record_fault s ≡ none → (k : ℕ) → k < record_count s → is_record_word (variable_count s) (table_of s).records k (word_at s (1 + variable_count s + k)) ≡ true
unfolding record_fault
shaped-record-word s h k l =
    not-false _ (sym (record_test s k) ∙ none-at (record-at-fault s) (1 + variable_count s) (record_count s) k h l)

shaped_children : (s : List ℕ) → Shaped s → (k : ℕ) → let r = record_at (table_of s).records k in Child (variable_count s) (table_of s).records k r.position r.hi × Child (variable_count s) (table_of s).records k r.position r.lo
unfolding is_record_word record_of position_of
shaped_children s h k =
    let v = variable_count s in
    let rs = (table_of s).records in
    let w = word_at s (1 + v + k) in
    by_cases (dec_lt k (record_count s))
    (λ l.
    let pair = both (is_child v rs k (field_p w) (field_q w)) (both (eqb (kind w) 4 && ltb (field_p w) v) (shaped-record-word s h.records k l)).1 in
    rw (record-at-word s k l) (child_facts v rs k (field_p w) (field_q w) pair.0, child_facts v rs k (field_p w) (field_r w) pair.1))
    (λ l.
    let some-variable = heading-variables s h.heading in
    rw (record_past s k (omega arith)) (omega arith))

pub shaped-formed : (s : List ℕ) → Shaped s → Formed (variable_count s) (table_of s).records
shaped-formed s h =
    record {
      hi_less = λ k. (shaped_children s h k).0.0;
      lo_less = λ k. (shaped_children s h k).1.0;
      hi_later = λ k. (shaped_children s h k).0.1;
      lo_later = λ k. (shaped_children s h k).1.1;
    }
