-- The roots of a table: how many there are, that each is a record's node with a reward from 1 to 64, and sums over the first of them.
-- Assumes of the file, for what a root is, that the checks 12 and 26 find nothing.
use Prim.Native.Nat.{ℕ, zero, suc, ◌+◌, ◌*◌, ◌≤◌, ◌<◌}
use native.Mathlib.Decide.{dec_lt}
use native.Mathlib.Omega.{arith}
use mathlib.Core.Path.{◌≡◌, refl, sym}
use mathlib.Core.Bool.{true, not, ◌&&◌}
use mathlib.Core.Logic.{by_cases}
use mathlib.Core.Option.{none}
use mathlib.Core.List.{List, [], ◌∷◌}
use lib.ListN.{length, take}
use lib.Dec.{eqb, leb}
use borrow.Author.Tests.{leb-true, not-false}
use Rattle.diagram.specs.Words.{word_at, kind, field_p, field_q, field_r}
use Rattle.diagram.specs.Table.{Root, sequence, root_of, roots_or, table_of, variable_count, record_count, root_count, total_reward}
use Rattle.diagram.specs.Score.{rewarded}
use Rattle.diagram.specs.Checks.{heading_fault, root_fault, is_root_word}
use Rattle.diagram.proofs.Every.{both}
use Rattle.diagram.proofs.Places.{sequence-length, sequence-at, none-at}
use Rattle.decoding.specs.Decoding.{root_at}
use Rattle.decoding.proofs.Shape.{heading-records, heading-roots}

-- ---------------------------------------------------------------------------
-- Roots by number

or_words : (last i n : ℕ) (f : ℕ → Root) → 0 < n → roots_or last (sequence f i n) ≡ sequence f i n
unfolding roots_or sequence
or_words last i zero f h = absurd (omega arith)
or_words last i (suc n) f h = refl

module _ (s : List ℕ) where
  -- with no root words there is one root, the last record with reward 1
  pub roots-none : root_count s ≡ 0 → (table_of s).roots ≡ record { node = record_count s + 1; reward = 1 } ∷ []
  unfolding table_of roots_or sequence
  roots-none e = rw e refl

  -- else there is one for each
  pub roots-words : 0 < root_count s → (table_of s).roots ≡ sequence (λ i. root_of (word_at s i)) (1 + variable_count s + record_count s) (root_count s)
  unfolding table_of
  roots-words h = or_words (record_count s + 1) _ (root_count s) _ h

  pub count_none : root_count s ≡ 0 → 1 ≡ length (table_of s).roots
  count_none e = rw (roots-none e) refl

  pub count-words : 0 < root_count s → root_count s ≡ length (table_of s).roots
  count-words h = rw (roots-words h) (sym (sequence-length (λ i. root_of (word_at s i)) _ (root_count s)))

  pub root_none : root_count s ≡ 0 → (i : ℕ) → i < length (table_of s).roots → root_at (table_of s).roots i ≡ record { node = record_count s + 1; reward = 1 }
  unfolding root_at
  root_none e i h =
      let zeroth : i ≡ 0 = omega (arith, h, count_none e) in
      rw (zeroth, roots-none e) refl

  pub root-word : 0 < root_count s → (i : ℕ) → i < length (table_of s).roots → root_at (table_of s).roots i ≡ root_of (word_at s (1 + variable_count s + record_count s + i))
  unfolding root_at
  root-word h i l = rw (roots-words h) (sequence-at (λ i. root_of (word_at s i)) _ (root_count s) i _ (omega (arith, l, count-words h)))

-- what a root word says
pub record IsRoot (n node reward : ℕ) : Type 0 where
  pub within : (2 ≤ node) × (node < n + 2)
  pub rewards : (1 ≤ reward) × (reward ≤ 64)

word-root : (n w : ℕ) → is_root_word n w ≡ true → IsRoot n (field_r w) (field_q w)
unfolding is_root_word
word-root n w e =
    let front = eqb (kind w) 6 && eqb (field_p w) 0 in
    let whole = both (front && (leb 1 (field_q w) && leb (field_q w) 64)) e in
    let reward = both (leb 1 (field_q w)) (both front whole.0).1 in
    let node = both (leb 2 (field_r w)) whole.1 in
    let most = leb-true (field_r w) (n + 1) node.1 in
    record {
      within = (leb-true 2 (field_r w) node.0, omega arith);
      rewards = (leb-true 1 (field_q w) reward.0, leb-true (field_q w) 64 reward.1);
    }

module _ (s : List ℕ) (heading : heading_fault s ≡ none) (words : root_fault s ≡ none) where
  -- every root is a record's node
  pub root_is : (i : ℕ) → i < length (table_of s).roots → IsRoot (record_count s) (root_at (table_of s).roots i).node (root_at (table_of s).roots i).reward
  unfolding root_fault root_of
  root_is i h =
      let records = heading-records s heading in
      by_cases (dec_lt 0 (root_count s))
      (λ l.
      rw (root-word s l i h)
      (word-root (record_count s) _ (not-false _ (none-at (λ i. not (is_root_word (record_count s) (word_at s i))) (1 + variable_count s + record_count s) (root_count s) i words (omega (arith, h, count-words s l))))))
      (λ f.
      rw (root_none s (omega (arith, f)) i h) (record { within = (omega arith, omega arith); rewards = (omega arith, omega arith) }))

  -- there are at most 16
  pub roots_few : length (table_of s).roots ≤ 16
  roots_few =
      by_cases (dec_lt 0 (root_count s))
      (λ l. omega (arith, count-words s l, heading-roots s heading))
      (λ f. omega (arith, count_none s (omega (arith, f))))

-- ---------------------------------------------------------------------------
-- Sums over the first roots

pub total-next : (rs : List Root) (i : ℕ) → i < length rs → total_reward (take (suc i) rs) ≡ total_reward (take i rs) + (root_at rs i).reward
unfolding total_reward root_at
total-next [] i h = absurd (omega arith)
total-next (r ∷ rs) zero h = omega arith
total-next (r ∷ rs) (suc i) h = omega (arith, total-next rs i (omega arith))

pub rewarded-next : (f : ℕ → ℕ) (rs : List Root) (i : ℕ) → i < length rs → rewarded f (take (suc i) rs) ≡ rewarded f (take i rs) + (root_at rs i).reward * f (root_at rs i).node
unfolding rewarded root_at
rewarded-next f [] i h = absurd (omega arith)
rewarded-next f (r ∷ rs) zero h = omega arith
rewarded-next f (r ∷ rs) (suc i) h = omega (arith, rewarded-next f rs i (omega arith))

-- a sum over the first roots is at most the whole
pub rewarded_part : (f : ℕ → ℕ) (rs : List Root) (i : ℕ) → rewarded f (take i rs) ≤ rewarded f rs
unfolding rewarded
rewarded_part f [] zero = omega arith
rewarded_part f [] (suc i) = omega arith
rewarded_part f (r ∷ rs) zero = omega arith
rewarded_part f (r ∷ rs) (suc i) = omega (arith, rewarded_part f rs i)
