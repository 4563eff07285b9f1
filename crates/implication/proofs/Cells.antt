-- The cells of pairs of nodes: what they are at the start, how one is marked, and how many are 0. Assumes nothing.
use Prim.Native.Nat.{ℕ, zero, suc, ◌+◌, ◌-◌, ◌*◌, ◌/◌, ◌%◌, ◌^◌, ◌≤◌, ◌<◌}
use native.Mathlib.Decide.{ℕ_discrete}
use native.Mathlib.Nat.{zero-div}
use native.Mathlib.Omega.{arith}
use mathlib.Core.Path.{◌≡◌, refl, sym, ◌∙◌}
use mathlib.Core.Bool.{Bool, true, false, cond}
use mathlib.Core.Logic.{◌⊎◌, inl, inr, ⊎_elim, by_cases}
use mathlib.Core.List.{List}
use lib.Bits.{bit_or}
use lib.ListN.{length, get_or, set, replicate, length-set}
use lib.Seq.{get_or-set_same, get_or-set_other}
use lib.Dec.{eqb}
use borrow.Author.Tests.{eqb-true, eqb-false, eq-eqb}
use Rattle.implication.specs.Nodes.{AtOnce, is_known, bit, cell, zeros_below, zeros, Met}
use Rattle.implication.proofs.Digits.{shifted_one, set_here, set-others, or_adds}

-- ---------------------------------------------------------------------------
-- One cell

known_once : (m n : ℕ) → is_known m n ≡ true → AtOnce m n
unfolding is_known
known_once m n = go (eqb m 0) (eqb n 1) refl refl
  where
    go : (a b : Bool) → eqb m 0 ≡ a → eqb n 1 ≡ b → cond a true (cond b true (eqb m n)) ≡ true → AtOnce m n
    go true b ea eb e = inl (eqb-true m 0 ea)
    go false true ea eb e = inr (inl (eqb-true n 1 eb))
    go false false ea eb e = inr (inr (eqb-true m n e))

cell_known : (met : List ℕ) (m n : ℕ) → is_known m n ≡ true → cell met m n ≡ 1
unfolding cell
cell_known met m n e = rw e refl

cell-bit : (met : List ℕ) (m n : ℕ) → is_known m n ≡ false → cell met m n ≡ bit met m n
unfolding cell
cell-bit met m n e = rw e refl

-- a cell by cases
by_known : (P : Type 0) (m n : ℕ) → (is_known m n ≡ true → P) → (is_known m n ≡ false → P) → P
by_known P m n known unknown = go (is_known m n) refl
  where
    go : (b : Bool) → is_known m n ≡ b → P
    go true e = known e
    go false e = unknown e

bit_le : (met : List ℕ) (m n : ℕ) → bit met m n ≤ 1
unfolding bit
bit_le met m n = omega arith

pub cell-le : (met : List ℕ) (m n : ℕ) → cell met m n ≤ 1
cell-le met m n =
    by_known (cell met m n ≤ 1) m n
    (λ e. omega (arith, cell_known met m n e))
    (λ e. omega (arith, cell-bit met m n e, bit_le met m n))

-- whether a cell is 1, with the numbers that the code has read
pub tested_known : (met : List ℕ) {test : Bool} (m n : ℕ) → test ≡ is_known m n → test ≡ true → true ≡ eqb (cell met m n) 1
tested_known met m n e known = sym (eq-eqb (cell met m n) 1 (cell_known met m n (sym e ∙ known)))

pub tested_bit : (met : List ℕ) {test : Bool} (m n : ℕ) {i j k : ℕ} → test ≡ is_known m n → test ≡ false → i ≡ m → j ≡ n → k ≡ n → eqb (get_or met (i * 4 + j / 64) 0 / 2 ^ (k % 64) % 2) 1 ≡ eqb (cell met m n) 1
unfolding bit
tested_bit met m n e unknown ei ej ek = rw (ei, ej, ek, cell-bit met m n (sym e ∙ unknown)) refl

pub tested_one : (met : List ℕ) (m n : ℕ) {test : Bool} → test ≡ eqb (cell met m n) 1 → test ≡ true → cell met m n ≡ 1
tested_one met m n e t = eqb-true (cell met m n) 1 (sym e ∙ t)

pub tested_zero : (met : List ℕ) (m n : ℕ) {test : Bool} → test ≡ eqb (cell met m n) 1 → test ≡ false → cell met m n ≡ 0
tested_zero met m n e f =
    let other = eqb-false (cell met m n) 1 (sym e ∙ f) in
    omega (arith, cell-le met m n, other)

-- the pair of false and false
pub origin-cell : (met : List ℕ) → cell met 0 0 ≡ 1
unfolding is_known
origin-cell met = cell_known met 0 0 refl

-- ---------------------------------------------------------------------------
-- The start

zero-at : (n i : ℕ) → ◌≡◌ {A = ℕ} (get_or (replicate n 0) i 0) 0
zero-at zero i = refl
zero-at (suc n) zero = refl
zero-at (suc n) (suc i) = zero-at n i

zero_bit : (k m n : ℕ) → bit (replicate k 0) m n ≡ 0
unfolding bit
zero_bit k m n = rw (zero-at k (m * 4 + n / 64), zero-div (2 ^ (n % 64))) refl

-- where every bit is 0, only the pairs that are known at once have the cell 1
pub only_known : (k m n : ℕ) → cell (replicate k 0) m n ≡ 1 → AtOnce m n
only_known k m n one =
    by_known (AtOnce m n) m n (known_once m n)
    (λ e. absurd (omega (arith, cell-bit (replicate k 0) m n e, zero_bit k m n)))

-- ---------------------------------------------------------------------------
-- A cell is marked

pub marked-same : (met : List ℕ) (m n : ℕ) → cell met m n ≡ 1 → Met met met m n
marked-same met m n one = record { size = refl; here = one; kept = λ p q e. e; others = λ p q _ _. inr refl }

-- the bit of a pair that has not been met is set
module _ (met : List ℕ) (m n : ℕ) (size : length met ≡ 1024) (lm : m < 256) (ln : n < 256) (none : cell met m n ≡ 0) where
  unknown : is_known m n ≡ false
  unknown =
      by_known (is_known m n ≡ false) m n (λ e. absurd (omega (arith, cell_known met m n e, none))) (λ e. e)

  clear : get_or met (m * 4 + n / 64) 0 / 2 ^ (n % 64) % 2 ≡ 0
  unfolding bit
  clear = sym (cell-bit met m n unknown) ∙ none

  abbrev word : ℕ
  word = get_or met (m * 4 + n / 64) 0 + 2 ^ (n % 64)

  abbrev after : List ℕ
  after = set met (m * 4 + n / 64) word

  bit-here : bit after m n ≡ 1
  unfolding bit
  bit-here = rw (get_or-set_same met (m * 4 + n / 64) word 0 (omega arith)) (set_here _ (n % 64) clear)

  bit-others : (p q : ℕ) → p < 256 → q < 256 → ((p ≡ m) × (q ≡ n)) ⊎ (bit after p q ≡ bit met p q)
  unfolding bit
  bit-others p q lp lq =
      by_cases (ℕ_discrete (p * 4 + q / 64) (m * 4 + n / 64))
      (λ e. by_cases (ℕ_discrete (q % 64) (n % 64))
      (λ f. inl (omega arith, omega arith))
      (λ f. inr (rw (e, get_or-set_same met (m * 4 + n / 64) word 0 (omega arith)) (set-others _ (n % 64) clear (q % 64) f))))
      (λ e. inr (rw (get_or-set_other met (m * 4 + n / 64) (p * 4 + q / 64) word 0 e) refl))

  -- a bit that is 1 stays so
  bit_kept : (p q : ℕ) → bit met p q ≡ 1 → bit after p q ≡ 1
  unfolding bit
  bit_kept p q one =
      by_cases (ℕ_discrete (p * 4 + q / 64) (m * 4 + n / 64))
      (λ e. by_cases (ℕ_discrete (q % 64) (n % 64))
      (λ f. rw (e, f, get_or-set_same met (m * 4 + n / 64) word 0 (omega arith)) (set_here _ (n % 64) clear))
      (λ f. rw (e, get_or-set_same met (m * 4 + n / 64) word 0 (omega arith)) (set-others _ (n % 64) clear (q % 64) f ∙ rw e at one)))
      (λ e. rw (get_or-set_other met (m * 4 + n / 64) (p * 4 + q / 64) word 0 e) one)

  marked_new : Met met after m n
  marked_new =
      record {
        size = simp length-set refl;
        here = cell-bit after m n unknown ∙ bit-here;
        kept = λ p q one. by_known (cell after p q ≡ 1) p q
            (cell_known after p q)
            (λ e. cell-bit after p q e ∙ bit_kept p q (sym (cell-bit met p q e) ∙ one));
        others = λ p q lp lq. by_known (((p ≡ m) × (q ≡ n)) ⊎ (cell after p q ≡ cell met p q)) p q
            (λ e. inr (cell_known after p q e ∙ sym (cell_known met p q e)))
            (λ e. ⊎_elim inl (λ same. inr (cell-bit after p q e ∙ same ∙ sym (cell-bit met p q e))) (bit-others p q lp lq));
      }

  -- with the numbers that the code has read
  pub marked : {i j k : ℕ} → i ≡ m → j ≡ n → k ≡ n → Met met (set met (i * 4 + j / 64) (bit_or (get_or met (i * 4 + j / 64) 0) (1 * 2 ^ (k % 64) % 2 ^ 64))) m n
  marked ei ej ek = rw (ei, ej, ek, shifted_one n, or_adds _ (n % 64) clear) marked_new

-- ---------------------------------------------------------------------------
-- How many cells are 0

module _ {met met' : List ℕ} {m n : ℕ} (marked : Met met met' m n) (lm : m < 256) (ln : n < 256) where
  zeros-before : (i : ℕ) → i ≤ m * 256 + n → zeros_below met' i ≡ zeros_below met i
  unfolding zeros_below
  zeros-before zero l = refl
  zeros-before (suc i) l =
      ⊎_elim
      (λ same. absurd (omega (arith, same.0, same.1)))
      (λ same. rw (same, zeros-before i (omega arith)) refl)
      (marked.others (i / 256) (i % 256) (omega arith) (omega arith))

  zeros-after : (i : ℕ) → i ≤ 65536 → m * 256 + n < i → zeros_below met' i + (1 - cell met m n) ≡ zeros_below met i
  unfolding zeros_below
  zeros-after zero k l = absurd (omega arith)
  zeros-after (suc i) k l =
      by_cases (ℕ_discrete i (m * 256 + n))
      (λ e.
      let p : i / 256 ≡ m = omega arith in
      let q : i % 256 ≡ n = omega arith in
      rw (p, q) (omega (arith, marked.here, zeros-before i (omega arith))))
      (λ e. ⊎_elim
      (λ same. absurd (omega (arith, same.0, same.1)))
      (λ same. omega (arith, same, zeros-after i (omega arith) (omega arith)))
      (marked.others (i / 256) (i % 256) (omega arith) (omega arith)))

  -- a cell that is marked is no more 0
  pub zeros-marked : zeros met' + (1 - cell met m n) ≡ zeros met
  unfolding zeros
  zeros-marked = zeros-after 65536 (omega arith) (omega arith)
