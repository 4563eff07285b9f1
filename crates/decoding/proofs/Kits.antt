-- The kits of the choices among a file's variables: how many there are, and which.
-- Assumes nothing.
use Prim.Native.Nat.{ℕ, zero, suc, ◌+◌, ◌<◌}
use native.Mathlib.Nat.{add-zero}
use native.Mathlib.Omega.{arith}
use mathlib.Core.Path.{◌≡◌, refl, ap, sym, ◌∙◌}
use mathlib.Core.Bool.{true, false}
use mathlib.Core.Logic.{⊎_elim}
use mathlib.Core.List.{List, ◌∷◌}
use lib.ListN.{length, get_or, take, replicate}
use lib.Dec.{eqb}
use lib.Seq.{take_at}
use borrow.Author.Tests.{eqb-true, eq-eqb}
use Rattle.diagram.specs.Words.{word_at, kind, field_r}
use Rattle.diagram.specs.Table.{sequence, variable_of, kits_of, table_of, variable_count, choice_count}
use Rattle.diagram.proofs.Every.{tested}
use Rattle.decoding.specs.Decoding.{pad_to}

-- ---------------------------------------------------------------------------
-- The kits of n words from word i on

module _ (f : ℕ → ℕ) where
  words-length : (i n : ℕ) → length (kits_of (sequence f i n)) ≡ choice_count (sequence (λ j. variable_of (f j)) i n)
  unfolding kits_of sequence variable_of choice_count
  words-length i zero = refl
  words-length i (suc n) =
      let rest = words-length (suc i) n in
      ⊎_elim (λ (t : eqb (kind (f i)) 2 ≡ true). rw t (ap suc rest)) (λ (t : eqb (kind (f i)) 2 ≡ false). rw t rest) (tested (eqb (kind (f i)) 2))

  words-at : (i n x : ℕ) → x < n → kind (f (i + x)) ≡ 2 → get_or (kits_of (sequence f i n)) (choice_count (take x (sequence (λ j. variable_of (f j)) i n))) 0 ≡ field_r (f (i + x)) + 1
  unfolding kits_of sequence variable_of choice_count
  words-at i zero x h e = absurd (omega arith)
  words-at i (suc n) zero h e = rw (add-zero, eq-eqb _ _ (rw add-zero at e)) refl
  words-at i (suc n) (suc x) h e =
      let on : i + suc x ≡ suc i + x = omega arith in
      let rest = words-at (suc i) n x (omega arith) (rw on at e) in
      ⊎_elim (λ (t : eqb (kind (f i)) 2 ≡ true). rw (on, t) rest) (λ (t : eqb (kind (f i)) 2 ≡ false). rw (on, t) rest) (tested (eqb (kind (f i)) 2))

  words_unit : (i n : ℕ) → ((x : ℕ) → x < n → kind (f (i + x)) ≡ 2 → field_r (f (i + x)) ≡ 0) → kits_of (sequence f i n) ≡ replicate (choice_count (sequence (λ j. variable_of (f j)) i n)) 1
  unfolding kits_of sequence variable_of choice_count
  words_unit i zero h = refl
  words_unit i (suc n) h =
      let here = rw add-zero at (h 0 (omega arith)) in
      let rest = words_unit (suc i) n (λ x l. let on : suc i + x ≡ i + suc x = omega arith in rw on (h (suc x) (omega arith))) in
      ⊎_elim
      (λ (t : eqb (kind (f i)) 2 ≡ true). rw (t, here (eqb-true _ _ t)) (ap (λ (ks : List ℕ). 1 ∷ ks) rest))
      (λ (t : eqb (kind (f i)) 2 ≡ false). rw t rest)
      (tested (eqb (kind (f i)) 2))

-- ---------------------------------------------------------------------------
-- The kits of a file

module _ (s : List ℕ) where
  -- one number a choice
  pub kits-length : length (table_of s).kits ≡ choice_count (table_of s).variables
  unfolding table_of
  kits-length = words-length (word_at s) 1 (variable_count s)

  -- of twenty cells, the first hold them
  pub kits-first : (n : ℕ) → n ≡ choice_count (table_of s).variables → take n (pad_to 20 (table_of s).kits) ≡ (table_of s).kits
  unfolding pad_to
  kits-first n e = take_at (table_of s).kits _ n (kits-length ∙ sym e)

  -- at a choice's number, its R and one more
  pub kits-held : (p : ℕ) → p < variable_count s → kind (word_at s (1 + p)) ≡ 2 → get_or (table_of s).kits (choice_count (take p (table_of s).variables)) 0 ≡ field_r (word_at s (1 + p)) + 1
  unfolding table_of
  kits-held = words-at (word_at s) 1 (variable_count s)

  -- where every choice has R 0, all are 1
  pub kits_unit : ((p : ℕ) → p < variable_count s → kind (word_at s (1 + p)) ≡ 2 → field_r (word_at s (1 + p)) ≡ 0) → (table_of s).kits ≡ replicate (choice_count (table_of s).variables) 1
  unfolding table_of
  kits_unit = words_unit (word_at s) 1 (variable_count s)
