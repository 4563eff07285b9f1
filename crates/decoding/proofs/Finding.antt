-- The loop over the variables of a file that finds the choices, with their positions and their kits.
-- Assumes nothing.
use Prim.Native.Nat.{ℕ, suc, ◌+◌, ◌-◌, ◌≤◌, ◌<◌}
use native.Mathlib.Numerals.{add-one}
use native.Mathlib.Omega.{arith}
use mathlib.Core.Path.{◌≡◌, refl, ap, sym, ◌∙◌}
use mathlib.Core.Bool.{true, false, cond}
use mathlib.Core.List.{List, [], ◌∷◌, ◌++◌, append-nil}
use lib.ListN.{length, set, drop, replicate, length-append, drop_of_length-le}
use lib.Seq.{drop-cons, append_snoc}
use Rattle.diagram.specs.Words.{word_at, field_r}
use Rattle.diagram.specs.Table.{Variable, choice, chance, sequence, variable_of, is_choice, kits_of, table_of, variable_count, choice_count}
use Rattle.decoding.specs.Decoding.{pad_to, positions_from, choice_positions}
use Rattle.decoding.proofs.Choosing.{variables-length, is-choice-kind, variable-at}
use Rattle.decoding.proofs.Padding.{pad_none, pad_next}

-- ---------------------------------------------------------------------------
-- What is found of the first variables, and what is left

-- Twenty cells, of which the first `count` hold what is found of a whole list, so that `rest` is left
pub record Found (whole rest cells : List ℕ) (count : ℕ) : Type 0 where
  found : List ℕ
  held : cells ≡ pad_to 20 found
  counted : count ≡ length found
  split : found ++ rest ≡ whole

pub found_none : (whole rest : List ℕ) → rest ≡ whole → Found whole rest (replicate 20 0) 0
found_none whole rest e = record { found = []; held = sym (pad_none 20); counted = refl; split = e }

module _ {whole rest cells : List ℕ} {count : ℕ} (h : Found whole rest cells count) where
  -- at the end all are found
  pub found_all : rest ≡ [] → (cells ≡ pad_to 20 whole) × (count ≡ length whole)
  found_all e =
      let all = rw (e, append-nil) at h.split in
      (rw (← all) h.held, rw (← all) h.counted)

  -- nothing is found
  pub found-same : {rest' : List ℕ} → rest ≡ rest' → Found whole rest' cells count
  found-same e = record { found = h.found; held = h.held; counted = h.counted; split = rw e at h.split }

  module _ (most : length whole ≤ 20) (x : ℕ) (rest' : List ℕ) (e : rest ≡ x ∷ rest') where
    one : h.found ++ x ∷ rest' ≡ whole
    one = rw e at h.split

    -- there is a place for one more
    pub found-room : count < 20
    found-room = omega (arith, h.counted, simp length-append at (ap length one))

    -- one is found
    pub found-next : {n y : ℕ} {new : List ℕ} → y ≡ x → new ≡ set cells count y → n ≡ count + 1 → Found whole rest' new n
    found-next {n} {y} {new} same g k =
        record {
          found = h.found ++ (x ∷ []);
          held = g ∙ rw (same, h.held, h.counted) (pad_next 20 h.found x (omega (arith, found-room, h.counted)));
          counted = rw length-append (omega (arith, h.counted));
          split = append_snoc h.found x _ ∙ one;
        }

-- ---------------------------------------------------------------------------
-- The kits of the variables from position p on

pub kits_from : (file : List ℕ) → (p : ℕ) → List ℕ
kits_from s p = kits_of (sequence (word_at s) (1 + p) (variable_count s - p))

module _ (s : List ℕ) where
  pub kits-start : kits_from s 0 ≡ (table_of s).kits
  unfolding table_of kits_from
  kits-start =
      let from : 1 + 0 ≡ 1 = omega arith in
      let all : variable_count s - 0 ≡ variable_count s = omega arith in
      rw (from, all) refl

  module _ (p : ℕ) where
    pub kits_end : variable_count s ≤ p → kits_from s p ≡ []
    unfolding kits_of sequence kits_from
    kits_end h =
        let left : variable_count s - p ≡ 0 = omega arith in
        rw left refl

    kits_cons : p < variable_count s → kits_from s p ≡ cond (is_choice (variable_of (word_at s (1 + p)))) ((field_r (word_at s (1 + p)) + 1) ∷ kits_from s (p + 1)) (kits_from s (p + 1))
    unfolding kits_of sequence kits_from
    kits_cons h =
        let left : variable_count s - p ≡ suc (variable_count s - (p + 1)) = omega arith in
        let on : 1 + (p + 1) ≡ suc (1 + p) = omega arith in
        rw (left, on, is-choice-kind) refl

    pub kits-choice : p < variable_count s → is_choice (variable_of (word_at s (1 + p))) ≡ true → kits_from s p ≡ (field_r (word_at s (1 + p)) + 1) ∷ kits_from s (p + 1)
    kits-choice h e = kits_cons h ∙ rw e refl

    pub kits-chance : p < variable_count s → is_choice (variable_of (word_at s (1 + p))) ≡ false → kits_from s p ≡ kits_from s (p + 1)
    kits-chance h e = kits_cons h ∙ rw e refl

-- ---------------------------------------------------------------------------
-- The positions of the choices from position p on

abbrev pub choice_positions_from : (file : List ℕ) → (p : ℕ) → List ℕ
choice_positions_from s p = positions_from p (drop p (table_of s).variables)

-- as many as there are choices
pub positions-length : (x : ℕ) (vs : List Variable) → length (positions_from x vs) ≡ choice_count vs
unfolding positions_from choice_count
positions-length x [] = refl
positions-length x (choice ∷ vs) = ap suc (positions-length (suc x) vs)
positions-length x (chance a b ∷ vs) = positions-length (suc x) vs

by_kind : (p : ℕ) (v : Variable) (vs : List Variable) → positions_from p (v ∷ vs) ≡ cond (is_choice v) (p ∷ positions_from (suc p) vs) (positions_from (suc p) vs)
unfolding positions_from is_choice
by_kind p choice vs = refl
by_kind p (chance a b) vs = refl

module _ (s : List ℕ) where
  pub choice-positions-start : choice_positions_from s 0 ≡ choice_positions (table_of s).variables
  unfolding choice_positions
  choice-positions-start = refl

  pub choice-positions-length : length (choice_positions (table_of s).variables) ≡ choice_count (table_of s).variables
  unfolding choice_positions
  choice-positions-length = positions-length 0 (table_of s).variables

  module _ (p : ℕ) where
    pub choice-positions_end : variable_count s ≤ p → choice_positions_from s p ≡ []
    unfolding positions_from
    choice-positions_end h = rw (drop_of_length-le (table_of s).variables {i = p} (omega (arith, variables-length s))) refl

    choice-positions_cons : p < variable_count s → choice_positions_from s p ≡ cond (is_choice (variable_of (word_at s (1 + p)))) (p ∷ choice_positions_from s (p + 1)) (choice_positions_from s (p + 1))
    choice-positions_cons h =
        rw (drop-cons (table_of s).variables p (chance 0 1) (omega (arith, variables-length s)), variable-at s p h, add-one p) (by_kind p _ _)

    pub choice-positions-choice : p < variable_count s → is_choice (variable_of (word_at s (1 + p))) ≡ true → choice_positions_from s p ≡ p ∷ choice_positions_from s (p + 1)
    choice-positions-choice h e = choice-positions_cons h ∙ rw e refl

    pub choice-positions-chance : p < variable_count s → is_choice (variable_of (word_at s (1 + p))) ≡ false → choice_positions_from s p ≡ choice_positions_from s (p + 1)
    choice-positions-chance h e = choice-positions_cons h ∙ rw e refl

-- the kits at position p, by the word's number, the word and its R
pub kits-is : (s : List ℕ) (p : ℕ) {i w r k : ℕ} → i ≡ 1 + p → w ≡ word_at s i → r ≡ field_r w → k ≡ r + 1 → k ≡ field_r (word_at s (1 + p)) + 1
kits-is s p e f g h = rw (h, g, f, e) refl
