-- Sequences by index, lists of one number, and the first place of a range that is at fault, as a loop over the range meets it.
-- Assumes nothing.
use Prim.Native.Nat.{ℕ, zero, suc, ◌+◌, ◌-◌, ◌≤◌, ◌<◌}
use native.Mathlib.Nat.{add-zero, sub-zero, zero-sub, suc-sub-suc}
use native.Mathlib.Omega.{arith}
use mathlib.Core.Path.{◌≡◌, refl, ap, sym, ◌∙◌}
use mathlib.Core.Bool.{Bool, true, false}
use mathlib.Core.Option.{none, some}
use mathlib.Core.List.{List, [], ◌∷◌, ◌++◌}
use lib.ListN.{length, get_or, take, drop, replicate}
use Rattle.diagram.specs.Table.{sequence}
use Rattle.diagram.specs.Checks.{first_place}

-- ---------------------------------------------------------------------------
-- Sequences

module _ {A : Type 0} (f : ℕ → A) where
  pub sequence-length : (i n : ℕ) → length (sequence f i n) ≡ n
  unfolding sequence
  sequence-length i zero = refl
  sequence-length i (suc n) = ap suc (sequence-length (suc i) n)

  pub sequence-at : (i n k : ℕ) (d : A) → k < n → get_or (sequence f i n) k d ≡ f (i + k)
  unfolding sequence
  sequence-at i zero k d h = absurd (omega arith)
  sequence-at i (suc n) zero d h = ap f (omega arith)
  sequence-at i (suc n) (suc k) d h = sequence-at (suc i) n k d (omega arith) ∙ ap f (omega arith)

  pub sequence_past : (i n k : ℕ) (d : A) → n ≤ k → get_or (sequence f i n) k d ≡ d
  unfolding sequence
  sequence_past i zero k d h = refl
  sequence_past i (suc n) zero d h = absurd (omega arith)
  sequence_past i (suc n) (suc k) d h = sequence_past (suc i) n k d (omega arith)

  -- one element more at the end
  pub sequence-snoc : (i n : ℕ) → sequence f i n ++ (f (i + n) ∷ []) ≡ sequence f i (suc n)
  unfolding sequence
  sequence-snoc i zero = ap (λ (x : ℕ). f x ∷ []) (omega arith)
  sequence-snoc i (suc n) =
      let on : i + suc n ≡ suc i + n = omega arith in
      ap (λ (l : List A). f i ∷ l) (rw on (sequence-snoc (suc i) n))

  pub take-sequence : (i n k : ℕ) → k ≤ n → take k (sequence f i n) ≡ sequence f i k
  unfolding sequence
  take-sequence i n zero h = refl
  take-sequence i zero (suc k) h = absurd (omega arith)
  take-sequence i (suc n) (suc k) h = ap (λ (l : List A). f i ∷ l) (take-sequence (suc i) n k (omega arith))

-- n times a, but for the first i
pub drop-replicate : (i n a : ℕ) → drop i (replicate n a) ≡ replicate (n - i) a
drop-replicate zero n a = rw sub-zero refl
drop-replicate (suc i) zero a = rw zero-sub refl
drop-replicate (suc i) (suc n) a = rw suc-sub-suc (drop-replicate i n a)

-- ---------------------------------------------------------------------------
-- The first place at fault, p places into n places from i on

module _ (fault : ℕ → Bool) where
  here : (i n : ℕ) → fault i ≡ true → first_place fault i (suc n) ≡ some i
  unfolding first_place
  here i n e = rw (e, first_place) refl

  next : (i n : ℕ) → fault i ≡ false → first_place fault i (suc n) ≡ first_place fault (suc i) n
  unfolding first_place
  next i n e = rw (e, first_place) refl

  pub place_here : (i n p : ℕ) → p < n → fault (i + p) ≡ true → first_place fault (i + p) (n - p) ≡ some (i + p)
  place_here i n p h e =
      let left : n - p ≡ suc (n - (p + 1)) = omega arith in
      rw left (here (i + p) (n - (p + 1)) e)

  pub place-next : (i n p : ℕ) → p < n → fault (i + p) ≡ false → first_place fault (i + p) (n - p) ≡ first_place fault (i + (p + 1)) (n - (p + 1))
  place-next i n p h e =
      let left : n - p ≡ suc (n - (p + 1)) = omega arith in
      let on : i + (p + 1) ≡ suc (i + p) = omega arith in
      rw (left, on) (next (i + p) (n - (p + 1)) e)

  pub place_end : (i n p : ℕ) → n ≤ p → first_place fault i (n - p) ≡ none
  unfolding first_place
  place_end i n p h =
      let left : n - p ≡ 0 = omega arith in
      rw left refl

  pub place-start : (i n : ℕ) → first_place fault i n ≡ first_place fault (i + 0) (n - 0)
  place-start i n =
      let from : i + 0 ≡ i = omega arith in
      let all : n - 0 ≡ n = omega arith in
      rw (from, all) refl

  -- where no place is at fault, each passes
  pub none-at : (i n k : ℕ) → first_place fault i n ≡ none → k < n → fault (i + k) ≡ false
  unfolding first_place
  none-at i zero k e h = absurd (omega arith)
  none-at i (suc n) k e h = go (fault i) refl (none-at (suc i) n) k h
    where
      go : (b : Bool) → fault i ≡ b → ((k : ℕ) → first_place fault (suc i) n ≡ none → k < n → fault (suc i + k) ≡ false) → (k : ℕ) → k < suc n → fault (i + k) ≡ false
      go true q rest k h =
          let z : ◌≡◌ {A = ℕ} 0 1 = cc (sym (here i n q) ∙ e) in
          absurd (omega arith)
      go false q rest zero h = rw add-zero q
      go false q rest (suc k) h =
          let on : i + suc k ≡ suc i + k = omega arith in
          rw on (rest k (sym (next i n q) ∙ e) (omega arith))

-- a range with no place at fault
pub no_place : (fault : ℕ → Bool) (i n : ℕ) → ((k : ℕ) → k < n → fault (i + k) ≡ false) → first_place fault i n ≡ none
unfolding first_place
no_place fault i zero h = refl
no_place fault i (suc n) h =
    let here : fault i ≡ false = rw add-zero at (h 0 (omega arith)) in
    rw (here, first_place)
    (no_place fault (suc i) n (λ k l. let on : suc i + k ≡ i + suc k = omega arith in rw on (h (suc k) (omega arith))))
