-- An array by node number that is filled cell by cell, the two ends first and then record after record.
-- Assumes nothing.
use Prim.Native.Nat.{ℕ, zero, suc, ◌+◌, ◌-◌, ◌≤◌, ◌<◌}
use native.Mathlib.Nat.{zero-add}
use native.Mathlib.Numerals.{add-one}
use native.Mathlib.Omega.{arith}
use mathlib.Core.Path.{◌≡◌, refl, ap, sym, ◌∙◌}
use mathlib.Core.List.{List, [], ◌∷◌, ◌++◌}
use lib.ListN.{length, get_or, set, take, replicate, length-set, length-take}
use lib.Seq.{take-suc-set, get_or-take}
use Rattle.diagram.specs.Table.{Record, sequence, record_at}
use Rattle.diagram.specs.Checks.{position_of}
use Rattle.diagram.proofs.Places.{sequence-length, sequence-at, sequence-snoc}
use Rattle.decoding.specs.Nodes.{column, Filled, Positioned}
use Rattle.decoding.specs.Decoding.{pad_to}
use Rattle.decoding.proofs.Padding.{pad_next}

pub fill_ends : {end : ℕ} {f : ℕ → ℕ} {cells : List ℕ} (before : List ℕ) (x : ℕ) → length before ≡ 256 → cells ≡ set (set before 0 x) 1 x → x ≡ end → Filled end f cells 0
unfolding sequence
fill_ends {end} {f} {cells} before x h e y = rw (e, y) (ends before h)
  where
    ends : (l : List ℕ) → length l ≡ 256 → Filled end f (set (set l 0 end) 1 end) 0
    ends [] h = absurd (omega arith)
    ends (a ∷ []) h = absurd (omega arith)
    ends (a ∷ b ∷ l) h = record { size = h; front = refl }

-- an array that holds the ends' number everywhere has it in their cells
pub fill_alike : {end : ℕ} {f : ℕ → ℕ} (x : ℕ) → x ≡ end → Filled end f (replicate 256 x) 0
unfolding sequence
fill_alike x y = rw y (record { size = refl; front = refl })

pub fill_next : {end : ℕ} {f : ℕ → ℕ} {cells before : List ℕ} {k : ℕ} (x : ℕ) → Filled end f before k → k < 254 → cells ≡ set before (k + 2) x → x ≡ f k → Filled end f cells (k + 1)
fill_next {end} {f} {cells} {before} {k} x filled h e y =
    let on : k + 1 + 2 ≡ suc (k + 2) = omega arith in
    let long = filled.size in
    rw e (record {
      size = simp length-set long;
      front = rw (on, take-suc-set before (k + 2) x (omega arith), filled.front, y, add-one k) (ap (λ (l : List ℕ). end ∷ end ∷ l) (rw zero-add at (sequence-snoc f 0 k)));
    })

-- filled up to record k, and the cells after it are 0
pub record FilledTo (end : ℕ) (part : ℕ → ℕ) (cells : List ℕ) (k : ℕ) : Type 0 where
  pub filled : Filled end part cells k
  pub rest : cells ≡ pad_to 256 (take (k + 2) cells)

pub fill_start : {end : ℕ} {f : ℕ → ℕ} {cells : List ℕ} → cells ≡ end ∷ end ∷ replicate 254 0 → FilledTo end f cells 0
unfolding sequence pad_to
fill_start e = rw e (record { filled = record { size = refl; front = refl }; rest = refl })

-- the ends' cells hold a number that is theirs
pub fill_from : {end : ℕ} {f : ℕ → ℕ} {cells : List ℕ} (x y : ℕ) → cells ≡ x ∷ y ∷ replicate 254 0 → x ≡ end → y ≡ end → FilledTo end f cells 0
fill_from x y e p q = fill_start (rw (p, q) at e)

pub fill_on : {end : ℕ} {f : ℕ → ℕ} {cells before : List ℕ} {k : ℕ} (x : ℕ) → FilledTo end f before k → k < 254 → cells ≡ set before (k + 2) x → x ≡ f k → FilledTo end f cells (k + 1)
fill_on {before = before} {k} x to h e y =
    let on : k + 1 + 2 ≡ suc (k + 2) = omega arith in
    let long : length (take (k + 2) before) ≡ k + 2 = length-take (k + 2) before ∙ omega (arith, to.filled.size) in
    let next = pad_next 256 (take (k + 2) before) x (omega (arith, long)) in
    record {
      filled = fill_next x to.filled h e y;
      rest = rw (e, on, take-suc-set before (k + 2) x (omega (arith, to.filled.size))) (ap (λ (l : List ℕ). set l (k + 2) x) to.rest ∙ rw long at next);
    }

-- past the last record are zeros
zeros_past : (f : ℕ → ℕ) (i n j : ℕ) → ((k : ℕ) → i + n ≤ k → f k ≡ 0) → sequence f i n ++ replicate j 0 ≡ sequence f i (n + j)
unfolding sequence
zeros_past f i zero zero none = refl
zeros_past f i zero (suc j) none =
    let all : zero + suc j ≡ suc j = omega arith in
    let later = zeros_past f (suc i) zero j (λ k h. none k (omega arith)) in
    rw (all, none i (omega arith)) (ap (λ (l : List ℕ). 0 ∷ l) (rw zero-add at later))
zeros_past f i (suc n) j none =
    let all : suc n + j ≡ suc (n + j) = omega arith in
    rw all (ap (λ (l : List ℕ). f i ∷ l) (zeros_past f (suc i) n j (λ k h. none k (omega arith))))

pub fill_cleared : {end : ℕ} {f : ℕ → ℕ} {before cells : List ℕ} {n : ℕ} → Filled end f before n → n ≤ 254 → cells ≡ pad_to 256 (take (n + 2) before) → ((k : ℕ) → n ≤ k → f k ≡ 0) → cells ≡ end ∷ end ∷ sequence f 0 254
unfolding pad_to
fill_cleared {end} {f} {n} filled few e none =
    let all : n + (256 - suc (suc n)) ≡ 254 = omega arith in
    e ∙ rw (filled.front, sequence-length f 0 n) (ap (λ (l : List ℕ). end ∷ end ∷ l) (zeros_past f 0 n (256 - suc (suc n)) (λ k h. none k (omega arith)) ∙ rw all refl))

pub fill_end : {end : ℕ} {f : ℕ → ℕ} {cells : List ℕ} {n : ℕ} → FilledTo end f cells n → n ≤ 254 → ((k : ℕ) → n ≤ k → f k ≡ 0) → cells ≡ end ∷ end ∷ sequence f 0 254
fill_end to few none = fill_cleared to.filled few to.rest none

-- ---------------------------------------------------------------------------
-- The array of positions

module _ (v : ℕ) (rs : List Record) where
  pub front-position : (k n : ℕ) → n < k + 2 → get_or (v ∷ v ∷ sequence (λ i. (record_at rs i).position) 0 k) n 0 ≡ position_of v rs n
  unfolding position_of
  front-position k zero h = refl
  front-position k (suc zero) h = refl
  front-position k (suc (suc n)) h = sequence-at (λ i. (record_at rs i).position) 0 k n 0 (omega arith) ∙ rw zero-add

  pub filled_positioned : {cells : List ℕ} {k : ℕ} → Filled v (λ i. (record_at rs i).position) cells k → Positioned v rs cells k
  filled_positioned {cells} {k} filled =
      record { at = λ n h. sym (get_or-take (k + 2) cells n 0 h) ∙ ap (λ (l : List ℕ). get_or l n 0) filled.front ∙ front-position k n h }

-- ---------------------------------------------------------------------------
-- A column

-- the cell of record k
pub column-at : (end : ℕ) (part : Record → ℕ) (rs : List Record) (k : ℕ) → k < 254 → get_or (column end part rs) (k + 2) 0 ≡ part (record_at rs k)
unfolding column
column-at end part rs k l =
    let at : k + 2 ≡ suc (suc k) = omega arith in
    rw at (sequence-at (λ i. part (record_at rs i)) 0 254 k 0 l ∙ rw zero-add)

-- the cells of the ends
pub column-ends : (part : Record → ℕ) (rs : List Record) (n : ℕ) → n < 2 → ◌≡◌ {A = ℕ} (get_or (column 0 part rs) n 0) 0
unfolding column
column-ends part rs zero l = refl
column-ends part rs (suc zero) l = refl
column-ends part rs (suc (suc n)) l = absurd (omega arith)
