-- A list in an array of so many cells, which grows by one.
-- Assumes nothing.
use Prim.Native.Nat.{ℕ, suc, ◌+◌, ◌-◌, ◌≤◌, ◌<◌}
use native.Mathlib.Numerals.{add-one}
use native.Mathlib.Omega.{arith}
use mathlib.Core.Path.{◌≡◌, refl, ap, sym, ◌∙◌}
use mathlib.Core.List.{List, [], ◌∷◌, ◌++◌, append_assoc, append-nil}
use lib.ListN.{length, get_or, set, take, replicate, length-append, length-take, replicate-append-replicate}
use lib.Seq.{set_at, append_snoc, take_at, take-suc-set, get_or-take}
use Rattle.diagram.specs.Table.{sequence}
use Rattle.diagram.proofs.Places.{sequence-length, sequence-snoc}
use Rattle.decoding.specs.Decoding.{pad_to}

-- no cell is used
pub pad_none : (n : ℕ) → pad_to n [] ≡ replicate n 0
unfolding pad_to
pad_none n =
    let all : n - 0 ≡ n = omega arith in
    rw all refl

-- all cells are used
pub pad_full : (n : ℕ) (xs : List ℕ) → length xs ≡ n → pad_to n xs ≡ xs
unfolding pad_to
pad_full n xs e =
    let none : n - length xs ≡ 0 = omega arith in
    rw none (append-nil xs)

-- one cell more that is not used
pub pad_more : (n : ℕ) (xs : List ℕ) → length xs ≤ n → pad_to n xs ++ 0 ∷ [] ≡ pad_to (suc n) xs
unfolding pad_to
pad_more n xs h =
    let room : suc n - length xs ≡ n - length xs + 1 = omega arith in
    rw (room, append_assoc xs (replicate (n - length xs) 0) (0 ∷ [])) (ap (λ (l : List ℕ). xs ++ l) (replicate-append-replicate (n - length xs) 1 0))

-- the front of an array, all of it used
pub pad_front : (cells : List ℕ) (n : ℕ) → n ≤ length cells → take n cells ≡ pad_to n (take n cells)
pad_front cells n h = sym (pad_full n (take n cells) (length-take n cells ∙ omega arith))

-- a zero is written after it
pub pad_on : (cells : List ℕ) (k : ℕ) (xs : List ℕ) → k + 2 < length cells → length xs ≤ k + 2 → take (k + 2) cells ≡ pad_to (k + 2) xs → take (k + 1 + 2) (set cells (k + 2) 0) ≡ pad_to (k + 1 + 2) xs
pad_on cells k xs h short e =
    let on : k + 1 + 2 ≡ suc (k + 2) = omega arith in
    rw (on, take-suc-set cells (k + 2) 0 h, e) (pad_more (k + 2) xs short)

-- one cell more is used
pub pad_next : (n : ℕ) (xs : List ℕ) (x : ℕ) → length xs < n → set (pad_to n xs) (length xs) x ≡ pad_to n (xs ++ x ∷ [])
unfolding pad_to
pad_next n xs x h =
    let room : n - length xs ≡ suc (n - (length xs + 1)) = omega arith in
    rw (room, set_at xs 0 _ x (length xs) refl, append_snoc, length-append) refl

-- the cells used hold the list
pub pad_take : (n : ℕ) (xs : List ℕ) (k : ℕ) → k ≡ length xs → take k (pad_to n xs) ≡ xs
unfolding pad_to
pad_take n xs k e = take_at xs _ k (sym e)

-- a sequence grows
pub pad_sequence : (n : ℕ) (f : ℕ → ℕ) (i p x : ℕ) {before after : List ℕ} → p < n → before ≡ pad_to n (sequence f i p) → after ≡ set before p x → x ≡ f (i + p) → after ≡ pad_to n (sequence f i (p + 1))
pad_sequence n f i p x h b a e =
    let long = sequence-length f i p in
    let next = pad_next n (sequence f i p) x (omega (arith, long)) in
    a ∙ rw (b, add-one p, e, ← sequence-snoc f i p) (rw (long, e) at next)

-- a cell that is used
pub pad_at : (n : ℕ) (xs : List ℕ) (k : ℕ) → k < length xs → get_or (pad_to n xs) k 0 ≡ get_or xs k 0
pad_at n xs k h =
    sym (get_or-take (length xs) (pad_to n xs) k 0 h) ∙ rw (pad_take n xs (length xs) refl) refl
