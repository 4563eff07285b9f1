-- A list written over the front of another, element after element, and lists by node number so written.
-- Assumes nothing.
use Prim.Native.Nat.{ℕ, suc, ◌+◌, ◌≤◌, ◌<◌}
use native.Mathlib.Nat.{zero-add}
use native.Mathlib.Numerals.{add-one}
use native.Mathlib.Omega.{arith}
use mathlib.Core.Path.{◌≡◌, refl, ap, ◌∙◌}
use mathlib.Core.List.{List, [], ◌∷◌, ◌++◌}
use lib.ListN.{length, get_or, set, drop, length-append, length-drop, get_or-append}
use lib.Seq.{drop-cons, append_snoc, set_at, drop-set-lt}
use Rattle.diagram.specs.Table.{sequence}
use Rattle.diagram.proofs.Places.{sequence-length, sequence-at, sequence-snoc}
use Rattle.arrays.specs.Arrays.{over, by_node}

-- ---------------------------------------------------------------------------
-- Any list

pub over-get_or : (new old : List ℕ) (i : ℕ) → i < length new → get_or (over new old) i 0 ≡ get_or new i 0
unfolding over
over-get_or new old i h = get_or-append new _ 0 i h

pub over-length : (new old : List ℕ) → length new ≤ length old → length (over new old) ≡ length old
unfolding over
over-length new old h = simp (length-append, length-drop) (omega arith)

pub over-next : (new old : List ℕ) (n x : ℕ) → length new ≡ n → n < length old → set (over new old) n x ≡ over (new ++ x ∷ []) old
unfolding over
over-next new old n x e h =
    let on : length (new ++ x ∷ []) ≡ suc n = rw (length-append, e) (omega arith) in
    rw (on, e, drop-cons old n 0 h, set_at new (get_or old n 0) (drop (suc n) old) x n e, append_snoc)

-- what stood at the first two places does not matter
pub over-ends : (new old : List ℕ) (x y : ℕ) → 2 ≤ length new → over new (set (set old 0 x) 1 y) ≡ over new old
unfolding over
over-ends new old x y h =
    rw (drop-set-lt (length new) (set old 0 x) 1 y (omega arith), drop-set-lt (length new) old 0 x (omega arith))

-- ---------------------------------------------------------------------------
-- Sequences, and lists by node number

module _ (f : ℕ → ℕ) where
  pub over-sequence-at : (old : List ℕ) (n k : ℕ) → k < n → get_or (over (sequence f 0 n) old) k 0 ≡ f k
  over-sequence-at old n k h =
      over-get_or (sequence f 0 n) old k (omega (arith, sequence-length f 0 n)) ∙ sequence-at f 0 n k 0 h ∙ ap f (zero-add k)

  pub by_node-length : (n : ℕ) → length (by_node f n) ≡ n + 2
  unfolding by_node
  by_node-length n = omega (arith, sequence-length f 0 n)

  by_node-snoc : (n : ℕ) → by_node f n ++ (f n ∷ []) ≡ by_node f (suc n)
  unfolding by_node
  by_node-snoc n = ap (λ (l : List ℕ). 0 ∷ 0 ∷ l) (rw zero-add at (sequence-snoc f 0 n))

  -- the cell of record k is written after those before it
  pub over-by_node : (old : List ℕ) (k : ℕ) → k + 2 < length old → set (over (by_node f k) old) (k + 2) (f k) ≡ over (by_node f (k + 1)) old
  over-by_node old k h = rw (add-one k, ← by_node-snoc k) (over-next (by_node f k) old (k + 2) (f k) (by_node-length k) h)

  pub over-at : (old : List ℕ) (n k : ℕ) → k < n → get_or (over (by_node f n) old) (k + 2) 0 ≡ f k
  unfolding by_node
  over-at old n k h =
      let two : k + 2 ≡ suc (suc k) = omega arith in
      over-get_or (0 ∷ 0 ∷ sequence f 0 n) old (k + 2) (omega (arith, sequence-length f 0 n)) ∙ rw (two, sequence-at f 0 n k 0 h) (ap f (zero-add k))

-- ---------------------------------------------------------------------------
-- An array written from the front

module _ (f : ℕ → ℕ) (old : List ℕ) where
  pub write_none : old ≡ over (sequence f 0 0) old
  unfolding over sequence
  write_none = refl

  pub write_next : {k x : ℕ} {cells : List ℕ} → k < length old → cells ≡ over (sequence f 0 k) old → x ≡ f k → set cells k x ≡ over (sequence f 0 (k + 1)) old
  write_next {k} h e ex =
      rw (add-one k, ← sequence-snoc f 0 k, zero-add k, e, ex) (over-next (sequence f 0 k) old k (f k) (sequence-length f 0 k) h)

  pub write_all : {k n : ℕ} {cells : List ℕ} → k ≤ n → n ≤ k → cells ≡ over (sequence f 0 k) old → cells ≡ over (sequence f 0 n) old
  write_all {k} {n} h l e =
      let end : k ≡ n = omega arith in
      e ∙ rw end refl
