-- The losses summed up by position, as a loop over the records has them before each turn.
-- Assumes of the arrays, where a law says so, that the sums fit (`Losing`).
use Prim.Native.Nat.{ℕ, zero, suc, ◌+◌, ◌*◌, ◌≤◌, ◌<◌, ◌^◌}
use native.Mathlib.Nat.{zero-add, eq-or-lt_of_le}
use native.Mathlib.Numerals.{add-one}
use native.Mathlib.Decide.{ℕ_discrete}
use native.Mathlib.Omega.{arith}
use mathlib.Core.Path.{◌≡◌, refl, sym, ◌∙◌}
use mathlib.Core.Bool.{true, false, and-false}
use mathlib.Core.Logic.{◌≢◌, ⊎_elim, by_cases}
use mathlib.Core.List.{List}
use lib.ListN.{length, get_or, set, replicate, length-set, get_or-replicate}
use lib.Seq.{get_or-set_same, get_or-set_other, ext_get_or}
use lib.Dec.{eqb}
use borrow.Author.Tests.{eq-eqb, ne_eqb}
use Rattle.diagram.proofs.Places.{sequence-length, sequence-at}
use Rattle.derivatives.specs.Drops.{Lossy, loss_at, opens_at, loss_sum, loss_sums, Losing}

-- ---------------------------------------------------------------------------
-- A sum, record after record

module _ (a : Lossy) (x : ℕ) where
  -- an open choice's record at x adds its loss
  sum_open : (k : ℕ) → opens_at a x k ≡ true → loss_sum a x (k + 1) ≡ loss_sum a x k + loss_at a k
  unfolding loss_sum
  sum_open k e = rw (add-one k, e)

  -- any other record adds nothing
  sum_other : (k : ℕ) → opens_at a x k ≡ false → loss_sum a x (k + 1) ≡ loss_sum a x k
  unfolding loss_sum
  sum_other k e = rw (add-one k, e) (omega arith)

  -- a partial sum is at most the whole
  sum-le : (k n : ℕ) → k ≤ n → loss_sum a x k ≤ loss_sum a x n
  unfolding loss_sum
  sum-le k zero h =
      let none : k ≡ 0 = omega arith in
      rw none (omega arith)
  sum-le k (suc n) h =
      ⊎_elim
      (λ e. rw e (omega arith))
      (λ l. omega (arith, sum-le k n (omega arith)))
      (eq-or-lt_of_le {n = k} {m = suc n} h)

-- ---------------------------------------------------------------------------
-- The sums of the first k records, by position

pub record Summed (a : Lossy) (k : ℕ) (drops : List ℕ) : Type 0 where
  pub size : length drops ≡ 64
  pub each : (x : ℕ) → x < 64 → get_or drops x 0 ≡ loss_sum a x k

-- before the first turn
pub summed_start : (a : Lossy) → Summed a 0 (replicate 64 0)
unfolding loss_sum
summed_start a = record { size = refl; each = λ x l. get_or-replicate 64 x 0 0 l }

-- after the last
pub summed_end : {a : Lossy} {n : ℕ} {drops : List ℕ} → Summed a n drops → drops ≡ loss_sums a n
summed_end {a} {n} {drops} s =
    let size = s.size in
    let sum : ℕ → ℕ = λ x. loss_sum a x n in
    ext_get_or 0 drops _ (size ∙ sym (sequence-length sum 0 64))
    (λ i l. rw (sequence-at sum 0 64 i 0 (omega arith), zero-add) (s.each i (omega arith)))

-- ---------------------------------------------------------------------------
-- A turn: record k has the node m, its position is p, and the mark there is o

module _ {a : Lossy} {n : ℕ} (h : Losing a n) {k m p o : ℕ} (l : k < n) (d : m ≡ k + 2) (e : p ≡ get_or a.positions m 0) (g : o ≡ get_or a.marks p 0) where
  -- the position has a cell
  pub position-within : p < 64
  position-within = rw e (h.within m)

  -- with an open mark the record counts at its position
  opens_here : o ≡ 0 → opens_at a p k ≡ true
  unfolding opens_at
  opens_here z = rw (← d, ← e, ← g, eq-eqb p p refl, eq-eqb o 0 z)

  -- and at no other
  opens_other : (x : ℕ) → p ≢ x → opens_at a x k ≡ false
  unfolding opens_at
  opens_other x u = rw (← d, ← e, ne_eqb p x u)

  -- with a closed mark it counts nowhere
  opens_shut : (x : ℕ) → o ≢ 0 → opens_at a x k ≡ false
  unfolding opens_at
  opens_shut x u = rw (← d, ← e, ← g, ne_eqb o 0 u) (and-false (eqb p x))

  -- a record whose mark is closed changes no sum
  pub summed_shut : {drops : List ℕ} → Summed a k drops → o ≢ 0 → Summed a (k + 1) drops
  summed_shut s u = record { size = s.size; each = λ x b. s.each x b ∙ sym (sum_other a x k (opens_shut x u)) }

  module _ (z : o ≡ 0) where
    -- the sum with the record's loss fits
    sum_fits : loss_sum a p k + loss_at a k ≤ 2 ^ 56
    sum_fits = omega (arith, sum_open a p k (opens_here z), sum-le a p (k + 1) n (omega arith), h.sums p)

    -- and so does the loss
    pub loss_fits : get_or a.paths (k + 2) 0 * get_or a.losses (k + 2) 0 < 2 ^ 64
    unfolding loss_at
    loss_fits = omega (arith, sum_fits)

    module _ {drops : List ℕ} (s : Summed a k drops) {x : ℕ} (w : x ≡ get_or a.paths (k + 2) 0 * get_or a.losses (k + 2) 0) where
      loss_here : x ≡ loss_at a k
      unfolding loss_at
      loss_here = w

      -- the sum in the cell, with the loss x, fits
      pub cell-fits : get_or drops p 0 + x < 2 ^ 64
      cell-fits = omega (arith, sum_fits, loss_here, s.each p position-within)

      -- a record whose mark is open adds its loss to the cell of its position
      pub summed_open : Summed a (k + 1) (set drops p (get_or drops p 0 + x))
      summed_open =
          let size = s.size in
          record {
            size = simp length-set size;
            each = λ y b.
                by_cases (ℕ_discrete p y)
                (λ q. rw (← q) (get_or-set_same drops p (get_or drops p 0 + x) 0 (omega (arith, position-within)) ∙ omega (arith, s.each p position-within, loss_here, sum_open a p k (opens_here z))))
                (λ q. get_or-set_other drops p y (get_or drops p 0 + x) 0 (λ r. q (sym r)) ∙ s.each y b ∙ sym (sum_other a y k (opens_other y q)));
          }
