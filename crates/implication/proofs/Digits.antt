-- One binary digit of a number, set by adding its power of 2 or by `or` with it. Assumes nothing.
use Prim.Native.Nat.{ℕ, ◌+◌, ◌-◌, ◌*◌, ◌/◌, ◌%◌, ◌^◌}
use native.Mathlib.Decide.{dec_lt}
use native.Mathlib.Nat.{add-div_right, add-mul-div_right, mod-lt}
use native.Mathlib.Omega.{arith}
use mathlib.Core.Path.{◌≡◌, ap, ap₂, sym, ◌∙◌}
use mathlib.Core.Logic.{by_cases}
use lib.Bits.{bit_and, bit_or, and_zero_r, and_mask, and_block, or_disjoint}
use lib.Pow.{pow_pos, pow-add, shl_exact, shr-shr, split}

-- the digits past the k-th
past : (x k d : ℕ) → x / 2 ^ (k + 1 + d) ≡ x / 2 ^ k / 2 / 2 ^ d
past x k d = sym (shr-shr x (k + 1) d) ∙ ap (λ (y : ℕ). y / 2 ^ d) (sym (shr-shr x k 1))

-- a power of 2 by a smaller one
power : (j d : ℕ) → 2 ^ (j + 1 + d) ≡ 2 ^ d * 2 * 2 ^ j
power j d =
    let e : 2 ^ (j + 1) ≡ 2 ^ j * 2 = pow-add 2 j 1 in
    pow-add 2 (j + 1) d ∙ rw e (omega arith)

-- a power of 2 as a shift makes it
pub shifted_one : (k : ℕ) → 1 * 2 ^ (k % 64) % 2 ^ 64 ≡ 2 ^ (k % 64)
shifted_one k = shl_exact 1 (k % 64) 64 (omega arith) (omega arith) ∙ omega arith

-- the k-th digit of w is 0
module _ (w k : ℕ) (clear : w / 2 ^ k % 2 ≡ 0) where
  from-here : (w + 2 ^ k) / 2 ^ k ≡ w / 2 ^ k + 1
  from-here = add-div_right w (pow_pos k)

  pub set_here : (w + 2 ^ k) / 2 ^ k % 2 ≡ 1
  set_here = rw from-here (omega (arith, clear))

  half : (w + 2 ^ k) / 2 ^ k / 2 ≡ w / 2 ^ k / 2
  half = rw from-here (omega (arith, clear))

  later : (d : ℕ) → (w + 2 ^ k) / 2 ^ (k + 1 + d) ≡ w / 2 ^ (k + 1 + d)
  later d = past (w + 2 ^ k) k d ∙ ap (λ (y : ℕ). y / 2 ^ d) half ∙ sym (past w k d)

  earlier : (j d : ℕ) → k ≡ j + 1 + d → (w + 2 ^ k) / 2 ^ j % 2 ≡ w / 2 ^ j % 2
  earlier j d e =
      let more : (w + 2 ^ k) / 2 ^ j ≡ w / 2 ^ j + 2 ^ d * 2 = rw (e, power j d) (add-mul-div_right w (2 ^ d * 2) (pow_pos j)) in
      rw more (omega arith)

  pub set-others : (j : ℕ) → (j ≡ k → ⊥) → (w + 2 ^ k) / 2 ^ j % 2 ≡ w / 2 ^ j % 2
  set-others j other =
      by_cases (dec_lt j k)
      (λ l. earlier j (k - (j + 1)) (omega arith))
      (λ l.
      let e : j ≡ k + 1 + (j - (k + 1)) = omega (arith, other) in
      rw e (ap (λ (y : ℕ). y % 2) (later (j - (k + 1)))))

  -- so that it is set by `or` as by adding
  and_clear : bit_and w (2 ^ k) ≡ 0
  and_clear =
      let one : 2 ^ k ≡ 1 * 2 ^ k + 0 = omega arith in
      let digit : bit_and (w / 2 ^ k) 1 ≡ w / 2 ^ k % 2 = and_mask (w / 2 ^ k) 1 in
      ap₂ bit_and (sym (split w k)) one ∙ and_block k (w / 2 ^ k) 1 (w % 2 ^ k) 0 (mod-lt w (pow_pos k)) (pow_pos k) ∙ rw (digit, clear, and_zero_r (w % 2 ^ k)) (omega arith)

  pub or_adds : bit_or w (2 ^ k) ≡ w + 2 ^ k
  or_adds = or_disjoint w (2 ^ k) and_clear
