-- A list copied to an array, number after number, as far as place i. Assumes nothing.
use Prim.Native.Nat.{ℕ, ◌+◌, ◌≤◌, ◌<◌}
use native.Mathlib.Numerals.{add-one}
use native.Mathlib.Omega.{arith}
use mathlib.Core.Path.{◌≡◌, refl, sym, ◌∙◌}
use mathlib.Core.List.{List}
use lib.ListN.{length, get_or, set, take, length-set}
use lib.Seq.{take-suc, take-suc-set, take_all}

-- The array has kept its length, and its first i places hold the first i numbers of the list
pub record Copied (numbers into out : List ℕ) (i : ℕ) : Type 0 where
  pub long : length out ≡ length into
  pub within : i ≤ length into
  pub front : take i out ≡ take i numbers

pub copied_none : (numbers into : List ℕ) → Copied numbers into into 0
copied_none numbers into = record { long = refl; within = omega arith; front = refl }

module _ {numbers into out : List ℕ} {i : ℕ} (copied : Copied numbers into out i) where
  -- one number more, where the number written is the one at the same place
  pub copied_next : {x : ℕ} → x ≡ get_or numbers i 0 → i < length numbers → i < length into → Copied numbers into (set out i x) (i + 1)
  copied_next e h l =
      record {
        long = simp length-set copied.long;
        within = omega arith;
        front = rw (add-one, take-suc-set out i _ (omega (arith, copied.long)), take-suc numbers i 0 h, copied.front, e) refl;
      }

  -- all numbers, at the end
  pub copied_all : length into ≤ i → out ≡ take (length into) numbers
  copied_all end =
      let same : i ≡ length into = omega (arith, copied.within) in
      sym (take_all i out (omega (arith, copied.long, end))) ∙ copied.front ∙ rw same refl

  -- all of a list that is as long as the array
  pub copied_whole : length numbers ≡ length into → length into ≤ i → out ≡ numbers
  copied_whole size end = copied_all end ∙ take_all (length into) numbers (omega (arith, size))
