-- Check 17 by the positions in an array is the meaning's, where the array has the positions of the records before.
-- Assumes nothing.
use Prim.Native.Nat.{ℕ, ◌+◌}
use native.Mathlib.Decide.{dec_lt}
use native.Mathlib.Omega.{arith}
use mathlib.Core.Path.{◌≡◌, refl}
use mathlib.Core.Logic.{by_cases}
use mathlib.Core.List.{List}
use borrow.Author.Tests.{le-ltb}
use Rattle.diagram.specs.Table.{Record}
use Rattle.diagram.specs.Checks.{is_child, is_record_word}
use Rattle.decoding.specs.Nodes.{Positioned}
use Rattle.checking_records.specs.Positioning.{child_by, record_word_by}

module _ {v : ℕ} {rs : List Record} {ps : List ℕ} {k : ℕ} (positioned : Positioned v rs ps k) where
  child_positioned : (p n : ℕ) → child_by ps k p n ≡ is_child v rs k p n
  unfolding child_by is_child
  child_positioned p n =
      by_cases (dec_lt n (k + 2)) (λ h. rw (positioned.at n h) refl) (λ h. rw (le-ltb n (k + 2) (omega arith)) refl)

  pub word_positioned : (w : ℕ) → record_word_by v ps k w ≡ is_record_word v rs k w
  unfolding record_word_by is_record_word
  word_positioned w = rw (child_positioned, child_positioned) refl
