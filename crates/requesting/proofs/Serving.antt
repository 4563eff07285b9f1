-- What any service leaves in its buffer: what it was where the request is refused, and the answer's part where it is answered.
-- Assumes nothing.
use Prim.Native.Nat.{ℕ}
use mathlib.Core.Path.{◌≡◌, refl, sym}
use mathlib.Core.List.{List}
use Rattle.diagram.specs.Services.{Outcome, refused, answered, written}

module _ {A : Type 0} (part : A → List ℕ) (held : List ℕ) {o : Outcome A} where
  -- a refused request leaves the buffer as it was
  pub kept : (n i : ℕ) → o ≡ refused n i → (refused n i ≡ o) × (held ≡ written part o held)
  unfolding written
  kept n i e = (sym e, rw e refl)

  -- an answered one writes its part
  pub filled : (a : A) → o ≡ answered a → (answered a ≡ o) × (part a ≡ written part o held)
  unfolding written
  filled a e = (sym e, rw e refl)
