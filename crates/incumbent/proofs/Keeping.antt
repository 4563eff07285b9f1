-- What a search holds, in tests over plain numbers and marks: whether a visit goes back, which of two plans ranks first, and what is kept. Assumes nothing.
use Prim.Native.Nat.{ℕ, ◌+◌, ◌<◌}
use native.Mathlib.Numerals.{add-one}
use native.Mathlib.Omega.{arith}
use mathlib.Core.Path.{◌≡◌, refl}
use mathlib.Core.Bool.{Bool, false, cond, or-false}
use mathlib.Core.Logic.{◌⊎◌, inl, inr}
use mathlib.Core.List.{List, [], ◌∷◌}
use lib.ListN.{length, get_or, drop}
use lib.Dec.{eqb, ltb}
use lib.Seq.{drop-cons}
use borrow.Author.Tests.{le-ltb, eq-eqb, ne_eqb}
use Rattle.diagram.specs.Ranking.{takes_first}
use Rattle.incumbent.specs.Ranks.{ranks_over}

-- ---------------------------------------------------------------------------
-- The ranking of two plans

module _ (x c : ℕ) (p : List ℕ) (y d : ℕ) (q : List ℕ) {r : Bool} where
  -- the higher of two scores that differ ranks first
  pub ranks_score : (x ≡ y → ⊥) → r ≡ ltb y x → r ≡ ranks_over x c p y d q
  unfolding ranks_over
  ranks_score f e = simp (ne_eqb x y f, or-false) e

  -- of equal scores, the larger of two rooms that differ
  pub ranks_room : x ≡ y → (c ≡ d → ⊥) → r ≡ ltb d c → r ≡ ranks_over x c p y d q
  unfolding ranks_over
  ranks_room e f g = simp (le-ltb y x (omega arith), eq-eqb x y e, ne_eqb c d f, or-false) g

  -- of equal scores and rooms, the plan that takes the first line where they differ
  pub ranks_lines : x ≡ y → c ≡ d → r ≡ takes_first p q → r ≡ ranks_over x c p y d q
  unfolding ranks_over
  ranks_lines e f g = simp (le-ltb y x (omega arith), eq-eqb x y e, le-ltb d c (omega arith), eq-eqb c d f) g

module _ (p q : List ℕ) (i : ℕ) (h : i < length p) (k : i < length q) {m n : ℕ} (e : m ≡ get_or p i 0) (f : n ≡ get_or q i 0) where
  -- which of two plans comes first, from line i on
  first_cons : takes_first (drop i p) (drop i q) ≡ cond (eqb m n) (takes_first (drop (i + 1) p) (drop (i + 1) q)) (eqb m 1)
  unfolding takes_first
  first_cons = rw (add-one, drop-cons p i 0 h, drop-cons q i 0 k, e, f) refl

  -- where two plans differ, the one that takes the line comes first
  pub first-here : {r : Bool} → (m ≡ n → ⊥) → r ≡ eqb m 1 → takes_first (drop i p) (drop i q) ≡ r
  first-here d g = rw (g, first_cons, ne_eqb m n d) refl

  -- where they do not, the rest tells
  pub first_next : m ≡ n → takes_first (drop i p) (drop i q) ≡ takes_first (drop (i + 1) p) (drop (i + 1) q)
  first_next d = rw (first_cons, eq-eqb m n d) refl

-- after the last line nothing tells two plans apart
pub first_end : (p q : List ℕ) → (length p ≡ 0) ⊎ (length q ≡ 0) → takes_first p q ≡ false
unfolding takes_first
first_end [] q h = refl
first_end (m ∷ p) [] h = refl
first_end (m ∷ p) (n ∷ q) (inl e) = absurd (omega arith)
first_end (m ∷ p) (n ∷ q) (inr e) = absurd (omega arith)
