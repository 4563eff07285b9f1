-- Tests on Booleans, and what holds of every element of a list that is made from others, as assignments and completions are.
-- Assumes nothing.
use Prim.Native.Nat.{ℕ, zero, suc}
use native.Mathlib.Omega.{arith}
use mathlib.Core.Path.{◌≡◌, refl, ap, sym, ◌∙◌}
use mathlib.Core.Bool.{Bool, true, false, not, ◌&&◌, ◌||◌, true≢false, false≢true, and_assoc}
use mathlib.Core.Logic.{◌⊎◌, inl, inr}
use mathlib.Core.List.{List, [], ◌∷◌, ◌++◌, map}
use lib.ListN.{length}
use Rattle.diagram.specs.Score.{assignments, every}

-- ---------------------------------------------------------------------------
-- Tests

-- both sides of a conjunction
pub both : (a : Bool) {b : Bool} → (a && b) ≡ true → (a ≡ true) × (b ≡ true)
both true h = (refl, h)
both false h = absurd (false≢true h)

pub and_true_both : (a b : Bool) → a ≡ true → b ≡ true → (a && b) ≡ true
and_true_both true b h k = k
and_true_both false b h k = absurd (false≢true h)

-- the right side of an implication, and the implication from its two sides
pub implied : (a : Bool) {b : Bool} → (not a || b) ≡ true → a ≡ true → b ≡ true
implied true h e = h
implied false h e = absurd (false≢true e)

pub implication : (a b : Bool) → (a ≡ true → b ≡ true) → (not a || b) ≡ true
implication true b h = h refl
implication false b h = refl

-- both sides of a disjunction that does not hold
pub neither : (a : Bool) {b : Bool} → (a || b) ≡ false → (a ≡ false) × (b ≡ false)
neither true h = absurd (true≢false h)
neither false h = (refl, h)

pub both_ways : (a b : Bool) → (a ≡ true → b ≡ true) → (b ≡ true → a ≡ true) → a ≡ b
both_ways true b f g = sym (f refl)
both_ways false true f g = g refl
both_ways false false f g = refl

-- a test holds or does not
pub tested : (b : Bool) → (b ≡ true) ⊎ (b ≡ false)
tested true = inl refl
tested false = inr refl

-- ---------------------------------------------------------------------------
-- Every element

module _ {A : Type 0} (test : A → Bool) where
  pub all-every : ((x : A) → test x ≡ true) → (xs : List A) → every test xs ≡ true
  unfolding every
  all-every h [] = refl
  all-every h (x ∷ xs) = and_true_both (test x) _ (h x) (all-every h xs)

  pub every_append : (xs ys : List A) → every test (xs ++ ys) ≡ (every test xs && every test ys)
  unfolding every
  every_append [] ys = refl
  every_append (x ∷ xs) ys = ap (λ b. test x && b) (every_append xs ys) ∙ sym (and_assoc (test x) (every test xs) (every test ys))

  pub every_map : {B : Type 0} (f : B → A) (xs : List B) → every test (map f xs) ≡ every (λ x. test (f x)) xs
  unfolding every
  every_map f [] = refl
  every_map f (x ∷ xs) = ap (λ b. test (f x) && b) (every_map f xs)

  -- of a list made in two ways from another
  pub every_split : {B : Type 0} (f g : B → A) (xs : List B) → every test (map f xs ++ map g xs) ≡ true → (every (λ x. test (f x)) xs ≡ true) × (every (λ x. test (g x)) xs ≡ true)
  every_split f g xs h = both (every (λ x. test (f x)) xs) (simp (every_append, every_map) at h)

-- ---------------------------------------------------------------------------
-- Every assignment

-- what holds of every assignment of v variables holds of each list of that length
pub each_assignment : (f : List Bool → Bool) (s : List Bool) (v : ℕ) → length s ≡ v → every f (assignments v) ≡ true → f s ≡ true
unfolding assignments every
each_assignment f [] zero e h = (both (f []) h).0
each_assignment f [] (suc v) e h = absurd (omega arith)
each_assignment f (b ∷ s) zero e h = absurd (omega arith)
each_assignment f (true ∷ s) (suc v) e h =
    each_assignment (λ s. f (true ∷ s)) s v (omega arith) (every_split f (λ s. true ∷ s) (λ s. false ∷ s) (assignments v) h).0
each_assignment f (false ∷ s) (suc v) e h =
    each_assignment (λ s. f (false ∷ s)) s v (omega arith) (every_split f (λ s. true ∷ s) (λ s. false ∷ s) (assignments v) h).1
