-- How the sum over settlings goes by the first variable, and the bounds of a score that follow.
-- Assumes of the variables, for the bounds, what check 14 finds: see `BoundedShares`.
use Prim.Native.Nat.{ℕ, ◌+◌, ◌-◌, ◌*◌, ◌≤◌}
use native.Mathlib.Nat.{le_refl, add-sub_of_le, one-le-mul, mul-le-mul_left}
use native.Mathlib.Omega.{arith}
use mathlib.Core.Path.{◌≡◌, refl, ap, ap₂, fun_ext}
use mathlib.Core.Bool.{Bool, true, false, cond}
use mathlib.Core.List.{List, [], ◌∷◌, ◌++◌, map, tail, map-map, map-append}
use lib.ListN.{get_or}
use Rattle.diagram.specs.Table.{Variable, choice, chance, Root, Table, scale_of, total_reward, scale}
use Rattle.diagram.specs.Score.{is_taken, settlings, weight, sum, total, score_from, rewarded, score}
use Rattle.diagram.specs.Validity.{BoundedShares, no_shares, choice-shares, chance-shares}

-- ---------------------------------------------------------------------------
-- Sums

sum-append : (xs ys : List ℕ) → sum (xs ++ ys) ≡ sum xs + sum ys
unfolding sum
sum-append [] ys = omega arith
sum-append (x ∷ xs) ys = omega (arith, sum-append xs ys)

cond_times : (w : ℕ) (b : Bool) (x : ℕ) → cond b (w * x) 0 ≡ w * cond b x 0
cond_times w true x = refl
cond_times w false x = omega arith

-- a factor of every weight is one of the sum
sum_times : (w : ℕ) (f : List Bool → Bool) (g : List Bool → ℕ) (ss : List (List Bool)) → sum (map (λ s. cond (f s) (w * g s) 0) ss) ≡ w * sum (map (λ s. cond (f s) (g s) 0) ss)
unfolding sum
sum_times w f g [] = omega arith
sum_times w f g (s ∷ ss) = omega (arith, cond_times w (f s) (g s), sum_times w f g ss)

-- ---------------------------------------------------------------------------
-- Sums over roots, however many

-- one number at every node comes to the total reward times it
pub rewarded-all : (x : ℕ) (rs : List Root) → rewarded (λ _. x) rs ≡ total_reward rs * x
unfolding rewarded total_reward
rewarded-all x [] = omega arith
rewarded-all x (r ∷ rs) = omega (arith, rewarded-all x rs)

pub rewarded-same : (f g : ℕ → ℕ) (rs : List Root) → ((n : ℕ) → f n ≡ g n) → rewarded f rs ≡ rewarded g rs
rewarded-same f g rs h = ap (λ (z : ℕ → ℕ). rewarded z rs) (fun_ext h)

pub rewarded-le : (f g : ℕ → ℕ) (rs : List Root) → ((n : ℕ) → f n ≤ g n) → rewarded f rs ≤ rewarded g rs
unfolding rewarded
rewarded-le f g [] h = le_refl 0
rewarded-le f g (r ∷ rs) h = omega (arith, mul-le-mul_left r.reward (h r.node), rewarded-le f g rs h)

-- ---------------------------------------------------------------------------
-- The first variable

pub total_nil : (p : List ℕ) (f : List Bool → Bool) → total [] p f ≡ cond (f []) 1 0
unfolding total settlings weight sum
total_nil p f = omega arith

pub total-choice : (vs : List Variable) (p : List ℕ) (f : List Bool → Bool) → total (choice ∷ vs) p f ≡ total vs (tail p) (λ s. f (is_taken (get_or p 0 0) ∷ s))
unfolding total settlings weight
total-choice vs p f = ap sum (map-map _ _ (settlings vs (tail p)))

pub total-chance : (a b : ℕ) (vs : List Variable) (p : List ℕ) (f : List Bool → Bool) → total (chance a b ∷ vs) p f ≡ a * total vs p (λ s. f (true ∷ s)) + (b - a) * total vs p (λ s. f (false ∷ s))
unfolding total settlings weight
total-chance a b vs p f =
    rw (map-append, sum-append, map-map, map-map)
    (ap₂ ◌+◌ (sum_times a (λ s. f (true ∷ s)) (weight vs) (settlings vs p)) (sum_times (b - a) (λ s. f (false ∷ s)) (weight vs) (settlings vs p)))

pub total-same : (vs : List Variable) (p : List ℕ) (f g : List Bool → Bool) → ((s : List Bool) → f s ≡ g s) → total vs p f ≡ total vs p g
total-same vs p f g h = ap (total vs p) (fun_ext h)

-- ---------------------------------------------------------------------------
-- "It runs from 0 to B"

pub total-le : {vs : List Variable} → BoundedShares vs → (p : List ℕ) (f : List Bool → Bool) → total vs p f ≤ scale_of vs
unfolding scale_of
total-le no_shares p f = rw total_nil (go (f []))
  where
    go : (b : Bool) → cond b 1 0 ≤ 1
    go true = omega arith
    go false = omega arith
total-le (choice-shares h) p f = rw total-choice (total-le h (tail p) _)
total-le (chance-shares {a} {b} {vs} ab b1 h) p f =
    let held = mul-le-mul_left a (total-le h p (λ s. f (true ∷ s))) in
    let not-held = mul-le-mul_left (b - a) (total-le h p (λ s. f (false ∷ s))) in
    rw total-chance (omega (arith, ap (λ (z : ℕ). z * scale_of vs) (add-sub_of_le ab)))

pub score-le-scale : (t : Table) → BoundedShares t.variables → (p : List ℕ) → score t p ≤ scale t
unfolding score score_from scale
score-le-scale t h p = rw (← rewarded-all (scale_of t.variables) t.roots) (rewarded-le _ _ t.roots (λ n. total-le h p _))

pub scale-positive : {vs : List Variable} → BoundedShares vs → 1 ≤ scale_of vs
unfolding scale_of
scale-positive no_shares = le_refl 1
scale-positive (choice-shares h) = scale-positive h
scale-positive (chance-shares ab b1 h) = one-le-mul b1 (scale-positive h)
