-- The visit rule over any bound. What is held after a visit is the first among what was held and all candidates that complete the visited plan, and a visit
-- with n open lines counts at most 2^(n+1) - 1 visits.
-- Assumes for what is held that the parts of the rule bound as `Bounding` says, and for the count nothing.
use Prim.Native.Nat.{ℕ, zero, suc, ◌+◌, ◌≤◌, ◌^◌}
use native.Mathlib.Nat.{pow-suc}
use native.Mathlib.Omega.{arith}
use mathlib.Core.Path.{◌≡◌, refl, sym}
use mathlib.Core.Logic.{◌⊎◌, inl, inr, ⊎_elim}
use mathlib.Core.Bool.{Bool, true, false, cond, not, ◌||◌, true≢false, false≢true}
use mathlib.Core.List.{List, [], ◌∷◌, foldl, foldl-append, foldl-map}
use mathlib.Core.Option.{Option, none, some}
use lib.ListN.{set}
use lib.Dec.{ltb, leb}
use lib.Pow.{pow_pos}
use borrow.Author.Tests.{ltb-true, ltb-false, leb-true, le-ltb, le-leb, not-false}
use Rattle.diagram.specs.Plans.{completions, open_count, Completes, complete, takes, leaves_open, keeps}
use Rattle.diagram.specs.Ranking.{select}
use Rattle.diagram.specs.Visits.{Tally, lowest_open}
use Rattle.diagram.proofs.Every.{both, neither, tested}
use Rattle.rule.specs.Rule.{Terms, Bounding, beaten, goes_back, worthwhile, rule, candidate}
use Rattle.rule.proofs.Opening.{open_count-set, completions_split, completions_full}

-- ---------------------------------------------------------------------------
-- Tests

-- ---------------------------------------------------------------------------
-- One visit

-- a visit that goes back only counts
pub rule_back : (n : ℕ) (z : Terms) (p : List ℕ) (w : Tally) → goes_back z p w.held ≡ true → rule n z p w ≡ record { held = w.held; visits = suc w.visits }
unfolding rule
rule_back zero z p w e = rw (e, rule) refl
rule_back (suc n) z p w e = rw (e, rule) refl

-- a visit with no line open that does not go back keeps one of what is held and the plan
pub rule_full : (z : Terms) (p : List ℕ) (w : Tally) → goes_back z p w.held ≡ false → rule 0 z p w ≡ record { held = z.keep w.held p; visits = suc w.visits }
unfolding rule
rule_full z p w e = rw (e, rule) refl

-- any other ends after the visit with the lowest open line taken, if the one with it left is not worthwhile then
pub rule-taken : (n : ℕ) (z : Terms) (p : List ℕ) (w : Tally) → goes_back z p w.held ≡ false → worthwhile z (set p (lowest_open p) 2) (rule n z (set p (lowest_open p) 1) (record { held = w.held; visits = suc w.visits })).held ≡ false → rule (suc n) z p w ≡ rule n z (set p (lowest_open p) 1) (record { held = w.held; visits = suc w.visits })
unfolding rule
rule-taken n z p w e f = rw (e, f, rule) refl

-- and if it is, after both visits
pub rule-both : (n : ℕ) (z : Terms) (p : List ℕ) (w : Tally) → goes_back z p w.held ≡ false → worthwhile z (set p (lowest_open p) 2) (rule n z (set p (lowest_open p) 1) (record { held = w.held; visits = suc w.visits })).held ≡ true → rule (suc n) z p w ≡ rule n z (set p (lowest_open p) 2) (rule n z (set p (lowest_open p) 1) (record { held = w.held; visits = suc w.visits }))
unfolding rule
rule-both n z p w e f = rw (e, f, rule) refl

-- ---------------------------------------------------------------------------
-- All visits

-- The tally with the visit itself counted, and after the visit with the lowest open line taken
abbrev counted : Tally → Tally
counted w = record { held = w.held; visits = suc w.visits }

abbrev taken : ℕ → Terms → List ℕ → Tally → Tally
taken n z p w = rule n z (set p (lowest_open p) 1) (counted w)

-- What holds of every visit, by the four ways in which a visit goes. P n p w u speaks of a visit of plan p with n lines open that finds w and leaves u.
module _ (z : Terms)
    (P : ℕ → List ℕ → Tally → Tally → Type 0)
    (back : (n : ℕ) (p : List ℕ) (w : Tally) → goes_back z p w.held ≡ true → P n p w (counted w))
    (full : (p : List ℕ) (w : Tally) → goes_back z p w.held ≡ false → P 0 p w (record { held = z.keep w.held p; visits = suc w.visits }))
    (one : (n : ℕ) (p : List ℕ) (w u : Tally) → P n (set p (lowest_open p) 1) (counted w) u → worthwhile z (set p (lowest_open p) 2) u.held ≡ false → P (suc n) p w u)
    (two : (n : ℕ) (p : List ℕ) (w u v : Tally) → P n (set p (lowest_open p) 1) (counted w) u → P n (set p (lowest_open p) 2) u v → P (suc n) p w v) where
  each_visit : (n : ℕ) (p : List ℕ) (w : Tally) → P n p w (rule n z p w)
  each_visit zero p w =
      ⊎_elim
      (λ e. rw (rule_back 0 z p w e) (back 0 p w e))
      (λ e. rw (rule_full z p w e) (full p w e))
      (tested (goes_back z p w.held))
  each_visit (suc n) p w =
      ⊎_elim
      (λ e. rw (rule_back (suc n) z p w e) (back (suc n) p w e))
      (λ e.
      ⊎_elim
      (λ f. rw (rule-both n z p w e f) (two n p w _ _ (each_visit n _ (counted w)) (each_visit n _ (taken n z p w))))
      (λ f. rw (rule-taken n z p w e f) (one n p w _ (each_visit n _ (counted w)) f))
      (tested (worthwhile z (set p (lowest_open p) 2) (taken n z p w).held)))
      (tested (goes_back z p w.held))

-- a visit with n open lines counts at most 2^(n+1) - 1 visits
pub rule-visits : (n : ℕ) (z : Terms) (p : List ℕ) (w : Tally) → (rule n z p w).visits + 1 ≤ w.visits + 2 ^ suc n
rule-visits n z =
    each_visit
    z
    (λ n p w u. u.visits + 1 ≤ w.visits + 2 ^ suc n)
    (λ n p w e. omega (arith, pow-suc 2 n, pow_pos n))
    (λ p w e. omega arith)
    (λ n p w u h e. omega (arith, pow-suc 2 (suc n), pow_pos (suc n)))
    (λ n p w u v h k. omega (arith, pow-suc 2 (suc n)))
    n

-- ---------------------------------------------------------------------------
-- Folds over completions

-- to fold what a test selects is to fold all with the test
fold_select : {A B : Type 0} (f : B → A → B) (test : A → Bool) (b : B) (xs : List A) → foldl f b (select test xs) ≡ foldl (λ b x. cond (test x) (f b x) b) b xs
unfolding select
fold_select f test b [] = refl
fold_select f test b (x ∷ xs) =
    ⊎_elim (λ e. rw e (fold_select f test (f b x) xs)) (λ e. rw e (fold_select f test b xs)) (tested (test x))

-- a fold stays at b where no completion moves it from there
fold_same : {B : Type 0} (f : B → List ℕ → B) (b : B) (p : List ℕ) → ((c : List ℕ) → Completes p c → f b c ≡ b) → foldl f b (completions p) ≡ b
unfolding completions
fold_same f b [] h = h [] complete
fold_same f b (zero ∷ p) h =
    simp (
      foldl-append,
      foldl-map,
      fold_same (λ b c. f b (1 ∷ c)) b p (λ c k. h _ (takes k)),
      fold_same (λ b c. f b (2 ∷ c)) b p (λ c k. h _ (leaves_open k)),
    )
fold_same f b (suc m ∷ p) h = rw foldl-map (fold_same (λ b c. f b (suc m ∷ c)) b p (λ c k. h _ (keeps k)))

-- ---------------------------------------------------------------------------
-- What is held

-- What is held after a full plan is met, where h was
abbrev offer : Terms → Option (List ℕ) → List ℕ → Option (List ℕ)
offer z h c = cond (candidate z c) (z.keep h c) h

-- No candidate that completes p is kept where h is held
abbrev Lost : Terms → List ℕ → Option (List ℕ) → Type 0
Lost z p h = (c : List ℕ) → Completes p c → candidate z c ≡ true → z.keep h c ≡ h

-- then all completions leave what is held
lost-same : (z : Terms) (p : List ℕ) (h : Option (List ℕ)) → Lost z p h → foldl (offer z) h (completions p) ≡ h
lost-same z p h l = fold_same (offer z) h p (λ c k. ⊎_elim (λ e. rw e (l c k e)) (λ e. rw e) (tested (candidate z c)))

module _ {z : Terms} (parts : Bounding z) where
  -- a plan that a candidate completes has a bound that passes and a cost within the budget
  bound-passes : {p c : List ℕ} → Completes p c → candidate z c ≡ true → z.passes (z.bound p) ≡ true
  unfolding candidate
  bound-passes {c} k e = parts.rises (parts.bounds k) (both (leb (z.cost c) z.budget) e).1

  within-budget : {p c : List ℕ} → Completes p c → candidate z c ≡ true → ltb z.budget (z.cost p) ≡ false
  unfolding candidate
  within-budget {p} {c} k e =
      let l = leb-true (z.cost c) z.budget (both (leb (z.cost c) z.budget) e).0 in
      le-ltb z.budget (z.cost p) (omega (arith, parts.costs k))

  -- no completion is kept where the bound is less than the score of the plan held
  beaten-same : {p c : List ℕ} (h : Option (List ℕ)) → beaten z h (z.bound p) ≡ true → Completes p c → z.keep h c ≡ h
  unfolding beaten
  beaten-same none e k = absurd (false≢true e)
  beaten-same {p} {c} (some b) e k = parts.holds b c (omega (arith, parts.bounds k, ltb-true (z.bound p) (z.score b) e))

  -- a visit that goes back, or that is not worthwhile, would keep nothing
  back_lost : (p : List ℕ) (h : Option (List ℕ)) → goes_back z p h ≡ true → Lost z p h
  unfolding goes_back
  back_lost p h g c k e = beaten-same h (rw (within-budget k e, bound-passes k e) at g) k

  left-lost : (p : List ℕ) (h : Option (List ℕ)) → worthwhile z p h ≡ false → Lost z p h
  unfolding worthwhile
  left-lost p h g c k e = beaten-same h (not-false (beaten z h (z.bound p)) (rw (bound-passes k e) at g)) k

  -- a full plan whose visit does not go back is a candidate
  full_candidate : (p : List ℕ) (h : Option (List ℕ)) → open_count p ≡ 0 → goes_back z p h ≡ false → candidate z p ≡ true
  unfolding goes_back candidate
  full_candidate p h o e =
      let r = neither (ltb z.budget (z.cost p)) (neither (ltb z.budget (z.cost p) || not (z.passes (z.bound p))) e).0 in
      rw
      (le-leb (z.cost p) z.budget (ltb-false z.budget (z.cost p) r.0), ← parts.exact p o)
      (not-false (z.passes (z.bound p)) r.1)

  -- after a visit is held what all completions leave, met in the order of the list
  rule_offers : (n : ℕ) (p : List ℕ) (w : Tally) → open_count p ≡ n → (rule n z p w).held ≡ foldl (offer z) w.held (completions p)
  rule_offers =
      each_visit
      z
      (λ n p w u. open_count p ≡ n → u.held ≡ foldl (offer z) w.held (completions p))
      (λ n p w e o. sym (lost-same z p w.held (back_lost p w.held e)))
      (λ p w e o. rw (completions_full p o, full_candidate p w.held o e))
      (λ n p w u h e o.
      rw (completions_split p n o, foldl-append, ← h (open_count-set p n 0 o)) (sym (lost-same z _ u.held (left-lost _ u.held e))))
      (λ n p w u v h k o.
      rw (completions_split p n o, foldl-append, ← h (open_count-set p n 0 o)) (k (open_count-set p n 1 o)))

-- after a visit is held the first among what was held and all candidates that complete the plan
pub rule-first : (z : Terms) → Bounding z → (n : ℕ) (p : List ℕ) (w : Tally) → open_count p ≡ n → (rule n z p w).held ≡ foldl z.keep w.held (select (candidate z) (completions p))
rule-first z parts n p w o = rw fold_select (rule_offers parts n p w o)
