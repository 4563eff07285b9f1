-- The visit rule of document 01 is the rule over its own terms, and these terms are bounding.
-- Assumes of the table what checks 17 and 18 find: `Formed` and `Monotone`.
use Prim.Native.Nat.{ℕ, zero, suc, ◌-◌, ◌*◌, ◌≤◌, ◌<◌}
use native.Mathlib.Nat.{le_refl}
use native.Mathlib.Omega.{arith}
use mathlib.Core.Path.{◌≡◌, refl}
use mathlib.Core.Bool.{Bool, true, false, not, ◌&&◌}
use mathlib.Core.List.{List, [], ◌∷◌}
use mathlib.Core.Option.{Option, none, some}
use borrow.Author.Tests.{le-ltb, ne_eqb}
use lib.ListN.{length, set}
use Rattle.diagram.specs.Table.{Table}
use Rattle.diagram.specs.Score.{score}
use Rattle.diagram.specs.Plans.{open_taken, open_count, is_open, cost_of, cost, upper_bound, derivative, passes, Completes, complete, takes, leaves_open, keeps}
use Rattle.diagram.specs.Ranking.{ranks_before, better}
use Rattle.diagram.specs.Visits as visits
use Rattle.diagram.specs.Visits.{Tally, lowest_open, visit}
use Rattle.diagram.specs.Validity.{Formed, Monotone}
use Rattle.diagram.proofs.Rising.{completion_le_bound, drop-le-bound, larger_passes}
use Rattle.rule.specs.Rule.{terms, beaten, goes_back, worthwhile, rule, Bounding}
use Rattle.rule.proofs.Opening.{lowest_open_lem, open_count-set}

-- ---------------------------------------------------------------------------
-- The terms

-- a completion costs no less than the plan
pub cost_completes : (kits : List ℕ) {p c : List ℕ} → Completes p c → cost_of kits p ≤ cost_of kits c
unfolding cost_of
cost_completes kits complete = le_refl 0
cost_completes [] (takes k) = le_refl 0
cost_completes [] (leaves_open k) = le_refl 0
cost_completes [] (keeps k) = le_refl 0
cost_completes (x ∷ kits) (takes k) = omega (arith, cost_completes kits k)
cost_completes (x ∷ kits) (leaves_open k) = omega (arith, cost_completes kits k)
cost_completes (x ∷ kits) (keeps k) = omega (arith, cost_completes kits k)

-- a plan with no line open is unchanged by taking the open lines
pub full_taken : (p : List ℕ) → open_count p ≡ 0 → open_taken p ≡ p
unfolding open_count open_taken
full_taken [] e = refl
full_taken (zero ∷ p) e = absurd (omega arith)
full_taken (suc m ∷ p) e = rw (full_taken p e)

-- a plan with a smaller score than the one held does not replace it
larger_held : (t : Table) (b c : List ℕ) → score t c < score t b → better t (some b) c ≡ some b
unfolding better ranks_before
larger_held t b c l =
    rw (le-ltb (score t b) (score t c) (omega arith), ne_eqb (score t c) (score t b) (λ e. omega arith))

module _ (t : Table) (formed : Formed (length t.variables) t.records) (monotone : Monotone t) (budget percent : ℕ) where
  -- document 01's terms are bounding
  pub terms_bounding : Bounding (terms t budget percent)
  unfolding terms cost upper_bound
  terms_bounding =
      record {
        bounds = completion_le_bound t formed monotone;
        costs = cost_completes t.kits;
        exact = λ p e. rw (full_taken p e);
        rises = larger_passes t percent;
        holds = larger_held t;
      }

-- ---------------------------------------------------------------------------
-- The rule

-- a test between two ways gives equal ends where each way does
alike : (b : Bool) {x x' y y' : Tally} → x ≡ x' → y ≡ y' → ◌≡◌ {A = Tally} (elim b as (λ _. Tally) [ true ↦ x | false ↦ y ]) (elim b as (λ _. Tally) [ true ↦ x' | false ↦ y' ])
alike true e f = e
alike false e f = f

module _ (t : Table) (formed : Formed (length t.variables) t.records) (monotone : Monotone t) (budget percent : ℕ) where
  -- a bound is beaten under both rules or under neither
  beaten-is : (held : Option (List ℕ)) (x : ℕ) → visits.beaten t held x ≡ beaten (terms t budget percent) held x
  unfolding visits.beaten beaten terms
  beaten-is none x = refl
  beaten-is (some b) x = refl

  -- a visit goes back under both rules or under neither
  goes_back-is : (p : List ℕ) (held : Option (List ℕ)) → visits.goes_back t budget percent p held ≡ goes_back (terms t budget percent) p held
  unfolding visits.goes_back goes_back terms
  goes_back-is p held = rw (beaten-is held (upper_bound t p))

  -- the top less an open line's drop is the top with that line left, so the plan with it left is visited under both rules or under neither
  worthwhile-is : (p : List ℕ) (d : ℕ) → is_open p d ≡ true → (held : Option (List ℕ)) → (passes t percent (upper_bound t p - derivative t p d) && not (visits.beaten t held (upper_bound t p - derivative t p d))) ≡ worthwhile (terms t budget percent) (set p d 2) held
  unfolding worthwhile terms upper_bound
  worthwhile-is p d o held =
      let left : upper_bound t p - derivative t p d ≡ upper_bound t (set p d 2) = omega (arith, drop-le-bound t formed monotone p d o) in
      rw (left, beaten-is held (upper_bound t (set p d 2)))

  -- document 01's rule is the rule over its terms
  pub visit-rule : (n : ℕ) (p : List ℕ) (w : Tally) → open_count p ≡ n → visit n t budget percent p w ≡ rule n (terms t budget percent) p w
  unfolding visit rule terms
  visit-rule zero p w e = rw (goes_back-is p w.held, visit, rule)
  visit-rule (suc n) p w e =
      let d = lowest_open p in
      let v : Tally = record { held = w.held; visits = suc w.visits } in
      let u = rule n (terms t budget percent) (set p d 1) v in
      let with-d-taken = visit-rule n (set p d 1) v (open_count-set p n 0 e) in
      let with-d-left = visit-rule n (set p d 2) u (open_count-set p n 1 e) in
      let test-of-d-left = worthwhile-is p d (lowest_open_lem p n e).0 u.held in
      rw (goes_back-is p w.held, visit, rule)
      (alike
      (goes_back (terms t budget percent) p w.held)
      refl
      (rw (with-d-taken, test-of-d-left)
      (alike (worthwhile (terms t budget percent) (set p d 2) u.held) (rw with-d-taken with-d-left) with-d-taken)))
