-- What is held in the terms of the visit rule: its tests, the ranking of two plans, and the plan that is held after a finished plan.
-- Assumes that what is held is the best plan held (`Holds`), and that `least` is the least score that passes.
use Prim.Native.Nat.{ℕ, ◌+◌, ◌-◌, ◌≤◌, ◌<◌}
use native.Mathlib.Nat.{eq-or-lt_of_le}
use native.Mathlib.Omega.{arith}
use mathlib.Core.Path.{◌≡◌, refl, ap, sym, ◌∙◌}
use mathlib.Core.Logic.{⊎_elim}
use mathlib.Core.Bool.{Bool, true, false, cond, not, ◌&&◌, ◌||◌, or-true, or-false}
use mathlib.Core.List.{List, [], ◌∷◌, ◌++◌}
use mathlib.Core.Option.{Option, none, some, some-injective, some-ne-none}
use lib.ListN.{length}
use lib.Dec.{eqb, leb, ltb}
use borrow.Author.Tests.{lt-ltb, le-ltb, le-leb, eq-eqb, ltb-true, leb-true, leb-false, eqb-true, eqb-false, not-false}
use Rattle.diagram.specs.Table.{Table, choice_count}
use Rattle.diagram.specs.Score.{score}
use Rattle.diagram.specs.Plans.{open_count, cost, upper_bound, LeastPassing}
use Rattle.diagram.specs.Ranking.{takes_first, ranks_before, better}
use Rattle.diagram.proofs.Every.{neither, both_ways}
use Rattle.rule.specs.Rule.{terms, beaten, goes_back, worthwhile}
use Rattle.rule.proofs.Instance.{full_taken}
use Rattle.incumbent.specs.declared.Incumbent.{Incumbent}
use Rattle.incumbent.specs.Ranks.{ranks_over}
use Rattle.incumbent.specs.Held.{visit_added, plan_held, kept}
use Rattle.incumbent.proofs.Keeping.{ranks_room}
use Rattle.visiting.specs.Visit.{padded, Holding, Holds}

-- ---------------------------------------------------------------------------
-- Tests over plain numbers

-- there is no room where the cost is more than the budget
no_room : (budget c : ℕ) → eqb (budget + 1 - c) 0 ≡ ltb budget c
no_room budget c =
    both_ways _ _
    (λ e. lt-ltb budget c (omega (arith, eqb-true (budget + 1 - c) 0 e)))
    (λ e. eq-eqb (budget + 1 - c) 0 (omega (arith, ltb-true budget c e)))

-- there is more room where the cost is lower
more_room : (budget c d : ℕ) → c ≤ budget → d ≤ budget → ltb (budget + 1 - d) (budget + 1 - c) ≡ ltb c d
more_room budget c d h k =
    both_ways _ _
    (λ e. lt-ltb c d (omega (arith, ltb-true (budget + 1 - d) (budget + 1 - c) e)))
    (λ e. lt-ltb (budget + 1 - d) (budget + 1 - c) (omega (arith, ltb-true c d e)))

-- there is as much where it is the same
same-room : (budget c d : ℕ) → c ≤ budget → d ≤ budget → eqb (budget + 1 - c) (budget + 1 - d) ≡ eqb c d
same-room budget c d h k =
    both_ways _ _
    (λ e. eq-eqb c d (omega (arith, eqb-true (budget + 1 - c) (budget + 1 - d) e)))
    (λ e. eq-eqb (budget + 1 - c) (budget + 1 - d) (omega (arith, eqb-true c d e)))

-- a number is less than one of two exactly when it does not reach the larger
less_too : (x y z : ℕ) → x ≤ z → (not (leb x y) || ltb y z) ≡ not (leb z y)
less_too x y z h = go (leb z y) refl
  where
    go : (b : Bool) → leb z y ≡ b → (not (leb x y) || ltb y z) ≡ not b
    go true e =
        let l = leb-true z y e in
        rw (le-leb x y (omega arith), le-ltb y z l) refl
    go false e = rw (lt-ltb y z (leb-false z y e)) (or-true (not (leb x y)))

-- the last two of three tests are one
joint : (a b c : Bool) {d : Bool} → (b || c) ≡ d → (a || b || c) ≡ (a || d)
joint true b c e = refl
joint false b c e = e

-- of two tests neither holds
none-holds : (a b : Bool) → (a && not b) ≡ not (not a || b)
none-holds true b = refl
none-holds false b = refl

-- ---------------------------------------------------------------------------
-- The ranking of two plans

-- a score that is not lower, with more room, ranks first
ranks_larger : (x c : ℕ) (p : List ℕ) (y d : ℕ) (q : List ℕ) → y ≤ x → d < c → ranks_over x c p y d q ≡ true
unfolding ranks_over
ranks_larger x c p y d q h k =
    ⊎_elim
    (λ e. sym (ranks_room x c p y d q (sym e) (λ f. omega arith) (sym (lt-ltb d c k))))
    (λ l. rw (lt-ltb y x l) refl)
    (eq-or-lt_of_le {n = y} {m = x} h)

-- a plan does not come before itself
first-same : (z : List ℕ) → takes_first z z ≡ false
unfolding takes_first
first-same [] = refl
first-same (m ∷ z) = rw (eq-eqb m m refl) (first-same z)

-- the same marks after two plans change nothing
first-append : (p q z : List ℕ) → length p ≡ length q → takes_first (p ++ z) (q ++ z) ≡ takes_first p q
unfolding takes_first
first-append [] [] z e = first-same z
first-append [] (n ∷ q) z e = absurd (omega arith)
first-append (m ∷ p) [] z e = absurd (omega arith)
first-append (m ∷ p) (n ∷ q) z e = rw (first-append p q z (omega arith)) refl

-- nor do the marks after the last choice
first-padded : (p q : List ℕ) → length p ≡ length q → takes_first (padded p) (padded q) ≡ takes_first p q
first-padded p q e = rw e (first-append p q _ e)

-- ---------------------------------------------------------------------------
-- The tests of a visit

module _ {t : Table} {budget least : ℕ} {held : Option (List ℕ)} {h : Incumbent} (holds : Holds t budget least held h) (percent : ℕ) (passing : LeastPassing t percent least) where
  -- a bound does not pass or is beaten where it is less than the least that is worth a visit
  least-is : (x : ℕ) → (not (leb least x) || beaten (terms t budget percent) held x) ≡ not (leb (h.cutoff) x)
  unfolding terms beaten
  least-is x = go held refl
    where
      go : (o : Option (List ℕ)) → held ≡ o → (not (leb least x) || beaten (terms t budget percent) o x) ≡ not (leb (h.cutoff) x)
      go none e = rw ((holds.nothing e).0, or-false) refl
      go (some q) e =
          let q-held = holds.something q e in
          rw q-held.scored (less_too least x (score t q) q-held.passes)

  -- a visit goes back
  pub back_is : (p : List ℕ) {room bound : ℕ} {r : Bool} → room ≡ budget + 1 - cost t p → bound ≡ upper_bound t p → r ≡ (eqb room 0 || not (leb (h.cutoff) bound)) → goes_back (terms t budget percent) p held ≡ r
  unfolding terms goes_back
  back_is p er eb e =
      rw (e, er, eb, no_room budget (cost t p), passing (upper_bound t p))
      (joint (ltb budget (cost t p)) _ _ (least-is (upper_bound t p)))

  -- a plan with a line left is visited
  pub worth_is : (p : List ℕ) {x : ℕ} {r : Bool} → x ≡ upper_bound t p → r ≡ not (leb (h.cutoff) x) → worthwhile (terms t budget percent) p held ≡ not r
  unfolding terms worthwhile
  worth_is p ex e =
      rw (e, ex, passing (upper_bound t p), ← least-is (upper_bound t p)) (none-holds (leb least (upper_bound t p)) _)

-- ---------------------------------------------------------------------------
-- What is held

-- a plan is held where its numbers are
one-held : {t : Table} {budget least : ℕ} {p : List ℕ} {h : Incumbent} → Holding t budget least p h → Holds t budget least (some p) h
one-held {t} {budget} {least} {p} {h} holding =
    record {
      nothing = λ e. absurd (some-ne-none p e);
      something = λ q e. rw (← some-injective p q e) holding;
    }

-- a visit more changes nothing of what is held
pub counted-holds : {t : Table} {budget least : ℕ} {held : Option (List ℕ)} {h h' : Incumbent} → Holds t budget least held h → h' ≡ visit_added h → Holds t budget least held h'
counted-holds {h = h} holds e =
    rw e (record {
      nothing = holds.nothing;
      something = λ q s.
          let holding = holds.something q s in
          record {
            size = holding.size;
            plan = holding.plan;
            scored = holding.scored;
            room = holding.room;
            within = holding.within;
            passes = holding.passes;
          };
    })

-- A finished plan
module _ {t : Table} {budget least : ℕ} {held : Option (List ℕ)} {h : Incumbent} (holds : Holds t budget least held h) (p : List ℕ) (room bound : ℕ) (marks : List ℕ) {h' : Incumbent} (after : h' ≡ kept bound room marks h) where
  module _ (long : length p ≡ choice_count t.variables) (few : choice_count t.variables ≤ 20) (full : open_count p ≡ 0) (em : marks ≡ padded p) (er : room ≡ budget + 1 - cost t p) (ex : bound ≡ upper_bound t p) (stays : (eqb room 0 || not (leb h.cutoff bound)) ≡ false) where
    -- its bound is its score
    bound-score : bound ≡ score t p
    unfolding upper_bound
    bound-score = ex ∙ ap (score t) (full_taken p full)

    -- it is within the budget
    within-budget : cost t p ≤ budget
    within-budget = omega (arith, er, eqb-false room 0 (neither (eqb room 0) stays).0)

    -- its bound is worth a visit
    worth_visit : h.cutoff ≤ bound
    worth_visit = leb-true h.cutoff bound (not-false _ (neither (eqb room 0) stays).1)

    -- where it ranks first it is held
    new_held : ranks_over bound room marks h.cutoff h.room h.marks ≡ true → least ≤ score t p → Holds t budget least (some p) h'
    new_held e passing =
        rw (after, e)
        (one-held
        (record {
          size = long;
          plan = em;
          scored = bound-score;
          room = er;
          within = within-budget;
          passes = passing;
        }))

    -- where it does not, what was held is held on
    old_held : ranks_over bound room marks h.cutoff h.room h.marks ≡ false → Holds t budget least held h'
    old_held e = rw (after, e) holds

    -- where nothing is held it ranks first
    first_ranks : held ≡ none → ranks_over bound room marks h.cutoff h.room h.marks ≡ true
    first_ranks e =
        ranks_larger bound room marks _ _ h.marks worth_visit
        (omega (arith, er, within-budget, (holds.nothing e).1))

    -- the numbers held rank as the plans do
    ranks_is : (q : List ℕ) → held ≡ some q → ranks_over bound room marks h.cutoff h.room h.marks ≡ ranks_before t p q
    unfolding ranks_over ranks_before
    ranks_is q e =
        let holding = holds.something q e in
        rw (bound-score, er, em, holding.scored, holding.room, holding.plan, more_room budget (cost t p) (cost t q) within-budget holding.within, same-room budget (cost t p) (cost t q) within-budget holding.within, first-padded p q (long ∙ sym holding.size)) refl

    -- what is held then is the better of the two
    pub kept-holds : Holds t budget least (better t held p) h'
    unfolding better
    kept-holds = go held refl
      where
        go : (o : Option (List ℕ)) → held ≡ o → Holds t budget least (better t o p) h'
        go none e = new_held (first_ranks e) (omega (arith, worth_visit, bound-score, (holds.nothing e).0))
        go (some q) e = beside (ranks_before t p q) refl
          where
            beside : (r : Bool) → ranks_before t p q ≡ r → Holds t budget least (some (cond r p q)) h'
            beside true f = new_held (ranks_is q e ∙ f) (omega (arith, worth_visit, bound-score, (holds.something q e).scored, (holds.something q e).passes))
            beside false f = rw (← e) (old_held (ranks_is q e ∙ f))

  -- a finished plan is no visit more
  pub kept-visits : h'.visits ≡ h.visits
  kept-visits = rw after (go (ranks_over bound room marks h.cutoff h.room h.marks))
    where
      go : (r : Bool) → (cond r (plan_held bound room marks h) h).visits ≡ h.visits
      go true = refl
      go false = refl
