-- Two tables of the same kits, whose scores and whose B are the same, answer alike: no definition reads more of a table than these.
-- Assumes nothing.
use Prim.Native.Nat.{ℕ, zero, suc, ◌-◌}
use mathlib.Core.Path.{◌≡◌, refl, ap, fun_ext}
use mathlib.Core.Bool.{Bool, true, false, cond, not, ◌&&◌}
use mathlib.Core.Option.{Option, none, some}
use mathlib.Core.List.{List}
use lib.ListN.{length, get_or, set}
use Rattle.diagram.specs.Table.{Table, sequence, scale}
use Rattle.diagram.specs.Score.{score}
use Rattle.diagram.specs.Plans.{open_count, cost, upper_bound, derivative, derivatives, passes, passing, forced, forced_plan, count_of, forced_count}
use Rattle.diagram.specs.Ranking.{ranks_before, better, first_ranked, is_candidate, best_plan}
use Rattle.diagram.specs.Visits.{Tally, beaten, goes_back, lowest_open, visit, visited, visit_count}
use Rattle.diagram.specs.Services.{Outcome, refused, answered, Searching, filtering, searching}
use Rattle.theorems.specs.Roots.{AnswerAlike}

-- a test between two ways gives equal ends where each way does
either : (b : Bool) {x x' y y' : Tally} → x ≡ x' → y ≡ y' → ◌≡◌ {A = Tally} (elim b as (λ _. Tally) [ true ↦ x | false ↦ y ]) (elim b as (λ _. Tally) [ true ↦ x' | false ↦ y' ])
either true e f = e
either false e f = f

module _ (t u : Table) (kits : t.kits ≡ u.kits) (scales : scale t ≡ scale u) (scores : (p : List ℕ) → score t p ≡ score u p) where
  costs : (p : List ℕ) → cost t p ≡ cost u p
  unfolding cost
  costs p = rw kits refl

  tops : (p : List ℕ) → upper_bound t p ≡ upper_bound u p
  unfolding upper_bound
  tops p = scores _

  drop : (p : List ℕ) (i : ℕ) → derivative t p i ≡ derivative u p i
  unfolding derivative
  drop p i = rw (tops p, scores) refl

  drops : (p : List ℕ) → derivatives t p ≡ derivatives u p
  unfolding derivatives
  drops p = ap (λ (f : ℕ → ℕ). sequence f 0 (length p)) (fun_ext (drop p))

  pass : (percent x : ℕ) → passes t percent x ≡ passes u percent x
  unfolding passes
  pass percent x = rw scales refl

  plan-passes : (percent : ℕ) (p : List ℕ) → passing t percent p ≡ passing u percent p
  unfolding passing
  plan-passes percent p = rw (scores p, pass) refl

  -- the filter
  passings : (percent : ℕ) → passing t percent ≡ passing u percent
  passings percent = fun_ext (plan-passes percent)

  forcing : (percent : ℕ) (p : List ℕ) (i : ℕ) → forced t percent p i ≡ forced u percent p i
  unfolding forced
  forcing percent p i = rw (passings percent) refl

  forced-count : (percent : ℕ) (p : List ℕ) → forced_count t percent p ≡ forced_count u percent p
  unfolding forced_count
  forced-count percent p = ap (λ (f : ℕ → Bool). count_of f (length p)) (fun_ext (forcing percent p))

  forced-plan : (percent : ℕ) (p : List ℕ) → forced_plan t percent p ≡ forced_plan u percent p
  unfolding forced_plan
  forced-plan percent p =
      ap (λ (f : ℕ → Bool). sequence (λ i. cond (f i) 1 (get_or p i 0)) 0 (length p)) (fun_ext (forcing percent p))

  filters : (percent : ℕ) (p : List ℕ) → filtering t percent p ≡ filtering u percent p
  unfolding filtering
  filters percent p = rw (passings percent, forced-count percent p, forced-plan percent p) refl

  -- the ranking
  ranks : (p q : List ℕ) → ranks_before t p q ≡ ranks_before u p q
  unfolding ranks_before
  ranks p q = rw (scores p, scores q, costs p, costs q) refl

  betters : (held : Option (List ℕ)) (p : List ℕ) → better t held p ≡ better u held p
  unfolding better
  betters none p = refl
  betters (some b) p = rw (ranks p b) refl

  better-same : better t ≡ better u
  better-same = fun_ext (λ held. fun_ext (betters held))

  candidates : (budget percent : ℕ) → is_candidate t budget percent ≡ is_candidate u budget percent
  unfolding is_candidate
  candidates budget percent = fun_ext (λ p. rw (costs p, plan-passes percent p) refl)

  best : (budget percent : ℕ) (p : List ℕ) → best_plan t budget percent p ≡ best_plan u budget percent p
  unfolding best_plan first_ranked
  best budget percent p = rw (better-same, candidates budget percent) refl

  -- the visit rule
  beats : (held : Option (List ℕ)) (x : ℕ) → beaten t held x ≡ beaten u held x
  unfolding beaten
  beats none x = refl
  beats (some b) x = rw (scores b) refl

  back : (budget percent : ℕ) (p : List ℕ) (held : Option (List ℕ)) → goes_back t budget percent p held ≡ goes_back u budget percent p held
  unfolding goes_back
  back budget percent p held = rw (costs p, tops p, pass, beats held) refl

  visits : (n budget percent : ℕ) (p : List ℕ) (w : Tally) → visit n t budget percent p w ≡ visit n u budget percent p w
  unfolding visit
  visits zero budget percent p w =
      rw (back budget percent p w.held, visit)
      (either (goes_back u budget percent p w.held) refl
      (ap (λ (h : Option (List ℕ)). record { held = h; visits = suc w.visits }) (betters w.held p)))
  visits (suc n) budget percent p w =
      let d = lowest_open p in
      let v : Tally = record { held = w.held; visits = suc w.visits } in
      let taken = visit n u budget percent (set p d 1) v in
      let x = upper_bound u p - derivative u p d in
      let with-d-taken = visits n budget percent (set p d 1) v in
      let with-d-left = visits n budget percent (set p d 2) taken in
      rw (back budget percent p w.held, visit)
      (either (goes_back u budget percent p w.held) refl
      (rw (with-d-taken, tops p, drop p d, pass percent x, beats taken.held x)
      (either (passes u percent x && not (beaten u taken.held x)) (rw with-d-taken with-d-left) with-d-taken)))

  counts : (budget percent : ℕ) (p : List ℕ) → visit_count t budget percent p ≡ visit_count u budget percent p
  unfolding visit_count visited
  counts budget percent p =
      ap (λ (w : Tally). w.visits) (visits (open_count p) budget percent p (record { held = none; visits = 0 }))

  searches : (budget percent : ℕ) (p : List ℕ) → searching t budget percent p ≡ searching u budget percent p
  unfolding searching
  searches budget percent p = rw (best budget percent p, searching) (found (best_plan u budget percent p))
    where
      found : (b : Option (List ℕ)) → ◌≡◌ {A = Outcome Searching} (elim b as (λ _. Outcome Searching) [ none ↦ refused 32 0 | some c ↦ answered (record { score = score t c; visits = visit_count t budget percent p; plan = c }) ]) (elim b as (λ _. Outcome Searching) [ none ↦ refused 32 0 | some c ↦ answered (record { score = score u c; visits = visit_count u budget percent p; plan = c }) ])
      found none = refl
      found (some c) = rw (scores c, counts budget percent p) refl

  pub alike : AnswerAlike t u
  alike =
      record { scales = scales; costs = costs; scores = scores; tops = tops; drops = drops; filters = filters; searches = searches }
