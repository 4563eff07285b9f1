-- In a monotone table, taking a line that was left never lowers a score. So the top is the largest score of a plan's completions, and the top less a
-- line's drop the largest of those that leave the line.
-- Assumes of the table what checks 17 and 18 find: `Formed` and `Monotone`.
use Prim.Native.Nat.{ℕ, zero, suc, ◌+◌, ◌-◌, ◌*◌, ◌≤◌}
use native.Mathlib.Nat.{le_refl, mul-le-mul_left, sub-add_cancel}
use native.Mathlib.Omega.{arith}
use mathlib.Core.Path.{◌≡◌, refl, ap, sym, ◌∙◌}
use mathlib.Core.Bool.{Bool, true, false, cond, false≢true}
use mathlib.Core.List.{List, [], ◌∷◌, tail}
use borrow.Author.Tests.{leb-true, le-leb, eqb-true}
use lib.ListN.{length, get_or, set}
use Rattle.diagram.specs.Table.{Variable, choice, chance, Table, record_at, is_choice, scale}
use Rattle.diagram.specs.Score.{is_taken, truth, total, score_from, score, every, implies}
use Rattle.diagram.specs.Plans.{completions, Completes, complete, takes, leaves_open, keeps, open_taken, is_open, leaves, upper_bound, derivative, passes}
use Rattle.diagram.specs.Checks.{is_monotone_at}
use Rattle.diagram.specs.Validity.{Formed, Monotone}
use Rattle.diagram.proofs.Every.{both, implied, every_append, every_map, every_split, each_assignment}
use Rattle.diagram.proofs.Truth.{truth_false, truth_true, truth_step}
use Rattle.diagram.proofs.FirstVariable.{total_nil, total-choice, total-chance, rewarded-le}

-- q takes every line that p takes
abbrev pub Under : List ℕ → List ℕ → Type 0
Under p q = (i : ℕ) → is_taken (get_or p i 0) ≡ true → is_taken (get_or q i 0) ≡ true

-- ---------------------------------------------------------------------------
-- Assignments

-- How two assignments go at one variable, of which the first argument says whether it is a choice: alike, or at a choice first lo and then hi
data Goes : Bool → Bool → Bool → Type 0 where
  alike : {c b : Bool} → Goes c b b
  rises : Goes true false true

goes : (b b' : Bool) → (b ≡ true → b' ≡ true) → Goes true b b'
goes true true h = alike
goes true false h = absurd (false≢true (h refl))
goes false true h = rises
goes false false h = alike

-- Two assignments of the variables, of which the second goes hi at all choices where the first does, and at the chances as the first does
data Up : List Variable → List Bool → List Bool → Type 0 where
  none_up : Up [] [] []
  first_up : {v : Variable} {vs : List Variable} {b b' : Bool} {s s' : List Bool} → Goes (is_choice v) b b' → Up vs s s' → Up (v ∷ vs) (b ∷ s) (b' ∷ s')

up_length : {vs : List Variable} {s s' : List Bool} → Up vs s s' → length s ≡ length vs
up_length none_up = refl
up_length (first_up g u) = ap suc (up_length u)

up_at : {vs : List Variable} {s s' : List Bool} → Up vs s s' → (i : ℕ) → Goes (is_choice (get_or vs i (chance 0 1))) (get_or s i false) (get_or s' i false)
up_at none_up i = alike
up_at (first_up g u) zero = g
up_at (first_up g u) (suc i) = up_at u i

-- ---------------------------------------------------------------------------
-- Sums

get_d_tail : (p : List ℕ) (i : ℕ) → get_or (tail p) i 0 ≡ get_or p (suc i) 0
get_d_tail [] i = refl
get_d_tail (m ∷ p) i = refl

-- a test that holds of higher assignments, and a plan that takes more lines, give no smaller sum
total_up : (vs : List Variable) (p q : List ℕ) → Under p q → (f g : List Bool → Bool) → ((s s' : List Bool) → Up vs s s' → f s ≡ true → g s' ≡ true) → total vs p f ≤ total vs q g
unfolding is_choice
total_up [] p q h f g k = simp total_nil (go (f []) (g []) (k [] [] none_up))
  where
    go : (b b' : Bool) → (b ≡ true → b' ≡ true) → cond b 1 0 ≤ cond b' 1 0
    go true true e = omega arith
    go true false e = absurd (false≢true (e refl))
    go false true e = omega arith
    go false false e = omega arith
total_up (choice ∷ vs) p q h f g k =
    simp total-choice
    (total_up vs (tail p) (tail q) (λ i. rw (get_d_tail p i, get_d_tail q i) (h (suc i))) _ _ (λ s s' u. k _ _ (first_up (goes _ _ (h 0)) u)))
total_up (chance a b ∷ vs) p q h f g k =
    let held = mul-le-mul_left a (total_up vs p q h (λ s. f (true ∷ s)) (λ s. g (true ∷ s)) (λ s s' u. k _ _ (first_up alike u))) in
    let not-held = mul-le-mul_left (b - a) (total_up vs p q h (λ s. f (false ∷ s)) (λ s. g (false ∷ s)) (λ s s' u. k _ _ (first_up alike u))) in
    simp total-chance (omega arith)

-- ---------------------------------------------------------------------------
-- Scores

-- one move from a record to hi or lo; P and Q say of a node whether a first and a second walk from it end in true
move_up : (P Q : ℕ → Bool) (hi lo : ℕ) {c b b' : Bool} → Goes c b b' → (c ≡ true → P lo ≡ true → P hi ≡ true) → (P hi ≡ true → Q hi ≡ true) → (P lo ≡ true → Q lo ≡ true) → P (cond b hi lo) ≡ true → Q (cond b' hi lo) ≡ true
move_up P Q hi lo (alike {b = true}) crosses at-hi at-lo h = at-hi h
move_up P Q hi lo (alike {b = false}) crosses at-hi at-lo h = at-lo h
move_up P Q hi lo rises crosses at-hi at-lo h = at-hi (crosses refl h)

module _ (t : Table) (formed : Formed (length t.variables) t.records) (monotone : Monotone t) where
  -- at a choice record, an assignment that leads from lo to true also leads from hi to true
  pub lo-hi : (k : ℕ) (s : List Bool) → length s ≡ length t.variables → is_choice (get_or t.variables (record_at t.records k).position (chance 0 1)) ≡ true → truth t.records s (record_at t.records k).lo ≡ true → truth t.records s (record_at t.records k).hi ≡ true
  unfolding is_monotone_at implies
  lo-hi k s e c = implied _ (each_assignment _ s (length t.variables) e (implied _ (monotone k) c))

  -- a walk that ends in true still does where more choices go hi; m is at least the node's number
  truth_up : {s s' : List Bool} → Up t.variables s s' → (m n : ℕ) → n ≤ m → truth t.records s n ≡ true → truth t.records s' n ≡ true
  truth_up {s} u zero zero l h = absurd (false≢true (sym (truth_false t.records s) ∙ h))
  truth_up u zero (suc n) l h = absurd (omega arith)
  truth_up {s} u (suc m) zero l h = absurd (false≢true (sym (truth_false t.records s) ∙ h))
  truth_up {s'} u (suc m) (suc zero) l h = truth_true t.records s'
  truth_up {s} {s'} u (suc m) (suc (suc k)) l h =
      let hi-less = formed.hi_less k in
      let lo-less = formed.lo_less k in
      truth_step formed s' k
      ∙ move_up
      (truth t.records s)
      (truth t.records s')
      (record_at t.records k).hi
      (record_at t.records k).lo
      (up_at u (record_at t.records k).position)
      (lo-hi k s (up_length u))
      (truth_up u m (record_at t.records k).hi (omega arith))
      (truth_up u m (record_at t.records k).lo (omega arith))
      (sym (truth_step formed s k) ∙ h)

  pub score-rises : (p q : List ℕ) → Under p q → score t p ≤ score t q
  unfolding score score_from
  score-rises p q h =
      rewarded-le _ _ t.roots (λ n. total_up t.variables p q h _ _ (λ s s' u. truth_up u n n (le_refl n)))

-- ---------------------------------------------------------------------------
-- Completions

pub all-complete : (f : List ℕ → Bool) (p : List ℕ) → ((c : List ℕ) → Completes p c → f c ≡ true) → every f (completions p) ≡ true
unfolding completions every
all-complete f [] h = rw (h [] complete)
all-complete f (zero ∷ p) h =
    simp (
      every_append,
      every_map,
      all-complete (λ c. f (1 ∷ c)) p (λ c k. h _ (takes k)),
      all-complete (λ c. f (2 ∷ c)) p (λ c k. h _ (leaves_open k)),
    )
all-complete f (suc m ∷ p) h = rw every_map (all-complete (λ c. f (suc m ∷ c)) p (λ c k. h _ (keeps k)))

pub each_complete : (f : List ℕ → Bool) (p c : List ℕ) → every f (completions p) ≡ true → Completes p c → f c ≡ true
unfolding completions every
each_complete f _ _ h complete = (both (f []) h).0
each_complete f _ _ h (takes {p} {c} k) =
    each_complete (λ c. f (1 ∷ c)) p c (every_split f (λ c. 1 ∷ c) (λ c. 2 ∷ c) (completions p) h).0 k
each_complete f _ _ h (leaves_open {p} {c} k) =
    each_complete (λ c. f (2 ∷ c)) p c (every_split f (λ c. 1 ∷ c) (λ c. 2 ∷ c) (completions p) h).1 k
each_complete f _ _ h (keeps {m} {p} {c} k) = each_complete (λ c. f (suc m ∷ c)) p c (rw every_map at h) k

pub open_taken_completes : (p : List ℕ) → Completes p (open_taken p)
unfolding open_taken
open_taken_completes [] = complete
open_taken_completes (zero ∷ p) = takes (open_taken_completes p)
open_taken_completes (suc m ∷ p) = keeps (open_taken_completes p)

-- with one open line left and the others taken
pub open_taken-leaves : (p : List ℕ) (i : ℕ) → is_open p i ≡ true → Completes p (open_taken (set p i 2)) × (leaves (open_taken (set p i 2)) i ≡ true)
unfolding open_taken is_open leaves
open_taken-leaves [] i o = absurd (false≢true o)
open_taken-leaves (zero ∷ p) zero o = (leaves_open (open_taken_completes p), refl)
open_taken-leaves (suc m ∷ p) zero o = absurd (omega (arith, eqb-true (suc m) 0 o))
open_taken-leaves (zero ∷ p) (suc i) o = let r = open_taken-leaves p i o in (takes r.0, r.1)
open_taken-leaves (suc m ∷ p) (suc i) o = let r = open_taken-leaves p i o in (keeps r.0, r.1)

-- a completion that leaves an open line completes the plan with that line left
pub leaving_completes : {p c : List ℕ} → Completes p c → (i : ℕ) → is_open p i ≡ true → leaves c i ≡ true → Completes (set p i 2) c
unfolding is_open leaves
leaving_completes complete i o h = complete
leaving_completes (takes k) zero o h = absurd (false≢true h)
leaving_completes (takes k) (suc i) o h = takes (leaving_completes k i o h)
leaving_completes (leaves_open k) zero o h = keeps k
leaving_completes (leaves_open k) (suc i) o h = leaves_open (leaving_completes k i o h)
leaving_completes (keeps {m} k) zero o h = absurd (omega (arith, eqb-true (suc m) 0 o))
leaving_completes (keeps k) (suc i) o h = keeps (leaving_completes k i o h)

completion_under : {p c : List ℕ} → Completes p c → Under c (open_taken p)
unfolding open_taken
completion_under complete i = λ e. e
completion_under (takes k) zero = λ e. e
completion_under (takes k) (suc i) = completion_under k i
completion_under (leaves_open k) zero = λ e. refl
completion_under (leaves_open k) (suc i) = completion_under k i
completion_under (keeps k) zero = λ e. e
completion_under (keeps k) (suc i) = completion_under k i

-- ---------------------------------------------------------------------------
-- The top and the drops

module _ (t : Table) (formed : Formed (length t.variables) t.records) (monotone : Monotone t) where
  pub completion_le_bound : {p c : List ℕ} → Completes p c → score t c ≤ upper_bound t p
  unfolding upper_bound
  completion_le_bound {p} {c} k = score-rises t formed monotone c (open_taken p) (completion_under k)

  pub leaving_le : {p c : List ℕ} → Completes p c → (i : ℕ) → is_open p i ≡ true → leaves c i ≡ true → score t c ≤ score t (open_taken (set p i 2))
  unfolding upper_bound
  leaving_le k i o h = completion_le_bound (leaving_completes k i o h)

  pub drop-le-bound : (p : List ℕ) (i : ℕ) → is_open p i ≡ true → derivative t p i + score t (open_taken (set p i 2)) ≡ upper_bound t p
  unfolding derivative
  drop-le-bound p i o = rw o (sub-add_cancel (completion_le_bound (open_taken-leaves p i o).0))

-- a larger score passes where a smaller one does
pub larger_passes : (t : Table) (percent : ℕ) {x y : ℕ} → x ≤ y → passes t percent x ≡ true → passes t percent y ≡ true
unfolding passes
larger_passes t percent {x} {y} l h =
    le-leb (percent * scale t) (100 * y) (omega (arith, leb-true (percent * scale t) (100 * x) h))
