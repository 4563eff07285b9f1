-- Document 01's ranking is an order: no plan ranks before itself; of three, if the first ranks before the second and that before the third, the first
-- ranks before the third; and of two completions of one plan that differ, one ranks before the other.
-- Assumes nothing.
use Prim.Native.Nat.{ℕ, suc, ◌<◌}
use native.Mathlib.Nat.{le_refl}
use native.Mathlib.Decide.{dec_lt}
use native.Mathlib.Omega.{arith}
use mathlib.Core.Path.{◌≡◌, refl, ap, sym, ◌∙◌}
use mathlib.Core.Logic.{◌⊎◌, inl, inr, ⊎_elim, by_cases}
use mathlib.Core.Bool.{Bool, true, false, cond, ◌&&◌, ◌||◌, false≢true, or-true, and-false}
use mathlib.Core.List.{List, [], ◌∷◌}
use borrow.Author.Tests.{ltb-true, lt-ltb, le-ltb, eqb-true, eqb-false, eq-eqb, ne_eqb}
use lib.Dec.{eqb, ltb}
use Rattle.diagram.specs.Table.{Table}
use Rattle.diagram.specs.Score.{score, is_taken}
use Rattle.diagram.specs.Plans.{cost, Completes, complete, takes, leaves_open, keeps}
use Rattle.diagram.specs.Ranking.{takes_first, ranks_before}

-- ---------------------------------------------------------------------------
-- The lowest choice number where two differ

-- How a plan with the marks m ∷ p takes the first line where it differs from n ∷ q: further on, or here
data Firsts : ℕ → List ℕ → ℕ → List ℕ → Type 0 where
  alike : {m n : ℕ} {p q : List ℕ} → m ≡ n → takes_first p q ≡ true → Firsts m p n q
  differ : {m n : ℕ} {p q : List ℕ} → (m ≡ n → ⊥) → m ≡ 1 → Firsts m p n q

-- the test and the two ways
firsts : (m n : ℕ) (p q : List ℕ) → takes_first (m ∷ p) (n ∷ q) ≡ true → Firsts m p n q
unfolding takes_first
firsts m n p q = go (eqb m n) refl
  where
    go : (b : Bool) → eqb m n ≡ b → cond b (takes_first p q) (is_taken m) ≡ true → Firsts m p n q
    go true e h = alike (eqb-true m n e) h
    go false e h = differ (eqb-false m n e) (eqb-true m 1 h)

firsted : {m n : ℕ} {p q : List ℕ} → Firsts m p n q → takes_first (m ∷ p) (n ∷ q) ≡ true
unfolding takes_first
firsted {m} {n} (alike e h) = rw (eq-eqb m n e) h
firsted {m} {n} (differ f h) = rw (ne_eqb m n f) (eq-eqb m 1 h)

-- no plan differs from itself
first_irreflexive : (p : List ℕ) → takes_first p p ≡ false
unfolding takes_first
first_irreflexive [] = refl
first_irreflexive (m ∷ p) = rw (eq-eqb m m refl) (first_irreflexive p)

-- if p takes the first line where it differs from q, and q the first where it differs from r, then p the first where it differs from r
first_transitive : (p q r : List ℕ) → takes_first p q ≡ true → takes_first q r ≡ true → takes_first p r ≡ true
unfolding takes_first
first_transitive [] q r h k = absurd (false≢true h)
first_transitive (m ∷ p) [] r h k = absurd (false≢true h)
first_transitive (m ∷ p) (n ∷ q) [] h k = absurd (false≢true k)
first_transitive (m ∷ p) (n ∷ q) (o ∷ r) h k = firsted (go (first_transitive p q r) (firsts m n p q h) (firsts n o q r k))
  where
    go : (takes_first p q ≡ true → takes_first q r ≡ true → takes_first p r ≡ true) → Firsts m p n q → Firsts n q o r → Firsts m p o r
    go below (alike e x) (alike f y) = alike (e ∙ f) (below x y)
    go below (alike e x) (differ f y) = differ (λ z. f (sym e ∙ z)) (e ∙ y)
    go below (differ e x) (alike f y) = differ (λ z. e (z ∙ sym f)) x
    go below (differ e x) (differ f y) = absurd (e (x ∙ sym y))

-- Of two plans one comes first by a test, or they are the same
abbrev Compared : (List ℕ → List ℕ → Bool) → List ℕ → List ℕ → Type 0
Compared test c d = (test c d ≡ true) ⊎ ((c ≡ d) ⊎ (test d c ≡ true))

-- the same with one mark in front of both
first-same : (m : ℕ) {c d : List ℕ} → Compared takes_first c d → Compared takes_first (m ∷ c) (m ∷ d)
first-same m (inl h) = inl (firsted (alike refl h))
first-same m (inr (inl e)) = inr (inl (ap (λ r. m ∷ r) e))
first-same m (inr (inr h)) = inr (inr (firsted (alike refl h)))

-- of two completions of one plan that differ, one takes the first line where they do
first-total : {p c d : List ℕ} → Completes p c → Completes p d → Compared takes_first c d
unfolding takes_first
first-total complete complete = inr (inl refl)
first-total (takes k) (takes l) = first-same 1 (first-total k l)
first-total (takes k) (leaves_open l) = inl refl
first-total (leaves_open k) (takes l) = inr (inr refl)
first-total (leaves_open k) (leaves_open l) = first-same 2 (first-total k l)
first-total (keeps {m} k) (keeps l) = first-same (suc m) (first-total k l)

-- ---------------------------------------------------------------------------
-- The ranking

-- The three ways in which p ranks before q
pub data Before (t : Table) (p q : List ℕ) : Type 0 where
  higher : score t q < score t p → Before t p q
  fewer : score t p ≡ score t q → cost t p < cost t q → Before t p q
  first : score t p ≡ score t q → cost t p ≡ cost t q → takes_first p q ≡ true → Before t p q

-- what a test of two numbers and then of others says
less_or : (a b c d : ℕ) {r : Bool} → (ltb a b || eqb c d && r) ≡ true → (a < b) ⊎ ((c ≡ d) × (r ≡ true))
less_or a b c d {r} = go (ltb a b) (eqb c d) (ltb-true a b) (eqb-true c d)
  where
    go : (x y : Bool) → (x ≡ true → a < b) → (y ≡ true → c ≡ d) → (x || y && r) ≡ true → (a < b) ⊎ ((c ≡ d) × (r ≡ true))
    go true y f g h = inl (f refl)
    go false true f g h = inr (g refl, h)
    go false false f g h = absurd (false≢true h)

-- the test and the three ways
pub ranks : {t : Table} {p q : List ℕ} → ranks_before t p q ≡ true → Before t p q
unfolding ranks_before
ranks {t} {p} {q} h =
    ⊎_elim
    higher
    (λ s. ⊎_elim (fewer s.0) (λ k. first s.0 k.0 k.1) (less_or (cost t p) (cost t q) (cost t p) (cost t q) s.1))
    (less_or (score t q) (score t p) (score t p) (score t q) h)

ranked : {t : Table} {p q : List ℕ} → Before t p q → ranks_before t p q ≡ true
unfolding ranks_before
ranked {t} {p} {q} (higher l) = rw (lt-ltb (score t q) (score t p) l)
ranked {t} {p} {q} (fewer e l) = simp (eq-eqb (score t p) (score t q) e, lt-ltb (cost t p) (cost t q) l, or-true)
ranked {t} {p} {q} (first e f h) = simp (eq-eqb (score t p) (score t q) e, eq-eqb (cost t p) (cost t q) f, h, or-true)

-- no plan ranks before itself
pub ranks_irreflexive : (t : Table) (p : List ℕ) → ranks_before t p p ≡ false
unfolding ranks_before
ranks_irreflexive t p =
    simp (le-ltb (score t p) (score t p) (le_refl _), le-ltb (cost t p) (cost t p) (le_refl _), first_irreflexive p, and-false)

-- a plan that ranks before a second ranks before all that the second ranks before
pub ranks_transitive : (t : Table) (p q r : List ℕ) → ranks_before t p q ≡ true → ranks_before t q r ≡ true → ranks_before t p r ≡ true
ranks_transitive t p q r h k = ranked (go (ranks h) (ranks k))
  where
    go : Before t p q → Before t q r → Before t p r
    go (higher a) (higher b) = higher (omega arith)
    go (higher a) (fewer b _) = higher (omega arith)
    go (higher a) (first b _ _) = higher (omega arith)
    go (fewer a _) (higher b) = higher (omega arith)
    go (fewer a x) (fewer b y) = fewer (a ∙ b) (omega arith)
    go (fewer a x) (first b y _) = fewer (a ∙ b) (omega arith)
    go (first a _ _) (higher b) = higher (omega arith)
    go (first a x _) (fewer b y) = fewer (a ∙ b) (omega arith)
    go (first a x u) (first b y v) = first (a ∙ b) (x ∙ y) (first_transitive p q r u v)

-- three cases of two numbers
by_order : {A : Type 0} (a b : ℕ) → (a < b → A) → (a ≡ b → A) → (b < a → A) → A
by_order a b less same more = by_cases (dec_lt a b) less (λ n. by_cases (dec_lt b a) more (λ m. same (omega arith)))

-- two completions of one plan are the same or one ranks before the other
pub ranks_total : (t : Table) {p c d : List ℕ} → Completes p c → Completes p d → (ranks_before t c d ≡ true) ⊎ ((c ≡ d) ⊎ (ranks_before t d c ≡ true))
ranks_total t {c} {d} k l =
    by_order
    (score t c)
    (score t d)
    (λ a. inr (inr (ranked (higher a))))
    (λ a. by_order (cost t c) (cost t d) (λ x. inl (ranked (fewer a x))) (λ x. go a x (first-total k l)) (λ x. inr (inr (ranked (fewer (sym a) x)))))
    (λ a. inl (ranked (higher a)))
  where
    go : score t c ≡ score t d → cost t c ≡ cost t d → Compared takes_first c d → Compared (ranks_before t) c d
    go a x (inl h) = inl (ranked (first a x h))
    go a x (inr (inl e)) = inr (inl e)
    go a x (inr (inr h)) = inr (inr (ranked (first (sym a) (sym x) h)))
