-- Leaving one open line of a plan: at a record of its choice the value falls to what comes by the lo arc, and everywhere else a value still goes by the
-- weights that the plan has with all open lines taken.
-- Assumes of the table what checks 14, 17 and 18 find (`BoundedShares`, `Formed`, `Monotone`), where a law says so.
use Prim.Native.Nat.{ℕ, zero, suc, ◌+◌, ◌*◌, ◌<◌}
use native.Mathlib.Nat.{add-zero, add-sub_of_le}
use native.Mathlib.Decide.{dec_lt}
use native.Mathlib.Omega.{arith}
use mathlib.Core.Path.{◌≡◌, refl, ap, sym, ◌∙◌}
use mathlib.Core.Bool.{Bool, true, false, cond, false≢true}
use mathlib.Core.Logic.{by_cases}
use mathlib.Core.List.{List, [], ◌∷◌}
use lib.ListN.{length, get_or, set, take, get_or-eq_default}
use lib.Seq.{get_or-set_same, get_or-set_other, drop-set-lt}
use borrow.Author.Tests.{eqb-true, eq-eqb}
use Rattle.diagram.specs.Table.{Variable, choice, chance, Table, record_at, is_choice, choice_count}
use Rattle.diagram.specs.Score.{is_taken}
use Rattle.diagram.specs.Plans.{open_taken, is_open}
use Rattle.diagram.specs.Validity.{Formed, BoundedShares, Monotone}
use Rattle.diagram.proofs.Every.{both, and_true_both}
use Rattle.weighing.specs.Value.{node_position, marks_from, value_from, value, variable_at, mark_at, high_weight, low_weight}
use Rattle.weighing.proofs.Values.{value_step}
use Rattle.valuing.specs.Passes.{record_loss}
use Rattle.valuing.proofs.Gaining.{weights-taken, weights-same, mark-number, low-le-high, value_taken, value-left}
use Rattle.derivatives.specs.Drops.{is_of, value_loss}

-- ---------------------------------------------------------------------------
-- Plans

-- to leave a line and take the open ones, or the other way round
pub open_taken-set : (p : List ℕ) (i : ℕ) → open_taken (set p i 2) ≡ set (open_taken p) i 2
unfolding open_taken
open_taken-set [] i = refl
open_taken-set (zero ∷ p) zero = refl
open_taken-set (suc m ∷ p) zero = refl
open_taken-set (zero ∷ p) (suc i) = ap (λ (q : List ℕ). 1 ∷ q) (open_taken-set p i)
open_taken-set (suc m ∷ p) (suc i) = ap (λ (q : List ℕ). suc m ∷ q) (open_taken-set p i)

-- an open line is taken with all open lines
pub open_taken_lem : (p : List ℕ) (i : ℕ) → is_open p i ≡ true → get_or (open_taken p) i 0 ≡ 1
unfolding open_taken is_open
open_taken_lem [] i o = absurd (false≢true o)
open_taken_lem (zero ∷ p) zero o = refl
open_taken_lem (suc m ∷ p) zero o = absurd (omega (arith, eqb-true (suc m) 0 o))
open_taken_lem (zero ∷ p) (suc i) o = open_taken_lem p i o
open_taken_lem (suc m ∷ p) (suc i) o = open_taken_lem p i o

-- a mark that is not 0 stands within the plan
pub within-plan : (q : List ℕ) (i : ℕ) → get_or q i 0 ≡ 1 → i < length q
within-plan q i e = by_cases (dec_lt i (length q)) (λ l. l) (λ f. absurd (omega (arith, e, get_or-eq_default q 0 {n = i} (omega (arith, f)))))

-- the choices before a choice are fewer than those before any later position
pub choices-later : (vs : List Variable) (x y : ℕ) → x < y → is_choice (get_or vs x (chance 0 1)) ≡ true → choice_count (take x vs) < choice_count (take y vs)
unfolding choice_count is_choice
choices-later vs x zero h e = absurd (omega arith)
choices-later [] x (suc y) h e = absurd (false≢true e)
choices-later (choice ∷ vs) zero (suc y) h e = omega arith
choices-later (chance a b ∷ vs) zero (suc y) h e = absurd (false≢true e)
choices-later (choice ∷ vs) (suc x) (suc y) h e = omega (arith, choices-later vs x y (omega arith) e)
choices-later (chance a b ∷ vs) (suc x) (suc y) h e = choices-later vs x y (omega arith) e

-- ---------------------------------------------------------------------------
-- One line left

module _ (t : Table) (formed : Formed (length t.variables) t.records) (monotone : Monotone t) (shares : BoundedShares t.variables) where
  module _ (u : List ℕ) (i : ℕ) (taken : get_or u i 0 ≡ 1) where
    -- the values after choice i do not depend on its mark
    value-later : (x n : ℕ) → is_choice (get_or t.variables x (chance 0 1)) ≡ true → choice_count (take x t.variables) ≡ i → x < node_position t n → value t (set u i 2) n ≡ value t u n
    unfolding value value_from marks_from
    value-later x n c e l =
        let later = choices-later t.variables x (node_position t n) l c in
        rw (drop-set-lt (choice_count (take (node_position t n) t.variables)) u i 2 (omega arith)) refl

    module _ (k : ℕ) where
      -- record k is of choice i
      module _ (c : is_choice (variable_at t k) ≡ true) (e : choice_count (take (record_at t.records k).position t.variables) ≡ i) where
        -- u takes choice i
        mark-taken : is_taken (mark_at t u k) ≡ true
        mark-taken = rw (mark-number t u k, e, taken) refl

        -- with choice i left, its mark leaves it
        mark-left : is_taken (mark_at t (set u i 2) k) ≡ false
        mark-left = rw (mark-number t (set u i 2) k, e, get_or-set_same u i 2 0 (within-plan u i taken)) refl

        -- the children's values stay as they are
        left-high : value t (set u i 2) (record_at t.records k).hi ≡ value t u (record_at t.records k).hi
        unfolding variable_at node_position
        left-high = value-later (record_at t.records k).position (record_at t.records k).hi c e (formed.hi_later k)

        left-low : value t (set u i 2) (record_at t.records k).lo ≡ value t u (record_at t.records k).lo
        unfolding variable_at node_position
        left-low = value-later (record_at t.records k).position (record_at t.records k).lo c e (formed.lo_later k)

        -- the value falls to what comes by the lo arc
        own_step : value t (set u i 2) (k + 2) + record_loss t u k ≡ high_weight t u k * value t (set u i 2) (record_at t.records k).hi + low_weight t u k * value t (set u i 2) (record_at t.records k).lo
        own_step =
            let w = weights-taken t u k c mark-taken in
            rw (value-left t formed monotone shares (set u i 2) k c mark-left, value_taken t formed monotone shares u k c mark-taken, w.0, w.1, left-high, left-low)
            (omega (arith, add-sub_of_le (low-le-high t formed monotone shares u k c)))

      -- record k is of another variable
      other_step : (is_choice (variable_at t k) ≡ true → choice_count (take (record_at t.records k).position t.variables) ≡ i → ⊥) → value t (set u i 2) (k + 2) ≡ high_weight t u k * value t (set u i 2) (record_at t.records k).hi + low_weight t u k * value t (set u i 2) (record_at t.records k).lo
      other_step f =
          let w = weights-same t u (set u i 2) k (λ c. rw (mark-number t u k, mark-number t (set u i 2) k) (sym (get_or-set_other u i _ 2 0 (f c)))) in
          rw (w.0, w.1) (value_step t formed shares (set u i 2) k)

  module _ (p : List ℕ) (i : ℕ) (o : is_open p i ≡ true) where
    -- with choice i left, every value and what it loses come by the weights of the plan with all open lines taken
    pub left_step : (k : ℕ) → value t (open_taken (set p i 2)) (k + 2) + value_loss t p i k ≡ high_weight t (open_taken p) k * value t (open_taken (set p i 2)) (record_at t.records k).hi + low_weight t (open_taken p) k * value t (open_taken (set p i 2)) (record_at t.records k).lo
    unfolding is_of value_loss
    left_step k = rw (open_taken-set p i) (go (is_of t i k) refl)
      where
        go : (b : Bool) → is_of t i k ≡ b → value t (set (open_taken p) i 2) (k + 2) + cond b (record_loss t (open_taken p) k) 0 ≡ high_weight t (open_taken p) k * value t (set (open_taken p) i 2) (record_at t.records k).hi + low_weight t (open_taken p) k * value t (set (open_taken p) i 2) (record_at t.records k).lo
        go true e =
            let s = both (is_choice (variable_at t k)) e in
            own_step (open_taken p) i (open_taken_lem p i o) k s.0 (eqb-true _ _ s.1)
        go false e =
            rw add-zero
            (other_step (open_taken p) i (open_taken_lem p i o) k (λ c n. false≢true (sym e ∙ and_true_both _ _ c (eq-eqb _ _ n))))
