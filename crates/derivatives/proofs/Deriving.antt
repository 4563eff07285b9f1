-- The drops from the two passes: under the weights that the pass down gives the nodes, the losses at an open choice's records come to its drop, and at
-- every other position to 0; all sums fit.
-- Assumes of the arrays that they hold the table and the plan (`Marked`) and the roots (`RootsHeld`), and of the table what check 18 finds (`Monotone`).
use Prim.Native.Nat.{ℕ, zero, suc, ◌+◌, ◌-◌, ◌*◌, ◌≤◌, ◌<◌, ◌^◌}
use native.Mathlib.Nat.{le_refl, le_of_eq, add-zero, zero-add}
use native.Mathlib.Decide.{dec_lt}
use native.Mathlib.Omega.{arith}
use mathlib.Core.Path.{◌≡◌, refl, ap, sym, ◌∙◌, fun_ext}
use mathlib.Core.Bool.{Bool, true, false, cond, false≢true}
use mathlib.Core.Logic.{by_cases}
use mathlib.Core.List.{List, [], ◌∷◌}
use lib.ListN.{length, get_or, set, take, drop, replicate, length-replicate, get_or-replicate, get_or-eq_default}
use lib.Dec.{eqb}
use borrow.Author.Tests.{eqb-true, eq-eqb}
use Rattle.diagram.specs.Table.{chance, Table, Record, sequence, record_at, is_choice, choice_count, scale_of}
use Rattle.diagram.specs.Score.{score}
use Rattle.diagram.specs.Plans.{open_taken, is_open, upper_bound, derivative, derivatives}
use Rattle.diagram.specs.Checks.{position_of}
use Rattle.diagram.specs.Validity.{Monotone}
use Rattle.diagram.proofs.Every.{both, and_true_both, both_ways}
use Rattle.diagram.proofs.Places.{sequence-at}
use Rattle.diagram.proofs.Locality.{position_less}
use Rattle.diagram.proofs.FirstVariable.{scale-positive}
use Rattle.decoding.proofs.Columns.{column-at}
use Rattle.weighing.specs.declared.roots.Roots.{Roots}
use Rattle.weighing.specs.Value.{node_position, value, rooted_sum, variable_at, mark_at, high_weight, low_weight}
use Rattle.weighing.proofs.HeldRoots.{RootsHeld}
use Rattle.weighing.proofs.Values.{shares-drop, weights-scale, value_false, value_true, value_step, score-rooted, scale-rooted}
use Rattle.valuing.specs.Passes.{mark_at_record, arcs_of, plan_arcs, record_loss, losses_of, Marked}
use Rattle.valuing.specs.Valued.{node_values}
use Rattle.valuing.proofs.Bounding.{top-fits}
use Rattle.valuing.proofs.Forcing.{choices-before}
use Rattle.valuing.proofs.Passing.{position-within, mark-at-node, high_is, low-is, high-weight-is, low-weight-is, marked-fits}
use Rattle.valuing.proofs.Gaining.{mark-number, loss_is}
use Rattle.derivatives.specs.Down.{dot, entered_by, RootFits, record_sum, pass_down, Budget}
use Rattle.derivatives.specs.Drops.{Lossy, lossy, loss_at, opens_at, loss_sum, loss_sums, Losing, is_of, value_loss, derivative_at, Chosen}
use Rattle.derivatives.proofs.Transposing.{transposed}
use Rattle.derivatives.proofs.RootWeights.{root-weights-length, all-dot, root-weights_fit, held-rooted, entered_by_lem}
use Rattle.derivatives.proofs.Leaving.{choices-later, left_step}

-- ---------------------------------------------------------------------------
-- Numbers and lists

-- a sum of zeros
record-sum-zero : (ws : List ℕ) (n : ℕ) → record_sum ws (λ _. 0) n ≡ 0
unfolding record_sum
record-sum-zero ws zero = refl
record-sum-zero ws (suc k) = omega (arith, record-sum-zero ws k)

-- a mark in force that is 0 is a choice's own
open_mark : (b : Bool) (m : ℕ) → cond b m 3 ≡ 0 → (b ≡ true) × (m ≡ 0)
open_mark true m e = (refl, e)
open_mark false m e = absurd (omega arith)

-- a test that does not hold is false
pub is_false : (b : Bool) → (b ≡ true → ⊥) → b ≡ false
is_false true f = absurd (f refl)
is_false false f = refl

-- a mark 0 within a plan is an open line
pub open_within : (p : List ℕ) (i : ℕ) → i < length p → get_or p i 0 ≡ 0 → is_open p i ≡ true
unfolding is_open
open_within [] i h e = absurd (omega arith)
open_within (m ∷ p) zero h e = eq-eqb m 0 e
open_within (m ∷ p) (suc i) h e = open_within p i (omega arith) e

-- an open line has the mark 0
pub open_zero : (p : List ℕ) (i : ℕ) → is_open p i ≡ true → get_or p i 0 ≡ 0
unfolding is_open
open_zero [] i o = refl
open_zero (m ∷ p) zero o = eqb-true m 0 o
open_zero (m ∷ p) (suc i) o = open_zero p i o

-- zeros are below every bound
pub zeros-bound : (n b i : ℕ) → get_or (replicate n 0) i 0 ≤ b
zeros-bound n b i =
    by_cases (dec_lt i n)
    (λ l. rw (get_or-replicate {A = ℕ} n i 0 0 l) (omega arith))
    (λ f. rw (get_or-eq_default {A = ℕ} (replicate n 0) 0 {n = i} (rw length-replicate (omega (arith, f)))) (omega arith))

-- ---------------------------------------------------------------------------
-- Sums of losses

-- where no record is open at x nothing is lost there
loss_none : (a : Lossy) (x n : ℕ) → ((k : ℕ) → k < n → opens_at a x k ≡ false) → loss_sum a x n ≡ 0
unfolding loss_sum
loss_none a x zero h = refl
loss_none a x (suc k) h = rw (h k (omega arith), loss_none a x k (λ j l. h j (omega arith))) refl

-- losses that are a number of each record times the node's weight
loss_sum_lem : (a : Lossy) (ws : List ℕ) (r : ℕ → ℕ) (x n : ℕ) → ((k : ℕ) → k < n → cond (opens_at a x k) (loss_at a k) 0 ≡ get_or ws (k + 2) 0 * r k) → loss_sum a x n ≡ record_sum ws r n
unfolding loss_sum record_sum
loss_sum_lem a ws r x zero h = refl
loss_sum_lem a ws r x (suc k) h = rw (h k (omega arith), loss_sum_lem a ws r x k (λ j l. h j (omega arith))) refl

-- ---------------------------------------------------------------------------
-- The budget of the pass down

module _ {t : Table} {p : List ℕ} {n : ℕ} {ps hs ls ws ms : List ℕ} (m : Marked t p n ps hs ls ws ms) where
  -- the arrays hold the position of record k
  position-is : (k : ℕ) → k < n → get_or ps (k + 2) 0 ≡ (record_at t.records k).position
  position-is k h = rw m.positions (column-at (length t.variables) (λ (r : Record). r.position) t.records k (omega (arith, m.size)))

  -- the weights in force
  module _ {fs : List ℕ} (forced : fs ≡ plan_arcs t (open_taken p) n (replicate 544 0)) where
    -- the weights to begin with are what the roots bring
    module _ {rs : Roots} {bs : List ℕ} (e : RootsHeld t rs) (ebs : bs ≡ entered_by rs rs.count (replicate 256 0)) where
      -- the sum with them is the sum over the roots
      root-dot : (v : ℕ → ℕ) → dot bs v (n + 2) ≡ rooted_sum t v
      root-dot v =
          let few = m.size.1 in
          rw (ebs, entered_by_lem e (replicate 256 0) rs.count (le_refl rs.count), e.all, m.size.0) (all-dot t (held-rooted e) v (omega (arith, m.size.0)))

      -- there are 256 weights
      pub root-size : length bs ≡ 256
      root-size = rw (ebs, entered_by_lem e (replicate 256 0) rs.count (le_refl rs.count)) (root-weights-length t rs.count (replicate 256 0))

      -- the roots' weights fit
      pub root-fits : (i : ℕ) → i < rs.count → RootFits rs (replicate 256 0) i
      root-fits i h =
          let within = (e.within i h).1 in
          let fit = root-weights_fit t (held-rooted e) (λ i. scale_of (drop (node_position t i) t.variables)) (omega (arith, m.size)) (λ i. scale-positive (shares-drop m.shares (node_position t i))) (suc i) (omega (arith, e.all)) (get_or rs.nodes i 0) within in
          (omega (arith, within, m.size), rw (entered_by_lem e (replicate 256 0) (suc i) (omega arith)) (omega (arith, fit, scale-rooted t m.formed m.shares, m.scaled)))

      -- the pass down stays within its budget: a node's number is the product of b from its position on
      pub budget : Budget (arcs_of hs ls fs) n (λ i. scale_of (drop (node_position t i) t.variables)) bs
      unfolding node_position position_of
      budget =
          record {
            positive = λ i. scale-positive (shares-drop m.shares (node_position t i));
            steps = λ k h.
                let two : k + 2 ≡ suc (suc k) = omega arith in
                rw (high-weight-is m forced k h, low-weight-is m forced k h, high_is m k h, low-is m k h, two)
                (le_of_eq (weights-scale t m.formed m.shares (open_taken p) k));
            total = rw (root-dot (λ i. scale_of (drop (node_position t i) t.variables)), scale-rooted t m.formed m.shares) m.scaled;
            high_less = (marked-fits m forced).high_less;
            low_less = (marked-fits m forced).low_less;
          }

      module _ {ds : List ℕ} (eds : ds ≡ pass_down (arcs_of hs ls fs) n bs) where
        -- of the ends, only true counts
        ends : (u : List ℕ) → dot ds (value t u) 2 ≡ get_or ds 1 0
        unfolding dot
        ends u = rw (value_false, value_true) (omega arith)

        -- a score, with what values that go by the arcs in force fall short, is the weight that comes to the end true
        summed : (u : List ℕ) (r : ℕ → ℕ) → ((k : ℕ) → value t u (k + 2) + r k ≡ high_weight t (open_taken p) k * value t u (record_at t.records k).hi + low_weight t (open_taken p) k * value t u (record_at t.records k).lo) → score t u + record_sum ds r n ≡ get_or ds 1 0
        summed u r step =
            let few = m.size.1 in
            let all = transposed (arcs_of hs ls fs) n bs (value t u) r (marked-fits m forced).high_less (marked-fits m forced).low_less (omega (arith, root-size)) (λ k h. rw (high-weight-is m forced k h, low-weight-is m forced k h, high_is m k h, low-is m k h) (step k)) in
            omega (arith, rw (← eds) at all, root-dot (value t u), score-rooted t m.formed m.shares u, ends u)

        -- the top is the weight that comes to the end true
        top-is : score t (open_taken p) ≡ get_or ds 1 0
        top-is = omega (arith, summed (open_taken p) (λ _. 0) (λ k. rw add-zero (value_step t m.formed m.shares (open_taken p) k)), record-sum-zero ds n)

        module _ (monotone : Monotone t) where
          -- an open line's drop is what its records fall short of, each times its node's weight
          drop-is : (i : ℕ) → is_open p i ≡ true → derivative t p i ≡ record_sum ds (value_loss t p i) n
          unfolding derivative upper_bound
          drop-is i o = rw o (omega (arith, top-is, summed (open_taken (set p i 2)) (value_loss t p i) (left_step t m.formed monotone m.shares p i o)))

  -- ---------------------------------------------------------------------------
  -- Records that are open at a position

  -- a record's mark is 0 only where its choice is open
  pub mark_open : (k : ℕ) → k < n → mark_at_record ps ms k ≡ 0 → (is_choice (variable_at t k) ≡ true) × (is_open p (choice_count (take (record_at t.records k).position t.variables)) ≡ true)
  unfolding variable_at
  mark_open k h e =
      let s = open_mark (is_choice (variable_at t k)) (mark_at t p k) (sym (mark-at-node m k h) ∙ e) in
      let before = choices-before t.variables (record_at t.records k).position (position_less m.formed k) s.0 in
      (s.0, open_within p _ (omega (arith, m.plan)) (sym (mark-number t p k) ∙ s.1))

  module _ (ns ds : List ℕ) (x : ℕ) where
    -- what a record that is open at x says of x
    opened : (k : ℕ) → k < n → opens_at (lossy ps ms ns ds) x k ≡ true → ((record_at t.records k).position ≡ x) × (is_choice (get_or t.variables x (chance 0 1)) ≡ true) × (is_open p (choice_count (take x t.variables)) ≡ true)
    unfolding opens_at mark_at_record variable_at
    opened k h e =
        let s = both (eqb (get_or ps (k + 2) 0) x) e in
        let at : (record_at t.records k).position ≡ x = sym (position-is k h) ∙ eqb-true _ _ s.0 in
        let o = mark_open k h (eqb-true _ _ s.1) in
        (at, rw at at o.0, rw at at o.1)

    module _ (c : is_choice (get_or t.variables x (chance 0 1)) ≡ true) (o : is_open p (choice_count (take x t.variables)) ≡ true) where
      -- records of one choice stand at one position
      same-choice : (k : ℕ) → is_of t (choice_count (take x t.variables)) k ≡ true → (record_at t.records k).position ≡ x
      unfolding is_of variable_at
      same-choice k e =
          let s = both (is_choice (variable_at t k)) e in
          let y = (record_at t.records k).position in
          let number = eqb-true (choice_count (take y t.variables)) _ s.1 in
          by_cases (dec_lt x y)
          (λ l. absurd (omega (arith, number, choices-later t.variables x y l c)))
          (λ f. by_cases (dec_lt y x)
          (λ l. absurd (omega (arith, number, choices-later t.variables y x l s.0)))
          (λ g. omega (arith, f, g)))

      -- the records that are open at an open choice's position are those of the choice
      opens_is : (k : ℕ) → k < n → opens_at (lossy ps ms ns ds) x k ≡ is_of t (choice_count (take x t.variables)) k
      unfolding opens_at is_of mark_at_record variable_at
      opens_is k h =
          both_ways _ _
          (λ e.
          let at = (opened k h e).0 in
          rw at (and_true_both _ _ c (eq-eqb (choice_count (take x t.variables)) _ refl)))
          (λ e.
          let at = same-choice k e in
          let here : get_or ps (k + 2) 0 ≡ x = position-is k h ∙ at in
          let mark : mark_at_record ps ms k ≡ 0 = mark-at-node m k h ∙ rw (mark-number t p k, at, c) (open_zero p _ o) in
          and_true_both _ _ (eq-eqb _ _ here) (eq-eqb _ _ mark))

      -- what is lost at a record is what its value loses times the node's weight
      sum_is : ((k : ℕ) → k < n → get_or ns (k + 2) 0 ≡ record_loss t (open_taken p) k) → (k : ℕ) → k < n → cond (opens_at (lossy ps ms ns ds) x k) (loss_at (lossy ps ms ns ds) k) 0 ≡ get_or ds (k + 2) 0 * value_loss t p (choice_count (take x t.variables)) k
      unfolding loss_at value_loss
      sum_is lost k h =
          rw (opens_is k h, lost k h) (go (is_of t (choice_count (take x t.variables)) k) _ _)
        where
          go : (b : Bool) (w y : ℕ) → cond b (w * y) 0 ≡ w * cond b y 0
          go true w y = refl
          go false w y = omega arith

    -- nothing is lost where no open choice stands
    loss_nothing : (is_choice (get_or t.variables x (chance 0 1)) ≡ true → is_open p (choice_count (take x t.variables)) ≡ true → ⊥) → loss_sum (lossy ps ms ns ds) x n ≡ 0
    loss_nothing f =
        loss_none _ x n (λ k h. is_false _ (λ e. let s = opened k h e in f s.1 s.2))

  -- ---------------------------------------------------------------------------
  -- Bounds

  -- the drops are at most 2^56
  drop-fits : (x : ℕ) → derivative_at t p x ≤ 2 ^ 56
  unfolding derivative_at derivative
  drop-fits x =
      go (is_choice (get_or t.variables x (chance 0 1))) (is_open p (choice_count (take x t.variables))) _
    where
      go : (b d : Bool) (y : ℕ) → cond b (cond d (upper_bound t p - y) 0) 0 ≤ 2 ^ 56
      go true true y = omega (arith, top-fits m)
      go true false y = omega arith
      go false d y = omega arith

  -- ---------------------------------------------------------------------------
  -- The drops

  module _ (monotone : Monotone t) {rs : Roots} {fs bs vs ns ds : List ℕ} (forced : fs ≡ plan_arcs t (open_taken p) n (replicate 544 0)) (values : vs ≡ node_values t (open_taken p) n (replicate 256 0)) (e : RootsHeld t rs) (ebs : bs ≡ entered_by rs rs.count (replicate 256 0)) (eds : ds ≡ pass_down (arcs_of hs ls fs) n bs) (ens : ns ≡ losses_of ls ws vs n) where
    -- what is lost at a position is the drop of its choice
    lost-at : (x : ℕ) → loss_sum (lossy ps ms ns ds) x n ≡ derivative_at t p x
    unfolding derivative_at derivative
    lost-at x =
        let i = choice_count (take x t.variables) in
        go (is_choice (get_or t.variables x (chance 0 1))) refl (is_open p i) refl
      where
        go : (b : Bool) → is_choice (get_or t.variables x (chance 0 1)) ≡ b → (d : Bool) → is_open p (choice_count (take x t.variables)) ≡ d → loss_sum (lossy ps ms ns ds) x n ≡ cond b (derivative t p (choice_count (take x t.variables))) 0
        go true c true o =
            loss_sum_lem _ ds _ x n (sum_is ns ds x c o (λ k h. rw ens (loss_is m values k h))) ∙ sym (drop-is forced e ebs eds monotone (choice_count (take x t.variables)) o)
        go true c false o = loss_nothing ns ds x (λ _ q. false≢true (sym o ∙ q)) ∙ rw o refl
        go false c d o = loss_nothing ns ds x (λ q _. false≢true (sym c ∙ q))

    -- what is lost at the positions is the drops
    pub drops_are : loss_sums (lossy ps ms ns ds) n ≡ sequence (derivative_at t p) 0 64
    drops_are = ap (λ (f : ℕ → ℕ). sequence f 0 64) (fun_ext lost-at)

    -- the sums fit
    pub losing : Losing (lossy ps ms ns ds) n
    losing = record { few = m.size.1; within = position-within m; sums = λ x. rw (lost-at x) (drop-fits x) }

-- ---------------------------------------------------------------------------
-- By choice number

-- the cells of the choices' positions hold the drops of the choices
pub drops-chosen : (t : Table) (p : List ℕ) {cells : List ℕ} → length t.variables < 64 → cells ≡ sequence (derivative_at t p) 0 64 → Chosen t (derivative t p) cells
unfolding derivative_at
drops-chosen t p few e x h c = rw (e, sequence-at (derivative_at t p) 0 64 x 0 (omega arith), zero-add x, c) refl

-- one drop for each choice
pub drops-all : (t : Table) (p : List ℕ) → length p ≡ choice_count t.variables → sequence (derivative t p) 0 (choice_count t.variables) ≡ derivatives t p
unfolding derivatives
drops-all t p e = rw e refl
