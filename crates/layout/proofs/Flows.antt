-- A visit's walk over the layer of its lowest open line: the cells hand on the path weights under the plan visited, the sums fit, and what leaving the line
-- loses is its drop. With the line taken the cells are right as they stand, with it left once what its nodes hand on goes by their lo arcs.
-- Assumes of the layout that it is the table's (`Layered`), and of the layer that it is the line's (`Line`).
use Prim.Native.Nat.{ℕ, zero, suc, ◌+◌, ◌-◌, ◌*◌, ◌≤◌, ◌<◌, ◌^◌}
use native.Mathlib.Nat.{add-zero, eq-or-lt_of_le, le_of_lt, le_of_eq}
use native.Mathlib.Decide.{dec_lt}
use native.Mathlib.Omega.{arith}
use mathlib.Core.Path.{◌≡◌, refl, ap, ap₂, sym, ◌∙◌}
use mathlib.Core.Bool.{Bool, true, false, cond, false≢true}
use mathlib.Core.Logic.{⊎_elim, by_cases}
use mathlib.Core.List.{List, [], ◌∷◌}
use lib.ListN.{length, get_or, set, take, drop, length-set}
use lib.Seq.{get_or-set_same, get_or-set_other}
use lib.Dec.{eqb}
use borrow.Author.Tests.{eqb-true, eq-eqb}
use Rattle.diagram.specs.Table.{Variable, choice, chance, Table, record_at, is_choice, choice_count, scale}
use Rattle.diagram.specs.Plans.{open_taken, is_open, upper_bound, derivative}
use Rattle.diagram.specs.Visits.{lowest_open}
use Rattle.diagram.specs.Checks.{position_of}
use Rattle.diagram.proofs.Every.{both, and_true_both}
use Rattle.diagram.proofs.FirstVariable.{score-le-scale}
use Rattle.weighing.specs.Value.{node_position, marks_from, value_from, value, variable_at, mark_at, high_share, low_share, high_weight, low_weight, high_arc, low_arc}
use Rattle.valuing.specs.Passes.{mark_of, high_in_force, low_in_force}
use Rattle.valuing.proofs.Gaining.{weights-taken, weights-left, weights-same, mark-number}
use Rattle.derivatives.specs.Drops.{is_of, value_loss}
use Rattle.derivatives.proofs.Leaving.{open_taken-set, open_taken_lem, within-plan, choices-later}
use Rattle.derivatives.proofs.Deriving.{is_false, open_within, open_zero}
use Rattle.layout.specs.Weights.{path_weight, weight_sum}
use Rattle.layers.specs.declared.arcs.LaidArcs.{LaidArcs}
use Rattle.layers.specs.Layers.{inflow, put, cross_node, cross_nodes, own_node, own_nodes, drop_sum, leave_node, leave_nodes, Enterable}
use Rattle.layout.specs.Flows.{high_at, low_at, Layered, rank_sum, at_sum, Line, Settles, Right, Same}
use Rattle.layout.proofs.Weights.{weight_step, weight_local, weight-fits, drop-weights}

-- the same cells for more nodes are the same for fewer
pub same_fewer : {i j : ℕ} {cells cells' : List ℕ} → i ≤ j → Same j cells cells' → Same i cells cells'
same_fewer h same =
    record { high = λ k b. same.high k (omega arith); low = λ k b. same.low k (omega arith); root = same.root }

pub same_trans : {i : ℕ} {a b c : List ℕ} → Same i a b → Same i b c → Same i a c
same_trans ab bc =
    record {
      high = λ j h. bc.high j h ∙ ab.high j h;
      low = λ j h. bc.low j h ∙ ab.low j h;
      root = bc.root ∙ ab.root;
    }

-- cells that are the same hand on the same
pub right-same : {t : Table} {s u order : List ℕ} {i : ℕ} {cells cells' : List ℕ} → Same i cells cells' → Right t s u order i cells → Right t s u order i cells'
right-same same right =
    record {
      high = λ j k h e. rw (same.high j h) (right.high j k h e);
      low = λ j k h e. rw (same.low j h) (right.low j k h e);
    }

-- cells that are right for more nodes are right for fewer
right_fewer : {t : Table} {s u order : List ℕ} {i j : ℕ} {cells : List ℕ} → i ≤ j → Right t s u order j cells → Right t s u order i cells
right_fewer h right = record { high = λ z k b. right.high z k (omega arith); low = λ z k b. right.low z k (omega arith) }

-- ---------------------------------------------------------------------------
-- Cells

-- what the two cells of a node hold once they are written, and the others
module _ (cells : List ℕ) (i x y : ℕ) where
  put_other : (c : ℕ) → (c ≡ i + 2 → ⊥) → (c ≡ i + 258 → ⊥) → get_or (put cells i x y) c 0 ≡ get_or cells c 0
  put_other c f g = get_or-set_other (set cells (i + 2) x) (i + 258) c y 0 g ∙ get_or-set_other cells (i + 2) c x 0 f

  module _ (few : i < 254) where
    rank_other : (j : ℕ) → j < 254 → (j ≡ i → ⊥) → (get_or (put cells i x y) (j + 2) 0 ≡ get_or cells (j + 2) 0) × (get_or (put cells i x y) (j + 258) 0 ≡ get_or cells (j + 258) 0)
    rank_other j h f = (put_other (j + 2) (omega (arith, f)) (omega arith), put_other (j + 258) (omega arith) (omega (arith, f)))

    module _ (long : length cells ≡ 512) where
      put-high : get_or (put cells i x y) (i + 2) 0 ≡ x
      put-high = get_or-set_other (set cells (i + 2) x) (i + 258) (i + 2) y 0 (omega arith) ∙ get_or-set_same cells (i + 2) x 0 (omega arith)

      put_low : get_or (put cells i x y) (i + 258) 0 ≡ y
      put_low = get_or-set_same (set cells (i + 2) x) (i + 258) y 0 (simp length-set (omega arith))

-- of the cells, those of n nodes from rank i on are written, and no others
record Wrote (i n : ℕ) (cells cells' : List ℕ) : Type 0 where
  long : length cells' ≡ 512
  root : get_or cells' 1 0 ≡ get_or cells 1 0
  high : (j : ℕ) → j < 254 → (i ≤ j → j < i + n → ⊥) → get_or cells' (j + 2) 0 ≡ get_or cells (j + 2) 0
  low : (j : ℕ) → j < 254 → (i ≤ j → j < i + n → ⊥) → get_or cells' (j + 258) 0 ≡ get_or cells (j + 258) 0

wrote_start : {i : ℕ} {cells : List ℕ} → length cells ≡ 512 → Wrote i 0 cells cells
wrote_start long = record { long = long; root = refl; high = λ j h f. refl; low = λ j h f. refl }

-- one more node's cells
wrote_next : {i n : ℕ} {cells c : List ℕ} (x y : ℕ) → i + n < 254 → Wrote i n cells c → Wrote i (suc n) cells (put c (i + n) x y)
wrote_next {i} {n} {cells} {c} x y h w =
    record {
      long = simp length-set w.long;
      root = put_other c (i + n) x y 1 (omega arith) (omega arith) ∙ w.root;
      high = λ j b f. (rank_other c (i + n) x y h j b (λ e. f (omega arith) (omega arith))).0 ∙ w.high j b (λ p q. f p (omega arith));
      low = λ j b f. (rank_other c (i + n) x y h j b (λ e. f (omega arith) (omega arith))).1 ∙ w.low j b (λ p q. f p (omega arith));
    }

-- what is written comes after the first i nodes
wrote_same : {i n : ℕ} {cells cells' : List ℕ} → i ≤ 254 → Wrote i n cells cells' → Same i cells cells'
wrote_same h w =
    record {
      high = λ j b. w.high j (omega arith) (λ p q. omega arith);
      low = λ j b. w.low j (omega arith) (λ p q. omega arith);
      root = w.root;
    }

-- n nodes from rank i on are turned from their hi arcs to their lo arcs
record Turned (i n : ℕ) (cells cells' : List ℕ) : Type 0 where
  wrote : Wrote i n cells cells'
  high : (j : ℕ) → i ≤ j → j < i + n → get_or cells' (j + 2) 0 ≡ 0
  low : (j : ℕ) → i ≤ j → j < i + n → get_or cells' (j + 258) 0 ≡ get_or cells (j + 2) 0

turned : (i n : ℕ) {cells : List ℕ} → i + n ≤ 254 → length cells ≡ 512 → Turned i n cells (leave_nodes i n cells)
unfolding leave_nodes leave_node
turned i zero h long =
    record { wrote = wrote_start long; high = λ j a b. absurd (omega arith); low = λ j a b. absurd (omega arith) }
turned i (suc n) {cells} h long =
    let w = turned i n (omega arith) long in
    let z = i + n in
    let c = leave_nodes i n cells in
    let y = get_or c (z + 2) 0 in
    record {
      wrote = wrote_next 0 y (omega arith) w.wrote;
      high = λ j a b. ⊎_elim
          (λ q. rw q (put-high c z 0 y (omega arith) w.wrote.long))
          (λ q. (rank_other c z 0 y (omega arith) j (omega arith) (omega arith)).0 ∙ w.high j a q)
          (eq-or-lt_of_le {n = j} {m = z} (omega arith));
      low = λ j a b. ⊎_elim
          (λ q. rw q (put_low c z 0 y (omega arith) w.wrote.long ∙ w.wrote.high z (omega arith) (λ a b. omega arith)))
          (λ q. (rank_other c z 0 y (omega arith) j (omega arith) (omega arith)).1 ∙ w.low j a q)
          (eq-or-lt_of_le {n = j} {m = z} (omega arith));
    }

-- ---------------------------------------------------------------------------
-- What comes to a node

-- the node at rank j
abbrev node : (order : List ℕ) → (j : ℕ) → ℕ
node order j = get_or order j 0

-- the position of record k's node
place-node : (t : Table) (k : ℕ) → node_position t (k + 2) ≡ (record_at t.records k).position
unfolding node_position position_of
place-node t k =
    let e : k + 2 ≡ suc (suc k) = omega arith in
    rw e refl

module _ {t : Table} {s order : List ℕ} {l : LaidArcs} {losses : List ℕ} (layered : Layered t s order l losses) (u : List ℕ) where
  -- where the cells of the first i nodes are right, the path weight of the node at rank i comes to it
  inflow-weight : {i : ℕ} {cells : List ℕ} → i < length t.records → get_or cells 1 0 ≡ 1 → Right t s u order i cells → inflow l cells i ≡ path_weight t u (node order i)
  unfolding node_position
  inflow-weight {i} {cells} h rooted right =
      let k = layered.nodes i h in
      layered.inflows cells rooted (λ k. path_weight t u (k + 2) * high_weight t u k) (λ k. path_weight t u (k + 2) * low_weight t u k) i h (λ j k b e. (right.high j k b e, right.low j k b e))
      ∙ (sym (weight_step t layered.formed layered.shares layered.sized.few layered.rooted u (node order i) (omega (arith, k.2)) (omega (arith, k.1, k.2))))

  -- the cells of one node more are right
  right-next : {i j : ℕ} {cells : List ℕ} (x y : ℕ) → i < 254 → j ≤ suc i → length cells ≡ 512 → ((k : ℕ) → node order i ≡ k + 2 → (x * high_at t s k ≡ path_weight t u (k + 2) * high_weight t u k) × (y * low_at t s k ≡ path_weight t u (k + 2) * low_weight t u k)) → Right t s u order i cells → Right t s u order j (put cells i x y)
  right-next {i} {j} {cells} x y h b long new right =
      record {
        high = λ z k m e. ⊎_elim
            (λ q.
            let cell : get_or (put cells i x y) (z + 2) 0 ≡ x = rw q (put-high cells i x y h long) in
            rw cell (new k (rw q at e)).0)
            (λ q. rw (rank_other cells i x y h z (omega arith) (omega arith)).0 (right.high z k q e))
            (eq-or-lt_of_le {n = z} {m = i} (omega arith));
        low = λ z k m e. ⊎_elim
            (λ q.
            let cell : get_or (put cells i x y) (z + 258) 0 ≡ y = rw q (put_low cells i x y h long) in
            rw cell (new k (rw q at e)).1)
            (λ q. rw (rank_other cells i x y h z (omega arith) (omega arith)).1 (right.low z k q e))
            (eq-or-lt_of_le {n = z} {m = i} (omega arith));
      }

  -- n nodes from rank i on have handed on their path weights
  record Walked (i n : ℕ) (cells cells' : List ℕ) : Type 0 where
    wrote : Wrote i n cells cells'
    right : Right t s u order (i + n) cells'
    hold : (j : ℕ) → i ≤ j → j < i + n → get_or cells' (j + 2) 0 ≡ path_weight t u (node order j)

  walked_start : {i : ℕ} {cells : List ℕ} → length cells ≡ 512 → Right t s u order i cells → Walked i 0 cells cells
  walked_start long right =
      record { wrote = wrote_start long; right = rw add-zero right; hold = λ j a b. absurd (omega arith) }

  module _ {i n : ℕ} {cells c : List ℕ} (rooted : get_or cells 1 0 ≡ 1) (h : i + n < length t.records) (w : Walked i n cells c) where
    walked_inflow : inflow l c (i + n) ≡ path_weight t u (node order (i + n))
    walked_inflow = inflow-weight h (w.wrote.root ∙ rooted) w.right

    -- one more: its hi arc is in force, and y is right for its lo arc
    walked_next : (y : ℕ) → ((k : ℕ) → node order (i + n) ≡ k + 2 → (high_at t s k ≡ high_weight t u k) × (y * low_at t s k ≡ path_weight t u (k + 2) * low_weight t u k)) → Walked i (suc n) cells (put c (i + n) (inflow l c (i + n)) y)
    walked_next y new =
        let z = i + n in
        let x = inflow l c (i + n) in
        let few : z < 254 = omega (arith, layered.sized.few) in
        record {
          wrote = wrote_next x y few w.wrote;
          right = right-next x y few (omega arith) w.wrote.long (λ k e. (rw (walked_inflow, e, (new k e).0) refl, (new k e).1)) w.right;
          hold = λ j a b. ⊎_elim
              (λ q. rw q (put-high c z x y few w.wrote.long ∙ walked_inflow))
              (λ q. (rank_other c z x y few j (omega arith) (omega arith)).0 ∙ w.hold j a q)
              (eq-or-lt_of_le {n = j} {m = z} (omega arith));
        }

-- ---------------------------------------------------------------------------
-- Plans and weights

-- an open line is one of the plan
open_less : (p : List ℕ) (i : ℕ) → is_open p i ≡ true → i < length p
unfolding is_open
open_less [] i o = absurd (false≢true o)
open_less (m ∷ p) zero o = omega arith
open_less (m ∷ p) (suc i) o = omega (arith, open_less p i o)

-- a line that is settled keeps its mark
settled-kept : (p : List ℕ) (i : ℕ) → (get_or p i 0 ≡ 0 → ⊥) → get_or (open_taken p) i 0 ≡ get_or p i 0
unfolding open_taken
settled-kept [] i f = refl
settled-kept (zero ∷ p) zero f = absurd (f refl)
settled-kept (suc m ∷ p) zero f = refl
settled-kept (zero ∷ p) (suc i) f = settled-kept p i f
settled-kept (suc m ∷ p) (suc i) f = settled-kept p i f

-- plans that agree from choice c on agree there with their open lines taken
drop-taken : (p s : List ℕ) (c : ℕ) → length p ≡ length s → ((i : ℕ) → c ≤ i → get_or p i 0 ≡ get_or s i 0) → drop c (open_taken p) ≡ drop c (open_taken s)
unfolding open_taken
drop-taken [] [] c e f = refl
drop-taken [] (n ∷ s) c e f = absurd (omega arith)
drop-taken (m ∷ p) [] c e f = absurd (omega arith)
drop-taken (zero ∷ p) (zero ∷ s) zero e f = ap (λ (q : List ℕ). 1 ∷ q) (drop-taken p s zero (omega arith) (λ i h. f (suc i) (omega arith)))
drop-taken (zero ∷ p) (suc n ∷ s) zero e f = absurd (omega (arith, f 0 (omega arith)))
drop-taken (suc m ∷ p) (zero ∷ s) zero e f = absurd (omega (arith, f 0 (omega arith)))
drop-taken (suc m ∷ p) (suc n ∷ s) zero e f = ap₂ (λ (a : ℕ) (q : List ℕ). a ∷ q) (f 0 (omega arith)) (drop-taken p s zero (omega arith) (λ i h. f (suc i) (omega arith)))
drop-taken (zero ∷ p) (zero ∷ s) (suc c) e f = drop-taken p s c (omega arith) (λ i h. f (suc i) (omega arith))
drop-taken (zero ∷ p) (suc n ∷ s) (suc c) e f = drop-taken p s c (omega arith) (λ i h. f (suc i) (omega arith))
drop-taken (suc m ∷ p) (zero ∷ s) (suc c) e f = drop-taken p s c (omega arith) (λ i h. f (suc i) (omega arith))
drop-taken (suc m ∷ p) (suc n ∷ s) (suc c) e f = drop-taken p s c (omega arith) (λ i h. f (suc i) (omega arith))

-- the choices before a position are no fewer than those before an earlier one
choices_mono : (vs : List Variable) (x y : ℕ) → x ≤ y → choice_count (take x vs) ≤ choice_count (take y vs)
unfolding choice_count
choices_mono vs zero y h = omega arith
choices_mono vs (suc x) zero h = absurd (omega arith)
choices_mono [] (suc x) (suc y) h = omega arith
choices_mono (choice ∷ vs) (suc x) (suc y) h = omega (arith, choices_mono vs x y (omega arith))
choices_mono (chance a b ∷ vs) (suc x) (suc y) h = choices_mono vs x y (omega arith)

-- the mark in force at record k, by its choice's number
mark_of_lem : (t : Table) (s : List ℕ) (k : ℕ) → mark_of t.variables s (record_at t.records k).position ≡ cond (is_choice (variable_at t k)) (mark_at t s k) 3
unfolding mark_of variable_at mark_at marks_from
mark_of_lem t s k = refl

-- the shares of a variable whose line is settled from the start
settled-shares : (v : Variable) (m m' g h : ℕ) → (cond (is_choice v) m 3 ≡ 0 → ⊥) → m ≤ 2 → (is_choice v ≡ true → m' ≡ m) → (high_in_force (cond (is_choice v) m 3) (high_share v 1 * g) ≡ high_share v m' * g) × (low_in_force (cond (is_choice v) m 3) (low_share v 2 * h) ≡ low_share v m' * h)
unfolding is_choice high_share low_share high_in_force low_in_force
settled-shares choice zero m' g h f b e = absurd (f refl)
settled-shares choice (suc zero) m' g h f b e = rw (e refl) (refl, omega arith)
settled-shares choice (suc (suc zero)) m' g h f b e = rw (e refl) (omega arith, refl)
settled-shares choice (suc (suc (suc m))) m' g h f b e = absurd (omega arith)
settled-shares (chance x y) m m' g h f b e = (refl, refl)

module _ (t : Table) (s : List ℕ) (k : ℕ) where
  -- at a record of no open line of s the weights of a search are those of the plan visited
  plain-weights : {p : List ℕ} → Settles s p → ((i : ℕ) → get_or s i 0 ≤ 2) → (mark_of t.variables s (record_at t.records k).position ≡ 0 → ⊥) → (high_at t s k ≡ high_weight t (open_taken p) k) × (low_at t s k ≡ low_weight t (open_taken p) k)
  unfolding high_at low_at high_weight low_weight high_arc low_arc
  plain-weights {p} settles legal f =
      let i = choice_count (take (record_at t.records k).position t.variables) in
      let mark = mark-number t s k in
      rw mark_of_lem
      (settled-shares (variable_at t k) (mark_at t s k) (mark_at t (open_taken p) k) _ _ (rw mark_of_lem at f) (rw mark (legal i))
      (λ c.
      let settled : get_or s i 0 ≡ 0 → ⊥ = λ e. f (rw (mark_of_lem t s k, c, mark) e) in
      let kept = settles.kept i settled in
      rw (mark-number t (open_taken p) k, mark) (settled-kept p i (λ e. settled (sym kept ∙ e)) ∙ kept)))

  -- at a record of an open line both arcs have their weight
  open_weights : is_choice (variable_at t k) ≡ true → get_or s (choice_count (take (record_at t.records k).position t.variables)) 0 ≡ 0 → (high_at t s k ≡ high_arc t k) × (low_at t s k ≡ low_arc t k)
  unfolding high_at low_at high_in_force low_in_force
  open_weights c o = rw (mark_of_lem, c, mark-number t s k, o) (refl, refl)

module _ {t : Table} {s order : List ℕ} {l : LaidArcs} {losses : List ℕ} (layered : Layered t s order l losses) {p : List ℕ} (settles : Settles s p) {from own to d : ℕ} (line : Line t s order from own to d) (lowest : lowest_open p ≡ d) (o : is_open p d ≡ true) (cells : List ℕ) (long : length cells ≡ 512) (rooted : get_or cells 1 0 ≡ 1) (right : Right t s (open_taken p) order from cells) where
  -- there are few records
  few : length t.records ≤ 254
  few = layered.sized.few

  -- the cells once the layer is entered
  abbrev entered : List ℕ
  entered = own_nodes l own (to - own) (cross_nodes l from (own - from) cells)

  -- the cells once the nodes before the line's own have handed on
  abbrev base : List ℕ
  base = cross_nodes l from (own - from) cells

  -- the line is open from the start
  open_start : is_open s d ≡ true
  open_start =
      open_within s d (omega (arith, open_less p d o, settles.size)) (sym (settles.later d (omega arith)) ∙ open_zero p d o)

  -- a record of the line
  module _ (j : ℕ) (a : own ≤ j) (b : j < to) (k : ℕ) (e : node order j ≡ k + 2) where
    own-position : (record_at t.records k).position ≡ line.position
    own-position = sym (place-node t k) ∙ rw e at (line.here j a b)

    own-choice : is_choice (variable_at t k) ≡ true
    unfolding variable_at
    own-choice = rw own-position line.stand.chosen

    own-number : choice_count (take (record_at t.records k).position t.variables) ≡ d
    own-number = rw own-position line.stand.number

    own-arcs : (high_at t s k ≡ high_arc t k) × (low_at t s k ≡ low_arc t k)
    own-arcs = open_weights t s k own-choice (rw own-number (open_zero s d open_start))

    own-taken : (high_weight t (open_taken p) k ≡ high_arc t k) × (low_weight t (open_taken p) k ≡ 0)
    own-taken = weights-taken t (open_taken p) k own-choice (rw (mark-number t (open_taken p) k, own-number, open_taken_lem p d o) refl)

    own-left : (high_weight t (open_taken (set p d 2)) k ≡ 0) × (low_weight t (open_taken (set p d 2)) k ≡ low_arc t k)
    own-left =
        let mark = get_or-set_same (open_taken p) d 2 0 (within-plan (open_taken p) d (open_taken_lem p d o)) in
        weights-left t (open_taken (set p d 2)) k own-choice (rw (mark-number t (open_taken (set p d 2)) k, own-number, open_taken-set p d, mark) refl)

  -- the nodes before the line's own hand on their path weights
  crossed : (n : ℕ) → from + n ≤ own → Walked layered (open_taken p) from n cells (cross_nodes l from n cells)
  unfolding cross_nodes cross_node
  crossed zero h = walked_start layered (open_taken p) long right
  crossed (suc n) h =
      let w = crossed n (omega arith) in
      let less : from + n < length t.records = omega (arith, line.bounds) in
      let come = walked_inflow layered (open_taken p) rooted less w in
      walked_next layered (open_taken p) rooted less w _
      (λ k e.
      let at : node_position t (node order (from + n)) ≡ (record_at t.records k).position = rw e (place-node t k) in
      let q = plain-weights t s k settles layered.legal (rw at at (line.plain (from + n) (omega arith) (omega arith))) in
      (q.0, rw (come, e, q.1) refl))

  base_walked : Walked layered (open_taken p) from (own - from) cells base
  base_walked = crossed (own - from) (omega (arith, line.bounds))

  base-rooted : get_or base 1 0 ≡ 1
  base-rooted = base_walked.wrote.root ∙ rooted

  -- and so do its own, by their hi arcs
  owned : (n : ℕ) → own + n ≤ to → Walked layered (open_taken p) own n base (own_nodes l own n base)
  unfolding own_nodes own_node
  owned zero h =
      let all : from + (own - from) ≡ own = omega (arith, line.bounds) in
      walked_start layered (open_taken p) base_walked.wrote.long (rw all at base_walked.right)
  owned (suc n) h =
      let w = owned n (omega arith) in
      let less : own + n < length t.records = omega (arith, line.bounds) in
      walked_next layered (open_taken p) base-rooted less w 0
      (λ k e.
      let arcs = own-arcs (own + n) (omega arith) (omega arith) k e in
      let taken = own-taken (own + n) (omega arith) (omega arith) k e in
      (arcs.0 ∙ sym taken.0, rw taken.1 (omega arith)))

  entered_walked : Walked layered (open_taken p) own (to - own) base entered
  entered_walked = owned (to - own) (omega (arith, line.bounds))

  -- ---------------------------------------------------------------------------
  -- The drop

  -- the values from the line's position on are those under the plan that the search starts from
  value-start : (n : ℕ) → line.position ≤ node_position t n → value t (open_taken s) n ≡ value t (open_taken p) n
  unfolding value value_from marks_from
  value-start n h =
      let after = choices_mono t.variables line.position (node_position t n) h in
      let same = drop-taken p s (choice_count (take (node_position t n) t.variables)) settles.size (λ i b. settles.later i (omega (arith, line.stand.number))) in
      rw same refl

  -- the loss at a record of the line is what its value loses
  own_loss : (j : ℕ) → own ≤ j → j < to → (k : ℕ) → node order j ≡ k + 2 → get_or losses j 0 ≡ value_loss t p d k
  unfolding value_loss is_of node_position
  own_loss j a b k e =
      let at = own-position j a b k e in
      let is : is_of t d k ≡ true = and_true_both _ _ (own-choice j a b k e) (eq-eqb _ _ (own-number j a b k e)) in
      let own_value = value-start (k + 2) (omega (arith, place-node t k)) in
      let low_value = value-start (record_at t.records k).lo (omega (arith, layered.formed.lo_later k)) in
      layered.lost j k (omega (arith, line.bounds)) e (own-choice j a b k e) (rw (own-number j a b k e) open_start) ∙ rw (own_value, low_value, is) refl

  -- what is lost at node m
  abbrev lost_at : (m : ℕ) → ℕ
  lost_at m = path_weight t (open_taken p) m * value_loss t p d (m - 2)

  dropped : (n : ℕ) → own + n ≤ to → drop_sum l losses own n base ≡ rank_sum (λ j. lost_at (node order j)) own n
  unfolding drop_sum rank_sum
  dropped zero h = refl
  dropped (suc n) h =
      let less : own + n < length t.records = omega (arith, line.bounds) in
      let k = layered.nodes (own + n) less in
      let number : node order (own + n) - 2 ≡ k.0 = omega (arith, k.2) in
      let loss = own_loss (own + n) (omega arith) (omega arith) k.0 k.2 in
      rw (dropped n (omega arith), walked_inflow layered (open_taken p) base-rooted less (owned n (omega arith)), loss, number) refl

  -- records of the line stand at its position
  of_line : (k : ℕ) → is_of t d k ≡ true → (record_at t.records k).position ≡ line.position
  unfolding is_of variable_at
  of_line k e =
      let c = both (is_choice (variable_at t k)) e in
      let x = line.position in
      let y = (record_at t.records k).position in
      let number = eqb-true (choice_count (take y t.variables)) d c.1 in
      by_cases (dec_lt x y)
      (λ h. absurd (omega (arith, number, line.stand.number, choices-later t.variables x y h line.stand.chosen)))
      (λ f. by_cases (dec_lt y x)
      (λ h. absurd (omega (arith, number, line.stand.number, choices-later t.variables y x h c.0)))
      (λ g. omega (arith, f, g)))

  -- other records' values lose nothing
  off_line : (k : ℕ) → eqb (record_at t.records k).position line.position ≡ false → value_loss t p d k ≡ 0
  unfolding value_loss
  off_line k e =
      let no : is_of t d k ≡ false = is_false _ (λ q. false≢true (sym e ∙ eq-eqb _ _ (of_line k q))) in
      rw no refl

  -- the sum at the line's position is one over all records
  at-line : (n : ℕ) → at_sum t lost_at line.position n ≡ weight_sum (path_weight t (open_taken p)) (value_loss t p d) n
  unfolding at_sum weight_sum
  at-line zero = refl
  at-line (suc k) =
      let number : k + 2 - 2 ≡ k = omega arith in
      rw (at-line k, number) (ap (λ (z : ℕ). weight_sum (path_weight t (open_taken p)) (value_loss t p d) k + z) (go (eqb (record_at t.records k).position line.position) refl))
    where
      go : (b : Bool) → eqb (record_at t.records k).position line.position ≡ b → cond b (path_weight t (open_taken p) (k + 2) * value_loss t p d k) 0 ≡ path_weight t (open_taken p) (k + 2) * value_loss t p d k
      go true e = refl
      go false e = rw (off_line k e) (omega arith)

  drop-sum : drop_sum l losses own (to - own) base ≡ derivative t p d
  drop-sum =
      dropped (to - own) (omega (arith, line.bounds))
      ∙ line.covers lost_at
      ∙ at-line (length t.records)
      ∙ sym (drop-weights t layered.formed layered.shares layered.sized.few layered.rooted layered.monotone p d o)

  drop-fits : derivative t p d ≤ 2 ^ 56
  unfolding derivative upper_bound scale
  drop-fits = rw o (omega (arith, score-le-scale t layered.shares (open_taken p), layered.scaled))

  -- ---------------------------------------------------------------------------
  -- The layer entered

  -- the layer may be entered
  pub enterable : Enterable l losses (length t.records) from own to cells
  enterable =
      let fits = weight-fits t layered.formed layered.shares layered.sized.few layered.rooted layered.scaled (open_taken p) in
      record {
        sized = layered.sized;
        bounds = line.bounds;
        crosses = λ i h. rw (walked_inflow layered (open_taken p) rooted (omega (arith, line.bounds)) (crossed i (omega arith))) (fits _);
        enters = λ i h. rw (walked_inflow layered (open_taken p) base-rooted (omega (arith, line.bounds)) (owned i (omega arith))) (fits _);
        drops = rw drop-sum drop-fits;
      }

  -- what leaving the line loses is its drop
  pub entered-drop : drop_sum l losses own (to - own) (cross_nodes l from (own - from) cells) ≡ derivative t p d
  entered-drop = drop-sum

  -- the cells are right up to the end of the layer, and before the layer as they were
  pub entered-right : Right t s (open_taken p) order to entered
  entered-right =
      let all : own + (to - own) ≡ to = omega (arith, line.bounds) in
      rw all at entered_walked.right

  pub entered-same : Same from cells entered
  entered-same =
      let first = wrote_same (omega (arith, line.bounds, few)) base_walked.wrote in
      let second = wrote_same (omega (arith, line.bounds, few)) entered_walked.wrote in
      same_trans first (same_fewer line.bounds.0 second)

  pub entered-long : length entered ≡ 512
  entered-long = entered_walked.wrote.long

  -- ---------------------------------------------------------------------------
  -- The line left

  -- to leave the line changes no weight before its position
  before-weights : (k : ℕ) → (record_at t.records k).position < line.position → (high_weight t (open_taken p) k ≡ high_weight t (open_taken (set p d 2)) k) × (low_weight t (open_taken p) k ≡ low_weight t (open_taken (set p d 2)) k)
  unfolding variable_at
  before-weights k less =
      weights-same t (open_taken p) (open_taken (set p d 2)) k
      (λ c.
      let earlier = choices-later t.variables (record_at t.records k).position line.position less c in
      rw (open_taken-set p d, mark-number t (open_taken p) k, mark-number t (set (open_taken p) d 2) k)
      (sym (get_or-set_other (open_taken p) d _ 2 0 (omega (arith, line.stand.number)))))

  -- nor any path weight up to there
  path_same : (j k : ℕ) → j < to → node order j ≡ k + 2 → path_weight t (open_taken p) (k + 2) ≡ path_weight t (open_taken (set p d 2)) (k + 2)
  path_same j k h e =
      let less : j < length t.records = omega (arith, line.bounds) in
      let here = layered.nodes j less in
      let place-le : node_position t (node order j) ≤ line.position = by_cases (dec_lt j own) (λ b. le_of_lt (line.before j b)) (λ f. le_of_eq (line.here j (omega (arith, f)) h)) in
      weight_local t layered.formed layered.shares layered.sized.few layered.rooted (open_taken p) (open_taken (set p d 2)) line.position (λ k b q. before-weights k q) (k + 2) (omega arith) (omega (arith, here.1, here.2)) (rw e at place-le)

  -- cells that are the same up to the end of the layer are right for the line left, once it is left
  module _ (cells' : List ℕ) (long' : length cells' ≡ 512) (same : Same to entered cells') where
    turned_all : Turned own (to - own) cells' (leave_nodes own (to - own) cells')
    turned_all = turned own (to - own) (omega (arith, line.bounds, few)) long'

    turned_same : Same own cells' (leave_nodes own (to - own) cells')
    turned_same = wrote_same (omega (arith, line.bounds, few)) turned_all.wrote

    pub left-right : Right t s (open_taken (set p d 2)) order to (leave_nodes own (to - own) cells')
    left-right =
        let before = right-same (same_trans (same_fewer line.bounds.1 same) turned_same) (right_fewer line.bounds.1 entered-right) in
        record {
          high = λ j k h e. by_cases (dec_lt j own)
              (λ b.
              let at : (record_at t.records k).position < line.position = rw (e, place-node t k) at (line.before j b) in
              before.high j k b e ∙ rw (path_same j k h e, (before-weights k at).0) refl)
              (λ f.
              let a : own ≤ j = omega (arith, f) in
              rw (turned_all.high j a (omega arith), (own-left j a h k e).0) (omega arith));
          low = λ j k h e. by_cases (dec_lt j own)
              (λ b.
              let at : (record_at t.records k).position < line.position = rw (e, place-node t k) at (line.before j b) in
              before.low j k b e ∙ rw (path_same j k h e, (before-weights k at).1) refl)
              (λ f.
              let a : own ≤ j = omega (arith, f) in
              let held : get_or entered (j + 2) 0 ≡ path_weight t (open_taken (set p d 2)) (k + 2) = entered_walked.hold j a (omega arith) ∙ rw e (path_same j k h e) in
              rw (turned_all.low j a (omega arith), same.high j h, held, (own-arcs j a h k e).1, (own-left j a h k e).1) refl);
        }

    pub left-same : Same own cells' (leave_nodes own (to - own) cells')
    left-same = turned_same

    pub left-long : length (leave_nodes own (to - own) cells') ≡ 512
    left-long = turned_all.wrote.long
