-- The pass up: the list that it writes node after node, and that over the arcs in force of a table and a plan it gives the values of the table's nodes
-- under the plan with all open lines taken, none above 2^56.
-- Assumes of the arrays, for the values, that they hold the table and the plan: see `Marked`.
use Prim.Native.Nat.{ℕ, zero, suc, ◌+◌, ◌*◌, ◌≤◌, ◌<◌}
use native.Mathlib.Nat.{le_refl, zero-add, mul-le-mul_right}
use native.Mathlib.Decide.{dec_lt}
use native.Mathlib.Numerals.{add-one}
use native.Mathlib.Omega.{arith}
use mathlib.Core.Path.{◌≡◌, refl, sym, ◌∙◌}
use mathlib.Core.Bool.{Bool, true, false, cond, not}
use mathlib.Core.Logic.{by_cases}
use mathlib.Core.List.{List, [], ◌∷◌}
use lib.ListN.{length, get_or, set, drop, take, replicate, length-append}
use lib.Seq.{get_or-drop}
use lib.Dec.{eqb}
use Rattle.diagram.specs.Table.{Variable, choice, chance, Table, Record, sequence, record_at, is_choice, choice_count, scale_of}
use Rattle.diagram.specs.Score.{is_taken}
use Rattle.diagram.specs.Plans.{open_taken}
use Rattle.diagram.specs.Validity.{BoundedShares, no_shares, choice-shares, chance-shares}
use Rattle.diagram.proofs.Places.{sequence-at, sequence_past, sequence-snoc}
use Rattle.diagram.proofs.Locality.{position_less}
use Rattle.decoding.specs.Nodes.{column}
use Rattle.decoding.proofs.Columns.{column-at}
use Rattle.weighing.specs.Value.{node_position, marks_from, value, variable_at, mark_at, high_share, low_share, high_weight, low_weight, high_arc, low_arc}
use Rattle.arrays.specs.Arrays.{over}
use Rattle.valuing.specs.Passes.{mark_of, marks_by_position, high_in_force, low_in_force, high_in_force_at, low_in_force_at, arcs_in_force, plan_arcs, mark_at_record, Arcs, arcs_of, node_value, pass_up, Fits, Marked}
use Rattle.arrays.proofs.Over.{over-get_or, over-next, over-ends}
use Rattle.valuing.proofs.Forcing.{choices-before}
use Rattle.weighing.proofs.ByArc.{low_part, arcs-high, arcs-low, arcs-same}
use Rattle.weighing.proofs.Values.{value-le, value_false, value_true, value_step}

-- ---------------------------------------------------------------------------
-- The turns of a pass

pass_length : (a : Arcs) (k : ℕ) → length (pass_up a k) ≡ k + 2
unfolding pass_up
pass_length a zero = refl
pass_length a (suc k) = rw length-append (omega (arith, pass_length a k))

pub pass_start : (a : Arcs) (old : List ℕ) → length old ≡ 256 → set (set old 0 0) 1 1 ≡ over (pass_up a 0) (set (set old 0 0) 1 1)
unfolding pass_up over
pass_start a [] h = absurd (omega arith)
pass_start a (x ∷ []) h = absurd (omega arith)
pass_start a (x ∷ y ∷ old) h = refl

pub pass_next : (a : Arcs) (old : List ℕ) (k x : ℕ) → k + 2 < length old → x ≡ node_value a (k + 2) (pass_up a k) → set (over (pass_up a k) old) (k + 2) x ≡ over (pass_up a (k + 1)) old
unfolding pass_up
pass_next a old k x h e = rw (add-one k, e) (over-next (pass_up a k) old (k + 2) _ (pass_length a k) h)

pub pass_end : (a : Arcs) (old : List ℕ) (n : ℕ) → over (pass_up a n) (set (set old 0 0) 1 1) ≡ over (pass_up a n) old
pass_end a old n = over-ends (pass_up a n) old 0 1 (omega (arith, pass_length a n))

-- a node's value, at the numbers that the code has read: node n, and its children h and l
pub value-is : (hs ls ws vs : List ℕ) {n m h l : ℕ} → m ≡ n → h ≡ get_or hs n 0 → l ≡ get_or ls n 0 → get_or ws m 0 * get_or vs h 0 + get_or ws (m + 256) 0 * get_or vs l 0 ≡ node_value (arcs_of hs ls ws) n vs
unfolding node_value
value-is hs ls ws vs e eh el = rw (e, eh, el, low_part) refl

-- a node's value needs only what the pass has written
pub node-value-over : {a : Arcs} {n : ℕ} → Fits a n → (old : List ℕ) (k : ℕ) → k < n → node_value a (k + 2) (over (pass_up a k) old) ≡ node_value a (k + 2) (pass_up a k)
unfolding node_value
node-value-over {a} f old k h =
    let size = pass_length a k in
    let high = f.high_less k h in
    let low = f.low_less k h in
    rw (over-get_or (pass_up a k) old (get_or a.high (k + 2) 0) (omega arith), over-get_or (pass_up a k) old (get_or a.low (k + 2) 0) (omega arith))

-- ---------------------------------------------------------------------------
-- Lists by node number

-- a bound of the ends and of every record's part is one of every cell
column_less : (end : ℕ) (part : Record → ℕ) (rs : List Record) (b : ℕ) → end < b → ((k : ℕ) → part (record_at rs k) < b) → (i : ℕ) → get_or (column end part rs) i 0 < b
unfolding column
column_less end part rs b e h zero = e
column_less end part rs b e h (suc zero) = e
column_less end part rs b e h (suc (suc k)) =
    by_cases (dec_lt k 254)
    (λ l. rw (sequence-at (λ i. part (record_at rs i)) 0 254 k 0 l) (h (0 + k)))
    (λ l. rw (sequence_past (λ i. part (record_at rs i)) 0 254 k 0 (omega arith)) (omega arith))

-- ---------------------------------------------------------------------------
-- Marks

-- with open lines taken, a mark leaves its line unless it takes it
open_taken-at : (p : List ℕ) (i : ℕ) → i < length p → get_or p i 0 ≤ 2 → eqb (get_or (open_taken p) i 0) 2 ≡ not (is_taken (get_or (open_taken p) i 0))
unfolding open_taken
open_taken-at [] i h l = absurd (omega arith)
open_taken-at (zero ∷ p) zero h l = refl
open_taken-at (suc zero ∷ p) zero h l = refl
open_taken-at (suc (suc zero) ∷ p) zero h l = refl
open_taken-at (suc (suc (suc m)) ∷ p) zero h l = absurd (omega arith)
open_taken-at (zero ∷ p) (suc i) h l = open_taken-at p i (omega arith) l
open_taken-at (suc m ∷ p) (suc i) h l = open_taken-at p i (omega arith) l

-- the arcs in force of a variable with mark m, which takes or leaves its line; g is the arc's gap
high-forced : (v : Variable) (m g : ℕ) → (is_choice v ≡ true → eqb m 2 ≡ not (is_taken m)) → high_in_force (cond (is_choice v) m 3) (high_share v 1 * g) ≡ high_share v m * g
unfolding is_choice high_in_force high_share
high-forced choice m g e = rw (e refl) (go (is_taken m))
  where
    go : (b : Bool) → cond (not b) 0 (1 * g) ≡ cond b 1 0 * g
    go true = refl
    go false = omega arith
high-forced (chance a b) m g e = refl

low-forced : (v : Variable) (m g : ℕ) → low_in_force (cond (is_choice v) m 3) (low_share v 2 * g) ≡ low_share v m * g
unfolding is_choice low_in_force low_share
low-forced choice m g = go (is_taken m)
  where
    go : (b : Bool) → cond b 0 (1 * g) ≡ cond b 0 1 * g
    go true = omega arith
    go false = refl
low-forced (chance a b) m g = refl

-- ---------------------------------------------------------------------------
-- The pass over a table and a plan

pub scale-drop-le : {vs : List Variable} → BoundedShares vs → (x : ℕ) → scale_of (drop x vs) ≤ scale_of vs
unfolding scale_of
scale-drop-le h zero = le_refl _
scale-drop-le no_shares (suc x) = le_refl _
scale-drop-le (choice-shares h) (suc x) = scale-drop-le h x
scale-drop-le (chance-shares {a} {b} {vs} ab b1 h) (suc x) = omega (arith, scale-drop-le h x, mul-le-mul_right (scale_of vs) b1)

module _ {t : Table} {p : List ℕ} {n : ℕ} {ps hs ls ws ms : List ℕ} (m : Marked t p n ps hs ls ws ms) where
  pub position-within : (k : ℕ) → get_or ps k 0 < 64
  position-within =
      let few = m.few in
      rw m.positions (column_less _ _ _ 64 few (λ k. omega (arith, position_less m.formed k)))

  record_less : (k : ℕ) → k < n → k < 254
  record_less k h = omega (arith, m.size)

  -- the children of record k
  pub high_is : (k : ℕ) → k < n → get_or hs (k + 2) 0 ≡ (record_at t.records k).hi
  high_is k h = rw m.high (column-at 0 (λ (r : Record). r.hi) t.records k (record_less k h))

  pub low-is : (k : ℕ) → k < n → get_or ls (k + 2) 0 ≡ (record_at t.records k).lo
  low-is k h = rw m.low (column-at 0 (λ (r : Record). r.lo) t.records k (record_less k h))

  -- the marks of any plan, by record
  marks-at-node : (u us : List ℕ) → us ≡ marks_by_position t.variables u → (k : ℕ) → k < n → mark_at_record ps us k ≡ cond (is_choice (variable_at t k)) (mark_at t u k) 3
  unfolding mark_at_record marks_by_position mark_of variable_at mark_at marks_from
  marks-at-node u us e k h =
      let x = (record_at t.records k).position in
      let few = m.few in
      let less : x < 64 = omega (arith, position_less m.formed k) in
      rw (m.positions, column-at (length t.variables) (λ (r : Record). r.position) t.records k (record_less k h), e, sequence-at (mark_of t.variables u) 0 64 x 0 less, zero-add x)

  pub mark-at-node : (k : ℕ) → k < n → mark_at_record ps ms k ≡ cond (is_choice (variable_at t k)) (mark_at t p k) 3
  mark-at-node = marks-at-node p ms m.marks

  -- with open lines taken, the mark of a choice leaves its line unless it takes it
  mark_full : (k : ℕ) → is_choice (variable_at t k) ≡ true → eqb (mark_at t (open_taken p) k) 2 ≡ not (is_taken (mark_at t (open_taken p) k))
  unfolding variable_at mark_at marks_from
  mark_full k e =
      let x = (record_at t.records k).position in
      let before = choices-before t.variables x (position_less m.formed k) e in
      let all = m.plan in
      simp get_or-drop (open_taken-at p (choice_count (take x t.variables) + 0) (omega arith) (m.legal _))

  -- under the marks with open lines taken the arcs in force are those of the plan with all open lines taken
  module _ {us : List ℕ} (e : us ≡ marks_by_position t.variables (open_taken p)) where
    high_in_force_lem : (k : ℕ) → k < n → high_in_force_at ps us ws k ≡ high_weight t (open_taken p) k
    unfolding high_arc high_weight
    high_in_force_lem k h = rw (marks-at-node (open_taken p) us e k h, m.high_arcs k h) (high-forced (variable_at t k) _ _ (mark_full k))

    low_in_force_lem : (k : ℕ) → k < n → low_in_force_at ps us ws k ≡ low_weight t (open_taken p) k
    unfolding low_arc low_weight
    low_in_force_lem k h = rw (marks-at-node (open_taken p) us e k h, m.low_arcs k h) (low-forced (variable_at t k) _ _)

    pub in_force-is : (old : List ℕ) → arcs_in_force ps us ws n old ≡ plan_arcs t (open_taken p) n old
    in_force-is old = arcs-same _ _ _ _ old n (λ k h. (high_in_force_lem k h, low_in_force_lem k h))

  -- a pass over them
  module _ {fs : List ℕ} (e : fs ≡ plan_arcs t (open_taken p) n (replicate 544 0)) where
    pub high-weight-is : (k : ℕ) → k < n → get_or fs (k + 2) 0 ≡ high_weight t (open_taken p) k
    high-weight-is k h = rw e (arcs-high _ _ (replicate 544 0) refl n k m.size.1 h)

    pub low-weight-is : (k : ℕ) → k < n → get_or (drop 256 fs) (k + 2) 0 ≡ low_weight t (open_taken p) k
    low-weight-is k h =
        let at : k + 2 + 256 ≡ k + 258 = omega arith in
        low_part fs (k + 2) ∙ rw (at, e) (arcs-low _ _ (replicate 544 0) refl n k m.size.1 h)

    -- a node's value from the values before it
    node-value-is : (k : ℕ) → k < n → node_value (arcs_of hs ls fs) (k + 2) (sequence (value t (open_taken p)) 0 (k + 2)) ≡ value t (open_taken p) (k + 2)
    unfolding node_value
    node-value-is k h =
        let hi-less = m.formed.hi_less k in
        let lo-less = m.formed.lo_less k in
        rw (
          high-weight-is k h,
          low-weight-is k h,
          high_is k h,
          low-is k h,
          sequence-at (value t (open_taken p)) 0 (k + 2) (record_at t.records k).hi 0 hi-less,
          sequence-at (value t (open_taken p)) 0 (k + 2) (record_at t.records k).lo 0 lo-less,
          zero-add (record_at t.records k).hi,
          zero-add (record_at t.records k).lo,
        )
        (sym (value_step t m.formed m.shares (open_taken p) k))

    passed_to : (k : ℕ) → k ≤ n → pass_up (arcs_of hs ls fs) k ≡ sequence (value t (open_taken p)) 0 (k + 2)
    unfolding pass_up sequence
    passed_to zero h = rw (value_false, value_true) refl
    passed_to (suc k) h =
        let on : suc k + 2 ≡ suc (k + 2) = omega arith in
        rw (passed_to k (omega arith), node-value-is k (omega arith), on) (rw zero-add at (sequence-snoc (value t (open_taken p)) 0 (k + 2)))

    pub passed_values : pass_up (arcs_of hs ls fs) n ≡ sequence (value t (open_taken p)) 0 (n + 2)
    passed_values = passed_to n (le_refl n)

    pub marked-fits : Fits (arcs_of hs ls fs) n
    marked-fits =
        record {
          fits = λ k h. rw (passed_to k (omega arith), node-value-is k h) (omega (arith, value-le t m.shares (open_taken p) (k + 2), scale-drop-le m.shares (node_position t (k + 2)), m.bounded));
          high_less = λ k h. rw (high_is k h) (m.formed.hi_less k);
          low_less = λ k h. rw (low-is k h) (m.formed.lo_less k);
        }
