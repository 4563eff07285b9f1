-- What comes to a record's node by its lo arc is no more than its value: in a monotone table leaving a line loses nothing below zero, whatever the plan.
-- Assumes of the table what checks 14, 17 and 18 find (`BoundedShares`, `Formed`, `Monotone`), where a law says so.
use Prim.Native.Nat.{ℕ, suc, ◌+◌, ◌-◌, ◌*◌, ◌≤◌, ◌<◌, ◌^◌}
use native.Mathlib.Nat.{add-zero, mul-le-mul_left, le_refl}
use native.Mathlib.Omega.{arith}
use mathlib.Core.Path.{◌≡◌, refl, ap, sym, ◌∙◌}
use mathlib.Core.Bool.{Bool, true, false, cond, false≢true}
use mathlib.Core.List.{List, [], ◌∷◌, ◌++◌, tail}
use lib.ListN.{length, get_or, take, drop, replicate, length-append, length-drop, length-replicate}
use lib.Seq.{get_or-drop}
use Rattle.diagram.specs.Table.{Variable, choice, chance, Table, record_at, is_choice, choice_count}
use Rattle.diagram.specs.Score.{is_taken, total}
use Rattle.diagram.specs.Plans.{open_taken}
use Rattle.diagram.specs.Validity.{Formed, BoundedShares, Monotone}
use Rattle.diagram.proofs.Locality.{position_less}
use Rattle.diagram.proofs.FirstVariable.{total_nil, total-choice, total-chance}
use Rattle.diagram.proofs.Rising.{lo-hi}
use Rattle.arrays.proofs.Over.{over-at, over-sequence-at}
use Rattle.weighing.specs.Value.{node_position, marks_from, value_from, value, variable_at, mark_at, high_share, low_share, high_weight, low_weight, high_arc, low_arc}
use Rattle.weighing.proofs.Values.{value-le, value_skip, value_step}
use Rattle.valuing.specs.Passes.{record_loss, loss_of, LossFits, losses_of, Marked}
use Rattle.valuing.specs.Valued.{node_values}
use Rattle.valuing.proofs.Passing.{scale-drop-le, low-is}

-- ---------------------------------------------------------------------------
-- Sums

-- a test that holds of every assignment that another holds of gives no smaller sum
total_mono : (vs : List Variable) (p : List ℕ) (f g : List Bool → Bool) → ((s : List Bool) → length s ≡ length vs → f s ≡ true → g s ≡ true) → total vs p f ≤ total vs p g
total_mono [] p f g h = simp total_nil (go (f []) (g []) (h [] refl))
  where
    go : (b b' : Bool) → (b ≡ true → b' ≡ true) → cond b 1 0 ≤ cond b' 1 0
    go true true e = omega arith
    go true false e = absurd (false≢true (e refl))
    go false true e = omega arith
    go false false e = omega arith
total_mono (choice ∷ vs) p f g h = simp total-choice (total_mono vs (tail p) _ _ (λ s e. h _ (ap suc e)))
total_mono (chance a b ∷ vs) p f g h =
    let held = mul-le-mul_left a (total_mono vs p (λ s. f (true ∷ s)) (λ s. g (true ∷ s)) (λ s e. h _ (ap suc e))) in
    let not-held = mul-le-mul_left (b - a) (total_mono vs p (λ s. f (false ∷ s)) (λ s. g (false ∷ s)) (λ s e. h _ (ap suc e))) in
    simp total-chance (omega arith)

-- ---------------------------------------------------------------------------
-- Shares

-- a taken choice has its share on the hi arc
shares-taken : (v : Variable) (m : ℕ) → is_choice v ≡ true → is_taken m ≡ true → (high_share v m ≡ high_share v 1) × (low_share v m ≡ 0)
unfolding is_choice high_share low_share
shares-taken choice m c e = (rw e refl, rw e refl)
shares-taken (chance a b) m c e = absurd (false≢true c)

-- a left choice has its share on the lo arc
shares_left : (v : Variable) (m : ℕ) → is_choice v ≡ true → is_taken m ≡ false → (high_share v m ≡ 0) × (low_share v m ≡ low_share v 2)
unfolding is_choice high_share low_share
shares_left choice m c e = (rw e refl, rw e refl)
shares_left (chance a b) m c e = absurd (false≢true c)

-- the shares of a choice are 1
shares_full : (v : Variable) → is_choice v ≡ true → (high_share v 1 ≡ 1) × (low_share v 2 ≡ 1)
unfolding is_choice high_share low_share
shares_full choice c = (refl, refl)
shares_full (chance a b) c = absurd (false≢true c)

-- the share of a chance's lo arc, whatever the mark
chance-share : (v : Variable) (m : ℕ) → is_choice v ≡ false → low_share v m ≡ low_share v 2
unfolding is_choice low_share
chance-share choice m c = absurd (false≢true (sym c))
chance-share (chance a b) m c = refl

-- the marks matter at a choice alone
shares-same : (v : Variable) (m m' : ℕ) → (is_choice v ≡ true → m ≡ m') → (high_share v m ≡ high_share v m') × (low_share v m ≡ low_share v m')
unfolding is_choice high_share low_share
shares-same choice m m' e = (rw (e refl) refl, rw (e refl) refl)
shares-same (chance a b) m m' e = (refl, refl)

-- ---------------------------------------------------------------------------
-- Weights at a record

-- at a choice that is taken all weight is on the hi arc
pub weights-taken : (t : Table) (u : List ℕ) (k : ℕ) → is_choice (variable_at t k) ≡ true → is_taken (mark_at t u k) ≡ true → (high_weight t u k ≡ high_arc t k) × (low_weight t u k ≡ 0)
unfolding high_weight low_weight high_arc
weights-taken t u k c e =
    let s = shares-taken (variable_at t k) (mark_at t u k) c e in
    (rw s.0 refl, rw s.1 (omega arith))

-- at a choice that is left all weight is on the lo arc
pub weights-left : (t : Table) (u : List ℕ) (k : ℕ) → is_choice (variable_at t k) ≡ true → is_taken (mark_at t u k) ≡ false → (high_weight t u k ≡ 0) × (low_weight t u k ≡ low_arc t k)
unfolding high_weight low_weight low_arc
weights-left t u k c e =
    let s = shares_left (variable_at t k) (mark_at t u k) c e in
    (rw s.0 (omega arith), rw s.1 refl)

-- plans with the same mark at a choice have the same weights
pub weights-same : (t : Table) (u u' : List ℕ) (k : ℕ) → (is_choice (variable_at t k) ≡ true → mark_at t u k ≡ mark_at t u' k) → (high_weight t u k ≡ high_weight t u' k) × (low_weight t u k ≡ low_weight t u' k)
unfolding high_weight low_weight
weights-same t u u' k e =
    let s = shares-same (variable_at t k) (mark_at t u k) (mark_at t u' k) e in
    (rw s.0 refl, rw s.1 refl)

-- the mark of record k, by the number of its choice
pub mark-number : (t : Table) (u : List ℕ) (k : ℕ) → mark_at t u k ≡ get_or u (choice_count (take (record_at t.records k).position t.variables)) 0
unfolding mark_at marks_from
mark-number t u k = rw (get_or-drop, add-zero) refl

-- ---------------------------------------------------------------------------
-- The lo arc brings no more than the hi arc

module _ (t : Table) (formed : Formed (length t.variables) t.records) (monotone : Monotone t) where
  -- at a choice record the lo child's value from the next position on is at most the hi child's
  from-lo-hi : (u : List ℕ) (k : ℕ) → is_choice (variable_at t k) ≡ true → value_from t u ((record_at t.records k).position + 1) (record_at t.records k).lo ≤ value_from t u ((record_at t.records k).position + 1) (record_at t.records k).hi
  unfolding value_from variable_at
  from-lo-hi u k c =
      let x = (record_at t.records k).position in
      let rest = length-drop (x + 1) t.variables in
      let before = length-replicate (x + 1) false in
      let less = position_less formed k in
      total_mono (drop (x + 1) t.variables) (marks_from t (x + 1) u) _ _
      (λ s e. lo-hi t formed monotone k (replicate (x + 1) false ++ s) (rw length-append (omega arith)) c)

  module _ (shares : BoundedShares t.variables) where
    -- at a choice record no more comes by the lo arc than by the hi arc
    pub low-le-high : (u : List ℕ) (k : ℕ) → is_choice (variable_at t k) ≡ true → low_arc t k * value t u (record_at t.records k).lo ≤ high_arc t k * value t u (record_at t.records k).hi
    unfolding high_arc low_arc node_position
    low-le-high u k c =
        let x = (record_at t.records k).position in
        let s = shares_full (variable_at t k) c in
        let high = value_skip t formed shares u (x + 1) (record_at t.records k).hi (omega (arith, formed.hi_later k)) in
        let low = value_skip t formed shares u (x + 1) (record_at t.records k).lo (omega (arith, formed.lo_later k)) in
        rw (s.0, s.1) (omega (arith, high, low, from-lo-hi u k c))

-- ---------------------------------------------------------------------------
-- A value and what comes by the lo arc

module _ (t : Table) (formed : Formed (length t.variables) t.records) (monotone : Monotone t) (shares : BoundedShares t.variables) where
  -- where a choice is taken, a value is what comes by the hi arc; where it is left, what comes by the lo arc
  pub value_taken : (u : List ℕ) (k : ℕ) → is_choice (variable_at t k) ≡ true → is_taken (mark_at t u k) ≡ true → value t u (k + 2) ≡ high_arc t k * value t u (record_at t.records k).hi
  value_taken u k c e =
      let w = weights-taken t u k c e in
      value_step t formed shares u k ∙ rw (w.0, w.1) (omega arith)

  pub value-left : (u : List ℕ) (k : ℕ) → is_choice (variable_at t k) ≡ true → is_taken (mark_at t u k) ≡ false → value t u (k + 2) ≡ low_arc t k * value t u (record_at t.records k).lo
  value-left u k c e =
      let w = weights-left t u k c e in
      value_step t formed shares u k ∙ rw (w.0, w.1) (omega arith)

  -- at a chance the lo arc is in force whatever the plan
  low-weight-chance : (u : List ℕ) (k : ℕ) → is_choice (variable_at t k) ≡ false → low_weight t u k ≡ low_arc t k
  unfolding low_weight low_arc
  low-weight-chance u k c = rw (chance-share (variable_at t k) (mark_at t u k) c) refl

  -- what comes by the lo arc is no more than the value
  pub gains : (u : List ℕ) (k : ℕ) → low_arc t k * value t u (record_at t.records k).lo ≤ value t u (k + 2)
  gains u k = go (is_choice (variable_at t k)) refl (is_taken (mark_at t u k)) refl
    where
      go : (b : Bool) → is_choice (variable_at t k) ≡ b → (d : Bool) → is_taken (mark_at t u k) ≡ d → low_arc t k * value t u (record_at t.records k).lo ≤ value t u (k + 2)
      go true c true e = rw (value_taken u k c e) (low-le-high t formed monotone shares u k c)
      go true c false e = rw (value-left u k c e) (le_refl _)
      go false c d e = rw (value_step t formed shares u k, low-weight-chance u k c) (omega arith)

-- ---------------------------------------------------------------------------
-- One loss, read at m for node d, where v is the value of the node's child by lo

module _ (ls ws vs : List ℕ) where
  -- what is computed neither goes below zero nor wraps, and is the loss
  pub record Lost (d m v : ℕ) : Type 0 where
    pub left : get_or ws (m + 256) 0 * v < 2 ^ 64
    pub gains : get_or ws (m + 256) 0 * v ≤ get_or vs m 0
    pub exact : get_or vs m 0 - get_or ws (m + 256) 0 * v ≡ loss_of ls ws vs d

  -- with the child b
  pub lost : {m d b v : ℕ} → m ≡ d → b ≡ get_or ls d 0 → v ≡ get_or vs b 0 → LossFits ls ws vs d → Lost d m v
  unfolding loss_of
  lost e f g h = rw (e, g, f) (record { left = omega (arith, h); gains = h.0; exact = refl })

-- ---------------------------------------------------------------------------
-- From the arrays

module _ {t : Table} {p : List ℕ} {n : ℕ} {ps hs ls ws ms : List ℕ} (m : Marked t p n ps hs ls ws ms) where
  -- the values are at most 2^56
  pub value-fits : (u : List ℕ) (i : ℕ) → value t u i ≤ 2 ^ 56
  value-fits u i = omega (arith, value-le t m.shares u i, scale-drop-le m.shares (node_position t i), m.bounded)

  module _ {vs : List ℕ} (e : vs ≡ node_values t (open_taken p) n (replicate 256 0)) where
    -- the values of record k's node and of its child by lo, and the weight of its lo arc
    own_value : (k : ℕ) → k < n → get_or vs (k + 2) 0 ≡ value t (open_taken p) (k + 2)
    own_value k h = rw e (over-sequence-at (value t (open_taken p)) (replicate 256 0) (n + 2) (k + 2) (omega arith))

    low_value : (k : ℕ) → k < n → get_or vs (get_or ls (k + 2) 0) 0 ≡ value t (open_taken p) (record_at t.records k).lo
    low_value k h =
        let less = m.formed.lo_less k in
        rw (low-is m k h, e) (over-sequence-at (value t (open_taken p)) (replicate 256 0) (n + 2) (record_at t.records k).lo (omega arith))

    low_arc_lem : (k : ℕ) → k < n → get_or ws (k + 2 + 256) 0 ≡ low_arc t k
    low_arc_lem k h =
        let at : k + 2 + 256 ≡ k + 258 = omega arith in
        rw at (m.low_arcs k h)

    pub losses_fit : Monotone t → (k : ℕ) → k < n → LossFits ls ws vs (k + 2)
    losses_fit monotone k h =
        rw (low_arc_lem k h, low_value k h, own_value k h) (gains t m.formed monotone m.shares (open_taken p) k, value-fits (open_taken p) (k + 2))

    -- the loss of a record's node
    pub loss_is : (k : ℕ) → k < n → get_or (losses_of ls ws vs n) (k + 2) 0 ≡ record_loss t (open_taken p) k
    unfolding loss_of
    loss_is k h =
        over-at (λ k. loss_of ls ws vs (k + 2)) (replicate 256 0) n k h ∙ rw (low_arc_lem k h, low_value k h, own_value k h) refl
