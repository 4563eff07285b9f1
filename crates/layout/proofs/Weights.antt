-- Path weights: what comes to a node is what its parents hand on and what the roots bring; a node's weight depends on the marks before its position
-- alone; an open line's drop is the sum, over its records, of the node's weight times what its value falls by.
-- Assumes of the table that its records are formed as check 17 wants them, that its shares are shares, that its roots are records' nodes (`Rooted`), and
-- that it has at most 254 records.
use Prim.Native.Nat.{ℕ, zero, suc, ◌+◌, ◌*◌, ◌≤◌, ◌<◌, ◌^◌}
use native.Mathlib.Nat.{le_refl, le_of_eq, add-zero, eq-or-lt_of_le}
use native.Mathlib.Decide.{dec_lt}
use native.Mathlib.Omega.{arith}
use mathlib.Core.Path.{◌≡◌, refl, ap, sym, ◌∙◌}
use mathlib.Core.Logic.{⊎_elim, by_cases}
use mathlib.Core.Bool.{Bool, true, false, cond}
use mathlib.Core.List.{List}
use lib.ListN.{length, get_or, set, drop, replicate, length-replicate}
use lib.Dec.{eqb}
use borrow.Author.Tests.{eqb-true, ne_eqb}
use Rattle.diagram.specs.Table.{Table, record_at, scale_of, scale}
use Rattle.diagram.specs.Score.{score}
use Rattle.diagram.specs.Plans.{open_taken, is_open, upper_bound, derivative}
use Rattle.diagram.specs.Checks.{position_of}
use Rattle.diagram.specs.Validity.{Formed, BoundedShares, Monotone}
use Rattle.diagram.proofs.Places.{sequence-at}
use Rattle.diagram.proofs.FirstVariable.{scale-positive}
use Rattle.decoding.specs.Decoding.{root_at}
use Rattle.weighing.specs.Value.{node_position, value, rooted_sum, high_weight, low_weight}
use Rattle.arrays.specs.Arrays.{by_node}
use Rattle.valuing.specs.Passes.{Arcs}
use Rattle.weighing.proofs.Values.{shares-drop, weights-scale, value_false, value_true, value_step, score-rooted, scale-rooted}
use Rattle.derivatives.specs.Down.{dot, record_sum, added, entered, root_weight, hand_on, pass_down, Budget}
use Rattle.decoding.specs.Decoding.{Rooted}
use Rattle.derivatives.specs.Drops.{value_loss}
use Rattle.derivatives.proofs.Transposing.{added-length, hand_on-length, hand_on_other, stays, transposed, budget-next, budget-weight}
use Rattle.derivatives.proofs.Leaving.{left_step}
use Rattle.derivatives.proofs.RootWeights.{root-weights-length, all-dot, added-cell, root-weights-cell}
use Rattle.derivatives.proofs.Deriving.{zeros-bound}
use Rattle.layout.specs.Weights.{arcs_under, path_weight, into, weight_sum}

-- ---------------------------------------------------------------------------
-- Lists and sums

-- the cell of record k
node_at : (f : ℕ → ℕ) (n k : ℕ) → k < n → get_or (by_node f n) (k + 2) 0 ≡ f k
unfolding by_node
node_at f n k h =
    let two : k + 2 ≡ suc (suc k) = omega arith in
    rw two (sequence-at f 0 n k 0 h ∙ ap f (omega arith))

-- what an arc brings, where it leads to the node
cond_same : (b : Bool) (x y : ℕ) → (b ≡ true → x ≡ y) → cond b x 0 ≡ cond b y 0
cond_same true x y e = e refl
cond_same false x y e = refl

-- what comes to a node, by what the arcs that lead to it bring
into-same : (high low a b a' b' : ℕ → ℕ) (c n : ℕ) → ((k : ℕ) → k < n → high k ≡ c → a k ≡ a' k) → ((k : ℕ) → k < n → low k ≡ c → b k ≡ b' k) → into high low a b c n ≡ into high low a' b' c n
unfolding into
into-same high low a b a' b' c zero ea eb = refl
into-same high low a b a' b' c (suc k) ea eb =
    rw (cond_same (eqb (high k) c) (a k) (a' k) (λ e. ea k (omega arith) (eqb-true _ _ e)), cond_same (eqb (low k) c) (b k) (b' k) (λ e. eb k (omega arith) (eqb-true _ _ e)), into-same high low a b a' b' c k (λ j l. ea j (omega arith)) (λ j l. eb j (omega arith)))

-- the sum over a list of weights
sum-cells : (ws : List ℕ) (w r : ℕ → ℕ) → ((i : ℕ) → get_or ws i 0 ≡ w i) → (n : ℕ) → record_sum ws r n ≡ weight_sum w r n
unfolding record_sum weight_sum
sum-cells ws w r e zero = refl
sum-cells ws w r e (suc k) = rw (e (k + 2), sum-cells ws w r e k) refl

-- a sum of zeros
sum-zero : (w : ℕ → ℕ) (n : ℕ) → weight_sum w (λ _. 0) n ≡ 0
unfolding weight_sum
sum-zero w zero = refl
sum-zero w (suc k) = omega (arith, sum-zero w k)

-- ---------------------------------------------------------------------------
-- The cells of a pass down

-- a cell after a handing on
hand_on-cell : (a : Arcs) (m : ℕ) (ws : List ℕ) (c : ℕ) → get_or a.high m 0 < length ws → get_or a.low m 0 < length ws → get_or (hand_on a m ws) c 0 ≡ get_or ws c 0 + (cond (eqb (get_or a.high m 0) c) (get_or ws m 0 * get_or a.high_weights m 0) 0 + cond (eqb (get_or a.low m 0) c) (get_or ws m 0 * get_or a.low_weights m 0) 0)
unfolding hand_on
hand_on-cell a m ws c h l =
    let x = get_or ws m 0 * get_or a.high_weights m 0 in
    let y = get_or ws m 0 * get_or a.low_weights m 0 in
    let one = added ws (get_or a.high m 0) x in
    let long = added-length ws (get_or a.high m 0) x in
    omega (arith, added-cell ws (get_or a.high m 0) x c h, added-cell one (get_or a.low m 0) y c (omega arith))

-- a node that hands on keeps its weight to the end
kept : (a : Arcs) (k : ℕ) (ws : List ℕ) → ((j : ℕ) → j < suc k → get_or a.high (j + 2) 0 < j + 2) → ((j : ℕ) → j < suc k → get_or a.low (j + 2) 0 < j + 2) → get_or (pass_down a k (hand_on a (k + 2) ws)) (k + 2) 0 ≡ get_or ws (k + 2) 0
kept a k ws high low =
    stays a k (hand_on a (k + 2) ws) (λ j l. high j (omega arith)) (λ j l. low j (omega arith)) (k + 2) (le_refl _) ∙
    hand_on_other a (k + 2) ws (k + 2) (high k (omega arith)) (low k (omega arith))

-- a cell after the pass is what stood there and what all arcs bring; w is the weight at the end, hi and lo are the children, hw and lw their weights
pass_cell : (a : Arcs) (n : ℕ) (ws : List ℕ) (hi lo w hw lw : ℕ → ℕ) → ((k : ℕ) → k < n → get_or a.high (k + 2) 0 < k + 2) → ((k : ℕ) → k < n → get_or a.low (k + 2) 0 < k + 2) → n + 2 ≤ length ws → ((k : ℕ) → k < n → get_or a.high (k + 2) 0 ≡ hi k) → ((k : ℕ) → k < n → get_or a.low (k + 2) 0 ≡ lo k) → ((k : ℕ) → k < n → get_or a.high_weights (k + 2) 0 ≡ hw k) → ((k : ℕ) → k < n → get_or a.low_weights (k + 2) 0 ≡ lw k) → ((k : ℕ) → k < n → get_or (pass_down a n ws) (k + 2) 0 ≡ w (k + 2)) → (c : ℕ) → get_or (pass_down a n ws) c 0 ≡ get_or ws c 0 + into hi lo (λ k. w (k + 2) * hw k) (λ k. w (k + 2) * lw k) c n
unfolding pass_down into
pass_cell a zero ws hi lo w hw lw high low size ehi elo ehw elw ew c = omega arith
pass_cell a (suc k) ws hi lo w hw lw high low size ehi elo ehw elw ew c =
    let next = hand_on a (k + 2) ws in
    let highest = high k (omega arith) in
    let lowest = low k (omega arith) in
    let own : get_or ws (k + 2) 0 ≡ w (k + 2) = sym (kept a k ws high low) ∙ ew k (omega arith) in
    let before = pass_cell a k next hi lo w hw lw (λ j l. high j (omega arith)) (λ j l. low j (omega arith)) (omega (arith, hand_on-length a (k + 2) ws)) (λ j l. ehi j (omega arith)) (λ j l. elo j (omega arith)) (λ j l. ehw j (omega arith)) (λ j l. elw j (omega arith)) (λ j l. ew j (omega arith)) c in
    let here = hand_on-cell a (k + 2) ws c (omega arith) (omega arith) in
    let here = rw (ehi k (omega arith), elo k (omega arith), ehw k (omega arith), elw k (omega arith), own) at here in
    omega (arith, before, here)

-- within the budget every weight at the end is at most 2^56
pass_fits : {a : Arcs} {scales : ℕ → ℕ} (n : ℕ) (ws : List ℕ) → Budget a n scales ws → n + 2 ≤ length ws → (i : ℕ) → i < n + 2 → get_or (pass_down a n ws) i 0 ≤ 2 ^ 56
unfolding pass_down
pass_fits zero ws b size i h = budget-weight b i h
pass_fits {a} (suc k) ws b size i h =
    ⊎_elim
    (λ e. rw e (omega (arith, kept a k ws b.high_less b.low_less, budget-weight b (k + 2) (omega arith))))
    (λ less. pass_fits k (hand_on a (k + 2) ws) (budget-next b size) (omega (arith, hand_on-length a (k + 2) ws)) i less)
    (eq-or-lt_of_le {n = i} {m = k + 2} (omega arith))

-- ---------------------------------------------------------------------------
-- The weights of a table

module _ (t : Table) (formed : Formed (length t.variables) t.records) (shares : BoundedShares t.variables) (few : length t.records ≤ 254) (rooted : Rooted t) where
  -- the weights to begin with
  abbrev first : List ℕ
  first = entered t (length t.roots) (replicate 256 0)

  long : length first ≡ 256
  long = root-weights-length t (length t.roots) (replicate 256 0) ∙ length-replicate {A = ℕ} 256 0

  first-size : length t.records + 2 ≤ length first
  first-size = omega (arith, long)

  first_cell : (m : ℕ) → get_or first m 0 ≡ root_weight t m (length t.roots)
  first_cell m =
      let zeros = length-replicate {A = ℕ} 256 0 in
      omega (arith, root-weights-cell t rooted (replicate 256 0) (omega arith) m (length t.roots) (le_refl _), zeros-bound 256 0 m)

  -- the lists hold the children and the weights of record k's arcs
  high-at : (u : List ℕ) (k : ℕ) → k < length t.records → get_or (arcs_under t u).high (k + 2) 0 ≡ (record_at t.records k).hi
  unfolding arcs_under
  high-at u k h = node_at (λ j. (record_at t.records j).hi) (length t.records) k h

  low-at : (u : List ℕ) (k : ℕ) → k < length t.records → get_or (arcs_under t u).low (k + 2) 0 ≡ (record_at t.records k).lo
  unfolding arcs_under
  low-at u k h = node_at (λ j. (record_at t.records j).lo) (length t.records) k h

  high-weight-at : (u : List ℕ) (k : ℕ) → k < length t.records → get_or (arcs_under t u).high_weights (k + 2) 0 ≡ high_weight t u k
  unfolding arcs_under
  high-weight-at u k h = node_at (high_weight t u) (length t.records) k h

  low-weight-at : (u : List ℕ) (k : ℕ) → k < length t.records → get_or (arcs_under t u).low_weights (k + 2) 0 ≡ low_weight t u k
  unfolding arcs_under
  low-weight-at u k h = node_at (low_weight t u) (length t.records) k h

  -- children have smaller numbers
  high_less_lem : (u : List ℕ) (k : ℕ) → k < length t.records → get_or (arcs_under t u).high (k + 2) 0 < k + 2
  high_less_lem u k h = rw (high-at u k h) (formed.hi_less k)

  low_less_lem : (u : List ℕ) (k : ℕ) → k < length t.records → get_or (arcs_under t u).low (k + 2) 0 < k + 2
  low_less_lem u k h = rw (low-at u k h) (formed.lo_less k)

  -- a node's weight is what its parents hand on and what the roots bring
  pub weight_step : (u : List ℕ) (m : ℕ) → 2 ≤ m → m < length t.records + 2 → path_weight t u m ≡ root_weight t m (length t.roots) + into (λ k. (record_at t.records k).hi) (λ k. (record_at t.records k).lo) (λ k. path_weight t u (k + 2) * high_weight t u k) (λ k. path_weight t u (k + 2) * low_weight t u k) m (length t.records)
  unfolding path_weight
  weight_step u m h l =
      rw (← first_cell m)
      (pass_cell (arcs_under t u) (length t.records) first (λ k. (record_at t.records k).hi) (λ k. (record_at t.records k).lo) (path_weight t u) (high_weight t u) (low_weight t u) (high_less_lem u) (low_less_lem u) first-size (high-at u) (low-at u) (high-weight-at u) (low-weight-at u) (λ k l. refl) m)

  -- a record's node stands at its position
  place-record : (k : ℕ) → node_position t (k + 2) ≡ (record_at t.records k).position
  unfolding node_position position_of
  place-record k =
      let two : k + 2 ≡ suc (suc k) = omega arith in
      rw two refl

  module _ (u u' : List ℕ) (x : ℕ) (same : (k : ℕ) → k < length t.records → (record_at t.records k).position < x → (high_weight t u k ≡ high_weight t u' k) × (low_weight t u k ≡ low_weight t u' k)) where
    -- the next law, by induction on a number f that the node's position is below
    weight_local_by : (f m : ℕ) → node_position t m < f → 2 ≤ m → m < length t.records + 2 → node_position t m ≤ x → path_weight t u m ≡ path_weight t u' m
    unfolding node_position
    weight_local_by zero m b h l p = absurd (omega arith)
    weight_local_by (suc f) m b h l p =
        rw (weight_step u m h l, weight_step u' m h l)
        (ap (λ (z : ℕ). root_weight t m (length t.roots) + z)
        (into-same _ _ _ _ _ _ m (length t.records)
        (λ k s e.
        let later : (record_at t.records k).position < node_position t m = rw e at (formed.hi_later k) in
        let at = place-record k in
        rw (weight_local_by f (k + 2) (omega arith) (omega arith) (omega arith) (omega arith), (same k s (omega arith)).0) refl)
        (λ k s e.
        let later : (record_at t.records k).position < node_position t m = rw e at (formed.lo_later k) in
        let at = place-record k in
        rw (weight_local_by f (k + 2) (omega arith) (omega arith) (omega arith) (omega arith), (same k s (omega arith)).1) refl)))

  -- it depends on the arcs of the records before the node's position alone
  pub weight_local : (u u' : List ℕ) (x : ℕ) → ((k : ℕ) → k < length t.records → (record_at t.records k).position < x → (high_weight t u k ≡ high_weight t u' k) × (low_weight t u k ≡ low_weight t u' k)) → (m : ℕ) → 2 ≤ m → m < length t.records + 2 → node_position t m ≤ x → path_weight t u m ≡ path_weight t u' m
  weight_local u u' x same m h l p = weight_local_by u u' x same (suc (node_position t m)) m (le_refl _) h l p

  -- the sum with the weights to begin with is the sum over the roots
  first-dot : (v : ℕ → ℕ) → dot first v (length t.records + 2) ≡ rooted_sum t v
  first-dot v = all-dot t rooted v few

  -- the pass down stays within its budget: a node's number is the product of b from its position on
  budget : scale t ≤ 2 ^ 56 → (u : List ℕ) → Budget (arcs_under t u) (length t.records) (λ i. scale_of (drop (node_position t i) t.variables)) first
  unfolding node_position
  budget bounded u =
      record {
        positive = λ i. scale-positive (shares-drop shares (node_position t i));
        steps = λ k h.
            rw (high-weight-at u k h, low-weight-at u k h, high-at u k h, low-at u k h, place-record k)
            (le_of_eq (weights-scale t formed shares u k));
        total = rw (first-dot (λ i. scale_of (drop (node_position t i) t.variables)), scale-rooted t formed shares) bounded;
        high_less = high_less_lem u;
        low_less = low_less_lem u;
      }

  -- past the last record nothing comes
  root-weight_past : (m : ℕ) → length t.records + 2 ≤ m → (i : ℕ) → i ≤ length t.roots → root_weight t m i ≡ 0
  unfolding root_weight
  root-weight_past m h zero l = refl
  root-weight_past m h (suc i) l =
      rw (ne_eqb (root_at t.roots i).node m (omega (arith, (rooted i (omega arith)).1)), root-weight_past m h i (omega arith)) refl

  -- it fits
  pub weight-fits : scale t ≤ 2 ^ 56 → (u : List ℕ) (m : ℕ) → path_weight t u m ≤ 2 ^ 56
  unfolding path_weight
  weight-fits bounded u m =
      by_cases (dec_lt m (length t.records + 2))
      (λ l. pass_fits (length t.records) first (budget bounded u) first-size m l)
      (λ f. rw (stays (arcs_under t u) (length t.records) first (high_less_lem u) (low_less_lem u) m (omega (arith, f)), first_cell m, root-weight_past m (omega (arith, f)) (length t.roots) (le_refl _)) (omega arith))

  -- a score, with what values that go by the arcs under a plan fall short, is the weight that comes to the end true
  summed : (u v : List ℕ) (r : ℕ → ℕ) → ((k : ℕ) → value t v (k + 2) + r k ≡ high_weight t u k * value t v (record_at t.records k).hi + low_weight t u k * value t v (record_at t.records k).lo) → score t v + weight_sum (path_weight t u) r (length t.records) ≡ path_weight t u 1
  unfolding path_weight dot
  summed u v r step =
      let n = length t.records in
      let ds = pass_down (arcs_under t u) n first in
      let all = transposed (arcs_under t u) n first (value t v) r (high_less_lem u) (low_less_lem u) first-size (λ k h. rw (high-weight-at u k h, low-weight-at u k h, high-at u k h, low-at u k h) (step k)) in
      let ends : dot ds (value t v) 2 ≡ get_or ds 1 0 = rw (value_false, value_true) (omega arith) in
      omega (arith, all, ends, first-dot (value t v), score-rooted t formed shares v, sum-cells ds (path_weight t u) r (λ i. refl) n)

  -- the top is the weight that comes to the end true
  top-is : (u : List ℕ) → score t u ≡ path_weight t u 1
  top-is u = omega (arith, summed u u (λ _. 0) (λ k. rw add-zero (value_step t formed shares u k)), sum-zero (path_weight t u) (length t.records))

  -- the score with an open line left, and the sum, come to the top
  left-top : Monotone t → (p : List ℕ) (i : ℕ) → is_open p i ≡ true → score t (open_taken (set p i 2)) + weight_sum (path_weight t (open_taken p)) (value_loss t p i) (length t.records) ≡ score t (open_taken p)
  left-top monotone p i o = summed (open_taken p) (open_taken (set p i 2)) (value_loss t p i) (left_step t formed monotone shares p i o) ∙ sym (top-is (open_taken p))

  -- the drop of an open line, from the weights of its records
  pub drop-weights : Monotone t → (p : List ℕ) (i : ℕ) → is_open p i ≡ true → derivative t p i ≡ weight_sum (path_weight t (open_taken p)) (value_loss t p i) (length t.records)
  unfolding derivative upper_bound
  drop-weights monotone p i o = rw o (omega (arith, left-top monotone p i o))

  -- the drop and the top with the line left come to the top
  pub drop-top : Monotone t → (p : List ℕ) (i : ℕ) → is_open p i ≡ true → derivative t p i + upper_bound t (set p i 2) ≡ upper_bound t p
  unfolding derivative upper_bound
  drop-top monotone p i o = rw o (omega (arith, left-top monotone p i o))
