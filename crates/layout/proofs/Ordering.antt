-- The nodes in order of position: each record's node once, and before it all nodes at smaller positions.
-- Assumes of the arrays that they are what `order_records` writes for a formed table of at most 254 records and fewer than 64 variables.
use Prim.Native.Nat.{ℕ, zero, suc, ◌+◌, ◌-◌, ◌≤◌, ◌<◌}
use native.Mathlib.Nat.{le_refl}
use native.Mathlib.Decide.{dec_lt}
use native.Mathlib.Omega.{arith}
use mathlib.Core.Path.{◌≡◌, refl, ap, sym, ◌∙◌}
use mathlib.Core.Logic.{by_cases}
use mathlib.Core.List.{List, ◌++◌}
use lib.ListN.{length, get_or, replicate}
use Rattle.diagram.specs.Table.{Table, Record, record_at}
use Rattle.diagram.specs.Checks.{position_of}
use Rattle.diagram.specs.Validity.{Formed}
use Rattle.diagram.proofs.Locality.{position_less}
use Rattle.decoding.specs.Nodes.{column}
use Rattle.decoding.proofs.Columns.{column-at}
use Rattle.weighing.specs.Value.{node_position}
use Rattle.arrays.proofs.Over.{over-sequence-at}
use Rattle.ordering.specs.Chains.{pick, joined, in_buffer, beginnings, nodes_at, arcs_into, arcs_at}
use Rattle.layout.specs.Flows.{rank_sum, at_sum}
use Rattle.ordering.proofs.Joining.{buffer_at, list_sum, joined-suc, joined_mono, joined_at, joined-append, Located, joined_find, pick-sum, pick_at, pick_find, pick_distinct, hits, hits-most, hits_once, picked_all, sum_ones, sum-most, paired-most}
use Rattle.layout.proofs.Summing.{rank_list}

-- the arcs into distinct nodes
module _ (node : ℕ → ℕ) (n : ℕ) where
  arcs-few : (hs ls es : List ℕ) (count r : ℕ) → ((i j : ℕ) → i < r → j < r → node i ≡ node j → i ≡ j) → length (joined (λ i. arcs_into hs ls es n count (node i)) r) ≤ n + n + count
  unfolding arcs_into
  arcs-few hs ls es count r d =
      let low = sum-most (λ k. hits node (get_or ls (k + 2) 0) r) n (λ k. hits-most node _ r d) in
      let high = sum-most (λ k. hits node (get_or hs (k + 2) 0) r) n (λ k. hits-most node _ r d) in
      let root = sum-most (λ k. hits node (get_or es (k + 0) 0) r) count (λ k. hits-most node _ r d) in
      rw (joined-append (λ i. pick es 0 514 (node i) count) (λ i. pick ls 2 258 (node i) n ++ pick hs 2 2 (node i) n) r, joined-append (λ i. pick ls 2 258 (node i) n) (λ i. pick hs 2 2 (node i) n) r)
      (omega (arith, picked_all es 0 514 node r count, picked_all ls 2 258 node r n, picked_all hs 2 2 node r n))

-- a sum over the nodes at a position, by record
at_sum_lem : (t : Table) (ps : List ℕ) (f : ℕ → ℕ) (x n : ℕ) → ((k : ℕ) → k < n → get_or ps (k + 2) 0 ≡ (record_at t.records k).position) → list_sum f (nodes_at ps n x) ≡ at_sum t f x n
unfolding pick list_sum at_sum
at_sum_lem t ps f x zero e = refl
at_sum_lem t ps f x (suc k) e =
    rw (pick-sum ps 2 2 x f k, e k (le_refl _), at_sum_lem t ps f x k (λ j l. e j (omega arith))) refl

module _ (t : Table) (formed : Formed (length t.variables) t.records) (few : length t.records ≤ 254) (short : length t.variables < 64) {ps order ends : List ℕ} (positions : ps ≡ column (length t.variables) (λ (r : Record). r.position) t.records) (eo : order ≡ in_buffer (joined (nodes_at ps (length t.records)) (length t.variables))) (ee : ends ≡ beginnings (nodes_at ps (length t.records)) (length t.variables)) where
  -- the records' number, the number of variables, the nodes at each position, and how many stand before it
  abbrev N : ℕ
  N = length t.records

  abbrev count : ℕ
  count = length t.variables

  abbrev lists : ℕ → List ℕ
  lists = nodes_at ps N

  abbrev before : ℕ → ℕ
  before x = length (joined lists x)

  position-is : (k : ℕ) → k < N → get_or ps (k + 2) 0 ≡ (record_at t.records k).position
  position-is k h = rw positions (column-at count (λ (r : Record). r.position) t.records k (omega arith))

  place_is : (k : ℕ) → k < N → node_position t (k + 2) ≡ get_or ps (k + 2) 0
  unfolding node_position position_of
  place_is k h =
      let two : k + 2 ≡ suc (suc k) = omega arith in
      sym (position-is k h ∙ rw two refl)

  -- every record's position is one of a variable
  pub position-below : (k : ℕ) → k < length t.records → get_or ps (k + 2) 0 < length t.variables
  position-below k h = rw (position-is k h) (position_less formed k)

  -- there are as many nodes as records
  all-nodes : before count ≡ N
  all-nodes =
      picked_all ps 2 2 (λ x. x) count N ∙ sum_ones _ N (λ k h. hits_once (get_or ps (k + 2) 0) count (position-below k h))

  order_is : (i : ℕ) → get_or order i 0 ≡ get_or (joined lists count) i 0
  order_is i = rw eo (buffer_at (joined lists count) (omega (arith, all-nodes)) i)

  ends_is : (x : ℕ) → x ≤ count → get_or ends x 0 ≡ before x
  ends_is x h = rw ee (over-sequence-at (λ y. length (joined (nodes_at ps (length t.records)) y)) (replicate 256 0) (count + 1) x (omega arith))

  -- the node at rank j, of those at position x
  record Ranked (x j : ℕ) : Type 0 where
    pub k : ℕ
    pub less : k < N
    pub key : get_or ps (k + 2) 0 ≡ x
    pub node : get_or order (before x + j) 0 ≡ k + 2

  ranked : (x j : ℕ) → x < count → j < length (lists x) → Ranked x j
  ranked x j h l =
      let p = pick_at ps 2 2 x N j l in
      record { k = p.k; less = p.less; key = p.key; node = order_is _ ∙ joined_at lists x count h j l ∙ p.is }

  -- it stands at position x
  ranked_place : (x j : ℕ) → x < count → j < length (lists x) → node_position t (get_or order (before x + j) 0) ≡ x
  ranked_place x j h l = let r = ranked x j h l in rw r.node (place_is r.k r.less ∙ r.key)

  -- what stands at rank i
  record Rank (i : ℕ) : Type 0 where
    pub located : Located lists count i
    pub ranked : Ranked located.x located.at
    pub node : get_or order i 0 ≡ ranked.k + 2
    pub position : node_position t (get_or order i 0) ≡ located.x

  rank : (i : ℕ) → i < N → Rank i
  rank i h =
      let s = joined_find lists count i (omega (arith, all-nodes)) in
      let r = ranked s.x s.at s.below s.within in
      record {
        located = s;
        ranked = r;
        node = ap (λ (z : ℕ). get_or order z 0) s.is ∙ r.node;
        position = ap (λ (z : ℕ). node_position t (get_or order z 0)) s.is ∙ ranked_place s.x s.at s.below s.within;
      }

  -- each rank has a record's node, and no two the same
  pub order-nodes : (i : ℕ) → i < length t.records → ((k : ℕ) × (k < length t.records) × (get_or order i 0 ≡ k + 2))
  order-nodes i h = let r = rank i h in (r.ranked.k, r.ranked.less, r.node)

  same_rank : (x y a b : ℕ) → x ≡ y → x < count → a < length (lists x) → b < length (lists y) → get_or order (before x + a) 0 ≡ get_or order (before y + b) 0 → before x + a ≡ before y + b
  same_rank x y a b e h l m q =
      let m' : b < length (lists x) = rw e m in
      let q' : get_or order (before x + a) 0 ≡ get_or order (before x + b) 0 = rw (← e) at q in
      let here = order_is _ ∙ joined_at lists x count h a l in
      let there = order_is _ ∙ joined_at lists x count h b m' in
      rw (← e) (ap (λ (z : ℕ). before x + z) (pick_distinct ps 2 2 x N a b l m' (sym here ∙ q' ∙ there)))

  pub order_distinct : (i j : ℕ) → i < length t.records → j < length t.records → get_or order i 0 ≡ get_or order j 0 → i ≡ j
  order_distinct i j hi hj e =
      let a = rank i hi in
      let b = rank j hj in
      let sa = a.located in
      let sb = b.located in
      let x : sa.x ≡ sb.x = sym a.position ∙ ap (node_position t) e ∙ b.position in
      let q = sym (ap (λ (z : ℕ). get_or order z 0) sa.is) ∙ e ∙ ap (λ (z : ℕ). get_or order z 0) sb.is in
      sa.is ∙ same_rank sa.x sb.x sa.at sb.at x sa.below sa.within sb.within q ∙ sym sb.is

  -- a node at a smaller position comes before
  pub order_earlier : (i k : ℕ) → i < length t.records → k < length t.records → (record_at t.records k).position < node_position t (get_or order i 0) → ((j : ℕ) × (j < i) × (get_or order j 0 ≡ k + 2))
  order_earlier i k hi hk less =
      let r = rank i hi in
      let s = r.located in
      let x = get_or ps (k + 2) 0 in
      let f = pick_find ps 2 2 x N k hk refl in
      let low : x < s.x = omega (arith, position-is k hk, r.position) in
      let node : get_or (joined lists count) (before x + f.at) 0 ≡ k + 2 = joined_at lists x count (position-below k hk) f.at f.within ∙ f.is in
      (before x + f.at, omega (arith, f.within, s.is, joined-suc lists x, joined_mono lists (x + 1) s.x (omega arith)), order_is _ ∙ node)

  -- how many nodes stand before each position
  pub ends-rising : (x : ℕ) → x < length t.variables → (get_or ends x 0 ≤ get_or ends (x + 1) 0) × (get_or ends (x + 1) 0 ≤ length t.records)
  ends-rising x h =
      rw (ends_is x (omega arith), ends_is (x + 1) (omega arith)) (joined_mono lists x (x + 1) (omega arith), omega (arith, all-nodes, joined_mono lists (x + 1) count (omega arith)))

  -- a rise over several positions
  pub ends_mono : (x y : ℕ) → x ≤ y → y ≤ length t.variables → get_or ends x 0 ≤ get_or ends y 0
  ends_mono x y h l = rw (ends_is x (omega arith), ends_is y l) (joined_mono lists x y h)

  -- the nodes before the end of the positions before x stand before x, those from there to the next at x, the others after
  pub before-position : (x j : ℕ) → x ≤ length t.variables → j < get_or ends x 0 → node_position t (get_or order j 0) < x
  before-position x j h l =
      let s = joined_find lists x j (omega (arith, ends_is x h)) in
      let below = s.below in
      rw (s.is, ranked_place s.x s.at (omega arith) s.within) s.below

  pub at_position : (x j : ℕ) → x < length t.variables → get_or ends x 0 ≤ j → j < get_or ends (x + 1) 0 → node_position t (get_or order j 0) ≡ x
  at_position x j h l g =
      let b = ends_is x (omega arith) in
      let a = ends_is (x + 1) (omega arith) in
      let e : before x + (j - before x) ≡ j = omega arith in
      rw e at (ranked_place x (j - before x) h (omega (arith, joined-suc lists x)))

  pub after-position : (x j : ℕ) → x ≤ length t.variables → get_or ends x 0 ≤ j → j < length t.records → x ≤ node_position t (get_or order j 0)
  after-position x j h l g =
      let s = joined_find lists count j (omega (arith, all-nodes)) in
      rw (s.is, ranked_place s.x s.at s.below s.within)
      (by_cases (dec_lt s.x x)
      (λ m. absurd (omega (arith, ends_is x h, s.is, s.within, joined-suc lists s.x, joined_mono lists (s.x + 1) x (omega (arith, m)))))
      (λ f. omega (arith, f)))

  -- a sum over the nodes at a position, by rank or by record
  pub position-sum : (x : ℕ) → x < length t.variables → (f : ℕ → ℕ) → rank_sum (λ j. f (get_or order j 0)) (get_or ends x 0) (get_or ends (x + 1) 0 - get_or ends x 0) ≡ at_sum t f x (length t.records)
  position-sum x h f =
      let b = ends_is x (omega arith) in
      let long : get_or ends (x + 1) 0 - get_or ends x 0 ≡ length (lists x) = omega (arith, b, ends_is (x + 1) (omega arith), joined-suc lists x) in
      rw (long, b)
      (rank_list (λ j. f (get_or order j 0)) f (lists x) (before x) (λ j l. ap f (order_is _ ∙ joined_at lists x count h j l)) ∙ at_sum_lem t ps f x N position-is)

  -- all arcs into nodes find room
  pub arcs-room : (hs ls es : List ℕ) (r : ℕ) → r ≤ 16 → length (joined (arcs_at hs ls es (length t.records) r order) (length t.records)) ≤ 1040
  arcs-room hs ls es r most =
      omega (arith, arcs-few (λ i. get_or order i 0) N hs ls es r N order_distinct, paired-most (λ i. arcs_into hs ls es N r (get_or order i 0)) N)
