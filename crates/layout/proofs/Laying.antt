-- The arcs laid out in order: they are within their arrays, in pairs, and what comes to a node is what the arcs into it bring.
-- Assumes of the arrays that they are what `lay_arcs` makes of at most 254 nodes, whose arcs find room.
use Prim.Native.Nat.{ℕ, ◌+◌, ◌-◌, ◌*◌, ◌≤◌, ◌<◌}
use native.Mathlib.Nat.{le_refl}
use native.Mathlib.Omega.{arith}
use mathlib.Core.Path.{◌≡◌, ap, ◌∙◌}
use mathlib.Core.List.{List}
use lib.ListN.{length, get_or, replicate}
use Rattle.arrays.proofs.Over.{over-sequence-at}
use Rattle.ordering.specs.Chains.{joined, paired, Joins, arcs_at}
use Rattle.ordering.specs.declared.chains.Joined.{Joined}
use Rattle.ordering.proofs.Joining.{buffer_at, list_sum, joined-suc, joined_mono, joined_at, joined_less, arcs_less, paired-pairs, paired-sum, paired_less, over_less}
use Rattle.layers.specs.Layers.{Sized, inflow}
use Rattle.layout.specs.Weighed.{arc_cells, Laid}
use Rattle.layers.specs.declared.arcs.LaidArcs.{LaidArcs}
use Rattle.layout.proofs.Numbering.{Numbered}
use Rattle.layout.proofs.Summing.{rank_list, flow_rank}

-- ---------------------------------------------------------------------------
-- Lists one after the other

module _ {lists : ℕ → List ℕ} {n : ℕ} {listed : Joined} (room : length (joined lists n) ≤ 1040) (joins : Joins lists n listed) where
  list-is : (j : ℕ) → get_or listed.list j 0 ≡ get_or (joined lists n) j 0
  list-is j = rw joins.list (buffer_at (joined lists n) room j)

  start_is : (i : ℕ) → i ≤ n → get_or listed.starts i 0 ≡ length (joined lists i)
  start_is i h =
      rw joins.starts (over-sequence-at (λ x. length (joined lists x)) (replicate 256 0) (n + 1) i (omega arith))

  pub starts-few : (i : ℕ) → i ≤ n → get_or listed.starts i 0 ≤ 1040
  starts-few i h = omega (arith, start_is i h, joined_mono lists i n h, room)

-- what `pick_arcs` asks for
pub list-few : (hs ls es : List ℕ) {n r : ℕ} (order : List ℕ) {listed : Joined} → n ≤ 254 → r ≤ 16 → length (joined (arcs_at hs ls es n r order) n) ≤ 1040 → Joins (arcs_at hs ls es n r order) n listed → (j : ℕ) → get_or listed.list j 0 < 544
list-few hs ls es {n} {r} order few most room joins j =
    rw (list-is room joins j) (joined_less 544 _ n (omega arith) (λ i. paired_less 544 _ (omega arith) (arcs_less hs ls es n r (get_or order i 0) few most)) j)

-- ---------------------------------------------------------------------------
-- What they bring

module _ (arcs : ℕ → List ℕ) {n : ℕ} {order weights : List ℕ} {r : LaidArcs} (few : n ≤ 254) (room : length (joined (λ i. paired (arcs i)) n) ≤ 1040) (numbered : Numbered n order (arc_cells order n)) (laid : Laid (λ i. paired (arcs i)) n order weights r) where
  -- the arcs into the node at each rank, and how many stand before them
  abbrev lists : ℕ → List ℕ
  lists i = paired (arcs i)

  begins : (i : ℕ) → i ≤ n → get_or r.starts i 0 ≡ length (joined lists i)
  begins i h = rw laid.picked.starts (start_is room laid.joins i h)

  -- the layout is within its arrays
  pub laid-sized : Sized r n
  laid-sized =
      record {
        few = few;
        pairs = λ i h.
            let m = paired-pairs (arcs i) in
            (m.0, omega (arith, begins i (omega arith), begins (i + 1) (omega arith), joined-suc lists i, m.1));
        within = λ i h. rw laid.picked.starts (starts-few room laid.joins i h);
        sources = λ j. rw laid.picked.sources (over_less 512 (λ j. get_or (arc_cells order n) (get_or laid.listed.list j 0) 0) (get_or laid.listed.starts n 0) 1040 (omega arith) (λ j. numbered.few (get_or laid.listed.list j 0)) j);
      }

  module _ (cells : List ℕ) where
    -- what an arc brings, by its number
    abbrev pub brings : ℕ → ℕ
    brings a = get_or cells (get_or (arc_cells order n) a 0) 0 * get_or weights a 0

    arc_is : (i j : ℕ) → i < n → j < length (paired (arcs i)) → get_or cells (get_or r.sources (length (joined lists i) + j) 0) 0 * get_or r.arcs (length (joined lists i) + j) 0 ≡ brings (get_or (paired (arcs i)) j 0)
    arc_is i j h b =
        let list = laid.listed.list in
        let count = get_or laid.listed.starts n 0 in
        let at = length (joined lists i) + j in
        let less : at < count = omega (arith, start_is room laid.joins n (le_refl n), joined-suc lists i, joined_mono lists (i + 1) n (omega arith)) in
        rw (laid.picked.weighed, laid.picked.sources, over-sequence-at (λ j. get_or weights (get_or list j 0) 0) (replicate 1040 0) count at less, over-sequence-at (λ j. get_or (arc_cells order n) (get_or list j 0) 0) (replicate 1040 0) count at less)
        (ap brings (list-is room laid.joins at ∙ joined_at lists i n h j b))

    -- what comes to the node at a rank, where the number that no arc has weighs nothing
    pub laid-inflow : get_or weights 0 0 ≡ 0 → (i : ℕ) → i < n → inflow r cells i ≡ list_sum brings (arcs i)
    unfolding inflow
    laid-inflow none i h =
        let none-brings : brings 0 ≡ 0 = rw none (omega arith) in
        let long : get_or r.starts (i + 1) 0 - get_or r.starts i 0 ≡ length (lists i) = omega (arith, begins i (omega arith), begins (i + 1) (omega arith), joined-suc lists i) in
        rw (long, begins i (omega arith), flow_rank)
        (rank_list _ brings (lists i) (length (joined lists i)) (λ j b. arc_is i j h b) ∙ paired-sum brings (arcs i) none-brings)
