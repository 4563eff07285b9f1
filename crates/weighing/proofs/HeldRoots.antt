-- The roots in arrays, each with the product of b before its node, which is a quotient.
-- Assumes of the decoded table that it is accepted (`Sound`), where a law says so.
use Prim.Native.Nat.{ℕ, ◌+◌, ◌-◌, ◌/◌, ◌≤◌, ◌<◌, ◌^◌}
use native.Mathlib.Nat.{zero-add, mul-le-mul_left, mul-le-mul_right}
use native.Mathlib.Omega.{arith}
use mathlib.Core.Path.{◌≡◌, refl, ap, sym, ◌∙◌}
use mathlib.Core.List.{List}
use lib.ListN.{length, get_or, drop}
use Rattle.diagram.specs.Table.{Table, Root, sequence, scale_of}
use Rattle.diagram.proofs.Locality.{position-le}
use Rattle.diagram.proofs.FirstVariable.{scale-positive}
use Rattle.diagram.proofs.Places.{sequence-length, sequence-at}
use Rattle.decoding.specs.declared.table.Decoded.{Decoded}
use Rattle.decoding.specs.Decoding.{pad_to, root_at, root_nodes, table_in, Valid, Sound}
use Rattle.decoding.proofs.Padding.{pad_at}
use Rattle.decoding.proofs.Standing.{records_in_lem, roots_in_lem, root_in, sequence-same}
use Rattle.weighing.specs.declared.roots.Roots.{Roots}
use Rattle.weighing.specs.Value.{node_position, gap}
use Rattle.weighing.specs.Weights.{products, root_weight_by, RootWeighable, root_weights_by, root_brings, roots_of}
use Rattle.weighing.proofs.Values.{shares-drop, gap-scale}
use Rattle.weighing.proofs.Arcing.{products_at, position_in, suffix-gap}

-- ---------------------------------------------------------------------------
-- What the arrays hold

pub record RootsHeld (t : Table) (rs : Roots) : Type 0 where
  pub all : rs.count ≡ length t.roots
  pub few : rs.count ≤ 16
  pub within : (i : ℕ) → i < rs.count → (2 ≤ get_or rs.nodes i 0) × (get_or rs.nodes i 0 < length t.records + 2)
  pub node : (i : ℕ) → i < rs.count → get_or rs.nodes i 0 ≡ (root_at t.roots i).node
  pub weight : (i : ℕ) → i < rs.count → get_or rs.weights i 0 ≡ root_brings t i

-- a list of numbers for each root, in an array
in_array : (f : ℕ → ℕ) (n i : ℕ) → i < n → get_or (pad_to 16 (sequence f 0 n)) i 0 ≡ f i
in_array f n i h =
    pad_at 16 (sequence f 0 n) i (omega (arith, sequence-length f 0 n)) ∙ sequence-at f 0 n i 0 h ∙ ap f (zero-add i)

pub roots-held : {t : Table} → Valid t → {rs : Roots} → rs ≡ roots_of t → RootsHeld t rs
unfolding roots_of root_nodes
roots-held {t} valid e =
    let node = in_array (λ j. (root_at t.roots j).node) (length t.roots) in
    rw e (record {
      all = refl;
      few = valid.roots;
      within = λ i h. rw (node i h) (valid.rooted i h);
      node = node;
      weight = in_array (root_brings t) (length t.roots);
    })

-- ---------------------------------------------------------------------------
-- The product of b before a node

-- the quotient of two products, at the number that is read
pub weight_is : (qs : List ℕ) {i at : ℕ} → i ≡ at → get_or qs 0 0 / get_or qs i 0 ≡ get_or qs 0 0 / get_or qs at 0
weight_is qs e = rw e

module _ {d : Decoded} (sound : Sound d) where
  pub records-few : (1 ≤ d.records) × (d.records - 1 < 254)
  records-few =
      let records = sound.valid.records in
      (omega (arith, records_in_lem d), omega (arith, records_in_lem d))

  -- the position of node r, as the code has it
  module _ {pr : List ℕ} {r q : ℕ} (epr : pr ≡ products (table_in d).variables) (node : r < d.records + 2) (eq : q ≡ get_or d.positions r 0) where
    node-position : q ≡ node_position (table_in d) r
    unfolding node_position
    node-position =
        let few : r < 256 = omega (arith, records-few) in
        eq ∙ position_in sound.held r few

    node-before : q ≤ length (table_in d).variables
    unfolding node_position
    node-before = rw node-position (position-le sound.valid.formed r)

    cell : (x : ℕ) → x < 64 → get_or pr x 0 ≡ scale_of (drop x (table_in d).variables)
    cell x l = rw epr (products_at (table_in d).variables x l)

    pub node-within : (q < 64) × (0 < get_or pr q 0)
    node-within =
        let few : q < 64 = omega (arith, node-before, sound.valid.variables) in
        (few, rw (cell q few) (scale-positive (shares-drop sound.valid.shares q)))

    -- the product of b before it
    pub node_weighs : {x : ℕ} → x ≡ get_or pr 0 0 / get_or pr q 0 → x ≡ gap (table_in d) 0 (node_position (table_in d) r)
    node_weighs ex =
        let few = node-within.0 in
        ex ∙ rw (cell 0 (omega arith), cell q few, suffix-gap (table_in d) 0 q sound.valid.shares (omega arith) node-before, node-position) refl

    pub node-weight-fits : gap (table_in d) 0 (node_position (table_in d) r) ≤ 2 ^ 56
    unfolding node_position
    node-weight-fits =
        let all = gap-scale (table_in d) 0 (node_position (table_in d) r) (omega arith) (position-le sound.valid.formed r) in
        let some = mul-le-mul_left (gap (table_in d) 0 (node_position (table_in d) r)) (scale-positive (shares-drop sound.valid.shares (node_position (table_in d) r))) in
        omega (arith, all, some, sound.valid.product)

-- ---------------------------------------------------------------------------
-- What comes to the roots, from the arrays

module _ {d : Decoded} (sound : Sound d) {pr : List ℕ} (epr : pr ≡ products (table_in d).variables) where
  module _ (i : ℕ) (h : i < d.roots) where
    root-node : get_or d.nodes i 0 ≡ (root_at (table_in d).roots i).node
    root-node = sym (ap (λ (r : Root). r.node) (root_in d i h))

    root-reward : get_or d.rewards i 0 ≡ (root_at (table_in d).roots i).reward
    root-reward = sym (ap (λ (r : Root). r.reward) (root_in d i h))

    node_less : get_or d.nodes i 0 < d.records + 2
    node_less =
        omega (arith, root-node, records_in_lem d, (sound.valid.rooted i (omega (arith, roots_in_lem d))).1)

    root-weight-is : root_weight_by d.nodes d.rewards d.positions pr i ≡ root_brings (table_in d) i
    unfolding root_weight_by
    root-weight-is = rw (node_weighs sound epr node_less refl refl, root-node, root-reward) refl

    pub root_weighable : RootWeighable d.nodes d.rewards d.positions pr i
    root_weighable =
        let within = node-within sound epr node_less refl in
        let product = node-weight-fits sound epr node_less refl in
        let reward = sound.valid.rewards i (omega (arith, roots_in_lem d)) in
        record {
          at = within.0;
          positive = within.1;
          fits = omega (arith, root-weight-is, root-node, rw root-node at product, mul-le-mul_right (gap (table_in d) 0 (node_position (table_in d) (root_at (table_in d).roots i).node)) reward);
        }

  -- the roots with what comes to them are the table's
  pub roots_are : {ws : List ℕ} → ws ≡ root_weights_by d.nodes d.rewards d.positions pr d.roots → ◌≡◌ {A = Roots} (record { count = d.roots; nodes = d.nodes; weights = ws }) (roots_of (table_in d))
  unfolding roots_of
  roots_are e =
      let weights = sequence-same (root_weight_by d.nodes d.rewards d.positions pr) (root_brings (table_in d)) 0 0 d.roots (λ i h. rw (zero-add i) (root-weight-is i h)) in
      rw (roots_in_lem d, ← sound.held.nodes, e, weights) refl
