-- The weights that the roots of a table bring: what they come to with a value for each node, cell by cell, and from the arrays that hold the roots.
-- Assumes of the roots that they are records' nodes, where a law says so (`Rooted`).
use Prim.Native.Nat.{ℕ, zero, suc, ◌+◌, ◌*◌, ◌≤◌, ◌<◌, ◌^◌}
use native.Mathlib.Nat.{le_refl, mul-le-mul_left}
use native.Mathlib.Decide.{ℕ_discrete}
use native.Mathlib.Numerals.{add-one}
use native.Mathlib.Omega.{arith}
use mathlib.Core.Path.{◌≡◌, refl, ap, ◌∙◌}
use mathlib.Core.Bool.{cond}
use mathlib.Core.Logic.{by_cases}
use mathlib.Core.List.{List}
use lib.ListN.{length, get_or, take, replicate, length-replicate}
use lib.Dec.{eqb}
use lib.Seq.{take_all, get_or-set_same, get_or-set_other}
use borrow.Author.Tests.{eq-eqb, ne_eqb}
use Rattle.diagram.specs.Table.{Table}
use Rattle.diagram.specs.Score.{rewarded}
use Rattle.decoding.specs.Decoding.{root_at}
use Rattle.decoding.proofs.Rooting.{rewarded-next, rewarded_part}
use Rattle.weighing.specs.declared.roots.Roots.{Roots}
use Rattle.weighing.specs.Value.{node_position, gap, rooted_sum}
use Rattle.weighing.proofs.HeldRoots.{RootsHeld}
use Rattle.derivatives.specs.Down.{dot, added, entered, entered_by, root_weight}
use Rattle.decoding.specs.Decoding.{Rooted}
use Rattle.derivatives.proofs.Transposing.{added-length, dot-added, dot-zeros, dot_term}

pub root-weights-length : (t : Table) (i : ℕ) (ws : List ℕ) → length (entered t i ws) ≡ length ws
unfolding entered
root-weights-length t zero ws = refl
root-weights-length t (suc i) ws = added-length (entered t i ws) _ _ ∙ root-weights-length t i ws

-- ---------------------------------------------------------------------------
-- With a value for each node

module _ (t : Table) (rooted : Rooted t) (v : ℕ → ℕ) where
  root-weights-dot : (ws : List ℕ) → length t.records + 2 ≤ length ws → (i : ℕ) → i ≤ length t.roots → dot (entered t i ws) v (length t.records + 2) ≡ dot ws v (length t.records + 2) + rewarded (λ m. gap t 0 (node_position t m) * v m) (take i t.roots)
  unfolding entered rewarded
  root-weights-dot ws long zero h = omega arith
  root-weights-dot ws long (suc i) h =
      let n = length t.records in
      let node = (root_at t.roots i).node in
      let within = rooted i (omega arith) in
      let more = dot-added (entered t i ws) v node ((root_at t.roots i).reward * gap t 0 (node_position t node)) (n + 2) within.1 (omega (arith, within.1, root-weights-length t i ws)) in
      omega (arith, more, root-weights-dot ws long i (omega arith), rewarded-next (λ m. gap t 0 (node_position t m) * v m) t.roots i (omega arith))

  part_dot : length t.records ≤ 254 → (i : ℕ) → i ≤ length t.roots → dot (entered t i (replicate 256 0)) v (length t.records + 2) ≡ rewarded (λ m. gap t 0 (node_position t m) * v m) (take i t.roots)
  part_dot few i h =
      let long = length-replicate {A = ℕ} 256 0 in
      omega (arith, root-weights-dot (replicate 256 0) (omega arith) i h, dot-zeros 256 v (length t.records + 2) (omega arith))

  -- from zeros, the weights that all roots bring come to the sum over the roots
  pub all-dot : length t.records ≤ 254 → dot (entered t (length t.roots) (replicate 256 0)) v (length t.records + 2) ≡ rooted_sum t v
  unfolding rooted_sum
  all-dot few = part_dot few (length t.roots) (le_refl _) ∙ ap (rewarded _) (take_all (length t.roots) t.roots (le_refl _))

  -- a weight is at most that sum, where no value is 0
  pub root-weights_fit : length t.records ≤ 254 → ((m : ℕ) → 1 ≤ v m) → (i : ℕ) → i ≤ length t.roots → (m : ℕ) → m < length t.records + 2 → get_or (entered t i (replicate 256 0)) m 0 ≤ rooted_sum t v
  unfolding rooted_sum
  root-weights_fit few positive i h m l =
      let ws = entered t i (replicate 256 0) in
      omega (arith, dot_term ws v m (length t.records + 2) l, part_dot few i h, rewarded_part (λ m. gap t 0 (node_position t m) * v m) t.roots i, mul-le-mul_left (get_or ws m 0) (positive m))

-- ---------------------------------------------------------------------------
-- Cell by cell

-- a cell after an addition
pub added-cell : (ws : List ℕ) (i x c : ℕ) → i < length ws → get_or (added ws i x) c 0 ≡ get_or ws c 0 + cond (eqb i c) x 0
unfolding added
added-cell ws i x c h =
    by_cases (ℕ_discrete i c)
    (λ e. rw (eq-eqb i c e, ← e) (get_or-set_same ws i (get_or ws i 0 + x) 0 h))
    (λ ne. rw (ne_eqb i c ne, get_or-set_other ws i c (get_or ws i 0 + x) 0 (omega arith)) (omega arith))

pub root-weights-cell : (t : Table) → Rooted t → (ws : List ℕ) → length t.records + 2 ≤ length ws → (m i : ℕ) → i ≤ length t.roots → get_or (entered t i ws) m 0 ≡ get_or ws m 0 + root_weight t m i
unfolding entered root_weight
root-weights-cell t rooted ws long m zero h = omega arith
root-weights-cell t rooted ws long m (suc i) h =
    let within = rooted i (omega arith) in
    omega (arith, added-cell (entered t i ws) (root_at t.roots i).node ((root_at t.roots i).reward * gap t 0 (node_position t (root_at t.roots i).node)) m (omega (arith, within.1, root-weights-length t i ws)), root-weights-cell t rooted ws long m i (omega arith))

-- ---------------------------------------------------------------------------
-- From arrays

pub entered_by-next : (rs : Roots) (ws : List ℕ) (i : ℕ) → entered_by rs (i + 1) ws ≡ added (entered_by rs i ws) (get_or rs.nodes i 0) (get_or rs.weights i 0)
unfolding entered_by
entered_by-next rs ws i = rw (add-one i) refl

-- the sum that root i makes at its node
pub root-weight-fits : (rs : Roots) (ws : List ℕ) (i : ℕ) → let node = get_or rs.nodes i 0 in node < length (entered_by rs i ws) → get_or (entered_by rs (suc i) ws) node 0 ≤ 2 ^ 56 → get_or (entered_by rs i ws) node 0 + get_or rs.weights i 0 ≤ 2 ^ 56
unfolding entered_by added
root-weight-fits rs ws i l h = rw (get_or-set_same (entered_by rs i ws) (get_or rs.nodes i 0) _ 0 l) at h

module _ {t : Table} {rs : Roots} (e : RootsHeld t rs) where
  -- the roots are records' nodes
  pub held-rooted : Rooted t
  held-rooted i h =
      let less : i < rs.count = omega (arith, e.all) in
      let within = e.within i less in
      (omega (arith, e.node i less, within.0), omega (arith, e.node i less, within.1))

  -- the arrays bring what the table's roots do
  pub entered_by_lem : (ws : List ℕ) (i : ℕ) → i ≤ rs.count → entered_by rs i ws ≡ entered t i ws
  unfolding entered_by entered
  entered_by_lem ws zero h = refl
  entered_by_lem ws (suc i) h =
      rw (entered_by_lem ws i (omega arith), e.node i (omega arith), e.weight i (omega arith)) refl
