-- The cells that arcs start from, by the arcs' numbers. Assumes of an order, for all nodes, that they are records' and that none stands twice.
use Prim.Native.Nat.{ℕ, zero, suc, ◌+◌, ◌≤◌, ◌<◌}
use native.Mathlib.Nat.{le_refl, eq-or-lt_of_le}
use native.Mathlib.Decide.{dec_lt, ℕ_discrete}
use native.Mathlib.Numerals.{add-one}
use native.Mathlib.Omega.{arith}
use mathlib.Core.Path.{◌≡◌, refl, ◌∙◌}
use mathlib.Core.Logic.{by_cases, ⊎_elim}
use mathlib.Core.List.{List}
use lib.ListN.{length, get_or, set, replicate, length-set, length-replicate, get_or-replicate, get_or-eq_default}
use lib.Seq.{get_or-set_same, get_or-set_other}
use Rattle.layers.specs.Cells.{high_cell, low_cell, root_cell}
use Rattle.ordering.specs.Numbers.{low_arc_of, root_arc_number}
use Rattle.layout.specs.Weighed.{NodesWithin, NodesOnce, node_cells, arc_cells}

-- The cells of the arcs of n nodes in order, by the arcs' numbers; all roots' arcs start from one cell
pub record Numbered (n : ℕ) (order numbers : List ℕ) : Type 0 where
  pub roots : (i : ℕ) → i < 16 → get_or numbers (root_arc_number i) 0 ≡ root_cell
  pub highs : (i : ℕ) → i < n → get_or numbers (get_or order i 0) 0 ≡ high_cell i
  pub lows : (i : ℕ) → i < n → get_or numbers (low_arc_of (get_or order i 0)) 0 ≡ low_cell i
  pub few : (a : ℕ) → get_or numbers a 0 < 512

-- ---------------------------------------------------------------------------
-- The loop

pub cells-length : (order : List ℕ) (n : ℕ) → length (arc_cells order n) ≡ 544
unfolding arc_cells
cells-length order zero = length-replicate {A = ℕ} 544 1
cells-length order (suc i) = simp length-set (cells-length order i)

pub cells-none : (order : List ℕ) → replicate 544 1 ≡ arc_cells order 0
unfolding arc_cells
cells-none order = refl

-- the cells of the node at rank i, which is read as m
pub cells-next : (order : List ℕ) (i : ℕ) {m : ℕ} {cells cells' : List ℕ} → cells ≡ arc_cells order i → m ≡ get_or order i 0 → cells' ≡ node_cells cells m i → cells' ≡ arc_cells order (i + 1)
unfolding arc_cells
cells-next order i e em e' = rw (add-one i, e', e, em) refl

-- the two cells of node n, which is read as m
pub both_numbered : (l : List ℕ) {m n i j : ℕ} → m ≡ n → i ≡ j → set (set l m (i + 2)) (m + 256) (i + 258) ≡ set (set l n (j + 2)) (n + 256) (j + 258)
both_numbered l e f = rw (e, f) refl

set-small : (l : List ℕ) (i x : ℕ) → i < length l → x < 512 → ((a : ℕ) → get_or l a 0 < 512) → (a : ℕ) → get_or (set l i x) a 0 < 512
set-small l i x h small before a =
    by_cases (ℕ_discrete a i)
    (λ e. rw (e, get_or-set_same l i x 0 h) small)
    (λ ne. rw (get_or-set_other l i a x 0 ne) (before a))

-- ---------------------------------------------------------------------------
-- All nodes

-- to begin with every number has the cell of the roots' arcs
number-none : (order : List ℕ) → Numbered 0 order (replicate 544 1)
number-none order =
    record {
      roots = λ k h. get_or-replicate 544 (k + 514) 1 0 (omega arith);
      highs = λ i h. absurd (omega arith);
      lows = λ i h. absurd (omega arith);
      few = one-small;
    }
  where
    one-small : (a : ℕ) → get_or (replicate 544 1) a 0 < 512
    one-small a =
        by_cases (dec_lt a 544)
        (λ l. rw (get_or-replicate {A = ℕ} 544 a 1 0 l) (omega arith))
        (λ f. rw (get_or-eq_default {A = ℕ} (replicate 544 1) 0 {n = a} (rw length-replicate (omega (arith, f)))) (omega arith))

-- the cells of the node at rank i are numbered, which is no node before
module _ {n : ℕ} {order : List ℕ} (most : n ≤ 254) (nodes : NodesWithin n order) (distinct : NodesOnce n order) where
  number-next : {i m : ℕ} {numbers : List ℕ} → i < n → length numbers ≡ 544 → Numbered i order numbers → m ≡ get_or order i 0 → Numbered (suc i) order (set (set numbers m (i + 2)) (m + 256) (i + 258))
  number-next {i} {m} {numbers} rank size w em =
      let node = nodes i rank in
      let first = set numbers m (i + 2) in
      let size' : length first ≡ 544 = simp length-set size in
      let other : (j : ℕ) → j < i → get_or order j 0 ≡ m → ⊥ = λ j less e. let same = distinct j i (omega arith) rank (e ∙ em) in omega arith in
      record {
        roots = λ k h.
            get_or-set_other first (m + 256) (k + 514) (i + 258) 0 (omega arith)
            ∙ get_or-set_other numbers m (k + 514) (i + 2) 0 (omega arith)
            ∙ w.roots k h;
        highs =
            λ j h.
            let at = nodes j (omega arith) in
            get_or-set_other first (m + 256) (get_or order j 0) (i + 258) 0 (omega arith)
            ∙ ⊎_elim
            (λ (e : j ≡ i). rw (e, ← em) (get_or-set_same numbers m (i + 2) 0 (omega arith)))
            (λ (less : j < i). get_or-set_other numbers m (get_or order j 0) (i + 2) 0 (other j less) ∙ w.highs j less)
            (eq-or-lt_of_le {n = j} {m = i} (omega arith));
        lows =
            λ j h.
            let at = nodes j (omega arith) in
            ⊎_elim
            (λ (e : j ≡ i). rw (e, ← em) (get_or-set_same first (m + 256) (i + 258) 0 (omega arith)))
            (λ (less : j < i).
            get_or-set_other first (m + 256) (get_or order j 0 + 256) (i + 258) 0 (λ e. other j less (omega arith))
            ∙ get_or-set_other numbers m (get_or order j 0 + 256) (i + 2) 0 (omega arith)
            ∙ w.lows j less)
            (eq-or-lt_of_le {n = j} {m = i} (omega arith));
        few = set-small first (m + 256) (i + 258) (omega arith) (omega arith) (set-small numbers m (i + 2) (omega arith) (omega arith) w.few);
      }

  numbered_to : (i : ℕ) → i ≤ n → Numbered i order (arc_cells order i)
  unfolding arc_cells
  numbered_to zero h = number-none order
  numbered_to (suc i) h =
      number-next h (cells-length order i) (numbered_to i (omega arith)) refl

  -- the cells of all nodes
  pub numbered_all : Numbered n order (arc_cells order n)
  numbered_all = numbered_to n (le_refl n)
