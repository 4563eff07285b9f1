-- What the arrays of weights hold. Assumes nothing.
use Prim.Native.Nat.{ℕ, ◌+◌, ◌-◌, ◌≤◌, ◌<◌}
use native.Mathlib.Nat.{zero-add}
use native.Mathlib.Omega.{arith}
use mathlib.Core.Path.{◌≡◌, refl, ap, sym, ◌∙◌}
use mathlib.Core.List.{List, ◌++◌}
use lib.ListN.{length, get_or, take, drop, replicate, length-replicate, get_or-replicate, length-append, get_or-append}
use lib.Seq.{get_or-append-add, get_or-take, length-take-le, sets, sets-eq}
use Rattle.diagram.specs.Table.{sequence}
use borrow.Rule.Slice.PartMut.{put_mid}
use Rattle.std.proofs.Common.{append_assoc, drop-drop}
use Rattle.diagram.proofs.Places.{sequence-length, sequence-at, take-sequence}
use Rattle.decoding.proofs.Standing.{list-sequence}
use Rattle.ordering.specs.declared.chains.Joined.{Joined}
use Rattle.weighing.specs.Weights.{arcs_over}
use Rattle.weighing.proofs.ByArc.{arcs-length, arcs_other, arcs-high, arcs-low}
use Rattle.weighing.specs.declared.roots.Roots.{Roots}
use Rattle.layout.specs.Weighed.{brought_by, Picked}
use Rattle.layers.specs.declared.arcs.LaidArcs.{LaidArcs}

-- ---------------------------------------------------------------------------
-- The weights of arcs

-- the roots' weights are written as a part of the array
pub roots_brought : (rs : Roots) (ws : List ℕ) → rs.count ≤ length rs.weights → 514 + rs.count ≤ length ws → {ys : List ℕ} → ys ≡ take rs.count rs.weights → put_mid 514 (514 + rs.count - 514) ws ys ≡ brought_by rs ws
roots_brought rs ws own room e =
    let weights = sequence (λ (i : ℕ). get_or rs.weights i 0) 0 rs.count in
    let long : 514 + rs.count - 514 ≡ rs.count = omega arith in
    let part : take rs.count rs.weights ≡ weights = ap (λ (l : List ℕ). take rs.count l) (sym (list-sequence rs.weights 0)) ∙ take-sequence _ 0 (length rs.weights) rs.count own in
    let size : length weights ≡ rs.count = sequence-length _ 0 rs.count in
    let ends : drop rs.count (drop 514 ws) ≡ drop (514 + rs.count) ws = drop-drop rs.count 514 ws in
    rw (long, e, part, sets-eq weights ws 514 (rw size room), size, ends, append_assoc) refl

-- the roots' weights, one after the other
module _ (f : ℕ → ℕ) (old : List ℕ) where
  -- they stand at their numbers
  sets_at : {n : ℕ} → n ≤ 16 → length old ≡ 544 → sets old 514 (sequence f 0 n) ≡ take 514 old ++ sequence f 0 n ++ drop (514 + length (sequence f 0 n)) old
  sets_at {n} few long = sets-eq (sequence f 0 n) old 514 (omega (arith, sequence-length f 0 n))

  front : length old ≡ 544 → length (take 514 old) ≡ 514
  front long = length-take-le 514 old (omega arith)

  pub brought_at : {n : ℕ} → n ≤ 16 → length old ≡ 544 → (i : ℕ) → i < n → get_or (sets old 514 (sequence f 0 n)) (i + 514) 0 ≡ f i
  brought_at {n} few long i h =
      let at : i + 514 ≡ length (take 514 old) + i = omega (arith, front long) in
      let whole : i + 514 < length (take 514 old ++ sequence f 0 n) = rw length-append (omega (arith, front long, sequence-length f 0 n)) in
      rw (sets_at few long) (get_or-append (take 514 old ++ sequence f 0 n) _ 0 (i + 514) whole ∙ rw at (get_or-append-add (take 514 old) (sequence f 0 n) i 0 ∙ sequence-at f 0 n i 0 h ∙ ap f (zero-add i)))

  -- and no other weight is written
  pub brought_before : {n : ℕ} → n ≤ 16 → length old ≡ 544 → (a : ℕ) → a < 514 → get_or (sets old 514 (sequence f 0 n)) a 0 ≡ get_or old a 0
  brought_before {n} few long a h =
      let in_front : a < length (take 514 old) = omega (arith, front long) in
      let whole : a < length (take 514 old ++ sequence f 0 n) = rw length-append (omega (arith, in_front)) in
      rw (sets_at few long) (get_or-append (take 514 old ++ sequence f 0 n) _ 0 a whole ∙ get_or-append (take 514 old) (sequence f 0 n) 0 a in_front ∙ get_or-take 514 old a 0 h)

-- the weights of the arcs of n records, by high and low, and of r roots, by f, over zeros
module _ (high low f : ℕ → ℕ) {n r : ℕ} (few : n ≤ 254) (most : r ≤ 16) where
  abbrev records : List ℕ
  records = arcs_over high low n (replicate 544 0)

  abbrev all : List ℕ
  all = sets records 514 (sequence f 0 r)

  long : length records ≡ 544
  long = arcs-length high low (replicate 544 0) n ∙ length-replicate {A = ℕ} 544 0

  -- 0 for the number that no arc has
  pub weight-none : get_or all 0 0 ≡ 0
  weight-none =
      brought_before f records most long 0 (omega arith)
      ∙ arcs_other high low (replicate 544 0) n 0 (λ k h. (omega arith, omega arith))
      ∙ get_or-replicate 544 0 0 0 (omega arith)

  pub weight-high : (k : ℕ) → k < n → get_or all (k + 2) 0 ≡ high k
  weight-high k h =
      brought_before f records most long (k + 2) (omega arith)
      ∙ arcs-high high low (replicate 544 0) (length-replicate {A = ℕ} 544 0) n k few h

  pub weight-low : (k : ℕ) → k < n → get_or all (k + 258) 0 ≡ low k
  weight-low k h =
      brought_before f records most long (k + 258) (omega arith)
      ∙ arcs-low high low (replicate 544 0) (length-replicate {A = ℕ} 544 0) n k few h

  pub weight-root : (i : ℕ) → i < r → get_or all (i + 514) 0 ≡ f i
  weight-root = brought_at f records most long

-- what is picked by equal cells and weights
pub picked_same : {n : ℕ} {arcs : Joined} {cells cells' weights weights' : List ℕ} {r : LaidArcs} → cells ≡ cells' → weights ≡ weights' → Picked n arcs cells weights r → Picked n arcs cells' weights' r
picked_same e e' p = rw e' at (rw e at p)
