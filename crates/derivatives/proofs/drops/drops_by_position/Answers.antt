use Prim.Native.Nat.{ℕ, ◌+◌, ◌*◌, ◌<◌}
use native.Mathlib.Omega.{arith}
use mathlib.Core.Path.{◌≡◌, refl, sym, ◌∙◌}
use mathlib.Core.List.{List}
use lib.ListN.{get_or, replicate}
use Rattle.arrays.proofs.Over.{over-at}
use Rattle.valuing.specs.Passes.{loss_of, losses_of}
use Rattle.derivatives.proofs.Summing.{summed_start, loss_fits, cell-fits, summed_open, summed_shut, summed_end}
use Rattle.derivatives.proofs.drops.drops_by_position.Goals as goal
use Rattle.derivatives.proofs.drops.drops_by_position.Goals.{then-mark_at-eq-OPEN, else-mark_at-eq-OPEN}

-- the loss of record k's node, as the code has it
loss_read : (ls ws vs : List ℕ) (n k : ℕ) {node x : ℕ} → k < n → node ≡ k + 2 → x ≡ loss_of ls ws vs node → x ≡ get_or (losses_of ls ws vs n) (k + 2) 0
loss_read ls ws vs n k h e ex = ex ∙ rw e (sym (over-at (λ (k : ℕ). loss_of ls ws vs (k + 2)) (replicate 256 0) n k h))

-- what the code adds, at the node's number that it has made
lost_weighed : (ls ws vs ds : List ℕ) (n k : ℕ) {node m x : ℕ} → k < n → node ≡ k + 2 → m ≡ node → x ≡ loss_of ls ws vs node → get_or ds m 0 * x ≡ get_or ds (k + 2) 0 * get_or (losses_of ls ws vs n) (k + 2) 0
lost_weighed ls ws vs ds n k h e em ex = rw (em, e, loss_read ls ws vs n k h e ex) refl

pub loop-k-init : goal.loop-k-init
loop-k-init c = summed_start _

pub overflow_mul-drops : goal.overflow_mul-drops
overflow_mul-drops c =
    let a = c.args in
    let t = a.table.now in
    let taken = c.loop-k-test.true in
    let node = c.of_record-node.ensures in
    let lost = lost_weighed t.low a.valued.now.arcs a.valued.now.values a.paths.now t.records c.loop-k.k taken node c.number.ensures c.loss_of-lost.ensures in
    record { fits = rw lost (loss_fits c.requires.sums taken node c.position_of-at.ensures c.mark_at.ensures c.if-mark_at-eq-OPEN.true) }

pub overflow_add-drops : goal.overflow_add-drops
overflow_add-drops c =
    let a = c.args in
    let t = a.table.now in
    let taken = c.loop-k-test.true in
    let node = c.of_record-node.ensures in
    let lost = lost_weighed t.low a.valued.now.arcs a.valued.now.values a.paths.now t.records c.loop-k.k taken node c.number.ensures c.loss_of-lost.ensures in
    record { fits = rw c.number-then-mark_at-eq-OPEN.ensures (cell-fits c.requires.sums taken node c.position_of-at.ensures c.mark_at.ensures c.if-mark_at-eq-OPEN.true c.loop-k.invariant lost) }

pub loop-k-preserved : goal.loop-k-preserved
loop-k-preserved c =
    let a = c.args in
    let t = a.table.now in
    let losing = c.requires.sums in
    let summed = c.loop-k.invariant in
    let taken = c.loop-k-test.true in
    let node = c.of_record-node.ensures in
    let position = c.position_of-at.ensures in
    let mark = c.mark_at.ensures in
    elim c.if-mark_at-eq-OPEN.branch [
      | then-mark_at-eq-OPEN w ↦ rw (w.drops-is, w.number-then-mark_at-eq-OPEN.ensures) (summed_open losing taken node position mark w.if-mark_at-eq-OPEN.true summed (lost_weighed t.low a.valued.now.arcs a.valued.now.values a.paths.now t.records c.loop-k.k taken node w.number.ensures w.loss_of-lost.ensures))
      | else-mark_at-eq-OPEN w ↦ rw w.drops-is (summed_shut losing taken node position mark summed w.if-mark_at-eq-OPEN.false)
    ]

pub returns : goal.returns
returns c =
    let e : c.loop-k.k ≡ c.args.table.now.records = omega arith in
    summed_end (rw e at c.loop-k.invariant)
