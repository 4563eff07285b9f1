use Prim.Native.Nat.{ℕ, ◌+◌}
use native.Mathlib.Omega.{arith}
use mathlib.Core.Path.{◌≡◌, refl, ◌∙◌}
use mathlib.Core.List.{List}
use lib.ListN.{replicate}
use Rattle.diagram.specs.Table.{sequence}
use Rattle.arrays.specs.Arrays.{over, by_node}
use Rattle.arrays.proofs.Over.{over-by_node}
use Rattle.valuing.specs.Passes.{loss_of}
use Rattle.valuing.proofs.loss.losses.Goals as goal

-- the loss of a turn, at the node that the code has made
next : (ls ws vs : List ℕ) (k : ℕ) {node x : ℕ} → node ≡ k + 2 → x ≡ loss_of ls ws vs node → x ≡ loss_of ls ws vs (k + 2)
next ls ws vs k e ex = ex ∙ rw e refl

pub loop-k-init : goal.loop-k-init
unfolding over by_node sequence
loop-k-init c = refl

pub loop-k-preserved : goal.loop-k-preserved
loop-k-preserved c =
    let at = c.loop-k in
    let a = c.args in
    rw (at.invariant, next a.low.now a.arcs.now a.values.now at.k c.of_record.ensures c.loss_of.ensures) (over-by_node (λ (k : ℕ). loss_of a.low.now a.arcs.now a.values.now (k + 2)) (replicate 256 0) at.k (omega arith))
