use Prim.Native.Nat.{ℕ}
use native.Mathlib.Omega.{arith}
use mathlib.Core.Path.{◌≡◌, refl, ap, ◌∙◌}
use lib.ListN.{get_or, replicate, length-set}
use Rattle.arrays.proofs.Over.{write_none, write_next}
use Rattle.layout.proofs.weigh.losses_by_rank.Goals as goal

pub loop-i-init : goal.loop-i-init
loop-i-init c = (refl, write_none _ _)

pub loop-i-preserved : goal.loop-i-preserved
loop-i-preserved c =
    let node : c.number-m.result ≡ get_or c.args.order.now c.loop-i.i 0 = c.number-m.ensures ∙ rw c.new.ensures at c.node_at.ensures in
    let inv = c.loop-i.invariant in
    let few = c.requires.0 in
    (simp length-set inv.0, write_next _ (replicate 256 0) (omega arith) inv.1 (ap (λ (m : ℕ). get_or c.args.losses.now m 0) node))
