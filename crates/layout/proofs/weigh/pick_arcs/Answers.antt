use native.Mathlib.Omega.{arith}
use mathlib.Core.Path.{refl}
use lib.ListN.{replicate, length-set}
use Rattle.arrays.proofs.Over.{write_none, write_next}
use Rattle.layout.proofs.weigh.pick_arcs.Goals as goal

pub loop-j-init : goal.loop-j-init
loop-j-init c = ((refl, refl), refl, write_none _ _, write_none _ _)

pub loop-j-preserved : goal.loop-j-preserved
loop-j-preserved c =
    let inv = c.loop-j.invariant in
    let room = c.requires.1 in
    let source = c.from-a.ensures in (
      (simp length-set inv.0.0, simp length-set inv.0.1),
      inv.1,
      write_next _ (replicate 1040 0) (omega arith) inv.2 (rw source refl),
      write_next _ (replicate 1040 0) (omega arith) inv.3 (rw source refl),
    )
