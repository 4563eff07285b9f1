use Prim.Native.Nat.{◌<◌}
use native.Mathlib.Omega.{arith}
use mathlib.Core.Path.{refl, sym, ◌∙◌}
use lib.ListN.{length, get_or}
use Rattle.derivatives.specs.Down.{entered_by}
use Rattle.derivatives.proofs.RootWeights.{entered_by-next, root-weight-fits}
use Rattle.derivatives.proofs.Transposing.{added-length}
use Rattle.derivatives.proofs.down.enter.Goals as goal

pub loop-i-init : goal.loop-i-init
unfolding entered_by
loop-i-init c = (omega arith, refl)

pub add-requires : goal.add-requires
add-requires c =
    let inv = c.loop-i.invariant in
    let roots = c.args.roots.now in
    let weights = c.args.paths.now in
    let i = c.loop-i.i in
    let enters = c.requires.1 i (omega arith) in
    let long : get_or roots.nodes i 0 < length (entered_by roots i weights) = rw (← inv.1, inv.0) enters.0 in
    rw (c.new.ensures, inv.1) (omega (arith, root-weight-fits roots weights i long enters.1))

pub loop-i-preserved : goal.loop-i-preserved
loop-i-preserved c =
    let inv = c.loop-i.invariant in
    let entered = rw c.new.ensures at c.add.ensures in
    (rw (entered, added-length) inv.0, entered ∙ rw inv.1 (sym (entered_by-next c.args.roots.now c.args.paths.now c.loop-i.i)))
