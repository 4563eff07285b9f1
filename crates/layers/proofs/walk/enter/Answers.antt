use native.Mathlib.Omega.{arith}
use Rattle.layers.proofs.Walking.{own-none, own-next, drop-none, drop-next, drop-fits}
use Rattle.layers.proofs.walk.enter.Goals as goal

pub loop-i-init : goal.loop-i-init
loop-i-init c = (own-none _ _ _, drop-none _ _ _ _)

pub overflow_mul-drop : goal.overflow_mul-drop
overflow_mul-drop c =
    let inv = c.loop-i.invariant in
    let sum = drop-fits c.args.arcs.now _ _ c.args.losses.now (omega arith) c.loop-i-test.true (rw (← c.number-from.ensures, ← c.number-to.ensures) at c.requires.1.4) inv.0 (rw c.new-rank.ensures at c.inflow-w.ensures) inv.1 in
    omega (arith, sum)

pub overflow_add-drop : goal.overflow_add-drop
overflow_add-drop c =
    let inv = c.loop-i.invariant in
    let sum = drop-fits c.args.arcs.now _ _ c.args.losses.now (omega arith) c.loop-i-test.true (rw (← c.number-from.ensures, ← c.number-to.ensures) at c.requires.1.4) inv.0 (rw c.new-rank.ensures at c.inflow-w.ensures) inv.1 in
    omega (arith, sum)

pub loop-i-preserved : goal.loop-i-preserved
loop-i-preserved c =
    let inv = c.loop-i.invariant in
    let flow = rw c.new-rank.ensures at c.inflow-w.ensures in
    (own-next _ _ _ (omega arith) inv.0 flow c.new-rank.ensures c.put_both.ensures, drop-next _ _ _ _ (omega arith) inv.0 flow inv.1)
