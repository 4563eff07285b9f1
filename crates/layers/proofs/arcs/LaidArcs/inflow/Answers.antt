use Prim.Native.Nat.{◌+◌, ◌-◌, ◌≤◌}
use native.Mathlib.Nat.{le_refl}
use native.Mathlib.Omega.{arith}
use Rattle.layers.proofs.Walking.{flow_first, flow_next, flow_fits, flow_all, node_ready, node_flow}
use Rattle.layers.proofs.arcs.LaidArcs.inflow.Goals as goal

pub pair-w-requires : goal.pair-w-requires
pair-w-requires c =
    let ready = node_ready c.args.self.now c.args.cells.now c.number-i.ensures c.from-from.ensures c.from-to.ensures c.requires.sized c.requires.fits in
    let fits = flow_fits _ _ _ _ {j = c.from-from.result} (le_refl _) (omega (arith, ready.0.1)) ready.3 in
    (omega (arith, ready.0.1, ready.1), ready.2, omega (arith, fits))

pub loop-j-init : goal.loop-j-init
loop-j-init c =
    let ready = node_ready c.args.self.now c.args.cells.now c.number-i.ensures c.from-from.ensures c.from-to.ensures c.requires.sized c.requires.fits in
    (omega arith, (ready.0.0, omega (arith, ready.0.1)), flow_first _ _ _ _ c.pair-w.ensures)

pub pair-w-requires-in-loop-j : goal.pair-w-requires-in-loop-j
pair-w-requires-in-loop-j c =
    let ready = node_ready c.args.self.now c.args.cells.now c.number-i.ensures c.from-from.ensures c.from-to.ensures c.requires.sized c.requires.fits in
    let left : c.loop-j.j + 2 ≤ c.from-to.result = omega (arith, c.loop-j.invariant.1.1, c.loop-j-test.true) in
    let fits = flow_fits _ _ _ _ c.loop-j.invariant.0 left ready.3 in
    (omega (arith, left, ready.1), ready.2, omega (arith, fits))

pub overflow_add-w : goal.overflow_add-w
overflow_add-w c =
    let ready = node_ready c.args.self.now c.args.cells.now c.number-i.ensures c.from-from.ensures c.from-to.ensures c.requires.sized c.requires.fits in
    let left : c.loop-j.j + 2 ≤ c.from-to.result = omega (arith, c.loop-j.invariant.1.1, c.loop-j-test.true) in
    let fits = flow_fits _ _ _ _ c.loop-j.invariant.0 left ready.3 in
    omega (arith, fits, c.loop-j.invariant.2, c.pair-w-in-loop-j.ensures)

pub loop-j-preserved : goal.loop-j-preserved
loop-j-preserved c =
    let inv = c.loop-j.invariant in
    (omega arith, (inv.1.0 - 1, omega (arith, inv.1.1, c.loop-j-test.true)), flow_next _ _ _ _ inv.0 inv.2 c.pair-w-in-loop-j.ensures)

pub returns : goal.returns
returns c =
    let inv = c.loop-j.invariant in
    node_flow c.args.self.now c.args.cells.now c.number-i.ensures c.from-from.ensures c.from-to.ensures (flow_all _ _ _ _ (omega (arith, inv.1.1)) (omega arith) inv.2)

pub returns-2 : goal.returns-2
returns-2 c =
    let inv = c.loop-j.invariant in
    let left : c.loop-j.j + 2 ≤ c.from-to.result = omega (arith, inv.1.1, c.loop-j-test.true) in
    node_flow c.args.self.now c.args.cells.now c.number-i.ensures c.from-from.ensures c.from-to.ensures (flow_all _ _ _ _ left (omega arith) (flow_next _ _ _ _ inv.0 inv.2 c.pair-w-in-loop-j.ensures))
