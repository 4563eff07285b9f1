use Prim.Native.Nat.{◌+◌}
use native.Mathlib.Omega.{arith}
use mathlib.Core.Path.{◌≡◌, ◌∙◌}
use lib.ListN.{length-set}
use Rattle.valuing.specs.Passes.{Arcs, arcs_of, pass_up, node_value}
use Rattle.valuing.proofs.Passing.{pass_start, pass_next, pass_end, node-value-over}
use Rattle.valuing.proofs.pass.pass_up.Goals as goal

pub loop-k-init : goal.loop-k-init
loop-k-init c =
    let arcs : Arcs = arcs_of c.args.high.now c.args.low.now c.args.weights.now in
    pass_start arcs c.args.values.now (omega arith)

pub node_value-requires : goal.node_value-requires
node_value-requires c =
    let arcs : Arcs = arcs_of c.args.high.now c.args.low.now c.args.weights.now in
    let next-value : node_value arcs c.of_record.result.0 c.loop-k.values ≡ node_value arcs (c.loop-k.k + 2) (pass_up arcs c.loop-k.k) = rw (c.of_record.ensures, c.loop-k.invariant)
    (node-value-over c.requires.1 _ c.loop-k.k c.loop-k-test.true) in
    rw next-value (c.requires.1.fits c.loop-k.k c.loop-k-test.true)

pub loop-k-preserved : goal.loop-k-preserved
loop-k-preserved c =
    let arcs : Arcs = arcs_of c.args.high.now c.args.low.now c.args.weights.now in
    let next-value : node_value arcs c.of_record.result.0 c.loop-k.values ≡ node_value arcs (c.loop-k.k + 2) (pass_up arcs c.loop-k.k) = rw (c.of_record.ensures, c.loop-k.invariant)
    (node-value-over c.requires.1 _ c.loop-k.k c.loop-k-test.true) in
    rw c.loop-k.invariant (pass_next arcs _ c.loop-k.k c.node_value.result (simp length-set (omega arith)) (rw c.node_value.ensures next-value))

pub returns : goal.returns
returns c =
    let arcs : Arcs = arcs_of c.args.high.now c.args.low.now c.args.weights.now in
    let e : c.loop-k.k ≡ c.args.n = omega arith in
    (rw e at c.loop-k.invariant) ∙ pass_end arcs c.args.values.now c.args.n
