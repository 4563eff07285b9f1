-- `hand_on` meets its contract: its two additions are the definition's, and both fit because what the children come to fits. Assumes nothing.
use Prim.Native.Nat.{◌+◌, ◌*◌, ◌≤◌, ◌^◌}
use native.Mathlib.Omega.{arith}
use mathlib.Core.Path.{sym}
use lib.ListN.{get_or}
use Rattle.weighing.proofs.ByArc.{low_part}
use Rattle.valuing.specs.Passes.{Arcs, arcs_of}
use Rattle.derivatives.proofs.Transposing.{first_fits, second_fits, both-added}
use Rattle.derivatives.proofs.down.hand_on.Goals as goal

pub overflow_mul-w : goal.overflow_mul-w
overflow_mul-w c =
    let arcs : Arcs = arcs_of c.args.high.now c.args.low.now c.args.weights.now in
    let first-sum : let a = c.args in let m = c.number-m.result in get_or a.paths.now c.child_of.result.0 0 + get_or a.paths.now m 0 * get_or a.weights.now m 0 ≤ 2 ^ 56 = first_fits arcs c.args.node.0 c.args.paths.now c.requires (omega arith) _ _ c.number-m.ensures c.child_of.ensures in
    omega (arith, first-sum)

pub add-requires : goal.add-requires
add-requires c =
    let arcs : Arcs = arcs_of c.args.high.now c.args.low.now c.args.weights.now in
    let first-sum : let a = c.args in let m = c.number-m.result in get_or a.paths.now c.child_of.result.0 0 + get_or a.paths.now m 0 * get_or a.weights.now m 0 ≤ 2 ^ 56 = first_fits arcs c.args.node.0 c.args.paths.now c.requires (omega arith) _ _ c.number-m.ensures c.child_of.ensures in
    omega (arith, first-sum)

pub overflow_mul-w-2 : goal.overflow_mul-w-2
overflow_mul-w-2 c =
    let arcs : Arcs = arcs_of c.args.high.now c.args.low.now c.args.weights.now in
    let second-sum : let a = c.args in let m = c.number-m.result in get_or c.add.new.paths c.child_of-2.result.0 0 + get_or a.paths.now m 0 * get_or a.weights.now (m + 256) 0 ≤ 2 ^ 56 = second_fits arcs c.args.node.0 c.args.paths.now c.requires (omega arith) c.add.new.paths _ _ _ _ c.number-m.ensures c.child_of.ensures c.child_of-2.ensures (sym (low_part c.args.weights.now c.number-m.result)) c.add.ensures in
    omega (arith, second-sum)

pub add-requires-2 : goal.add-requires-2
add-requires-2 c =
    let arcs : Arcs = arcs_of c.args.high.now c.args.low.now c.args.weights.now in
    let second-sum : let a = c.args in let m = c.number-m.result in get_or c.add.new.paths c.child_of-2.result.0 0 + get_or a.paths.now m 0 * get_or a.weights.now (m + 256) 0 ≤ 2 ^ 56 = second_fits arcs c.args.node.0 c.args.paths.now c.requires (omega arith) c.add.new.paths _ _ _ _ c.number-m.ensures c.child_of.ensures c.child_of-2.ensures (sym (low_part c.args.weights.now c.number-m.result)) c.add.ensures in
    omega (arith, second-sum)

pub returns : goal.returns
returns c =
    let arcs : Arcs = arcs_of c.args.high.now c.args.low.now c.args.weights.now in
    both-added arcs c.args.node.0 c.args.paths.now c.add.new.paths _ _ _ _ _ c.number-m.ensures c.child_of.ensures c.child_of-2.ensures (sym (low_part c.args.weights.now c.number-m.result)) c.add.ensures c.add-2.ensures
