-- `node_value` meets its contract: what is computed is the definition's sum, and both products are at most that. Assumes nothing.
use Prim.Native.Nat.{◌+◌, ◌*◌}
use native.Mathlib.Omega.{arith}
use mathlib.Core.Path.{◌≡◌, ◌∙◌}
use lib.ListN.{get_or}
use Rattle.valuing.specs.Passes.{arcs_of, node_value}
use Rattle.valuing.proofs.Passing.{value-is}
use Rattle.valuing.proofs.pass.node_value.Goals as goal

pub overflow_mul-result : goal.overflow_mul-result
overflow_mul-result c =
    let sum_of : let a = c.args in get_or a.weights.now c.number-n.result 0 * get_or a.values.now c.number-h.result 0 + get_or a.weights.now (c.number-n.result + 256) 0 * get_or a.values.now c.number-l.result 0 ≡ node_value (arcs_of a.high.now a.low.now a.weights.now) a.node.0 a.values.now = value-is _ _ _ _ c.number-n.ensures (c.number-h.ensures ∙ c.child_of.ensures) (c.number-l.ensures ∙ c.child_of-2.ensures) in
    omega (arith, sum_of, c.requires)

pub overflow_mul-result-2 : goal.overflow_mul-result-2
overflow_mul-result-2 c =
    let sum_of : let a = c.args in get_or a.weights.now c.number-n.result 0 * get_or a.values.now c.number-h.result 0 + get_or a.weights.now (c.number-n.result + 256) 0 * get_or a.values.now c.number-l.result 0 ≡ node_value (arcs_of a.high.now a.low.now a.weights.now) a.node.0 a.values.now = value-is _ _ _ _ c.number-n.ensures (c.number-h.ensures ∙ c.child_of.ensures) (c.number-l.ensures ∙ c.child_of-2.ensures) in
    omega (arith, sum_of, c.requires)

pub overflow_add-result-2 : goal.overflow_add-result-2
overflow_add-result-2 c =
    let sum_of : let a = c.args in get_or a.weights.now c.number-n.result 0 * get_or a.values.now c.number-h.result 0 + get_or a.weights.now (c.number-n.result + 256) 0 * get_or a.values.now c.number-l.result 0 ≡ node_value (arcs_of a.high.now a.low.now a.weights.now) a.node.0 a.values.now = value-is _ _ _ _ c.number-n.ensures (c.number-h.ensures ∙ c.child_of.ensures) (c.number-l.ensures ∙ c.child_of-2.ensures) in
    omega (arith, sum_of, c.requires)

pub returns : goal.returns
returns c =
    let sum_of : let a = c.args in get_or a.weights.now c.number-n.result 0 * get_or a.values.now c.number-h.result 0 + get_or a.weights.now (c.number-n.result + 256) 0 * get_or a.values.now c.number-l.result 0 ≡ node_value (arcs_of a.high.now a.low.now a.weights.now) a.node.0 a.values.now = value-is _ _ _ _ c.number-n.ensures (c.number-h.ensures ∙ c.child_of.ensures) (c.number-l.ensures ∙ c.child_of-2.ensures) in
    sum_of
