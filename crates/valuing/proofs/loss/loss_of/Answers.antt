-- `loss_of` meets its contract: what comes by the lo arc is not above the node's value. Assumes nothing.
use Rattle.valuing.proofs.Gaining.{Lost, lost}
use Rattle.valuing.proofs.loss.loss_of.Goals as goal

pub returns : goal.returns
returns c =
    let read : Lost c.args.low.now c.args.arcs.now c.args.values.now c.args.node.0 c.number-m.result c.value_of.result = lost _ _ _ c.number-m.ensures c.child_of-child.ensures c.value_of.ensures c.requires in
    read.exact
