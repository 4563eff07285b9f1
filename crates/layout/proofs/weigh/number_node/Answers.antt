-- `number_node` meets its contract: the cells are written at the numbers of the node's two arcs. Assumes nothing.
use Rattle.layout.proofs.Numbering.{both_numbered}
use Rattle.layout.proofs.weigh.number_node.Goals as goal

pub returns : goal.returns
returns c =
    let a = c.args in
    both_numbered a.cells.now c.number-m.ensures c.number-i.ensures
