use native.Mathlib.Omega.{arith}
use Rattle.layout.proofs.Numbering.{cells-none, cells-next}
use Rattle.layout.proofs.weigh.number_cells.Goals as goal

pub loop-i-init : goal.loop-i-init
loop-i-init c = cells-none _

pub number_node-requires : goal.number_node-requires
number_node-requires c =
    let few = c.requires.0 in
    omega (arith, c.new-rank.ensures)

pub loop-i-preserved : goal.loop-i-preserved
loop-i-preserved c =
    let rank = c.new-rank.ensures in
    cells-next _ c.loop-i.i c.loop-i.invariant (rw rank at c.node_at-node.ensures) (rw rank at c.number_node.ensures)
