-- `lay_arcs` meets its contract: the arcs are listed in order, and each arc of the list has its weight and its cell. Assumes nothing.
use native.Mathlib.Nat.{le_refl}
use mathlib.Core.Path.{ap, ◌∙◌}
use Rattle.layout.specs.Weighed.{brought_by}
use Rattle.layout.proofs.Laying.{starts-few, list-few}
use Rattle.layout.proofs.Weighing.{picked_same}
use Rattle.layout.proofs.lay.lay_arcs.Goals as goal

pub order_arcs-listed-requires : goal.order_arcs-listed-requires
order_arcs-listed-requires c =
    let pre = c.requires in
    record { sizes = (pre.nodes.0, pre.nodes.1, λ i h. (pre.nodes.2 i h).1); room = pre.room }

pub in_force-requires : goal.in_force-requires
in_force-requires c =
    let pre = c.requires in
    (pre.nodes.0, pre.positions)

pub weigh_roots-requires : goal.weigh_roots-requires
weigh_roots-requires c =
    let pre = c.requires in
    pre.nodes.1

pub number_cells-cells-requires : goal.number_cells-cells-requires
number_cells-cells-requires c =
    let pre = c.requires in
    (pre.nodes.0, pre.nodes.2)

pub pick_arcs-requires : goal.pick_arcs-requires
pick_arcs-requires c =
    let pre = c.requires in
    let t = c.args.table.now in
    let joins = c.order_arcs-listed.ensures in
    (pre.nodes.0, starts-few pre.room joins t.records (le_refl _), list-few t.high t.low t.nodes c.args.order.now pre.nodes.0 pre.nodes.1 pre.room joins)

pub returns : goal.returns
returns c =
    let roots = c.args.valued.now.roots in
    let forced = c.in_force.ensures in
    let brought = c.weigh_roots.ensures in
    record {
      listed = _;
      joins = c.order_arcs-listed.ensures;
      picked = picked_same c.number_cells-cells.ensures (brought ∙ ap (brought_by roots) forced) c.pick_arcs.ensures;
    }
