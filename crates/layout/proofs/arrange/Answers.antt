-- `arrange` meets its contract: the arrays hold the table and the plan, and what is laid out is the table, in order. Assumes nothing.
use Prim.Native.Nat.{ℕ, ◌≤◌, ◌<◌}
use native.Mathlib.Omega.{arith}
use mathlib.Core.Path.{◌≡◌, refl, ap, sym, ◌∙◌}
use mathlib.Core.List.{List}
use lib.ListN.{length}
use Rattle.diagram.specs.Table.{Root}
use Rattle.decoding.specs.declared.table.Decoded.{Decoded}
use Rattle.decoding.specs.Decoding.{table_in, Sound}
use Rattle.decoding.proofs.Standing.{variables_in_lem, roots_in_lem, root_in}
use Rattle.weighing.proofs.HeldRoots.{RootsHeld, records-few}
use Rattle.valuing.specs.Passes.{Marked}
use Rattle.valuing.specs.Valued.{Legal, Valued}
use Rattle.valuing.specs.declared.bound.PlanValue.{PlanValue}
use Rattle.valuing.proofs.Passing.{position-within}
use Rattle.valuing.proofs.Gaining.{losses_fit}
use Rattle.valuing.proofs.Valuing.{value-held}
use Rattle.ordering.specs.Chains.{joined, in_buffer, nodes_at}
use Rattle.layout.proofs.Arranging.{nodes-within, room_for_arcs, layered}
use Rattle.layout.proofs.Ordered.{order_is, ending}
use Rattle.layout.proofs.arrange.Goals as goal

-- what the steps of `arrange` go by: a table has a record, at most 254; its plan's value holds it; and its nodes are in order
record NodesOrdered (d : Decoded) (p os : List ℕ) (r : PlanValue) : Type 0 where
  pub some : 1 ≤ d.records
  pub few : d.records ≤ 254
  pub variables : d.variables ≡ length (table_in d).variables
  pub marked : Marked (table_in d) p d.records d.positions d.high d.low r.arcs r.marks
  pub roots : RootsHeld (table_in d) r.roots
  pub order : os ≡ in_buffer (joined (nodes_at d.positions d.records) (length (table_in d).variables))

nodes-ordered : {d : Decoded} {p os : List ℕ} {r : PlanValue} → Sound d → Legal d p → Valued d p r → os ≡ in_buffer (joined (nodes_at d.positions d.records) d.variables) → NodesOrdered d p os r
nodes-ordered {d} sound legal valued list =
    let few = records-few sound in
    let at = value-held sound legal valued in
    let variables : d.variables ≡ length (table_in d).variables = sym (variables_in_lem d) in
    record { some = few.0; few = omega (arith, few.1); variables = variables; marked = at.marked; roots = at.roots; order = order_is at.marked variables list }

pub order_records-nodes-requires : goal.order_records-nodes-requires
order_records-nodes-requires c =
    let at = value-held c.requires.sound c.requires.plan c.value_plan.ensures in
    (at.marked.size.1, omega (arith, variables_in_lem c.args.table.now, at.marked.few))

pub lay_arcs-requires : goal.lay_arcs-requires
lay_arcs-requires c =
    let at = nodes-ordered c.requires.sound c.requires.plan c.value_plan.ensures c.order_records-nodes.ensures.list in
    let monotone = c.requires.sound.valid.monotone in
    record {
      nodes = (at.few, at.roots.few, nodes-within at.marked monotone at.some at.roots at.order);
      positions = position-within at.marked;
      room = room_for_arcs at.marked monotone at.some at.roots at.order c.args.table.now.nodes;
    }

pub losses-lost-requires : goal.losses-lost-requires
losses-lost-requires c =
    let valued = c.value_plan.ensures in
    let at = value-held c.requires.sound c.requires.plan valued in
    (at.marked.size.1, losses_fit at.marked valued.values c.requires.sound.valid.monotone)

pub losses_by_rank-requires : goal.losses_by_rank-requires
losses_by_rank-requires c =
    let at = nodes-ordered c.requires.sound c.requires.plan c.value_plan.ensures c.order_records-nodes.ensures.list in
    (at.few, nodes-within at.marked c.requires.sound.valid.monotone at.some at.roots at.order)

pub returns : goal.returns
returns c =
    let d = c.args.table.now in
    let valid = c.requires.sound.valid in
    let valued = c.value_plan.ensures in
    let nodes = c.order_records-nodes.ensures in
    let at = nodes-ordered c.requires.sound c.requires.plan valued nodes.list in
    let root-node = λ (k : ℕ) (h : k < c.value_plan.new.valued.roots.count).
    sym (ap (λ (r : Root). r.node) (root_in d k (omega (arith, roots_in_lem d, at.roots.all)))) in
    let laid = c.lay_arcs.ensures in
    let lost = c.losses-lost.ensures in
    let by_rank = c.losses_by_rank.ensures in
    record {
      laid = record {
        order = _;
        arranged = record {
          bounded = valued.bound;
          layered = layered at.marked valid.monotone at.some at.roots at.order valued.values d.nodes root-node laid lost by_rank;
          ending = ending at.marked at.variables nodes.list valid.variables.0 nodes.starts;
        };
      };
      cells = record {
        bound = valued.bound;
        ends = nodes.starts;
        laid = rw (valued.roots, valued.arcs, valued.marks, at.order) at laid;
        losses = by_rank ∙ rw (lost, valued.arcs, valued.values, at.order) refl;
      };
    }
