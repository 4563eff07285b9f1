-- `value_plan` meets its contract: the arrays hold the table and the plan, a pass up over the arcs in force gives the values, and the sum over the roots
-- is the bound. Assumes nothing.
use native.Mathlib.Omega.{arith}
use mathlib.Core.Path.{refl, ◌∙◌}
use Rattle.decoding.proofs.Standing.{variables_in_lem}
use Rattle.weighing.proofs.Arcing.{table-variables}
use Rattle.valuing.proofs.Passing.{position-within, marked-fits}
use Rattle.valuing.proofs.RootSums.{root-bound, root-sum-fits}
use Rattle.valuing.proofs.Valuing.{table-marked, forced, passed}
use Rattle.valuing.proofs.bound.value_plan.Goals as goal

pub marks_by_position-valued-requires : goal.marks_by_position-valued-requires
marks_by_position-valued-requires c =
    let pre = c.requires in
    let d = c.args.table.now in
    (omega (arith, variables_in_lem d, pre.sound.valid.variables), rw (table-variables d) pre.plan.0)

pub in_force-requires : goal.in_force-requires
in_force-requires c =
    let laid = c.lay_out-valued.ensures in
    let at = table-marked c.requires.sound c.requires.plan (laid.arcs ∙ rw c.requires.zeros.0 refl) c.marks_by_position-valued.ensures laid.roots in
    (at.marked.size.1, position-within at.marked)

pub pass_up-requires : goal.pass_up-requires
pass_up-requires c =
    let laid = c.lay_out-valued.ensures in
    let at = table-marked c.requires.sound c.requires.plan (laid.arcs ∙ rw c.requires.zeros.0 refl) c.marks_by_position-valued.ensures laid.roots in
    (at.marked.size.1, marked-fits at.marked (forced at c.take_open-taken.ensures (c.in_force.ensures ∙ rw c.requires.zeros.1 refl)))

pub root_sum-valued-requires : goal.root_sum-valued-requires
root_sum-valued-requires c =
    let laid = c.lay_out-valued.ensures in
    let at = table-marked c.requires.sound c.requires.plan (laid.arcs ∙ rw c.requires.zeros.0 refl) c.marks_by_position-valued.ensures laid.roots in
    root-sum-fits at.marked at.roots _ (passed at (forced at c.take_open-taken.ensures (c.in_force.ensures ∙ rw c.requires.zeros.1 refl)) (c.pass_up.ensures ∙ rw c.requires.zeros.2 refl))

pub returns : goal.returns
returns c =
    let laid = c.lay_out-valued.ensures in
    let at = table-marked c.requires.sound c.requires.plan (laid.arcs ∙ rw c.requires.zeros.0 refl) c.marks_by_position-valued.ensures laid.roots in
    let weights = forced at c.take_open-taken.ensures (c.in_force.ensures ∙ rw c.requires.zeros.1 refl) in
    let values = passed at weights (c.pass_up.ensures ∙ rw c.requires.zeros.2 refl) in
    record {
      arcs = at.arcs;
      in_force = weights;
      values = values;
      bound = c.root_sum-valued.ensures ∙ root-bound at.marked at.roots _ values;
      roots = laid.roots;
      marks = at.marks;
    }
