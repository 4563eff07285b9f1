-- `explore` meets its contract: the layers of the plan's open lines are what a visit asks for, and what the visit leaves is document 01's search.
-- Assumes nothing.
use native.Mathlib.Omega.{arith}
use mathlib.Core.Path.{refl}
use Rattle.decoding.specs.Decoding.{table_in}
use Rattle.lines.proofs.LaidLines.{lines_used}
use Rattle.search.specs.Searched.{priced}
use Rattle.search.proofs.Starting.{first_scene, nothing-held, made_ready, first_count, first-few, first_visitable, first-room, first_explored}
use Rattle.search.proofs.explore.explore.Goals as goal

pub of_plan-lines-requires : goal.of_plan-lines-requires
of_plan-lines-requires c =
    let sound = c.requires.sound in
    let long = c.requires.plan.0 in
    let ready = made_ready sound long c.of_marks-start.ensures.marks c.of_marks-start.ensures.count in
    record { few = omega (arith, c.of_marks-start.ensures.count); positions = first-few sound long ready }

pub as_slice-requires : goal.as_slice-requires
as_slice-requires c =
    let sound = c.requires.sound in
    let long = c.requires.plan.0 in
    let ready = made_ready sound long c.of_marks-start.ensures.marks c.of_marks-start.ensures.count in
    rw c.of_plan-lines.ensures.count (first_count sound long ready)

pub visit-requires : goal.visit-requires
visit-requires c =
    let sound = c.requires.sound in
    let long = c.requires.plan.0 in
    let ready = made_ready sound long c.of_marks-start.ensures.marks c.of_marks-start.ensures.count in
    let limits = c.args.limits in
    let held = nothing-held (priced _ (table_in c.args.table.now)) limits.budget limits.least c.none_held.ensures in
    let passing = c.requires.least.1 in
    let laid = lines_used _ c.of_plan-lines.ensures.lines c.of_plan-lines.ensures.count c.as_slice.ensures in
    let visitable = first_visitable sound long ready limits.kits c.requires.layout.arranged laid refl refl (rw (c.saturating_sub-room.ensures, c.from.ensures, c.cost_of.ensures) refl) passing.1 held.0 in
    ((first_scene _ _ _ _ passing.0 _ _, visitable), first-room sound long ready _ held.1 laid)

pub returns : goal.returns
returns c percent passing =
    let sound = c.requires.sound in
    let long = c.requires.plan.0 in
    let ready = made_ready sound long c.of_marks-start.ensures.marks c.of_marks-start.ensures.count in
    let limits = c.args.limits in
    let held = nothing-held (priced _ (table_in c.args.table.now)) limits.budget limits.least c.none_held.ensures in
    let visitable = first_visitable sound long ready limits.kits c.requires.layout.arranged (lines_used _ c.of_plan-lines.ensures.lines c.of_plan-lines.ensures.count c.as_slice.ensures) refl refl (rw (c.saturating_sub-room.ensures, c.from.ensures, c.cost_of.ensures) refl) passing held.0 in
    first_explored sound.valid _ held.1 (c.visit.ensures _ visitable)
