-- `two_passes` meets its contract: the losses of the nodes, each times its path weight, come to the drops by position, and those are the choices'.
-- Assumes nothing.
use Prim.Native.Nat.{ℕ, ◌≤◌, ◌<◌}
use native.Mathlib.Nat.{zero-add}
use native.Mathlib.Omega.{arith}
use mathlib.Core.Path.{◌≡◌, refl, ap, ◌∙◌}
use mathlib.Core.List.{List}
use lib.ListN.{length, get_or, replicate, take, length-take}
use Rattle.std.proofs.lemmas.List.{get_or-take}
use Rattle.diagram.specs.Table.{sequence}
use Rattle.diagram.specs.Plans.{derivative}
use Rattle.decoding.specs.Decoding.{table_in}
use Rattle.decoding.proofs.Standing.{sequence-same, choice-position_in}
use Rattle.arrays.specs.Arrays.{over}
use Rattle.valuing.proofs.Gaining.{losses_fit}
use Rattle.valuing.proofs.Valuing.{value-held}
use Rattle.derivatives.specs.Drops.{derivative_at}
use Rattle.derivatives.proofs.Deriving.{root-fits, budget, losing, drops_are, drops-chosen, drops-all}
use Rattle.derivatives.proofs.two_pass.two_passes.Goals as goal

pub enter-requires : goal.enter-requires
enter-requires c =
    let valued = c.value_plan.ensures in
    let at = value-held c.requires.sound c.requires.plan valued in
    (at.roots.few, root-fits at.marked valued.in_force at.roots refl)

pub pass_down-requires : goal.pass_down-requires
pass_down-requires c =
    let valued = c.value_plan.ensures in
    let at = value-held c.requires.sound c.requires.plan valued in
    (at.marked.size.1, (_, budget at.marked valued.in_force at.roots c.enter.ensures))

pub drops_by_position-drops-requires : goal.drops_by_position-drops-requires
drops_by_position-drops-requires c =
    let valued = c.value_plan.ensures in
    let at = value-held c.requires.sound c.requires.plan valued in
    let monotone = c.requires.sound.valid.monotone in
    record { losses = losses_fit at.marked valued.values monotone; sums = losing at.marked monotone valued.in_force valued.values at.roots c.enter.ensures c.pass_down.ensures refl }

pub by_choice-requires : goal.by_choice-requires
by_choice-requires c =
    let sound = c.requires.sound in
    let d = c.args.table.now in
    let few : d.choices ≤ 20 = omega (arith, sound.held.choices, sound.valid.choices) in
    let long : length (take d.choices d.choice_positions) ≡ d.choices = simp length-take (omega arith) in
    (omega (arith, long), λ i h. let l : i < d.choices = omega (arith, long) in rw (get_or-take d.choices d.choice_positions i 0 l) (omega (arith, (choice-position_in sound.held i l).within, sound.valid.variables)))

pub returns : goal.returns
returns c =
    let valued = c.value_plan.ensures in
    let at = value-held c.requires.sound c.requires.plan valued in
    let sound = c.requires.sound in
    let d = c.args.table.now in
    let t = table_in d in
    let p = c.args.plan.now in
    let drops : c.drops_by_position-drops.result ≡ sequence (derivative_at t p) 0 64 = c.drops_by_position-drops.ensures ∙ drops_are at.marked sound.valid.monotone valued.in_force valued.values at.roots c.enter.ensures c.pass_down.ensures refl in
    let few : length t.variables < 64 = omega (arith, sound.valid.variables) in
    let chosen = drops-chosen t p few drops in
    let cells = c.drops_by_position-drops.result in
    let front = take d.choices d.choice_positions in
    let few_choices : d.choices ≤ 20 = omega (arith, sound.held.choices, sound.valid.choices) in
    let long : length front ≡ d.choices = simp length-take (omega arith) in
    let picked : (k : ℕ) → k < d.choices → get_or cells (get_or front k 0) 0 ≡ derivative t p k = λ k h. rw (get_or-take d.choices d.choice_positions k 0 h) (let at = choice-position_in sound.held k h in chosen _ at.within at.is ∙ ap (derivative t p) at.number) in
    let same = sequence-same (λ (i : ℕ). get_or cells (get_or front i 0) 0) (derivative t p) 0 0 d.choices (λ k h. rw zero-add (picked k h)) in
    record { bound = valued.bound; drops = rw long at c.by_choice.ensures ∙ ap (λ (ds : List ℕ). over ds (replicate 20 0)) (same ∙ ap (sequence (derivative t p) 0) sound.held.choices ∙ drops-all t p c.requires.plan.0) }
