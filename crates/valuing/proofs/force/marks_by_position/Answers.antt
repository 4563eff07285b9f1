use Prim.Native.Nat.{◌<◌}
use native.Mathlib.Omega.{arith}
use mathlib.Core.Path.{◌≡◌, ◌∙◌}
use Rattle.diagram.specs.Table.{is_choice}
use Rattle.valuing.proofs.Forcing.{next, marking_start, choice-within, marking_choice, marking_chance, marking_end}
use Rattle.valuing.proofs.force.marks_by_position.Goals as goal
use Rattle.valuing.proofs.force.marks_by_position.Goals.{then-is_choice_at, else-is_choice_at}

pub loop-p-init : goal.loop-p-init
loop-p-init c = marking_start _ _ _

pub bounds-plan-choice : goal.bounds-plan-choice
bounds-plan-choice c =
    let tested : is_choice (next c.args.words.now c.loop-p.p) ≡ c.is_choice_at.result = rw (c.is_choice_at.ensures, c.new.ensures) in
    choice-within _ _ _ c.loop-p.invariant (omega arith) (tested ∙ c.if-is_choice_at.true) c.requires.1

pub overflow_add-choice : goal.overflow_add-choice
overflow_add-choice c =
    let tested : is_choice (next c.args.words.now c.loop-p.p) ≡ c.is_choice_at.result = rw (c.is_choice_at.ensures, c.new.ensures) in
    omega (arith, choice-within _ _ _ c.loop-p.invariant (omega arith) (tested ∙ c.if-is_choice_at.true) c.requires.1)

pub loop-p-preserved : goal.loop-p-preserved
loop-p-preserved c =
    let tested : is_choice (next c.args.words.now c.loop-p.p) ≡ c.is_choice_at.result = rw (c.is_choice_at.ensures, c.new.ensures) in
    let a = c.args in
    let h : c.loop-p.p < a.v = omega arith in
    let few : a.v < 64 = c.requires.0 in
    elim c.if-is_choice_at.branch [
      | then-is_choice_at w ↦ rw (w.marks-is, w.choice-is, w.from.ensures) (marking_choice a.words.now a.v a.plan.now c.loop-p.invariant h few (tested ∙ w.if-is_choice_at.true))
      | else-is_choice_at w ↦ rw (w.marks-is, w.choice-is) (marking_chance a.words.now a.v a.plan.now c.loop-p.invariant h few (tested ∙ w.if-is_choice_at.false))
    ]

pub returns : goal.returns
returns c = marking_end _ _ _ c.loop-p.invariant (omega arith)
