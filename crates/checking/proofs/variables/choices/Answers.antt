use Prim.Native.Nat.{◌<◌}
use native.Mathlib.Omega.{arith}
use mathlib.Core.Path.{◌≡◌, ◌∙◌}
use Rattle.diagram.specs.Table.{is_choice, choice_count, variable_count}
use Rattle.diagram.specs.Checks.{choice_fault}
use Rattle.steps.specs.Steps.{bounded_by}
use Rattle.checking.proofs.Counting.{next, prefix_start, prefix_next, prefix_above, prefix_end, choice_more, choice-same}
use Rattle.checking.proofs.variables.choices.Goals.{then-is_choice+else-count, else-is_choice}
use Rattle.checking.proofs.variables.choices.Goals as goal

pub loop-p-init : goal.loop-p-init
unfolding choice_count
loop-p-init c = prefix_start choice_count 20 _ (omega arith)

pub returns-then-count : goal.returns-then-count
unfolding choice_fault bounded_by
returns-then-count c =
    let tested : is_choice (next c.args.file.now c.loop-p.p) ≡ c.is_choice.result = rw (c.is_choice.ensures, c.new-at.ensures) in
    let s = c.args.file.now in
    let p = c.loop-p.p in
    let more = choice_more s p (omega arith) (tested ∙ c.if-is_choice.true) in
    rw (c.word.ensures, c.new-at.ensures, prefix_above choice_count 20 s p c.loop-p.invariant (omega arith) (omega arith))

pub loop-p-preserved : goal.loop-p-preserved
loop-p-preserved c =
    let tested : is_choice (next c.args.file.now c.loop-p.p) ≡ c.is_choice.result = rw (c.is_choice.ensures, c.new-at.ensures) in
    let s = c.args.file.now in
    let p = c.loop-p.p in
    let h : p < variable_count s = omega arith in
    elim c.if-is_choice.branch [
      | then-is_choice+else-count w ↦
          let more = choice_more s p h (tested ∙ w.if-is_choice.true) in
          prefix_next choice_count 20 s p c.loop-p.invariant h _ (omega arith) (omega arith)
      | else-is_choice w ↦
          let same = choice-same s p h (tested ∙ w.if-is_choice.false) in
          prefix_next choice_count 20 s p c.loop-p.invariant h _ (omega arith) (omega arith)
    ]

pub returns : goal.returns
unfolding choice_fault
returns c = prefix_end choice_count 20 _ _ c.loop-p.invariant (omega arith)
