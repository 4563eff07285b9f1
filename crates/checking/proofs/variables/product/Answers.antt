use Prim.Native.Nat.{◌*◌, ◌^◌, ◌<◌}
use native.Mathlib.Omega.{arith}
use mathlib.Core.Path.{◌≡◌, sym, ◌∙◌}
use borrow.Author.Tests.{ltb-true, ltb-false}
use Rattle.diagram.specs.Table.{is_choice, scale_of, variable_count}
use Rattle.diagram.specs.Checks.{scale_fault}
use Rattle.steps.specs.Steps.{bounded_by}
use Rattle.checking.proofs.Counting.{next, prefix_start, prefix_next, prefix_above, prefix_end, scale_more, scale_same}
use Rattle.checking.proofs.variables.product.Goals.{then-not-is_choice+else-exceeds, else-not-is_choice}
use Rattle.checking.proofs.variables.product.Goals as goal

pub loop-p-init : goal.loop-p-init
unfolding scale_of
loop-p-init c = prefix_start scale_of (2 ^ 56) _ (omega arith)

pub returns-then-exceeds : goal.returns-then-exceeds
unfolding scale_fault bounded_by
returns-then-exceeds c =
    let tested : is_choice (next c.args.file.now c.loop-p.p) ≡ c.is_choice.result = rw (c.is_choice.ensures, c.new-at.ensures) in
    let s = c.args.file.now in
    let p = c.loop-p.p in
    let x = c.loop-p.product in
    let chance = tested ∙ c.if-not-is_choice.true in
    let more = scale_more s p (omega arith) x c.loop-p.invariant.value chance (omega arith) c.word_at.ensures (c.from-b.ensures ∙ c.field_r.ensures) in
    let over = ltb-true (2 ^ 56) (x * c.from-b.result) (sym c.exceeds.ensures ∙ c.if-exceeds.true) in
    rw (c.word-then-exceeds.ensures, c.new-at.ensures, prefix_above scale_of (2 ^ 56) s p c.loop-p.invariant (omega arith) (omega arith))

pub overflow_mul-product : goal.overflow_mul-product
overflow_mul-product c =
    omega (arith, ltb-false (2 ^ 56) (c.loop-p.product * c.from-b.result) (sym c.exceeds.ensures ∙ c.if-exceeds.false))

pub loop-p-preserved : goal.loop-p-preserved
loop-p-preserved c =
    let tested : is_choice (next c.args.file.now c.loop-p.p) ≡ c.is_choice.result = rw (c.is_choice.ensures, c.new-at.ensures) in
    let s = c.args.file.now in
    let p = c.loop-p.p in
    let x = c.loop-p.product in
    let h : p < variable_count s = omega arith in
    elim c.if-not-is_choice.branch [
      | then-not-is_choice+else-exceeds w ↦
          let chance = tested ∙ w.if-not-is_choice.true in
          let more = scale_more s p h x c.loop-p.invariant.value chance (omega arith) w.word_at.ensures (w.from-b.ensures ∙ w.field_r.ensures) in
          let within = ltb-false (2 ^ 56) (x * w.from-b.result) (sym w.exceeds.ensures ∙ w.if-exceeds.false) in
          prefix_next scale_of (2 ^ 56) s p c.loop-p.invariant h _ (omega arith) (omega arith)
      | else-not-is_choice w ↦
          let same = scale_same s p h (tested ∙ w.if-not-is_choice.false) in
          prefix_next scale_of (2 ^ 56) s p c.loop-p.invariant h _ (omega arith) (omega arith)
    ]

pub returns : goal.returns
unfolding scale_fault
returns c = prefix_end scale_of (2 ^ 56) _ _ c.loop-p.invariant (omega arith)
