use Prim.Native.Nat.{◌+◌, ◌-◌}
use native.Mathlib.Omega.{arith}
use mathlib.Core.Path.{◌≡◌, ap, ◌∙◌}
use mathlib.Core.Bool.{not}
use Rattle.diagram.specs.Table.{variable_count}
use Rattle.diagram.specs.Checks.{variable_fault}
use Rattle.diagram.proofs.Places.{place-start, place_here, place-next, place_end}
use Rattle.steps.specs.Steps.{fault_of}
use Rattle.checking.proofs.variables.variable_fault.Invariants.{wrong}
use Rattle.checking.proofs.variables.variable_fault.Goals as goal

pub loop-p-init : goal.loop-p-init
unfolding variable_fault
loop-p-init c = place-start (wrong _) 1 _

pub returns-then-not-is_variable_word : goal.returns-then-not-is_variable_word
unfolding fault_of
returns-then-not-is_variable_word c =
    let tested : wrong c.args.file.now (1 + c.loop-p.p) ≡ not c.is_variable_word.result = let back : 1 + c.loop-p.p - 1 ≡ c.loop-p.p = omega arith in
    rw (back, c.is_variable_word.ensures, c.word_at.ensures, c.word.ensures, c.new-at.ensures) in
    let s = c.args.file.now in
    let p = c.loop-p.p in
    rw (c.word-then-not-is_variable_word.ensures, c.new-at.ensures, c.loop-p.invariant, place_here (wrong s) 1 (variable_count s) p (omega arith) (tested ∙ ap not c.if-not-is_variable_word.true))

pub loop-p-preserved : goal.loop-p-preserved
loop-p-preserved c =
    let tested : wrong c.args.file.now (1 + c.loop-p.p) ≡ not c.is_variable_word.result = let back : 1 + c.loop-p.p - 1 ≡ c.loop-p.p = omega arith in
    rw (back, c.is_variable_word.ensures, c.word_at.ensures, c.word.ensures, c.new-at.ensures) in
    let s = c.args.file.now in
    let p = c.loop-p.p in
    c.loop-p.invariant ∙ place-next (wrong s) 1 (variable_count s) p (omega arith) (tested ∙ ap not c.if-not-is_variable_word.false)

pub returns : goal.returns
unfolding fault_of
returns c =
    let s = c.args.file.now in
    let p = c.loop-p.p in
    rw (c.loop-p.invariant, place_end (wrong s) (1 + p) (variable_count s) p (omega arith))
