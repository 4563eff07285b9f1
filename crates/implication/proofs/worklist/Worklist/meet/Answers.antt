-- `meet` meets its contract: there is room on the stack, and a pair is put there and marked where its cell is 0: its bit is 0, and `or` with its power
-- sets it. Assumes nothing.
use native.Mathlib.Omega.{arith}
use borrow.Author.Rules.{rules}
use Rattle.implication.proofs.Cells.{tested_one, tested_zero, marked, marked-same}
use Rattle.implication.proofs.Stacking.{pushed_none, pushed-one}
use Rattle.implication.proofs.worklist.Worklist.meet.Goals as goal

pub returns-then-has_met : goal.returns-then-has_met
returns-then-has_met c =
    let one = tested_one _ _ _ c.has_met.ensures c.if-has_met.true in
    record { depth = omega (arith, one); met = marked-same _ _ _ one; stack = pushed_none one _ _ _ _ }

pub returns : goal.returns
returns c =
    let none = tested_zero _ _ _ c.has_met.ensures c.if-has_met.false in
    record { depth = omega (arith, none); met = marked _ _ _ c.requires.size (search rules) (search rules) none c.number-2.ensures c.number-3.ensures c.number.ensures; stack = pushed-one none _ _ _ _ }
