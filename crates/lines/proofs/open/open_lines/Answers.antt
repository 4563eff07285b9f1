use Prim.Native.Nat.{◌≤◌, ◌<◌}
use native.Mathlib.Omega.{arith}
use mathlib.Core.Path.{◌≡◌, refl}
use lib.ListN.{length}
use Rattle.lines.specs.Open.{open_from, open_lines}
use Rattle.lines.proofs.Listed.{listed-none, count-few, count_open, listed_open, lines-marked}
use Rattle.lines.proofs.open.open_lines.Goals as goal
use Rattle.lines.proofs.open.open_lines.Goals.{then-plan-i-eq-OPEN, else-plan-i-eq-OPEN}

pub loop-i-init : goal.loop-i-init
unfolding open_lines open_from
loop-i-init c = (refl, listed-none c.args.plan.marks)

pub bounds-numbers-count : goal.bounds-numbers-count
bounds-numbers-count c =
    let few : c.loop-i.count ≤ c.loop-i.i = count-few c.args.plan.marks _ (omega arith) c.loop-i.invariant.0 in
    omega (arith, few)

pub overflow_add-count : goal.overflow_add-count
overflow_add-count c =
    let few : c.loop-i.count ≤ c.loop-i.i = count-few c.args.plan.marks _ (omega arith) c.loop-i.invariant.0 in
    omega (arith, few)

pub loop-i-preserved : goal.loop-i-preserved
loop-i-preserved c =
    let at = c.loop-i in
    let less : at.i < length c.args.plan.marks = omega arith in
    elim c.if-plan-i-eq-OPEN.branch [
      | then-plan-i-eq-OPEN w ↦
          rw (w.numbers-is, w.count-is) (count_open _ _ less at.invariant.0 w.if-plan-i-eq-OPEN.true, listed_open _ _ less at.invariant.0 at.invariant.1 w.if-plan-i-eq-OPEN.true refl (omega arith))
      | else-plan-i-eq-OPEN w ↦
          rw (w.numbers-is, w.count-is) (rw (lines-marked _ _ less w.if-plan-i-eq-OPEN.false) at.invariant.0, rw (lines-marked _ _ less w.if-plan-i-eq-OPEN.false) at.invariant.1)
    ]

pub returns : goal.returns
returns c =
    let inv = c.loop-i.invariant in
    let end : c.loop-i.i ≡ c.args.plan.count = omega arith in
    record { numbers = rw end at inv.1; count = rw end at inv.0 }
