use Prim.Native.Nat.{◌-◌, ◌≤◌}
use native.Mathlib.Omega.{arith}
use mathlib.Core.Path.{refl}
use Rattle.writing.proofs.Digits.{tail_some, tail_next, tail_written}
use Rattle.writing.proofs.decimal.put_decimal.Goals as goal

pub overflow_sub-first : goal.overflow_sub-first
overflow_sub-first c = tail_some c.loop-out.invariant.3 c.ranges.n.fits

pub returns-then-tenth-eq0 : goal.returns-then-tenth-eq0
returns-then-tenth-eq0 c =
    let some : 1 ≤ c.loop-out.first = tail_some c.loop-out.invariant.3 c.ranges.n.fits in
    rw (← c.loop-out.invariant.0)
    (tail_written c.loop-out.invariant.3 (c.loop-out.first - 1) _ (omega (arith, some)) (omega arith) c.put_word.ensures refl refl (omega arith) (omega arith))

pub loop-out-preserved : goal.loop-out-preserved
loop-out-preserved c =
    let some : 1 ≤ c.loop-out.first = tail_some c.loop-out.invariant.3 c.ranges.n.fits in
    (c.loop-out.invariant.0, omega arith, omega arith, tail_next c.loop-out.invariant.3 (c.loop-out.first - 1) _ (omega (arith, some)) (omega arith) refl (omega arith) (omega arith) (omega arith))
