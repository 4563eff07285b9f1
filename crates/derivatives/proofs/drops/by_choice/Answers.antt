use Rattle.std.proofs.Common.{ℕ, arith, ap, get_or, replicate}
use Rattle.arrays.proofs.Over.{write_none, write_next}
use Rattle.derivatives.proofs.drops.by_choice.Goals as goal

pub loop-i-init : goal.loop-i-init
loop-i-init c = write_none _ _

pub loop-i-preserved : goal.loop-i-preserved
loop-i-preserved c = write_next _ (replicate 20 0) (omega arith) c.loop-i.invariant (ap (λ (x : ℕ). get_or c.args.cells.now x 0) c.from.ensures)
