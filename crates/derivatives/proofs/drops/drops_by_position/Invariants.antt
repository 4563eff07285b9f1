-- `drops_by_position` meets its contract. The loop's invariant: each cell holds the sum of the first k records' losses at its position
-- (`Summed`). Assumes nothing.
use Rattle.derivatives.specs.Drops.{lossy_of}
use Rattle.derivatives.proofs.Summing.{Summed}
use Rattle.derivatives.proofs.drops.drops_by_position.Given as goal

abbrev pub invariant-loop-k : goal.invariant-loop-k
invariant-loop-k l = Summed (lossy_of l.table l.valued l.paths) l.k l.drops
