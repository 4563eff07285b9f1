-- `by_choice` meets its contract. The loop's invariant: the cells of the first i choices stand in front. Assumes nothing.
use Rattle.std.proofs.Common.{◌≡◌, get_or, replicate}
use Rattle.diagram.specs.Table.{sequence}
use Rattle.arrays.specs.Arrays.{over}
use Rattle.derivatives.proofs.drops.by_choice.Given as goal

abbrev pub invariant-loop-i : goal.invariant-loop-i
invariant-loop-i l = l.numbers ≡ over (sequence (λ x. get_or l.cells (get_or l.positions x 0) 0) 0 l.i) (replicate 20 0)
