-- `enter` meets its contract. The loop's invariant: the first i roots have brought theirs. Assumes nothing.
use Rattle.std.proofs.Common.{◌≡◌, length}
use Rattle.derivatives.specs.Down.{entered_by}
use Rattle.derivatives.proofs.down.enter.Given as goal

abbrev pub invariant-loop-i : goal.invariant-loop-i
invariant-loop-i l = (length l.paths ≡ 256) × (l.paths ≡ entered_by l.roots l.i l.initial.paths)
