-- `losses_by_rank` meets its contract. The loop's invariant: the losses at the first i ranks are written over zeros.  Assumes nothing.
use mathlib.Core.Path.{◌≡◌}
use lib.ListN.{length}
use Rattle.layout.specs.Weighed.{by_rank}
use Rattle.layout.proofs.weigh.losses_by_rank.Given as goal

abbrev pub invariant-loop-i : goal.invariant-loop-i
invariant-loop-i l = (length l.by_rank ≡ 256) × (l.by_rank ≡ by_rank l.order l.losses l.i)
