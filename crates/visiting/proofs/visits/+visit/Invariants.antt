-- The lines become fewer.
use lib.ListN.{length}
use Rattle.visiting.proofs.visits.+visit.Given as goal

abbrev pub decreases-visit : goal.decreases-visit
decreases-visit l = length l.lines.now
