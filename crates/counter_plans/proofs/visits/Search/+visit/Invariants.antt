-- `counter_plans::visits::Search::visit` ends: each visit leaves room for one line less. Assumes nothing.
use Rattle.counter_plans.proofs.visits.Search.+visit.Given as goal

abbrev pub decreases-visit : goal.decreases-visit
decreases-visit l = l.room
