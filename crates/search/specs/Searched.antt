-- What a search leaves.
use Rattle.std.specs.Prelude.{ℕ, ◌≡◌, List, length, take}
use Rattle.diagram.specs.Table.{Table}
use Rattle.diagram.specs.Plans.{LeastPassing}
use Rattle.diagram.specs.Visits as visits
use Rattle.incumbent.specs.declared.Incumbent.{Incumbent}
use Rattle.visiting.specs.Visit.{Holds}
use Rattle.search.specs.declared.explore.Limits.{Limits}

-- A table with other kits in place of its own
unfoldable pub priced : List ℕ → Table → Table
priced kits t = record { variables = t.variables; records = t.records; kits = kits; roots = t.roots }

-- What a search from plan p leaves is document 01's
pub record Searched (t : Table) (percent budget least : ℕ) (p : List ℕ) (h : Incumbent) : Type 0 where
  pub holds : Holds t budget least (visits.visited t budget percent p).held h
  pub counts : h.visits ≡ (visits.visited t budget percent p).visits

-- What a search of a table from a plan leaves held and counted within limits, for every percentage at which their least score is the least that passes
abbrev pub SearchedWithin : Table → (plan : List ℕ) → Limits → Incumbent → Type 0
SearchedWithin t plan limits h =
    (percent : ℕ) → LeastPassing t percent limits.least →
    Searched (priced (take (length plan) limits.kits) t) percent limits.budget limits.least plan h
