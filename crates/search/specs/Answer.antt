-- The answer of `search` in the terms of the meaning.
use Rattle.std.specs.Prelude.{ℕ, List, Result, Ok, Err}
use Rattle.diagram.specs.Services.{Outcome, Searching}
use Rattle.terms.specs.declared.refusal.Refusal.{Refusal}
use Rattle.steps.specs.Steps.{outcome_by}
use Rattle.search.specs.declared.answer.Finding.{Finding}

-- What `search` answers, score and visits with the plan buffer as it is left, or a refusal's number and place
abbrev pub search_of : Result Finding Refusal → (plan : List ℕ) → Outcome Searching
search_of r p = outcome_by (λ (f : Finding). record { score = f.score; visits = f.visits; plan = p }) r

-- The visits that `search` answers, none where it refuses
unfoldable pub visits_of : Result Finding Refusal → ℕ
visits_of (Ok f) = f.visits
visits_of (Err r) = 0
