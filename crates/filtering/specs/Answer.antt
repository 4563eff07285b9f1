-- The answer of `filter` in the terms of the meaning.
use Rattle.std.specs.Prelude.{ℕ, List, Result}
use Rattle.diagram.specs.Services.{Outcome, Filtering}
use Rattle.terms.specs.declared.refusal.Refusal.{Refusal}
use Rattle.steps.specs.Steps.{outcome_by}

-- What `filter` answers, how many lines it forced with the plan buffer as it is left, or a refusal's number and place
abbrev pub filter_of : Result ℕ Refusal → (plan : List ℕ) → Outcome Filtering
filter_of r p = outcome_by (λ n. record { forced = n; plan = p }) r
