-- The answer of `score` in the terms of the meaning.
use Rattle.std.specs.Prelude.{ℕ, Result}
use Rattle.diagram.specs.Services.{Outcome}
use Rattle.terms.specs.declared.refusal.Refusal.{Refusal}
use Rattle.steps.specs.Steps.{outcome_by}

-- The score, or a refusal's number and place
abbrev pub outcome_of : Result ℕ Refusal → Outcome ℕ
outcome_of r = outcome_by (λ x. x) r
