-- The answer of `sweep` in the terms of the meaning.
use Rattle.std.specs.Prelude.{ℕ, List, Result}
use Rattle.diagram.specs.Services.{Outcome, Sweeping}
use Rattle.terms.specs.declared.refusal.Refusal.{Refusal}
use Rattle.steps.specs.Steps.{outcome_by}

-- What `sweep` answers, the top with the drops buffer as it is left, or a refusal's number and place
abbrev pub sweep_of : Result ℕ Refusal → (drops : List ℕ) → Outcome Sweeping
sweep_of r ds = outcome_by (λ x. record { upper_bound = x; derivatives = ds }) r
