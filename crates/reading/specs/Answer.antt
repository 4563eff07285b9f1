-- The answers of this crate in the terms of the meaning.
use Rattle.std.specs.Prelude.{ℕ, ◌≡◌, List, ◌++◌, Result, Ok}
use Rattle.diagram.specs.Table.{table_of}
use Rattle.diagram.specs.Checks.{Check, heading_checks, variable_checks, scale_checks, record_checks, reward_checks}
use Rattle.diagram.specs.Services.{Outcome, Reading}
use Rattle.terms.specs.declared.refusal.Refusal.{Refusal}
use Rattle.steps.specs.Steps.{outcome_by}
use Rattle.decoding.specs.declared.table.Decoded.{Decoded}
use Rattle.decoding.specs.Decoding.{table_in, Sound}
use Rattle.reading.specs.declared.answer.Summary.{Summary}

-- V, N, the number of choices and B
abbrev pub numbers : Summary → Reading
numbers t = record { variables = t.variables; records = t.records; choices = t.choices; scale = t.scale }

-- Those of a decoded table
abbrev pub numbers_in : Decoded → Reading
numbers_in d = record { variables = d.variables; records = d.records; choices = d.choices; scale = d.scale }

-- What `read` answers: V, N, the number of choices and B, or a refusal's number and place
abbrev pub outcome_of : Result Summary Refusal → Outcome Reading
outcome_of r = outcome_by numbers r

-- What is handed out for a file whose checks have such an outcome: the file's table in arrays where it is accepted, or a refusal
pub record Reads (s : List ℕ) (o : Outcome Reading) (r : Result Decoded Refusal) : Type 0 where
  pub outcome : outcome_by numbers_in r ≡ o
  pub accepted : (d : Decoded) → r ≡ Ok d → (table_in d ≡ table_of s) × Sound d

-- The checks 11 to 17, 26 and 27, which are those of a table but for the last
abbrev pub shape_checks : List Check
shape_checks = heading_checks ++ variable_checks ++ scale_checks ++ record_checks ++ reward_checks
