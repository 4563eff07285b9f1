-- The numbers of an opened table.
use Rattle.std.specs.Prelude.{Result, Ok, Err}
use Rattle.terms.specs.declared.refusal.Refusal.{Refusal}
use Rattle.reading.specs.declared.answer.Summary.{Summary}

-- V, N, the number of choices and B, each 0 where the bytes are turned away
unfoldable pub numbers_of : Result Summary Refusal → Summary
numbers_of (Ok t) = t
numbers_of (Err _) = record { variables = 0; records = 0; choices = 0; scale = 0 }
