-- What is printed of what is found for a job, and of a job.
use Rattle.std.specs.Prelude.{ℕ, List, Result, Ok, Err, take, drop}
use Rattle.diagram.specs.Table.{table_of}
use Rattle.diagram.specs.Printout.{refusal_text, search_text, program_outcome}
use Rattle.terms.specs.declared.refusal.Refusal.{Refusal}
use Rattle.terms.specs.Numbers.{reason_number}
use Rattle.text.specs.Lines.{full_text}
use Rattle.printout.specs.declared.found.Found.{Found}

-- A plan with its numbers, or the line of a refusal
unfoldable pub answer_text : Result Found Refusal → List ℕ
answer_text (Ok f) =
    full_text f.shown.choices f.shown.scale f.shown.cost f.shown.score f.shown.visits (take f.plan.count f.plan.marks)
answer_text (Err r) = refusal_text (reason_number r.reason) r.place

-- What the bytes that are read ask for, as it is printed
abbrev pub job_text : (input : List ℕ) → List ℕ
job_text input = search_text (table_of (drop 4 input)) (program_outcome input)
