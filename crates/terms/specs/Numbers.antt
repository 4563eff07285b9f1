-- The papers' numbers of the kinds of words and of the reasons for turning a request away.
use Rattle.std.specs.Prelude.{ℕ}
use Rattle.terms.specs.declared.word.Kind.{Kind}
use Rattle.terms.specs.declared.word.Kind.TheVariants as kind
use Rattle.terms.specs.declared.refusal.Reason.{Reason}
use Rattle.terms.specs.declared.refusal.Reason.TheVariants as reason

-- The kind of a word, as its top four bits have it
unfoldable pub kind_number : Kind → ℕ
kind_number kind.Heading = 1
kind_number kind.Choice = 2
kind_number kind.Chance = 3
kind_number kind.Record = 4
kind_number kind.Job = 5
kind_number kind.Root = 6

-- A reason's number: 10 of the program, 11 to 18, 26 and 27 of a file, 21 to 25 of what comes with it, 31 and 32 of a plan that is sought
unfoldable pub reason_number : Reason → ℕ
reason_number reason.NoJob = 10
reason_number reason.Length = 11
reason_number reason.Heading = 12
reason_number reason.Counts = 13
reason_number reason.Variable = 14
reason_number reason.Choices = 15
reason_number reason.Product = 16
reason_number reason.Record = 17
reason_number reason.Monotony = 18
reason_number reason.PlanLength = 21
reason_number reason.Mark = 22
reason_number reason.Percentage = 23
reason_number reason.Budget = 24
reason_number reason.Buffer = 25
reason_number reason.Root = 26
reason_number reason.Scale = 27
reason_number reason.BelowPercentage = 31
reason_number reason.NoCandidate = 32
