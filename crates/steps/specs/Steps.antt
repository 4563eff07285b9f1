-- Checks as steps: what a check finds, what a list of checks finds in a file, and the outcome that a result stands for.
use Rattle.std.specs.Prelude.{ℕ, List, [], ◌∷◌, Result, Ok, Err}
use Rattle.std.specs.Prelude as code
use Rattle.std.proofs.Math.Option.{Option, none, some}
use Rattle.diagram.specs.Checks.{Check}
use Rattle.diagram.specs.Services.{Outcome, refused, answered, checked}
use Rattle.terms.specs.declared.refusal.Refusal.{Refusal}
use Rattle.terms.specs.Numbers.{reason_number}
use Rattle.steps.specs.declared.numbered.Numbered.{Numbered}

-- The place that a check finds, if any
unfoldable pub fault_of : Option ℕ → code.Option ℕ
fault_of none = code.None
fault_of (some i) = code.Some i

-- A number where a check finds no fault, and else the place of the fault
unfoldable pub bounded_by : Option ℕ → ℕ → Result ℕ ℕ
bounded_by none x = Ok x
bounded_by (some i) x = Err i

-- What a result stands for: an answer, by what its value stands for, or its refusal's number and place
unfoldable pub outcome_by : {T A : Type 0} → (T → A) → Result T Refusal → Outcome A
outcome_by f (Ok x) = answered (f x)
outcome_by f (Err r) = refused (reason_number r.reason) r.place

-- What a list of checks finds in a file: the first fault, or nothing
abbrev pub finding : List Check → List ℕ → Outcome Unit
finding cs s = checked cs (λ _. answered tt) s

-- What a list of checks finds in a file, or a number where it finds nothing
abbrev pub measuring : List Check → List ℕ → ℕ → Outcome ℕ
measuring cs s x = checked cs (λ _. answered x) s

-- ---------------------------------------------------------------------------
-- Checks by number

-- What has been found stands; else the next check finds what it does
unfoldable pub and_then : Result Unit Numbered → (number : ℕ) → code.Option ℕ → Result Unit Numbered
and_then (Err r) n f = Err r
and_then (Ok u) n code.None = Ok u
and_then (Ok u) n (code.Some i) = Err (record { number = n; place = i })

-- The next check with the number that it is about
unfoldable pub and_within : Result Unit Numbered → (number : ℕ) → Result ℕ ℕ → Result ℕ Numbered
and_within (Err r) n b = Err r
and_within (Ok u) n (Ok x) = Ok x
and_within (Ok u) n (Err i) = Err (record { number = n; place = i })

-- A number where nothing is found
unfoldable pub measured : Result Unit Numbered → ℕ → Result ℕ Numbered
measured (Ok u) x = Ok x
measured (Err r) x = Err r

-- What a list of checks finds in a file, after what others have found
unfoldable pub finding_after : Result Unit Numbered → List Check → List ℕ → Result Unit Numbered
finding_after v [] s = v
finding_after v (c ∷ cs) s = finding_after (and_then v c.number (fault_of (c.fault s))) cs s

-- What a list of checks finds, after what others have found, and a number where nothing is found
abbrev pub measuring_after : Result Unit Numbered → List Check → List ℕ → ℕ → Result ℕ Numbered
measuring_after v cs s x = measured (finding_after v cs s) x
