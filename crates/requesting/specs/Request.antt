-- The checks that the sweep, the filter and the search share, and what those of a request find.
use Rattle.std.specs.Prelude.{ℕ, not, List, [], ◌∷◌, ◌++◌, length, eqb, ltb, Option}
use Rattle.diagram.specs.Checks.{Check, place_zero, plan_mark_fault, full_plan_fault, plan_checks, percent_checks, budget_checks, buffer_checks, search_checks}
use Rattle.diagram.specs.Services.{Outcome, answered, checked, Reading, reading}
use Rattle.steps.specs.Steps.{fault_of, finding}

-- Those of what comes with a file
abbrev pub request_checks : (plan : List ℕ) → (budget percent size : ℕ) → List Check
request_checks p budget percent size = plan_checks p ++ percent_checks percent ++ budget_checks budget ++ buffer_checks size

-- What comes of a request for a file, a plan, kits, a percentage and a buffer's size before it is answered: a refusal, or what reading answers. A service
-- without kits or percent asks for none, and the checks 23 and 24 pass.
unfoldable pub request_outcome : (file plan : List ℕ) → (budget percent size : ℕ) → Outcome Reading
request_outcome s p budget percent size = checked (search_checks p budget percent size) (λ file. answered (reading file)) s

-- A fault where two numbers differ
abbrev pub unequal_fault : ℕ → ℕ → Option ℕ
unequal_fault x y = fault_of (place_zero (not (eqb x y)))

-- A fault where a number is above its limit
abbrev pub above_fault : (limit : ℕ) → ℕ → Option ℕ
above_fault limit x = fault_of (place_zero (ltb limit x))

-- A check that two numbers are equal, whatever the file
abbrev pub equal_check : (number : ℕ) → ℕ → ℕ → Check
equal_check number x y = record { number = number; fault = λ _. place_zero (not (eqb x y)) }

-- 21 and 22, of a plan for a number of choices
abbrev pub plan_list : (plan : List ℕ) → (choices : ℕ) → List Check
plan_list p n = equal_check 21 (length p) n ∷ record { number = 22; fault = plan_mark_fault p } ∷ []

-- The same of the score, whose plan has to be full
abbrev pub full_plan_list : (plan : List ℕ) → (choices : ℕ) → List Check
full_plan_list p n = equal_check 21 (length p) n ∷ record { number = 22; fault = full_plan_fault p } ∷ []

-- 21 to 25, of what comes with a file that has a number of choices
abbrev pub request_list : (plan : List ℕ) → (budget percent size choices : ℕ) → List Check
request_list p budget percent size n = plan_list p n ++ (percent_checks percent ++ budget_checks budget ++ equal_check 25 size n ∷ [])

-- What they find
unfoldable pub plan_finding : (plan : List ℕ) → (choices : ℕ) → Outcome Unit
plan_finding p n = finding (plan_list p n) []

unfoldable pub full_plan_finding : (plan : List ℕ) → (choices : ℕ) → Outcome Unit
full_plan_finding p n = finding (full_plan_list p n) []

unfoldable pub request_finding : (plan : List ℕ) → (budget percent size choices : ℕ) → Outcome Unit
request_finding p budget percent size n = finding (request_list p budget percent size n) []
