-- A service's outcome as what a program in another language is handed: the result, and each number behind a reference that it lends.
use Rattle.std.specs.Prelude.{ℕ}
use Rattle.diagram.specs.Services.{Outcome, refused, answered}

-- The result: a refusal's number, and 0 where the request is answered
unfoldable pub number_of : {A : Type 0} → Outcome A → ℕ
number_of (refused number place) = number
number_of (answered a) = 0

-- What is held for the place: a refusal's own, and what was held before where the request is answered
unfoldable pub place_of : {A : Type 0} → Outcome A → (held : ℕ) → ℕ
place_of (refused number place) held = place
place_of (answered a) held = held

-- What is held for one number of the answer: that number, and what was held before where the request is refused
unfoldable pub value_of : {A : Type 0} → (A → ℕ) → Outcome A → (held : ℕ) → ℕ
value_of part (refused number place) held = held
value_of part (answered a) held = part a
