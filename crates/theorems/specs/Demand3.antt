-- Demand 3 of the briefing, in its words and with its quantifiers written out. It speaks of what `sweep` and `filter` return and write, and of scores
-- counted afresh; nothing in it is about a pass. Document 01 explains the words.
use Rattle.std.specs.Prelude.{ℕ, ◌+◌, ◌≤◌, ◌<◌, ◌≡◌, ◌&&◌, ◌↔◌, List, Result, Ok, Err, length, get_or, set, eqb}
use Rattle.diagram.specs.Table.{table_of}
use Rattle.diagram.specs.Score.{score}
use Rattle.diagram.specs.Plans.{open_taken, count_of}
use Rattle.diagram.specs.Services.{sweep_outcome, sweep_buffer, filter_outcome, filter_buffer}
use Rattle.terms.specs.declared.refusal.Refusal.{Refusal}
use Rattle.terms.specs.declared.refusal.Reason.TheVariants as reason
use Rattle.filtering.specs.Answer.{filter_of}
use Rattle.sweep.specs.Answer.{sweep_of}
use Rattle.theorems.specs.Plans.{LegalMarking, Open, NonePasses, NoneLeaves}
use Rattle.theorems.specs.Reasons.{Accepted}

-- What demand 3 says of the sweep's answer and of the drops that it writes
pub record SweepHolds (file plan : List ℕ) (answer : Result ℕ Refusal) (drops : List ℕ) : Type 0 where
  pub size : length drops ≡ length plan
  -- "The top the sweep returns is the score counted afresh with all open lines taken."
  pub top : answer ≡ Ok (score (table_of file) (open_taken plan))
  -- "The sweep's drop for an open line is that top less the score counted afresh with this one line left and the other open lines taken": the drop and
  -- that score come to the top
  pub open_line : (i : ℕ) → Open plan i → get_or drops i 0 + score (table_of file) (open_taken (set plan i 2)) ≡ score (table_of file) (open_taken plan)
  -- "and for any other line 0"
  pub other_line : (i : ℕ) → i < length plan → (get_or plan i 0 ≡ 0 → ⊥) → get_or drops i 0 ≡ 0

-- The answer 31
abbrev pub refused_31 : Result ℕ Refusal
refused_31 = Err (record { reason = reason.BelowPercentage; place = 0 })

-- What demand 3 says of the filter's answer and of the plan that it writes over what the buffer held
pub record FilterHolds (file plan : List ℕ) (percent : ℕ) (held : List ℕ) (answer : Result ℕ Refusal) (written : List ℕ) : Type 0 where
  pub size : length written ≡ length plan
  -- "the filter returns 31 exactly when no way of settling the open lines passes"
  pub refuses : (answer ≡ refused_31) ↔ NonePasses file plan percent
  -- and, of demand 1, "a turned-away request leaves the plan and the drops as they were"
  pub untouched : answer ≡ refused_31 → written ≡ held
  -- "Otherwise the plan it writes has an open line taken exactly when no passing way leaves it"
  pub takes : (NonePasses file plan percent → ⊥) → (i : ℕ) → Open plan i → (get_or written i 0 ≡ 1) ↔ NoneLeaves file plan percent i
  -- "and every other mark as it was handed in"
  pub keeps : (NonePasses file plan percent → ⊥) → (i : ℕ) → i < length plan → (Open plan i → NoneLeaves file plan percent i → ⊥) → get_or written i 0 ≡ get_or plan i 0
  -- "and it returns how many lines it so took": those that are open in the plan handed in and taken in the plan written
  pub counts : (NonePasses file plan percent → ⊥) → answer ≡ Ok (count_of (λ i. eqb (get_or plan i 0) 0 && eqb (get_or written i 0) 1) (length plan))

-- Demand 3: "under every legal marking of [an accepted table's] lines as taken, left or open, and once every check but 31 passes, all of the following
-- holds", "for each percentage from 0 to 100". The buffers handed in have one place a choice. What is assumed of answer and buffer is word for word what
-- `sweep` and `filter` promise.
unfoldable pub Demand3 : Type 0
Demand3 =
    (file plan : List ℕ) → Accepted file → LegalMarking file plan →
    ((held drops : List ℕ) (answer : Result ℕ Refusal) →
    length held ≡ length plan →
    sweep_of answer drops ≡ sweep_outcome file plan (length held) →
    drops ≡ sweep_buffer file plan held →
    SweepHolds file plan answer drops)
    × ((percent : ℕ) (held written : List ℕ) (answer : Result ℕ Refusal) →
    percent ≤ 100 →
    length held ≡ length plan →
    filter_of answer written ≡ filter_outcome file plan percent (length held) →
    written ≡ filter_buffer file plan percent held →
    FilterHolds file plan percent held answer written)
