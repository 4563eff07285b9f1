-- Document 02, paper 2: what a file says of kits, what a plan costs, and that "today's files keep their meaning".
use Rattle.std.specs.Prelude.{ℕ, ◌+◌, ◌<◌, ◌≡◌, cond, List, length, get_or, take, eqb}
use Rattle.diagram.specs.Words.{word_at, kind, field_r}
use Rattle.diagram.specs.Table.{Table, sequence, table_of, variable_count, choice_count}
use Rattle.diagram.specs.Score.{sum}
use Rattle.diagram.specs.Plans.{cost, count_of}

-- The variable at position p is a choice
abbrev pub ChoiceAt : (file : List ℕ) → (p : ℕ) → Type 0
ChoiceAt file p = (p < variable_count file) × (kind (word_at file (1 + p)) ≡ 2)

-- "A choice word's R now holds its kits less one": one number a choice, by choice number; "Choices are numbered from 0 by position"
unfoldable pub KitsAreHeld : Type 0
KitsAreHeld =
    (file : List ℕ) →
    (length (table_of file).kits ≡ choice_count (table_of file).variables)
    × ((p : ℕ) → ChoiceAt file p →
    get_or (table_of file).kits (choice_count (take p (table_of file).variables)) 0 ≡ field_r (word_at file (1 + p)) + 1)

-- "the sum of kits": what a plan costs is the sum, over its lines by choice number, of the kits of those that it takes
unfoldable pub CostIsTheSum : Type 0
CostIsTheSum =
    (t : Table) (plan : List ℕ) →
    cost t plan ≡ sum (sequence (λ i. cond (eqb (get_or plan i 0) 1) (get_or t.kits i 0) 0) 0 (length plan))

-- How many lines a plan takes
abbrev pub lines_taken : (plan : List ℕ) → ℕ
lines_taken plan = count_of (λ i. eqb (get_or plan i 0) 1) (length plan)

-- Where all kits are 1, what a plan costs is the number of lines that it takes
unfoldable pub UnitKits : Type 0
UnitKits =
    (t : Table) (plan : List ℕ) → ((i : ℕ) → i < length plan → get_or t.kits i 0 ≡ 1) → cost t plan ≡ lines_taken plan

-- "so today's files keep their meaning": where every choice word has R 0, the sum that ranking, candidates, visit rule and the printed kits read is the
-- number of lines that they read before
unfoldable pub KeepsMeaning : Type 0
KeepsMeaning =
    (file : List ℕ) → ((p : ℕ) → ChoiceAt file p → field_r (word_at file (1 + p)) ≡ 0) →
    (plan : List ℕ) → length plan ≡ choice_count (table_of file).variables →
    cost (table_of file) plan ≡ lines_taken plan
