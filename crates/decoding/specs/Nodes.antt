-- The arrays by node number that a table's records are copied to.
use Rattle.std.specs.Prelude.{ℕ, ◌+◌, ◌<◌, ◌≡◌, List, ◌∷◌, length, get_or, take}
use Rattle.std.proofs.Math.Option.{none}
use Rattle.diagram.specs.Table.{Record, sequence, record_at}
use Rattle.diagram.specs.Checks.{heading_fault, record_fault, position_of}

-- One part of every record, at its node's number, with `end` for the two ends. There are 256 nodes at most.
unfoldable pub column : ℕ → (Record → ℕ) → List Record → List ℕ
column end part rs = end ∷ end ∷ sequence (λ k. part (record_at rs k)) 0 254

-- The positions of the nodes of a table of v variables, and their high and their low children
abbrev pub position_column : (v : ℕ) → List Record → List ℕ
position_column v rs = column v (λ (r : Record). r.position) rs

abbrev pub high_column : List Record → List ℕ
high_column rs = column 0 (λ (r : Record). r.hi) rs

abbrev pub low_column : List Record → List ℕ
low_column rs = column 0 (λ (r : Record). r.lo) rs

-- An array has `end` for the two ends, and one part of the first k records
pub record Filled (end : ℕ) (part : ℕ → ℕ) (cells : List ℕ) (k : ℕ) : Type 0 where
  pub size : length cells ≡ 256
  pub front : take (k + 2) cells ≡ end ∷ end ∷ sequence part 0 k

-- The array has the positions of the two ends and of the first k records
pub record Positioned (v : ℕ) (rs : List Record) (ps : List ℕ) (k : ℕ) : Type 0 where
  pub at : (n : ℕ) → n < k + 2 → get_or ps n 0 ≡ position_of v rs n

-- A file whose heading and records are right, as the checks 12 and 17 find them
pub record Shaped (s : List ℕ) : Type 0 where
  pub heading : heading_fault s ≡ none
  pub records : record_fault s ≡ none
