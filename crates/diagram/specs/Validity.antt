-- What the checks of a file show of its table, for those who go on with it.
use Rattle.std.specs.Prelude.{ℕ, ◌+◌, ◌≤◌, ◌<◌, ◌≡◌, true, List, [], ◌∷◌}
use Rattle.diagram.specs.Table.{Variable, choice, chance, Record, Table, record_at}
use Rattle.diagram.specs.Checks.{position_of, is_monotone_at}

-- Check 14: every chance's share a of b is at most one, and b is not 0
pub data BoundedShares : List Variable → Type 0 where
  no_shares : BoundedShares []
  choice-shares : {vs : List Variable} → BoundedShares vs → BoundedShares (choice ∷ vs)
  chance-shares : {a b : ℕ} {vs : List Variable} → a ≤ b → 1 ≤ b → BoundedShares vs → BoundedShares (chance a b ∷ vs)

-- Check 17, of all records of a table of v variables: children have smaller numbers and stand at larger positions.
-- It holds past the last record too, where records are of zeros.
pub record Formed (v : ℕ) (rs : List Record) : Type 0 where
  pub hi_less : (k : ℕ) → (record_at rs k).hi < k + 2
  pub lo_less : (k : ℕ) → (record_at rs k).lo < k + 2
  pub hi_later : (k : ℕ) → (record_at rs k).position < position_of v rs (record_at rs k).hi
  pub lo_later : (k : ℕ) → (record_at rs k).position < position_of v rs (record_at rs k).lo

-- Check 18, of all records of a table. It holds past the last record too, where records are of zeros.
abbrev pub Monotone : Table → Type 0
Monotone t = (k : ℕ) → is_monotone_at t k ≡ true
