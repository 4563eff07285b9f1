-- What the filter works on.
use Rattle.std.specs.Prelude.{ℕ, ◌≤◌, ◌<◌, ◌≡◌, List, length, get_or}
use Rattle.diagram.specs.Table.{Table}
use Rattle.diagram.specs.Plans.{upper_bound, derivative, LeastPassing, forced_plan, forced_count}
use Rattle.diagram.specs.Validity.{Formed, Monotone}

-- The top and the drops of an accepted table under a legal plan, and the least score that passes a percentage
pub record Swept (t : Table) (p : List ℕ) (percent least bound : ℕ) (drops : List ℕ) : Type 0 where
  pub formed : Formed (length t.variables) t.records
  pub monotone : Monotone t
  pub passing : LeastPassing t percent least
  pub top : bound ≡ upper_bound t p
  pub few : length p ≤ 20
  pub derivatives : (i : ℕ) → i < length p → get_or drops i 0 ≡ derivative t p i

-- The forced lines are counted, and taken in a plan written
abbrev pub Forces : Table → (plan : List ℕ) → (percent count : ℕ) → (out : List ℕ) → Type 0
Forces t p percent count out = (count ≡ forced_count t percent p) × (out ≡ forced_plan t percent p)
