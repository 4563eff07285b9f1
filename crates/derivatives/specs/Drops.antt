-- What the arrays hold from which the drops are summed up.
use Rattle.std.specs.Prelude.{ℕ, zero, suc, ◌+◌, ◌*◌, ◌≤◌, ◌<◌, ◌^◌, ◌≡◌, Bool, true, cond, ◌&&◌, List, length, get_or, take, eqb}
use Rattle.diagram.specs.Table.{Table, chance, sequence, record_at, is_choice, choice_count}
use Rattle.diagram.specs.Plans.{open_taken, derivative}
use Rattle.weighing.specs.Value.{variable_at}
use Rattle.decoding.specs.declared.table.Decoded.{Decoded}
use Rattle.valuing.specs.Passes.{record_loss, losses_of}
use Rattle.valuing.specs.declared.bound.PlanValue.{PlanValue}

-- ---------------------------------------------------------------------------
-- The loss of a record

-- The positions of nodes and the marks at positions, and by node the losses and the path weights
pub record Lossy : Type 0 where
  pub positions : List ℕ
  pub marks : List ℕ
  pub losses : List ℕ
  pub paths : List ℕ

abbrev pub lossy : (positions marks losses paths : List ℕ) → Lossy
lossy ps ms ls ds = record { positions = ps; marks = ms; losses = ls; paths = ds }

-- Those of a decoded table and a plan's value, the losses made from the weights of the table's arcs and the values of its nodes
abbrev pub lossy_of : Decoded → PlanValue → (paths : List ℕ) → Lossy
lossy_of d r ds = lossy d.positions r.marks (losses_of d.low r.arcs r.values d.records) ds

-- What leaving its line would lose at record k: the node's path weight, times what is lost of its value
unfoldable pub loss_at : Lossy → (k : ℕ) → ℕ
loss_at a k = get_or a.paths (k + 2) 0 * get_or a.losses (k + 2) 0

-- Whether record k is an open choice's at position x
unfoldable pub opens_at : Lossy → (x k : ℕ) → Bool
opens_at a x k = eqb (get_or a.positions (k + 2) 0) x && eqb (get_or a.marks (get_or a.positions (k + 2) 0) 0) 0

-- The losses at an open choice at position x, summed over the first n records
unfoldable pub loss_sum : Lossy → (x n : ℕ) → ℕ
loss_sum a x zero = 0
loss_sum a x (suc k) = loss_sum a x k + cond (opens_at a x k) (loss_at a k) 0

-- The losses at the open choices, by position
abbrev pub loss_sums : Lossy → (n : ℕ) → List ℕ
loss_sums a n = sequence (λ (x : ℕ). loss_sum a x n) 0 64

-- At most 254 records, positions below 64, and sums that fit
pub record Losing (a : Lossy) (n : ℕ) : Type 0 where
  pub few : n ≤ 254
  pub within : (k : ℕ) → get_or a.positions k 0 < 64
  pub sums : (x : ℕ) → loss_sum a x n ≤ 2 ^ 56

-- Whether record k is of choice i
unfoldable pub is_of : Table → (i k : ℕ) → Bool
is_of t i k =
    is_choice (variable_at t k) && eqb (choice_count (take (record_at t.records k).position t.variables)) i

-- What leaving choice i loses of record k's value
unfoldable pub value_loss : Table → (plan : List ℕ) → (i k : ℕ) → ℕ
value_loss t p i k = cond (is_of t i k) (record_loss t (open_taken p) k) 0

-- ---------------------------------------------------------------------------
-- Drops by position and by choice number

-- The drop of the choice at position x, and 0 where there is none
unfoldable pub derivative_at : Table → (plan : List ℕ) → (x : ℕ) → ℕ
derivative_at t p x =
    cond (is_choice (get_or t.variables x (chance 0 1))) (derivative t p (choice_count (take x t.variables))) 0

-- The cells of the choices' positions hold f of the choices' numbers
abbrev pub Chosen : Table → (f : ℕ → ℕ) → (cells : List ℕ) → Type 0
Chosen t f cells =
    (x : ℕ) → x < length t.variables → is_choice (get_or t.variables x (chance 0 1)) ≡ true → get_or cells x 0 ≡ f (choice_count (take x t.variables))
