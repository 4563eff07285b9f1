-- The nodes in order of position, and how many stand before each position.
-- Assumes of the arrays that they hold the table and the plan (`Marked`).
use Prim.Native.Nat.{ℕ, ◌+◌, ◌-◌, ◌≤◌}
use native.Mathlib.Omega.{arith}
use mathlib.Core.Path.{◌≡◌}
use mathlib.Core.List.{List}
use lib.ListN.{length, get_or}
use Rattle.diagram.specs.Table.{Table}
use Rattle.valuing.specs.Passes.{Marked}
use Rattle.ordering.specs.Chains.{joined, in_buffer, beginnings, nodes_at}
use Rattle.layout.proofs.Ordering.{ends-rising, ends_mono, before-position, at_position, after-position, position-sum}
use Rattle.layout.specs.Layout.{Ending}

module _ {t : Table} {p : List ℕ} {n : ℕ} {ps hs ls ws ms : List ℕ} (m : Marked t p n ps hs ls ws ms) {v : ℕ} (variables : v ≡ length t.variables) where
  few : length t.records ≤ 254
  few = omega (arith, m.size)

  module _ {order : List ℕ} (ordered : order ≡ in_buffer (joined (nodes_at ps n) v)) where
    -- the nodes in order, as the laws of the layout have them
    pub order_is : order ≡ in_buffer (joined (nodes_at ps n) (length t.variables))
    order_is = rw variables at ordered

    order_same : order ≡ in_buffer (joined (nodes_at ps (length t.records)) (length t.variables))
    order_same = rw (m.size.0, variables) at ordered

    -- how many nodes stand before each position
    module _ (some : 1 ≤ length t.variables) {ends : List ℕ} (ended : ends ≡ beginnings (nodes_at ps n) v) where
      ends_same : ends ≡ beginnings (nodes_at ps (length t.records)) (length t.variables)
      ends_same = rw (m.size.0, variables) at ended

      ends-within : (x : ℕ) → x ≤ length t.variables → get_or ends x 0 ≤ length t.records
      ends-within x h =
          let y = length t.variables in
          let last : y - 1 + 1 ≡ y = omega arith in
          let top = rw last at (ends-rising t m.formed few m.few m.positions order_same ends_same (y - 1) (omega arith)).1 in
          omega (arith, top, ends_mono t m.formed few m.few m.positions order_same ends_same x y h (omega arith))

      pub ending : Ending t order ends
      ending =
          record {
            rising = ends_mono t m.formed few m.few m.positions order_same ends_same;
            within = ends-within;
            before = before-position t m.formed few m.few m.positions order_same ends_same;
            here = at_position t m.formed few m.few m.positions order_same ends_same;
            after = after-position t m.formed few m.few m.positions order_same ends_same;
            sums = position-sum t m.formed few m.few m.positions order_same ends_same;
          }
