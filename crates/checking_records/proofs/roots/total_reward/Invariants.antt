-- `total_reward` meets its contract. The loop's invariant: the sum is that of the first i roots, each at most 64. Assumes nothing.
use Prim.Native.Nat.{◌*◌, ◌≤◌}
use mathlib.Core.Path.{◌≡◌}
use lib.ListN.{take}
use Rattle.diagram.specs.Table.{table_of, total_reward}
use Rattle.checking_records.proofs.roots.total_reward.Given as goal

abbrev pub invariant-loop-i : goal.invariant-loop-i
invariant-loop-i l = (l.total ≡ total_reward (take l.i (table_of l.file).roots)) × (l.total ≤ 64 * l.i)
