-- `roots_of` meets its contract. The loop's invariant: the nodes and rewards of the first i roots are in their cells, and the others 0. Assumes nothing.
use Prim.Native.Nat.{◌≤◌}
use mathlib.Core.Path.{◌≡◌}
use lib.ListN.{length}
use Rattle.diagram.specs.Table.{sequence, table_of}
use Rattle.decoding.specs.Decoding.{pad_to, root_at}
use Rattle.decoding.proofs.roots.roots_of.Given as goal

abbrev pub invariant-loop-i : goal.invariant-loop-i
invariant-loop-i l =
    (l.count ≡ length (table_of l.file).roots)
    × (l.count ≤ 16)
    × (l.nodes ≡ pad_to 16 (sequence (λ j. (root_at (table_of l.file).roots j).node) 0 l.i))
    × (l.rewards ≡ pad_to 16 (sequence (λ j. (root_at (table_of l.file).roots j).reward) 0 l.i))
