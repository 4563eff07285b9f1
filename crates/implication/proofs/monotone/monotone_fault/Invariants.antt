-- `monotone_fault` meets its contract. The loop's invariant: the first fault of all records is the first of those from k on, all
-- pairs met imply, and none is left on the stack. Assumes nothing.
use Prim.Native.Nat.{◌+◌, ◌-◌}
use mathlib.Core.Path.{◌≡◌}
use lib.ListN.{length}
use Rattle.diagram.specs.Checks.{first_place}
use Rattle.decoding.specs.Decoding.{table_in}
use Rattle.implication.specs.Nodes.{monotone_fault_in, Stack}
use Rattle.implication.proofs.Pairing.{unmonotone_at}
use Rattle.implication.proofs.monotone.monotone_fault.Given as goal

abbrev pub invariant-loop-k : goal.invariant-loop-k
invariant-loop-k l =
    Stack l.t.positions l.t.high l.t.low l.work.met l.work.stack 0 0 0 0 0
    × (l.work.depth ≡ 0)
    × (monotone_fault_in (table_in l.t) ≡ first_place (unmonotone_at (table_in l.t)) (1 + length (table_in l.t).variables + l.k) (length (table_in l.t).records - l.k))
