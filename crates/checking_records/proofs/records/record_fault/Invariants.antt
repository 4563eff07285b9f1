-- `record_fault` meets its contract. The loop's invariant: the first fault of all records is the first of those from k on, and
-- the array has the positions of the records before. Assumes nothing.
use Prim.Native.Nat.{◌+◌, ◌-◌}
use mathlib.Core.Path.{◌≡◌}
use Rattle.diagram.specs.Table.{record_at, table_of, variable_count, record_count}
use Rattle.diagram.specs.Checks.{record_fault, first_place}
use Rattle.decoding.proofs.Shape.{record-at-fault}
use Rattle.decoding.specs.Nodes.{Filled}
use Rattle.checking_records.proofs.records.record_fault.Given as goal

abbrev pub invariant-loop-k : goal.invariant-loop-k
invariant-loop-k l =
    (record_fault l.file ≡ first_place (record-at-fault l.file) (1 + variable_count l.file + l.k) (record_count l.file - l.k))
    × Filled (variable_count l.file) (λ i. (record_at (table_of l.file).records i).position) l.positions l.k
