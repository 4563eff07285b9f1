-- `records_of` meets its contract. The loop's invariant: each array is filled up to record k, and the cells after it are 0. Assumes nothing.
use Rattle.diagram.specs.Table.{record_at, table_of, variable_count}
use Rattle.decoding.proofs.Columns.{FilledTo}
use Rattle.decoding.proofs.records.records_of.Given as goal

abbrev pub invariant-loop-k : goal.invariant-loop-k
invariant-loop-k l =
    FilledTo (variable_count l.file) (λ j. (record_at (table_of l.file).records j).position) l.columns.positions l.k
    × FilledTo 0 (λ j. (record_at (table_of l.file).records j).hi) l.columns.high l.k
    × FilledTo 0 (λ j. (record_at (table_of l.file).records j).lo) l.columns.low l.k
