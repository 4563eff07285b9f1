-- `lay_out` meets its contract. The loop's invariant: the weights of the first k records' arcs are written. Assumes nothing.
use Rattle.std.proofs.Common.{◌≡◌}
use Rattle.decoding.specs.Decoding.{table_in}
use Rattle.weighing.specs.Weights.{table_arcs}
use Rattle.weighing.proofs.weights.lay_out.Given as goal

abbrev pub invariant-loop-k : goal.invariant-loop-k
invariant-loop-k l = l.arcs ≡ table_arcs (table_in l.table) l.k l.initial.arcs
