-- `shares_by_position` meets its contract. The loop's invariant: the shares before position p are there, and 0 and 1 from there on. Assumes nothing.
use lib.ListN.{get_or}
use Rattle.diagram.specs.Table.{chance}
use Rattle.decoding.specs.Decoding.{variables_in}
use Rattle.weighing.specs.Value.{high_share, low_share}
use Rattle.weighing.proofs.Arcing.{UpTo}
use Rattle.weighing.proofs.arcs.shares_by_position.Given as goal

abbrev pub invariant-loop-p : goal.invariant-loop-p
invariant-loop-p l =
    UpTo (λ x. high_share (get_or (variables_in l.words l.v) x (chance 0 1)) 1) 0 l.p l.high × UpTo (λ x. low_share (get_or (variables_in l.words l.v) x (chance 0 1)) 2) 1 l.p l.low
