-- `products` meets its contract. The loop's invariant: the products from position p on are there. Assumes nothing.
use Rattle.decoding.specs.Decoding.{variables_in}
use Rattle.weighing.proofs.Arcing.{From, suffix}
use Rattle.weighing.proofs.arcs.products.Given as goal

abbrev pub invariant-loop-p : goal.invariant-loop-p
invariant-loop-p l = From (suffix (variables_in l.words l.v)) l.p l.products
