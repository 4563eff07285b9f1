-- `product` meets its contract. The loop's invariant: the product is that of the first p variables, at most 2^56, and no place before is at fault.
-- Assumes nothing.
use Prim.Native.Nat.{◌^◌}
use Rattle.diagram.specs.Table.{scale_of}
use Rattle.checking.proofs.Counting.{Prefix}
use Rattle.checking.proofs.variables.product.Given as goal

abbrev pub invariant-loop-p : goal.invariant-loop-p
invariant-loop-p l = Prefix scale_of (2 ^ 56) l.file l.p l.product
