-- `add` meets its contract: the cell of the node is the one that is read and written. Assumes nothing.
use Rattle.derivatives.proofs.Transposing.{added_is}
use Rattle.derivatives.proofs.down.add.Goals as goal

pub returns : goal.returns
returns c = added_is _ _ _ _ c.number.ensures
