-- `node_at` meets its contract. Assumes nothing.
use Prim.Native.Nat.{ℕ}
use mathlib.Core.Path.{ap, ◌∙◌}
use lib.ListN.{get_or}
use borrow.Author.Rules.{rules}
use Rattle.layout.proofs.weigh.node_at.Goals as goal

pub overflow_cast-order : goal.overflow_cast-order
overflow_cast-order c = rw c.number-i.ensures (search rules)

pub returns : goal.returns
returns c = c.new.ensures ∙ ap (λ (i : ℕ). get_or c.args.order.now i 0) c.number-i.ensures
