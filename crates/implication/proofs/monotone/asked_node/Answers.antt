-- `asked_node` meets its contract: the child of a choice's record, and false of another. Assumes nothing.
use Rattle.implication.proofs.Pairing.{asked-choice, asked-chance}
use Rattle.implication.proofs.monotone.asked_node.Goals as goal

pub returns-then-is_choice_at : goal.returns-then-is_choice_at
returns-then-is_choice_at c =
    asked-choice c.args.t.now.words c.args.t.now.positions c.args.children.now c.args.k c.of_record-node.ensures c.position_of.ensures c.is_choice_at.ensures c.if-is_choice_at.true c.child_of.ensures

pub returns-else-is_choice_at : goal.returns-else-is_choice_at
returns-else-is_choice_at c =
    asked-chance c.args.t.now.words c.args.t.now.positions c.args.children.now c.args.k c.of_record-node.ensures c.position_of.ensures c.is_choice_at.ensures c.if-is_choice_at.false c.new.ensures
