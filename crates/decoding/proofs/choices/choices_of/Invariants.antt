-- `choices_of` meets its contract. The loop's invariant: the first `count` cells hold the positions and the kits of the choices before position p, and the
-- others 0. Assumes nothing.
use Rattle.diagram.specs.Table.{table_of}
use Rattle.decoding.specs.Decoding.{choice_positions}
use Rattle.decoding.proofs.Finding.{Found, kits_from, choice_positions_from}
use Rattle.decoding.proofs.choices.choices_of.Given as goal

abbrev pub invariant-loop-p : goal.invariant-loop-p
invariant-loop-p l =
    Found (choice_positions (table_of l.file).variables) (choice_positions_from l.file l.p) l.positions l.count
    × Found (table_of l.file).kits (kits_from l.file l.p) l.kits l.count
