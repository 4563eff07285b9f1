-- The loop's invariant: the lines of the marks before the index are appended, in at most 26 places each. Assumes nothing.
use Prim.Native.Nat.{◌+◌, ◌*◌, ◌≤◌}
use lib.ListN.{take}
use Rattle.diagram.specs.Printout.{mark_lines}
use Rattle.writing.specs.Wrote.{Appends}
use Rattle.text.proofs.put_marks.Given as goal

abbrev pub invariant-loop-choice : goal.invariant-loop-choice
invariant-loop-choice l =
    (l.text.count ≤ l.initial.text.count + 26 * l.choice) × Appends l.initial.text (mark_lines 0 (take l.choice l.plan)) l.text
