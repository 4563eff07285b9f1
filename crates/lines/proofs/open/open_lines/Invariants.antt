-- `open_lines` meets its contract. The loop's invariant: the array has the open ones of the first i lines, and then zeros. Assumes nothing.
use mathlib.Core.Path.{◌≡◌}
use lib.ListN.{length, take}
use Rattle.decoding.specs.Decoding.{pad_to}
use Rattle.lines.specs.Open.{open_lines}
use Rattle.lines.proofs.open.open_lines.Given as goal

abbrev pub invariant-loop-i : goal.invariant-loop-i
invariant-loop-i l =
    (l.count ≡ length (open_lines (take l.i l.plan.marks)))
    × (l.numbers ≡ pad_to 20 (open_lines (take l.i l.plan.marks)))
