-- `Lines::of_open` meets its contract. The loop's invariant: the first i lines are laid out, and the next layer begins at `first`. Assumes nothing.
use mathlib.Core.Path.{◌≡◌}
use Rattle.lines.specs.Laid.{listing_of, layer_start, lines_laid}
use Rattle.lines.proofs.lay.Lines.of_open.Given as goal

abbrev pub invariant-loop-i : goal.invariant-loop-i
invariant-loop-i l =
    (l.lines ≡ lines_laid (listing_of l.listed.numbers l.positions l.ends l.fn.kits) l.i)
    × (l.first.0 ≡ layer_start (listing_of l.listed.numbers l.positions l.ends l.fn.kits) l.i)
