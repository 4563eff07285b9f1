-- `Lines::of_plan` meets its contract: the lines are those that `open_lines` lists. Assumes nothing.
use native.Mathlib.Omega.{arith}
use mathlib.Core.Path.{◌≡◌}
use lib.ListN.{length}
use lib.Seq.{length-take-le}
use Rattle.lines.specs.Open.{rows}
use Rattle.lines.proofs.Listed.{lines-few}
use Rattle.lines.proofs.lay.Lines.of_plan.Goals as goal

pub of_open-requires : goal.of_open-requires
of_open-requires c =
    let p = c.args.plan in
    let long : length (rows p) ≡ p.count = length-take-le p.count p.marks (omega (arith, c.requires.few)) in
    record {
      few = omega (arith, c.open_lines.ensures.count, lines-few (rows p), long, c.requires.few);
      positions = rw (c.open_lines.ensures.numbers, c.open_lines.ensures.count) c.requires.positions;
    }

pub returns-clause-lines : goal.returns-clause-lines
returns-clause-lines c =
    rw (c.open_lines.ensures.numbers, c.open_lines.ensures.count) at c.of_open.ensures.lines

pub returns-clause-count : goal.returns-clause-count
returns-clause-count c = rw c.open_lines.ensures.count at c.of_open.ensures.count
