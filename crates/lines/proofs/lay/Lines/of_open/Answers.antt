use Prim.Native.Nat.{◌<◌}
use native.Mathlib.Omega.{arith}
use mathlib.Core.Path.{◌≡◌, refl}
use lib.ListN.{get_or}
use Rattle.lines.specs.Laid.{Listing, listing_of, position_at}
use Rattle.lines.proofs.LaidLines.{laid-none, start-first, start_next, laid_next, line-is}
use Rattle.lines.proofs.lay.Lines.of_open.Goals as goal

pub loop-i-init : goal.loop-i-init
loop-i-init c = (rw c.no_line-lines.ensures (laid-none _), start-first _ c.new-first.ensures)

pub position_at-requires : goal.position_at-requires
position_at-requires c =
    rw c.new-choice.ensures (c.requires.positions c.loop-i.i (omega arith))

pub bounds-ends-x : goal.bounds-ends-x
bounds-ends-x c =
    let small : get_or c.args.positions.now c.new-choice.result.0 0 < 64 = rw c.new-choice.ensures (c.requires.positions c.loop-i.i (omega arith)).1 in
    omega (arith, c.number-x.ensures, c.position_at.ensures, small)

pub loop-i-preserved : goal.loop-i-preserved
loop-i-preserved c =
    let a = c.args in
    let l : Listing = listing_of a.listed.numbers a.positions.now a.ends.now a.kits.now in
    let at = c.loop-i in
    let inv = at.invariant in
    let choice = c.new-choice.ensures in
    let position : c.number-x.result ≡ position_at l at.i = rw (c.number-x.ensures, c.position_at.ensures, choice) refl in
    let next = rw c.from.ensures at c.new-next.ensures in
    let own : c.new.result.0 ≡ get_or a.ends.now c.number-x.result 0 = rw c.from-in-loop-i.ensures at c.new.ensures in
    let kits = rw (c.number.ensures, choice) at c.from-kits.ensures in
    (laid_next l at.i inv.0 (omega arith) (line-is l at.i inv.1 (rw position at own) (rw position at next) (omega arith) (omega (arith, kits))), start_next l at.i position next)
