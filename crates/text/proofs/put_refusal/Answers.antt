-- `put_refusal` meets its contract: its five texts stand one after the other, and each number takes at most 20 places. Assumes nothing.
use Prim.Native.Nat.{◌≤◌}
use native.Mathlib.Omega.{arith}
use Rattle.diagram.specs.Printout.{refused_word, line, refusal_text}
use Rattle.writing.proofs.Writes.{wrote_then}
use Rattle.text.proofs.Texts.{number-ends}
use Rattle.text.proofs.put_refusal.Goals as goal

pub put_word-c-requires : goal.put_word-c-requires
put_word-c-requires c =
    let first_ends : c.put_decimal-b.result ≤ 28 = omega (arith, number-ends c.put_decimal-b.ensures (omega (arith, c.ranges.number, c.ranges.place.fits))) in
    omega (arith, first_ends)

pub put_decimal-d-requires : goal.put_decimal-d-requires
put_decimal-d-requires c =
    let first_ends : c.put_decimal-b.result ≤ 28 = omega (arith, number-ends c.put_decimal-b.ensures (omega (arith, c.ranges.number, c.ranges.place.fits))) in
    omega (arith, first_ends)

pub put_word-requires : goal.put_word-requires
put_word-requires c =
    let first_ends : c.put_decimal-b.result ≤ 28 = omega (arith, number-ends c.put_decimal-b.ensures (omega (arith, c.ranges.number, c.ranges.place.fits))) in
    let second-ends : c.put_decimal-d.result ≤ 49 = omega (arith, first_ends, number-ends c.put_decimal-d.ensures c.ranges.place.fits) in
    omega (arith, second-ends)

pub returns : goal.returns
unfolding refused_word line refusal_text
returns c =
    let a = c.put_word-a.ensures in
    let b = wrote_then a c.put_decimal-b.ensures in
    let d = wrote_then b c.put_word-c.ensures in
    let e = wrote_then d c.put_decimal-d.ensures in
    wrote_then e c.put_word.ensures
