use Prim.Native.Nat.{◌+◌}
use native.Mathlib.Omega.{arith}
use mathlib.Core.Path.{◌≡◌, refl, ap, ◌∙◌}
use lib.ListN.{length}
use lib.Dec.{eqb}
use borrow.Author.Rules.{rules}
use Rattle.std.specs.Prelude.{Some}
use Rattle.diagram.proofs.Places.{place-start, place_here, place-next, place_end}
use Rattle.decoding.specs.Decoding.{table_in}
use Rattle.decoding.proofs.Standing.{variables_in_lem, records_in_lem}
use Rattle.implication.specs.Nodes.{monotone_fault_in, cell}
use Rattle.steps.specs.Steps.{fault_of}
use Rattle.implication.proofs.Cells.{tested_one, tested_zero}
use Rattle.implication.proofs.Pairing.{held-pairs, held-position, unmonotone_at, unmonotone_test}
use Rattle.implication.proofs.Stacking.{start, meeting, ask, Drained, drained}
use Rattle.implication.proofs.monotone.monotone_fault.Goals as goal

pub loop-k-init : goal.loop-k-init
unfolding monotone_fault_in
loop-k-init c =
    let t = table_in c.args.t.now in
    let empty = c.new-work.ensures in
    (start (held-pairs c.requires) empty.met empty.stack, empty.depth, place-start (unmonotone_at t) (1 + length t.variables) (length t.records))

pub asked_node-low-requires : goal.asked_node-low-requires
asked_node-low-requires c = (omega (arith, c.requires.most, c.loop-k-test.true), held-position c.requires _ c.loop-k-test.true)

pub asked_node-high-requires : goal.asked_node-high-requires
asked_node-high-requires c = (omega (arith, c.requires.most, c.loop-k-test.true), held-position c.requires _ c.loop-k-test.true)

pub meet-requires : goal.meet-requires
meet-requires c = rw c.loop-k.invariant.1 c.loop-k.invariant.0.room

pub drain-requires : goal.drain-requires
drain-requires c =
    (_, _, ask c.loop-k.invariant.1 c.loop-k.invariant.0 (meeting (search rules) (search rules) c.meet.ensures))

pub overflow_add-result : goal.overflow_add-result
overflow_add-result c = omega (arith, c.requires.few, c.requires.most, c.new-end.ensures, c.loop-k-test.true, c.word.ensures)

pub returns-then-has_met : goal.returns-then-has_met
unfolding fault_of
returns-then-has_met c =
    let found : Drained c.args.t.now c.drain.new.work.met c.drain.new.work.stack c.loop-k.k = drained c.requires c.loop-k-test.true c.asked_node-low.ensures c.asked_node-high.ensures c.loop-k.invariant.1 c.loop-k.invariant.0 (search rules) (search rules) c.meet.ensures c.drain.ensures.kept c.drain.ensures.empty in
    let ends : c.has_met.result ≡ eqb (cell c.drain.new.work.met 1 0) 1 = c.has_met.ensures ∙ rw (c.new.ensures, c.new-in-loop-k.ensures) refl in
    let at = c.loop-k in
    let t = table_in c.args.t.now in
    let v = length t.variables in
    let n = length t.records in
    let place : c.word.result + at.k ≡ 1 + v + at.k = omega (arith, c.word.ensures, c.new-end.ensures, variables_in_lem c.args.t.now) in
    let fault = found.fault (tested_one _ 1 0 ends c.if-has_met.true) in
    rw (at.invariant.2, place_here (unmonotone_at t) (1 + v) n at.k (omega (arith, records_in_lem c.args.t.now, c.loop-k-test.true)) (unmonotone_test t at.k fault)) (ap Some place)

pub loop-k-preserved : goal.loop-k-preserved
loop-k-preserved c =
    let found : Drained c.args.t.now c.drain.new.work.met c.drain.new.work.stack c.loop-k.k = drained c.requires c.loop-k-test.true c.asked_node-low.ensures c.asked_node-high.ensures c.loop-k.invariant.1 c.loop-k.invariant.0 (search rules) (search rules) c.meet.ensures c.drain.ensures.kept c.drain.ensures.empty in
    let ends : c.has_met.result ≡ eqb (cell c.drain.new.work.met 1 0) 1 = c.has_met.ensures ∙ rw (c.new.ensures, c.new-in-loop-k.ensures) refl in
    let at = c.loop-k in
    let t = table_in c.args.t.now in
    let zero = tested_zero _ 1 0 ends c.if-has_met.false in
    let passes = found.passes (λ one. omega (arith, zero, one)) in
    (passes.1, c.drain.ensures.empty, at.invariant.2 ∙ place-next (unmonotone_at t) (1 + length t.variables) (length t.records) at.k (omega (arith, records_in_lem c.args.t.now, c.loop-k-test.true)) (unmonotone_test t at.k passes.0))

pub returns : goal.returns
unfolding fault_of
returns c =
    let at = c.loop-k in
    let t = table_in c.args.t.now in
    rw (at.invariant.2, place_end (unmonotone_at t) (1 + length t.variables + at.k) (length t.records) at.k (omega (arith, records_in_lem c.args.t.now)))
