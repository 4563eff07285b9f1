use Prim.Native.Nat.{ℕ, ◌+◌}
use native.Mathlib.Omega.{arith}
use mathlib.Core.Path.{◌≡◌, refl, ap, ◌∙◌}
use mathlib.Core.Bool.{Bool, not}
use mathlib.Core.List.{List}
use Rattle.std.specs.Prelude.{Some}
use Rattle.diagram.specs.Words.{word_at}
use Rattle.diagram.specs.Table.{record_count, root_count}
use Rattle.diagram.specs.Checks.{root_fault, is_root_word}
use Rattle.diagram.proofs.Places.{place-start, place_here, place-next, place_end}
use Rattle.steps.specs.Steps.{fault_of}
use Rattle.checking_records.proofs.roots.root_fault.Invariants.{wrong, begin}
use Rattle.checking_records.proofs.roots.root_fault.Goals as goal

-- the test of root word r, at the numbers that the code has read
tested : (s : List ℕ) (r : ℕ) {n i w : ℕ} {b : Bool} → n ≡ record_count s → i ≡ begin s + r → w ≡ word_at s i → b ≡ is_root_word n w → wrong s (begin s + r) ≡ not b
tested s r e at read h = rw (h, read, at, e) refl

pub loop-r-init : goal.loop-r-init
unfolding root_fault
loop-r-init c = place-start (wrong _) (begin _) _

pub returns-then-not-is_root_word : goal.returns-then-not-is_root_word
unfolding fault_of
returns-then-not-is_root_word c =
    let s = c.args.file.now in
    let r = c.loop-r.r in
    let place : 1 + c.from.result + c.record_count-n.result + r ≡ begin s + r = omega (arith, c.record_count-n.ensures.count, c.variable_count.ensures.count) in
    let found = tested s r c.record_count-n.ensures.count place c.word_at.ensures c.is_root_word.ensures ∙ ap not c.if-not-is_root_word.true in
    rw (c.loop-r.invariant, place_here (wrong s) (begin s) (root_count s) r (omega (arith, c.root_word_count-r-end.ensures.count)) found) (ap Some place)

pub loop-r-preserved : goal.loop-r-preserved
loop-r-preserved c =
    let s = c.args.file.now in
    let r = c.loop-r.r in
    let place : 1 + c.from.result + c.record_count-n.result + r ≡ begin s + r = omega (arith, c.record_count-n.ensures.count, c.variable_count.ensures.count) in
    let passed = tested s r c.record_count-n.ensures.count place c.word_at.ensures c.is_root_word.ensures ∙ ap not c.if-not-is_root_word.false in
    c.loop-r.invariant ∙ place-next (wrong s) (begin s) (root_count s) r (omega (arith, c.root_word_count-r-end.ensures.count)) passed

pub returns : goal.returns
unfolding fault_of
returns c =
    let s = c.args.file.now in
    let r = c.loop-r.r in
    rw (c.loop-r.invariant, place_end (wrong s) (begin s + r) (root_count s) r (omega arith)) refl
