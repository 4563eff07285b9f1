use Prim.Native.Nat.{ℕ, ◌+◌}
use mathlib.Core.Path.{◌≡◌, refl}
use mathlib.Core.List.{List}
use mathlib.Core.Bool.{cond}
use lib.ListN.{get_or}
use lib.Dec.{eqb}
use Rattle.ordering.specs.Numbers.{high_arc_number, low_arc_number}
use Rattle.weighing.specs.Weights.{arcs_over}
use Rattle.weighing.proofs.ByArc.{arcs-next}
use Rattle.valuing.specs.Passes.{mark_at_record, high_in_force, low_in_force, high_in_force_at, low_in_force_at}
use Rattle.valuing.proofs.force.in_force.Goals as goal

-- the mark of a turn, by the position that the code has read
mark : (ps ms : List ℕ) (k : ℕ) {m at n : ℕ} → m ≡ get_or ms at 0 → at ≡ get_or ps n 0 → n ≡ k + 2 → m ≡ mark_at_record ps ms k
unfolding mark_at_record
mark ps ms k e f g = rw (e, f, g)

-- the weights of a turn, by the mark that closes the arc and the weight that the code has read
high_is : (ps ms ws : List ℕ) (k : ℕ) {m closing w x : ℕ} → m ≡ mark_at_record ps ms k → closing ≡ 2 → w ≡ get_or ws (high_arc_number k) 0 → x ≡ cond (eqb m closing) 0 w → x ≡ high_in_force_at ps ms ws k
unfolding high_in_force
high_is ps ms ws k e f g h = rw (h, e, f, g) refl

low_is : (ps ms ws : List ℕ) (k : ℕ) {m closing w x : ℕ} → m ≡ mark_at_record ps ms k → closing ≡ 1 → w ≡ get_or ws (low_arc_number k) 0 → x ≡ cond (eqb m closing) 0 w → x ≡ low_in_force_at ps ms ws k
unfolding low_in_force
low_is ps ms ws k e f g h = rw (h, e, f, g) refl

pub loop-k-init : goal.loop-k-init
unfolding arcs_over
loop-k-init c = refl

pub loop-k-preserved : goal.loop-k-preserved
loop-k-preserved c =
    let a = c.args in
    let marked = mark a.positions.now a.marks.now c.loop-k.k c.mark_at-mark.ensures c.position_of.ensures c.of_record.ensures in
    arcs-next _ _ _ c.loop-k.invariant (high_is a.positions.now a.marks.now a.arcs.now c.loop-k.k marked refl refl c.weight_under.ensures) (low_is a.positions.now a.marks.now a.arcs.now c.loop-k.k marked refl refl c.weight_under-in-loop-k.ensures)
