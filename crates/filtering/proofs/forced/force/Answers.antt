use Prim.Native.Nat.{ℕ, ◌<◌}
use native.Mathlib.Omega.{arith}
use mathlib.Core.Path.{◌≡◌, refl, sym, ◌∙◌}
use lib.ListN.{length, length-set}
use Rattle.diagram.specs.Table.{Table}
use Rattle.diagram.specs.Plans.{forced}
use Rattle.filtering.specs.Forced.{Swept}
use Rattle.filtering.proofs.ForcedLines.{drop-within, forced_turn, forcing_start, forcing_taken, forcing_kept, forcing_end}
use Rattle.filtering.proofs.forced.force.Goals as goal
use Rattle.filtering.proofs.forced.force.Goals.{then-is_forced, else-is_forced}

pub loop-i-init : goal.loop-i-init
loop-i-init c = (omega arith, c.requires.sizes, λ t percent s. forcing_start)

pub offset_bounds-drops-i : goal.offset_bounds-drops-i
offset_bounds-drops-i c = omega (arith, c.requires.swept.2.few)

pub bounds-drops-i : goal.bounds-drops-i
bounds-drops-i c = omega (arith, c.requires.swept.2.few)

pub is_forced-requires : goal.is_forced-requires
is_forced-requires c =
    drop-within c.requires.swept.2 c.loop-i.i (omega arith)

pub overflow_add-count : goal.overflow_add-count
overflow_add-count c = omega (arith, c.requires.swept.2.few)

pub loop-i-preserved : goal.loop-i-preserved
loop-i-preserved c =
    let tested : let a = c.args in (t : Table) (percent : ℕ) → Swept t a.plan.now percent a.least a.bound a.drops.now → forced t percent a.plan.now c.loop-i.i ≡ c.is_forced.result = λ t percent s. forced_turn s c.loop-i.i (omega arith) refl refl c.is_forced.ensures in
    let at = c.loop-i in
    let inside : at.i < length c.args.out.now = omega arith in
    elim c.if-is_forced.branch [
      | then-is_forced w ↦
          rw (w.out-is, w.count-is)
          (omega arith, simp length-set at.invariant.1, λ t percent s. forcing_taken (at.invariant.2 t percent s) inside (tested t percent s ∙ w.if-is_forced.true) refl refl)
      | else-is_forced w ↦
          rw (w.out-is, w.count-is)
          (omega arith, simp length-set at.invariant.1, λ t percent s. forcing_kept (at.invariant.2 t percent s) inside (tested t percent s ∙ w.if-is_forced.false) refl refl)
    ]

pub shape_of-out : goal.shape_of-out
shape_of-out c = c.loop-i.invariant.1 ∙ sym c.requires.sizes

pub returns : goal.returns
returns c = λ t percent s. forcing_end (c.loop-i.invariant.2 t percent s) c.requires.sizes (omega arith)
