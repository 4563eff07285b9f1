use Prim.Native.Nat.{ℕ, ◌*◌, ◌/◌}
use native.Mathlib.Nat.{zero-add}
use native.Mathlib.Omega.{arith}
use mathlib.Core.Path.{◌≡◌, refl, sym, ap, ◌∙◌}
use mathlib.Core.List.{List}
use lib.ListN.{get_or}
use Rattle.diagram.specs.Table.{sequence}
use Rattle.decoding.proofs.Padding.{pad_none, pad_sequence}
use Rattle.weighing.specs.Weights.{root_weight_by, RootWeighable}
use Rattle.weighing.proofs.roots.root_weights.Goals as goal

-- what comes to a root, by the position and the product that the code has read
weighs : (ns rs ps qs : List ℕ) (i : ℕ) {at before : ℕ} → at ≡ get_or ps (get_or ns i 0) 0 → before ≡ get_or qs 0 0 / get_or qs at 0 → get_or rs i 0 * before ≡ root_weight_by ns rs ps qs i
unfolding root_weight_by
weighs ns rs ps qs i e f = rw (f, e) refl

pub loop-i-init : goal.loop-i-init
unfolding sequence
loop-i-init c = sym (pad_none 16)

pub overflow_mul-weights : goal.overflow_mul-weights
overflow_mul-weights c =
    let t = c.args.table.now in
    let able : RootWeighable t.nodes t.rewards t.positions c.args.products.now c.loop-i.i = c.requires.weighable c.loop-i.i (omega arith) in
    omega (arith, weighs t.nodes t.rewards t.positions c.args.products.now c.loop-i.i (rw c.new.ensures at c.position_of-at.ensures) c.product_before.ensures, able.fits)

pub loop-i-preserved : goal.loop-i-preserved
loop-i-preserved c =
    let t = c.args.table.now in
    pad_sequence 16 _ 0 c.loop-i.i _ (omega (arith, c.requires.few)) c.loop-i.invariant refl (weighs t.nodes t.rewards t.positions c.args.products.now c.loop-i.i (rw c.new.ensures at c.position_of-at.ensures) c.product_before.ensures ∙ ap (root_weight_by _ _ _ _) (sym (zero-add c.loop-i.i)))
