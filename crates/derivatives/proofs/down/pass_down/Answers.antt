use Prim.Native.Nat.{suc, ◌-◌}
use native.Mathlib.Omega.{arith}
use mathlib.Core.Path.{◌≡◌, ◌∙◌}
use Rattle.valuing.specs.Passes.{Arcs, arcs_of}
use Rattle.derivatives.proofs.Transposing.{hand_on-length, hand_on-length, turn_fits, turn_budget, turn_passes, pass_end}
use Rattle.derivatives.proofs.down.pass_down.Goals as goal

pub hand_on-requires : goal.hand_on-requires
hand_on-requires c = turn_fits (c.loop-k.invariant.2 _ c.requires.1.1) (omega arith) (c.loop-k.k - 1) _ (omega arith) c.of_record.ensures

pub loop-k-preserved : goal.loop-k-preserved
loop-k-preserved c =
    let arcs : Arcs = arcs_of c.args.high.now c.args.low.now c.args.weights.now in
    let inv = c.loop-k.invariant in
    let one : c.loop-k.k ≡ suc (c.loop-k.k - 1) = omega arith in (
      rw (c.hand_on.ensures, hand_on-length) inv.0,
      rw c.hand_on.ensures (turn_passes arcs c.loop-k.k c.loop-k.paths (c.loop-k.k - 1) c.of_record.result.0 one c.of_record.ensures ∙ inv.1),
      λ scales b. rw c.hand_on.ensures (turn_budget (inv.2 scales b) (omega arith) (c.loop-k.k - 1) c.of_record.result.0 one c.of_record.ensures),
    )

pub returns : goal.returns
returns c =
    let arcs : Arcs = arcs_of c.args.high.now c.args.low.now c.args.weights.now in
    pass_end arcs c.loop-k.k c.loop-k.paths _ (omega arith) c.loop-k.invariant.1
