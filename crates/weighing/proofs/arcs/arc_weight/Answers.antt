-- `arc_weight` meets its contract: its callees read what the weight is made of. Assumes nothing.
use Prim.Native.Nat.{ℕ, ◌+◌, ◌*◌, ◌/◌, ◌≤◌, ◌<◌, ◌^◌}
use native.Mathlib.Omega.{arith}
use mathlib.Core.Path.{◌≡◌, refl, ap, ◌∙◌}
use mathlib.Core.List.{List}
use lib.ListN.{get_or}
use Rattle.weighing.specs.Weights.{arc_weight, Weighable}
use Rattle.weighing.proofs.arcs.arc_weight.Goals as goal

-- what `arc` asks and gives, at the numbers that the code has read
module _ {qs ss ps cs : List ℕ} {n from : ℕ} (able : Weighable qs ss ps cs n) (ef : from ≡ get_or ps n 0) where
  within : from < 64
  within = rw ef (omega (arith, able.from))

  weighed : {child to share : ℕ} → child ≡ get_or cs n 0 → to ≡ get_or ps child 0 → share ≡ get_or ss from 0 → ((from < 63) × (to < 64) × (0 < get_or qs to 0) × (share * (get_or qs (from + 1) 0 / get_or qs to 0) ≤ 2 ^ 56)) × (share * (get_or qs (from + 1) 0 / get_or qs to 0) ≡ arc_weight qs ss ps cs n)
  unfolding arc_weight
  weighed ec et es = rw (es, et, ec, ef) ((able.from, able.to, able.positive, able.fits), refl)

pub arc-requires : goal.arc-requires
arc-requires c = (weighed c.requires c.position_of-at.ensures c.child_of.ensures c.position_of-to.ensures (ap (λ (i : ℕ). get_or c.args.shares.now i 0) c.number.ensures)).0

pub returns : goal.returns
returns c = c.arc.ensures ∙ (weighed c.requires c.position_of-at.ensures c.child_of.ensures c.position_of-to.ensures (ap (λ (i : ℕ). get_or c.args.shares.now i 0) c.number.ensures)).1
