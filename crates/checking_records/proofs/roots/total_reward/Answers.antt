use native.Mathlib.Numerals.{add-one}
use native.Mathlib.Omega.{arith}
use mathlib.Core.Path.{refl, ap, ◌∙◌}
use lib.Seq.{take_all}
use Rattle.diagram.specs.Table.{table_of, total_reward}
use Rattle.decoding.proofs.Rooting.{root_is, total-next}
use Rattle.checking_records.proofs.roots.total_reward.Goals as goal

pub loop-i-init : goal.loop-i-init
unfolding total_reward
loop-i-init c = (refl, omega arith)

pub root_at-total-requires : goal.root_at-total-requires
root_at-total-requires c = (c.requires.0, c.requires.1, omega (arith, c.root_count-i-end.ensures.count))

pub overflow_add-total : goal.overflow_add-total
overflow_add-total c =
    let most = (root_is c.args.file.now c.requires.0 c.requires.1 c.loop-i.i (omega (arith, c.root_count-i-end.ensures.count))).rewards.1 in
    omega (arith, most, c.root_at-total.ensures.reward, c.loop-i.invariant.1, c.root_count-i-end.ensures.some.1)

pub loop-i-preserved : goal.loop-i-preserved
loop-i-preserved c =
    let most = (root_is c.args.file.now c.requires.0 c.requires.1 c.loop-i.i (omega (arith, c.root_count-i-end.ensures.count))).rewards.1 in
    let inv = c.loop-i.invariant in
    let i = c.loop-i.i in
    let rs = (table_of c.args.file.now).roots in (
      rw (add-one i, total-next rs i (omega (arith, c.root_count-i-end.ensures.count)), c.root_at-total.ensures.reward, inv.0) refl,
      omega (arith, most, c.root_at-total.ensures.reward, inv.1),
    )

pub returns : goal.returns
returns c = c.loop-i.invariant.0 ∙ ap total_reward (take_all c.loop-i.i (table_of c.args.file.now).roots (omega (arith, c.root_count-i-end.ensures.count)))
