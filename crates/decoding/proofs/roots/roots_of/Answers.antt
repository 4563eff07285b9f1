use Prim.Native.Nat.{◌<◌}
use native.Mathlib.Nat.{zero-add}
use native.Mathlib.Omega.{arith}
use mathlib.Core.Path.{◌≡◌, refl, sym}
use lib.ListN.{length}
use Rattle.diagram.specs.Table.{sequence, table_of}
use Rattle.decoding.specs.Decoding.{root_nodes, root_rewards}
use Rattle.decoding.proofs.Padding.{pad_none, pad_sequence}
use Rattle.decoding.proofs.Rooting.{roots_few}
use Rattle.decoding.proofs.roots.roots_of.Goals as goal

pub loop-i-init : goal.loop-i-init
unfolding sequence
loop-i-init c =
    let e = c.root_count-count.ensures.count in
    let pre = c.requires in
    (e, omega (arith, e, roots_few _ pre.0 pre.1), sym (pad_none 16), sym (pad_none 16))

pub loop-i-preserved : goal.loop-i-preserved
loop-i-preserved c =
    let inv = c.loop-i.invariant in
    let i = c.loop-i.i in
    let root = c.root_at-root.ensures in
    let room : i < 16 = omega (arith, inv.1) in (
      inv.0,
      inv.1,
      pad_sequence 16 _ 0 i _ room inv.2 refl (rw (c.byte.ensures, zero-add) root.node),
      pad_sequence 16 _ 0 i _ room inv.3 refl (rw zero-add root.reward),
    )

pub returns : goal.returns
unfolding root_nodes root_rewards
returns c =
    let inv = c.loop-i.invariant in
    let all : c.loop-i.i ≡ length (table_of c.args.file.now).roots = omega (arith, inv.0) in
    record { count = inv.0; nodes = rw all at inv.2; rewards = rw all at inv.3 }
