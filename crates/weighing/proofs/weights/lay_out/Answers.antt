use Prim.Native.Nat.{◌≤◌}
use native.Mathlib.Omega.{arith}
use mathlib.Core.Path.{◌≡◌, refl, ap, ◌∙◌}
use Rattle.decoding.specs.Decoding.{table_in}
use Rattle.decoding.proofs.Standing.{variables_in_lem, records_in_lem, roots_in_lem}
use Rattle.weighing.specs.Value.{high_arc, low_arc}
use Rattle.weighing.specs.Weights.{products, high_shares, low_shares, arcs_over}
use Rattle.weighing.proofs.ByArc.{arcs-next}
use Rattle.weighing.proofs.Arcing.{Weighs, high_weighs, low_weighs, table-variables}
use Rattle.weighing.proofs.HeldRoots.{root_weighable, roots_are}
use Rattle.weighing.proofs.weights.lay_out.Goals as goal

pub products-products-requires : goal.products-products-requires
products-products-requires c =
    let few : c.args.table.now.variables ≤ 60 = omega (arith, variables_in_lem c.args.table.now, c.requires.valid.variables) in
    let valid = c.requires.valid in
    let vs = table-variables c.args.table.now in
    (few, rw vs valid.shares, rw vs valid.product)

pub shares_by_position-shares-requires : goal.shares_by_position-shares-requires
shares_by_position-shares-requires c =
    let few : c.args.table.now.variables ≤ 60 = omega (arith, variables_in_lem c.args.table.now, c.requires.valid.variables) in
    few

pub loop-k-init : goal.loop-k-init
unfolding arcs_over
loop-k-init c = refl

pub of_record-node-requires : goal.of_record-node-requires
of_record-node-requires c = omega (arith, records_in_lem c.args.table.now, c.requires.valid.records)

pub arc_weight-requires : goal.arc_weight-requires
arc_weight-requires c =
    let products_are : c.products-products.result ≡ products (table_in c.args.table.now).variables = c.products-products.ensures ∙ ap products (table-variables _) in
    let high_arc_lem : let t = c.args.table.now in Weighs c.products-products.result c.shares_by_position-shares.result.high t.positions t.high c.of_record-node.result.0 (high_arc (table_in t) c.loop-k.k) = rw c.of_record-node.ensures (high_weighs c.requires products_are c.loop-k.k (omega arith) (c.shares_by_position-shares.ensures.high ∙ ap high_shares (table-variables _))) in
    high_arc_lem.weighable

pub arc_weight-requires-in-loop-k : goal.arc_weight-requires-in-loop-k
arc_weight-requires-in-loop-k c =
    let products_are : c.products-products.result ≡ products (table_in c.args.table.now).variables = c.products-products.ensures ∙ ap products (table-variables _) in
    let low_arc_lem : let t = c.args.table.now in Weighs c.products-products.result c.shares_by_position-shares.result.low t.positions t.low c.of_record-node.result.0 (low_arc (table_in t) c.loop-k.k) = rw c.of_record-node.ensures (low_weighs c.requires products_are c.loop-k.k (omega arith) (c.shares_by_position-shares.ensures.low ∙ ap low_shares (table-variables _))) in
    low_arc_lem.weighable

pub loop-k-preserved : goal.loop-k-preserved
loop-k-preserved c =
    let products_are : c.products-products.result ≡ products (table_in c.args.table.now).variables = c.products-products.ensures ∙ ap products (table-variables _) in
    let high_arc_lem : let t = c.args.table.now in Weighs c.products-products.result c.shares_by_position-shares.result.high t.positions t.high c.of_record-node.result.0 (high_arc (table_in t) c.loop-k.k) = rw c.of_record-node.ensures (high_weighs c.requires products_are c.loop-k.k (omega arith) (c.shares_by_position-shares.ensures.high ∙ ap high_shares (table-variables _))) in
    let low_arc_lem : let t = c.args.table.now in Weighs c.products-products.result c.shares_by_position-shares.result.low t.positions t.low c.of_record-node.result.0 (low_arc (table_in t) c.loop-k.k) = rw c.of_record-node.ensures (low_weighs c.requires products_are c.loop-k.k (omega arith) (c.shares_by_position-shares.ensures.low ∙ ap low_shares (table-variables _))) in
    arcs-next _ _ _ c.loop-k.invariant (c.arc_weight.ensures ∙ high_arc_lem.weight) (c.arc_weight-in-loop-k.ensures ∙ low_arc_lem.weight)

pub root_weights-weights-requires : goal.root_weights-weights-requires
root_weights-weights-requires c =
    let products_are : c.products-products.result ≡ products (table_in c.args.table.now).variables = c.products-products.ensures ∙ ap products (table-variables _) in
    let sound = c.requires in
    record { few = omega (arith, roots_in_lem c.args.table.now, sound.valid.roots); weighable = root_weighable sound products_are }

pub returns : goal.returns
returns c =
    let products_are : c.products-products.result ≡ products (table_in c.args.table.now).variables = c.products-products.ensures ∙ ap products (table-variables _) in
    let e : c.loop-k.k ≡ c.args.table.now.records = omega arith in
    record { arcs = rw e at c.loop-k.invariant; roots = roots_are c.requires products_are c.root_weights-weights.ensures }
