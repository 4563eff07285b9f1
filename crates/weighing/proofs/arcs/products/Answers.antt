use Rattle.std.proofs.Common.{◌+◌, ◌-◌, ◌*◌, ◌≡◌, arith, get_or}
use Rattle.decoding.specs.Decoding.{variables_in}
use Rattle.weighing.specs.Weights.{products}
use Rattle.weighing.proofs.Arcing.{from_start, from_next, from_all, suffix, suffix_past, suffix_down, suffix-fits, held-length}
use Rattle.weighing.proofs.arcs.products.Goals as goal

pub loop-p-init : goal.loop-p-init
loop-p-init c =
    let a = c.args in
    let long = held-length a.words.now a.v in
    from_start _ 1 (λ x l. suffix_past (variables_in a.words.now a.v) x (omega (arith, long)))

pub overflow_mul-products : goal.overflow_mul-products
overflow_mul-products c =
    let a = c.args in
    let p = c.loop-p.p in
    let read : get_or c.loop-p.products (p - 1 + 1) 0 * c.scale_of.result ≡ suffix (variables_in a.words.now a.v) (p - 1) =
    suffix_down a.words.now a.v (p - 1) (omega arith) (c.loop-p.invariant.at (p - 1 + 1) (omega arith) (omega arith)) c.scale_of.ensures in
    rw read (omega (arith, suffix-fits c.requires.1 c.requires.2 (p - 1)))

pub loop-p-preserved : goal.loop-p-preserved
loop-p-preserved c =
    let a = c.args in
    let p = c.loop-p.p in
    from_next _ c.loop-p.invariant (omega arith) (omega arith) (suffix_down a.words.now a.v (p - 1) (omega arith) (c.loop-p.invariant.at (p - 1 + 1) (omega arith) (omega arith)) c.scale_of.ensures)

pub returns : goal.returns
unfolding products
returns c =
    let e : c.loop-p.p ≡ 0 = omega arith in
    from_all (rw e at c.loop-p.invariant)
