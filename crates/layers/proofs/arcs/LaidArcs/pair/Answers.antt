-- `pair` meets its contract: two cells are read, and their products are the definition's. Assumes nothing.
use native.Mathlib.Omega.{arith}
use mathlib.Core.Path.{refl}
use Rattle.layers.proofs.Walking.{flow_two}
use Rattle.layers.proofs.arcs.LaidArcs.pair.Goals as goal

pub overflow_mul-result : goal.overflow_mul-result
overflow_mul-result c =
    let fits = rw flow_two at c.requires.2 in
    rw c.from-a.ensures (omega (arith, fits))

pub overflow_mul-result-2 : goal.overflow_mul-result-2
overflow_mul-result-2 c =
    let fits = rw flow_two at c.requires.2 in
    rw c.from-b.ensures (omega (arith, fits))

pub overflow_add-result-2 : goal.overflow_add-result-2
overflow_add-result-2 c =
    let fits = rw flow_two at c.requires.2 in
    rw (c.from-a.ensures, c.from-b.ensures) (omega (arith, fits))

pub returns : goal.returns
returns c = rw (c.from-a.ensures, c.from-b.ensures, flow_two) refl
