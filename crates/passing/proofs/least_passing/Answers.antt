-- `least_passing` meets its contract: its quotient is the product's hundredth rounded up. Assumes nothing.
use Rattle.std.proofs.Common.{arith, ℕ, ◌*◌, ap}
use Rattle.std.proofs.lemmas.Grind.{div_ceil_times}
use Rattle.diagram.proofs.LeastPassing.{least-passing}
use Rattle.passing.proofs.least_passing.Goals as goal

pub returns : goal.returns
returns c = λ t e.
    let product = ap (λ (x : ℕ). c.args.percent * x) e in
    let rounded = div_ceil_times (c.args.percent * c.args.scale) 100 (omega arith) in
    least-passing t c.args.percent _ (omega (arith, product, rounded)) (omega (arith, product, rounded))
