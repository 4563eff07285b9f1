-- `pass_down` meets its contract. The loop's invariant: passing down the first k records from the weights as they are gives what passing down all gives
-- from the weights at the start, and they are within the budget of k records. Assumes nothing.
use Rattle.std.proofs.Common.{ℕ, ◌≡◌, length}
use Rattle.valuing.specs.Passes.{arcs_of}
use Rattle.derivatives.specs.Down.{pass_down, Budget}
use Rattle.derivatives.proofs.down.pass_down.Given as goal

abbrev pub invariant-loop-k : goal.invariant-loop-k
invariant-loop-k l =
    (length l.paths ≡ 256) ×
    (pass_down (arcs_of l.high l.low l.weights) l.k l.paths ≡ pass_down (arcs_of l.high l.low l.weights) l.n l.initial.paths) ×
    ((scales : ℕ → ℕ) → Budget (arcs_of l.high l.low l.weights) l.n scales l.initial.paths → Budget (arcs_of l.high l.low l.weights) l.k scales l.paths)
