-- `inflow` meets its contract. The loop's invariant: w is what the arcs so far bring, and those left are pairs. It fits because what all arcs bring fits.
-- Assumes nothing.
use Prim.Native.Nat.{ℕ, ◌+◌, ◌-◌, ◌≤◌}
use mathlib.Core.Path.{◌≡◌}
use Rattle.layers.specs.Layers.{flow_sum}
use Rattle.layers.proofs.arcs.LaidArcs.inflow.Given as goal

abbrev pub invariant-loop-j : goal.invariant-loop-j
invariant-loop-j l =
    (l.from ≤ l.j)
    × ((m : ℕ) × (l.to ≡ l.j + m + m))
    × (l.w ≡ flow_sum l.self.sources l.self.arcs l.cells l.from (l.j - l.from))
