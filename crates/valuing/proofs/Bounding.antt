-- From a decoded table to the arrays of a pass: they hold the table and the plan, and no bound is above 2^56.
-- Assumes of the decoded table that it is accepted (`Sound`).
use Prim.Native.Nat.{ℕ, ◌≤◌, ◌^◌}
use native.Mathlib.Omega.{arith}
use mathlib.Core.Path.{◌≡◌, refl, sym}
use mathlib.Core.List.{List}
use lib.ListN.{length, get_or, replicate}
use Rattle.diagram.specs.Table.{Table, choice_count}
use Rattle.diagram.specs.Plans.{open_taken, upper_bound}
use Rattle.diagram.proofs.FirstVariable.{score-le-scale}
use Rattle.decoding.specs.declared.table.Decoded.{Decoded}
use Rattle.decoding.specs.Decoding.{table_in, Valid, Sound}
use Rattle.decoding.proofs.Standing.{variables_in_lem, records_in_lem}
use Rattle.weighing.specs.Weights.{table_arcs}
use Rattle.weighing.proofs.ByArc.{arcs-high, arcs-low}
use Rattle.valuing.specs.Passes.{marks_by_position, Marked}

module _ {d : Decoded} (sound : Sound d) where
  -- the arrays hold the table and the plan
  pub marked : {ws ms : List ℕ} (p : List ℕ) → length p ≡ choice_count (table_in d).variables → ((i : ℕ) → get_or p i 0 ≤ 2) → ws ≡ table_arcs (table_in d) d.records (replicate 544 0) → ms ≡ marks_by_position (table_in d).variables p → Marked (table_in d) p d.records d.positions d.high d.low ws ms
  marked p long legal ews ems =
      let variables = sound.valid.variables in
      let records = sound.valid.records in
      let few : d.records ≤ 254 = omega (arith, records_in_lem d) in
      record {
        formed = sound.valid.formed;
        shares = sound.valid.shares;
        bounded = sound.valid.product;
        scaled = sound.valid.scaled;
        few = omega arith;
        size = (sym (records_in_lem d), few);
        positions = rw (variables_in_lem d) sound.held.positions;
        high = sound.held.high;
        low = sound.held.low;
        high_arcs = λ k l. rw ews (arcs-high _ _ (replicate 544 0) refl d.records k few l);
        low_arcs = λ k l. rw ews (arcs-low _ _ (replicate 544 0) refl d.records k few l);
        marks = ems;
        plan = long;
        legal = legal;
      }

-- a bound fits
pub top-fits : {t : Table} {p : List ℕ} {n : ℕ} {ps hs ls ws ms : List ℕ} → Marked t p n ps hs ls ws ms → upper_bound t p ≤ 2 ^ 56
unfolding upper_bound
top-fits {t} {p} m = omega (arith, score-le-scale t m.shares (open_taken p), m.scaled)

pub bound-fits : {t : Table} → Valid t → (p : List ℕ) → upper_bound t p ≤ 2 ^ 56
unfolding upper_bound
bound-fits {t} valid p = omega (arith, score-le-scale t valid.shares (open_taken p), valid.scaled)
