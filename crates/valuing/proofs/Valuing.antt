-- What the arrays hold while a plan is valued, and what its value gives the passes after it.
-- Assumes that the table is accepted (`Sound`) and the plan legal.
use Prim.Native.Nat.{ℕ}
use mathlib.Core.Path.{◌≡◌, refl, ◌∙◌}
use mathlib.Core.List.{List}
use lib.ListN.{replicate}
use Rattle.diagram.specs.Plans.{open_taken}
use Rattle.decoding.specs.declared.table.Decoded.{Decoded}
use Rattle.decoding.specs.Decoding.{table_in, variables_in, Sound}
use Rattle.arrays.specs.Arrays.{over}
use Rattle.weighing.specs.declared.roots.Roots.{Roots}
use Rattle.weighing.specs.Weights.{table_arcs, roots_of}
use Rattle.weighing.proofs.Arcing.{table-variables}
use Rattle.weighing.proofs.HeldRoots.{RootsHeld, roots-held}
use Rattle.valuing.specs.Passes.{marks_by_position, taken_marks, arcs_in_force, plan_arcs, arcs_of, pass_up, Marked}
use Rattle.valuing.specs.Valued.{Legal, Valued, node_values}
use Rattle.valuing.specs.declared.bound.PlanValue.{PlanValue}
use Rattle.valuing.proofs.Forcing.{taken-marks}
use Rattle.valuing.proofs.Passing.{in_force-is, passed_values}
use Rattle.valuing.proofs.Bounding.{marked}

-- the table is laid out and the marks are read
pub record TableMarked (d : Decoded) (p ws ms : List ℕ) (rs : Roots) : Type 0 where
  pub arcs : ws ≡ table_arcs (table_in d) d.records (replicate 544 0)
  pub marks : ms ≡ marks_by_position (table_in d).variables p
  pub marked : Marked (table_in d) p d.records d.positions d.high d.low ws ms
  pub roots : RootsHeld (table_in d) rs

pub table-marked : {d : Decoded} {p ws ms : List ℕ} {rs : Roots} → Sound d → Legal d p → ws ≡ table_arcs (table_in d) d.records (replicate 544 0) → ms ≡ marks_by_position (variables_in d.words d.variables) p → rs ≡ roots_of (table_in d) → TableMarked d p ws ms rs
table-marked {d} {p} {ws} {ms} sound legal arcs read roots =
    let marks : ms ≡ marks_by_position (table_in d).variables p = read ∙ rw (table-variables d) refl in
    record { arcs = arcs; marks = marks; marked = marked sound p legal.0 legal.1 arcs marks; roots = roots-held sound.valid roots }

module _ {d : Decoded} {p ws ms : List ℕ} {rs : Roots} (at : TableMarked d p ws ms rs) where
  -- the weights of the arcs in force
  pub forced : {us fs : List ℕ} → us ≡ taken_marks ms → fs ≡ arcs_in_force d.positions us ws d.records (replicate 544 0) → fs ≡ plan_arcs (table_in d) (open_taken p) d.records (replicate 544 0)
  forced eus efs =
      efs ∙ in_force-is at.marked (eus ∙ taken-marks (table_in d).variables p at.marked.plan at.marks) (replicate 544 0)

  -- the values of the nodes
  pub passed : {fs vs : List ℕ} → fs ≡ plan_arcs (table_in d) (open_taken p) d.records (replicate 544 0) → vs ≡ over (pass_up (arcs_of d.high d.low fs) d.records) (replicate 256 0) → vs ≡ node_values (table_in d) (open_taken p) d.records (replicate 256 0)
  passed efs evs = evs ∙ rw (passed_values at.marked efs) refl

-- a plan's value holds the table, the plan and the roots
pub record ValueHeld (d : Decoded) (p : List ℕ) (r : PlanValue) : Type 0 where
  pub marked : Marked (table_in d) p d.records d.positions d.high d.low r.arcs r.marks
  pub roots : RootsHeld (table_in d) r.roots

pub value-held : {d : Decoded} {p : List ℕ} {r : PlanValue} → Sound d → Legal d p → Valued d p r → ValueHeld d p r
value-held {d} {p} sound legal valued =
    record { marked = marked sound p legal.0 legal.1 valued.arcs valued.marks; roots = roots-held sound.valid valued.roots }
