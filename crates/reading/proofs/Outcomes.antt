-- What reading answers after the checks 11 to 17, 26 and 27 and after all, and what it hands out.
-- Assumes nothing.
use Prim.Native.Nat.{ℕ}
use native.Mathlib.Omega.{arith}
use mathlib.Core.Path.{◌≡◌, refl, ap, sym, ◌∙◌}
use mathlib.Core.Option.{none, some}
use mathlib.Core.List.{List, []}
use Rattle.std.specs.Prelude.{Result, Ok, Err}
use Rattle.diagram.specs.Checks.{heading_fault, choice_fault, record_fault, root_fault, monotone_fault, monotone_checks, table_checks}
use Rattle.diagram.specs.Table.{table_of, variable_count, record_count, choice_count, scale}
use Rattle.diagram.specs.Services.{Outcome, refused, answered, checked, reading, read_outcome, Reading}
use Rattle.diagram.proofs.Checked.{checked-passes, checked_stops, checked_end, first, later, Passed, read_passed, read-reading}
use Rattle.terms.specs.declared.refusal.Refusal.{Refusal}
use Rattle.terms.specs.Numbers.{reason_number}
use Rattle.steps.specs.Steps.{outcome_by, measuring}
use Rattle.steps.proofs.Stepping.{refused_as, answered_as, part-value, part_passes, part_stops, part_leaves}
use Rattle.checking.specs.Limited.{file_scale}
use Rattle.decoding.specs.declared.table.Decoded.{Decoded}
use Rattle.decoding.specs.Decoding.{table_in, Held, Sound}
use Rattle.decoding.proofs.Choosing.{variables-length}
use Rattle.decoding.proofs.Shape.{heading-variables, heading-records, records-length, shaped-formed}
use Rattle.decoding.proofs.Standing.{variables_in_lem, records_in_lem}
use Rattle.implication.specs.Nodes.{Checkable}
use Rattle.reading.specs.Answer.{numbers_in, Reads, shape_checks}

-- the four numbers of an accepted file
pub summary_is : (s : List ℕ) {v n c x : ℕ} → v ≡ variable_count s → n ≡ record_count s → c ≡ choice_count (table_of s).variables → x ≡ scale (table_of s) → answered (record { variables = v; records = n; choices = c; scale = x }) ≡ answered (reading s)
unfolding reading
summary_is s ev en ec ex = rw (ev, en, ec, ex)

-- ---------------------------------------------------------------------------
-- Reading after the checks 11 to 17, 26 and 27

-- The checks 12, 15, 17 and 26 have found nothing
pub record Shown (s : List ℕ) : Type 0 where
  pub heading : heading_fault s ≡ none
  pub choices : choice_fault s ≡ none
  pub records : record_fault s ≡ none
  pub roots : root_fault s ≡ none

module _ (s : List ℕ) {p : Result ℕ Refusal} (promise : outcome_by (λ x. x) p ≡ measuring shape_checks s (file_scale s)) where
  -- a file that they refuse is refused
  pub shape_refuses : (r : Refusal) → p ≡ Err r → refused (reason_number r.reason) r.place ≡ read_outcome s
  unfolding read_outcome table_checks
  shape_refuses = part_stops (λ x. x) shape_checks (file_scale s) s promise monotone_checks (λ file. answered (reading file))

  module _ (x : ℕ) (e : p ≡ Ok x) where
    -- B of a file that they let through
    pub shape-scale : x ≡ scale (table_of s)
    shape-scale = part-value (λ x. x) shape_checks (file_scale s) s promise x e

    -- what they have shown of it
    pub shape_shown : Shown s
    shape_shown =
        let passed = part_passes (λ x. x) shape_checks (file_scale s) s promise x e in
        record {
          heading = passed 12 heading_fault (search (first, later) depth 20);
          choices = passed 15 choice_fault (search (first, later) depth 20);
          records = passed 17 record_fault (search (first, later) depth 20);
          roots = passed 26 root_fault (search (first, later) depth 20);
        }

    -- check 18 is left
    check_18 : checked monotone_checks (λ file. answered (reading file)) s ≡ read_outcome s
    unfolding read_outcome table_checks
    check_18 = part_leaves (λ x. x) shape_checks (file_scale s) s promise monotone_checks (λ file. answered (reading file)) x e

    pub stops_18 : (i : ℕ) → monotone_fault s ≡ some i → refused 18 i ≡ read_outcome s
    stops_18 i q = sym (checked_stops _ [] _ s i q) ∙ check_18

    pub past_18 : monotone_fault s ≡ none → answered (reading s) ≡ read_outcome s
    past_18 q = sym (checked-passes _ [] _ s q ∙ checked_end _ s) ∙ check_18

-- ---------------------------------------------------------------------------
-- What a result that stands for reading's outcome tells its callers, by the numbers that its value stands for

module _ {T : Type 0} (f : T → Reading) (s : List ℕ) {r : Result T Refusal} (promise : outcome_by f r ≡ read_outcome s) where
  pub refused-read : (x : Refusal) → r ≡ Err x → read_outcome s ≡ refused (reason_number x.reason) x.place
  refused-read = refused_as f promise

  module _ (t : T) (e : r ≡ Ok t) where
    pub table-reading : f t ≡ reading s
    table-reading = read-reading s _ (answered_as f promise t e)

    pub table-read : read_outcome s ≡ answered (reading s)
    table-read = answered_as f promise t e ∙ ap answered table-reading

    pub table_passed : Passed s
    table_passed = read_passed s _ table-read

    pub table-choices : (f t).choices ≡ choice_count (table_of s).variables
    unfolding reading
    table-choices = ap (λ (x : Reading). x.choices) table-reading

-- ---------------------------------------------------------------------------
-- What `read_table` hands out

module _ (s : List ℕ) {o : Outcome Reading} where
  pub reads-refused : (r : Refusal) → refused (reason_number r.reason) r.place ≡ o → Reads s o (Err r)
  unfolding outcome_by
  reads-refused r q =
      record {
        outcome = q;
        accepted = λ d f. let z : ◌≡◌ {A = ℕ} 0 1 = cc in absurd (omega arith);
      }

  pub reads-accepted : (d : Decoded) → table_in d ≡ table_of s → Sound d → answered (numbers_in d) ≡ o → Reads s o (Ok d)
  unfolding outcome_by
  reads-accepted d stands sound q =
      record {
        outcome = q;
        accepted = λ d' f. let same : d' ≡ d = cc in rw same (stands, sound);
      }

module _ (s : List ℕ) (d : Decoded) (stands : table_in d ≡ table_of s) where
  pub variables_decoded : d.variables ≡ variable_count s
  variables_decoded = sym (variables_in_lem d) ∙ rw stands (variables-length s)

  pub records_decoded : d.records ≡ record_count s
  records_decoded = sym (records_in_lem d) ∙ rw stands (records-length s)

  pub numbers_decoded : Held d → numbers_in d ≡ reading s
  unfolding reading
  numbers_decoded held =
      let choices : d.choices ≡ choice_count (table_of s).variables = held.choices ∙ rw stands refl in
      let scaled : d.scale ≡ scale (table_of s) = held.scaled ∙ ap scale stands in
      rw (variables_decoded, records_decoded, choices, scaled) refl

  -- check 18 can be made
  pub shown_checkable : Held d → Shown s → Checkable d
  shown_checkable held h =
      record {
        held = held;
        formed = rw (stands, variables_decoded) (shaped-formed s (record { heading = h.heading; records = h.records }));
        few = omega (arith, variables_decoded, heading-variables s h.heading);
        most = omega (arith, records_decoded, heading-records s h.heading);
      }
