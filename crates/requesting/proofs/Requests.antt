-- How the checks that the services share decide a request, what is known of a request that none of them turns away, and how the outcome of each service
-- follows from theirs.
-- Assumes nothing.
use Prim.Native.Nat.{ℕ, ◌≤◌}
use native.Mathlib.Omega.{arith}
use mathlib.Core.Path.{◌≡◌, refl, ap, sym, ◌∙◌}
use mathlib.Core.Bool.{Bool, true, false}
use mathlib.Core.Option.{Option, none, some}
use mathlib.Core.List.{List, [], ◌∷◌, ◌++◌}
use lib.ListN.{length}
use borrow.Author.Tests.{le-ltb, eq-eqb, eqb-true, ltb-false}
use Rattle.diagram.specs.Table.{table_of, choice_count, scale}
use Rattle.diagram.specs.Checks.{Check, place_zero, plan_length_fault, plan_mark_fault, full_plan_fault, percent_fault, budget_fault, buffer_fault, table_checks, full_plan_checks, plan_checks, percent_checks, buffer_checks, score_checks, sweep_checks, filter_checks, search_checks}
use Rattle.diagram.specs.Services.{Outcome, refused, answered, checked, Reading, reading, read_outcome, score_outcome, sweep_outcome, filtering, filter_outcome, searching, search_outcome}
use Rattle.diagram.specs.Score.{score}
use Rattle.diagram.specs.Plans.{upper_bound, derivatives}
use Rattle.std.specs.Prelude.{Result, Ok, Err}
use Rattle.terms.specs.declared.refusal.Refusal.{Refusal}
use Rattle.terms.specs.Numbers.{reason_number}
use Rattle.diagram.proofs.Checked.{answered_not_refused, checked-passes, checked_stops, checked_end, checked-answered, checked_refused, read-refuses, read-answers, passed_among, Among, Passed, read_passed, read-reading, first, later}
use Rattle.steps.specs.Steps.{outcome_by, finding}
use Rattle.steps.proofs.Stepping.{refused_as, answered_as, part_passes, request_passes, request_stops}
use Rattle.decoding.specs.declared.table.Decoded.{Decoded}
use Rattle.decoding.proofs.Shape.{none_passes}
use Rattle.reading.specs.Answer.{numbers_in, Reads}
use Rattle.reading.proofs.Outcomes.{table-read}
use Rattle.requesting.specs.Request.{request_checks, request_outcome}
use Rattle.requesting.proofs.FullPlans.{Legal, legal-marks, full_closed, open_taken-same}

-- ---------------------------------------------------------------------------
-- The checks 21 and 23 to 25

pub length-fits : (p s : List ℕ) → length p ≡ choice_count (table_of s).variables → plan_length_fault p s ≡ none
unfolding plan_length_fault place_zero
length-fits p s e = rw (eq-eqb _ _ e) refl

module _ (s : List ℕ) where
  percent-within : (percent : ℕ) → percent ≤ 100 → percent_fault percent s ≡ none
  unfolding percent_fault place_zero
  percent-within percent h = rw (le-ltb 100 percent h) refl

  budget-within : (budget : ℕ) → budget ≤ 10020 → budget_fault budget s ≡ none
  unfolding budget_fault place_zero
  budget-within budget h = rw (le-ltb 10020 budget h) refl

  buffer_fits : (size : ℕ) → size ≡ choice_count (table_of s).variables → buffer_fault size s ≡ none
  unfolding buffer_fault place_zero
  buffer_fits size e = rw (eq-eqb _ _ e) refl

none_false : (b : Bool) → place_zero b ≡ none → b ≡ false
unfolding place_zero
none_false false h = refl
none_false true h =
    let z : ◌≡◌ {A = ℕ} 0 1 = cc in
    absurd (omega arith)

-- ---------------------------------------------------------------------------
-- The steps of a request, and a request that no check turns away

pub record Proper (s p : List ℕ) (budget percent size : ℕ) : Type 0 where
  pub read : read_outcome s ≡ answered (reading s)
  pub passed : Passed s
  pub long : length p ≡ choice_count (table_of s).variables
  pub legal : Legal p
  pub percents : percent ≤ 100
  pub budgets : budget ≤ 10020
  pub sized : size ≡ choice_count (table_of s).variables

module _ (s p : List ℕ) (budget percent size : ℕ) where
  pub request_refused : (n i : ℕ) → read_outcome s ≡ refused n i → refused n i ≡ request_outcome s p budget percent size
  unfolding request_outcome search_checks
  request_refused n i e = sym (read-refuses s _ _ n i e)

  -- by what is found of what comes with a file that reading answers
  module _ (read : read_outcome s ≡ answered (reading s)) {v : Result Unit Refusal} (promise : outcome_by (λ _. tt) v ≡ finding (request_checks p budget percent size) s) where
    pub request_found : (x : Unit) → v ≡ Ok x → answered (reading s) ≡ request_outcome s p budget percent size
    unfolding request_outcome search_checks
    request_found x e = sym (request_passes s (request_checks p budget percent size) _ _ read promise x e)

    pub request_turned : (r : Refusal) → v ≡ Err r → refused (reason_number r.reason) r.place ≡ request_outcome s p budget percent size
    unfolding request_outcome search_checks
    request_turned r e = sym (request_stops s (request_checks p budget percent size) _ _ read promise r e)

  pub request_accepted : read_outcome s ≡ answered (reading s) → length p ≡ choice_count (table_of s).variables → plan_mark_fault p [] ≡ none → percent ≤ 100 → budget ≤ 10020 → size ≡ choice_count (table_of s).variables → answered (reading s) ≡ request_outcome s p budget percent size
  unfolding request_outcome search_checks plan_mark_fault
  request_accepted read long marks percents budgets sized =
      sym (read-answers s (request_checks p budget percent size) _ _ read
      ∙ checked-passes _ _ _ s (length-fits p s long)
      ∙ checked-passes _ _ _ s marks
      ∙ checked-passes _ _ _ s (percent-within s percent percents)
      ∙ checked-passes _ _ _ s (budget-within s budget budgets)
      ∙ checked-passes _ _ _ s (buffer_fits s size sized)
      ∙ checked_end _ s)

  module _ (r : Reading) (e : request_outcome s p budget percent size ≡ answered r) where
    is_read : read_outcome s ≡ answered (reading s)
    is_read = go (read_outcome s) refl
      where
        go : (o : Outcome Reading) → read_outcome s ≡ o → read_outcome s ≡ answered (reading s)
        go (refused n i) q = absurd (answered_not_refused r n i (sym e ∙ sym (request_refused n i q)))
        go (answered a) q = q ∙ ap answered (read-reading s a q)

    passed : (number : ℕ) (fault : List ℕ → Option ℕ) → Among (record { number = number; fault = fault }) (search_checks p budget percent size) → fault s ≡ none
    unfolding request_outcome
    passed = passed_among s r e

    is-long : length p ≡ choice_count (table_of s).variables
    unfolding plan_length_fault search_checks table_checks
    is-long = eqb-true _ _ (none_passes _ (passed 21 (plan_length_fault p) (search (first, later) depth 20)))

    has_marks : plan_mark_fault p s ≡ none
    unfolding search_checks table_checks
    has_marks = passed 22 (plan_mark_fault p) (search (first, later) depth 20)

    percent-small : percent ≤ 100
    unfolding percent_fault search_checks table_checks
    percent-small = ltb-false 100 percent (none_false _ (passed 23 (percent_fault percent) (search (first, later) depth 20)))

    budget-small : budget ≤ 10020
    unfolding budget_fault search_checks table_checks
    budget-small = ltb-false 10020 budget (none_false _ (passed 24 (budget_fault budget) (search (first, later) depth 20)))

    is-sized : size ≡ choice_count (table_of s).variables
    unfolding buffer_fault search_checks table_checks
    is-sized = eqb-true _ _ (none_passes _ (passed 25 (buffer_fault size) (search (first, later) depth 20)))

    pub proper : Proper s p budget percent size
    proper =
        record {
          read = is_read;
          passed = read_passed s _ is_read;
          long = is-long;
          legal = legal-marks p s has_marks;
          percents = percent-small;
          budgets = budget-small;
          sized = is-sized;
        }

    pub request_reading : r ≡ reading s
    unfolding request_outcome
    request_reading =
        let q = checked-answered s (search_checks p budget percent size) reading r (λ file. answered (reading file)) e in
        cc

-- ---------------------------------------------------------------------------
-- What the answers of `read_table` and `accept` tell

-- what `read_table` hands out is handed out for a request that passes
pub reads-found : (s p : List ℕ) (budget percent size : ℕ) (d : Decoded) → Reads s (read_outcome s) (Ok d) → {v : Result Unit Refusal} → outcome_by (λ _. tt) v ≡ finding (request_checks p budget percent size) s → (x : Unit) → v ≡ Ok x → Reads s (request_outcome s p budget percent size) (Ok d)
reads-found s p budget percent size d read promise x e =
    let answered-read = table-read numbers_in s read.outcome d refl in
    record {
      outcome = read.outcome ∙ answered-read ∙ request_found s p budget percent size answered-read promise x e;
      accepted = read.accepted;
    }

module _ (s p : List ℕ) (budget percent size : ℕ) {r : Result Decoded Refusal} (promise : outcome_by numbers_in r ≡ request_outcome s p budget percent size) where
  pub refused_request : (x : Refusal) → r ≡ Err x → request_outcome s p budget percent size ≡ refused (reason_number x.reason) x.place
  refused_request = refused_as numbers_in promise

  module _ (d : Decoded) (e : r ≡ Ok d) where
    pub accepted_request : request_outcome s p budget percent size ≡ answered (numbers_in d)
    accepted_request = answered_as numbers_in promise d e

    pub accepted_proper : Proper s p budget percent size
    accepted_proper = proper s p budget percent size (numbers_in d) accepted_request

    pub accepted-scale : d.scale ≡ scale (table_of s)
    unfolding reading
    accepted-scale = ap (λ (x : Reading). x.scale) (request_reading s p budget percent size (numbers_in d) accepted_request)

-- ---------------------------------------------------------------------------
-- From a request's outcome to a service's

-- a check that passes may be left out
left_out : {A : Type 0} (s : List ℕ) (cs : List Check) (c : Check) (ds : List Check) (answer : List ℕ → Outcome A) → c.fault s ≡ none → checked (cs ++ c ∷ ds) answer s ≡ checked (cs ++ ds) answer s
left_out s [] c ds answer e = checked-passes c ds answer s e
left_out s (b ∷ cs) c ds answer e = go (b.fault s) refl (left_out s cs c ds answer e)
  where
    go : (o : Option ℕ) → b.fault s ≡ o → checked (cs ++ c ∷ ds) answer s ≡ checked (cs ++ ds) answer s → checked (b ∷ cs ++ c ∷ ds) answer s ≡ checked (b ∷ cs ++ ds) answer s
    go none q rest = checked-passes b (cs ++ c ∷ ds) answer s q ∙ rest ∙ sym (checked-passes b (cs ++ ds) answer s q)
    go (some i) q rest = checked_stops b (cs ++ c ∷ ds) answer s i q ∙ sym (checked_stops b (cs ++ ds) answer s i q)

module _ {A : Type 0} (s p : List ℕ) (size : ℕ) (answer : List ℕ → Outcome A) where
  -- with no kits, check 24 passes
  filter_checks_lem : (percent : ℕ) → checked (search_checks p 0 percent size) answer s ≡ checked (filter_checks p percent size) answer s
  unfolding search_checks filter_checks table_checks
  filter_checks_lem percent =
      left_out s (table_checks ++ plan_checks p ++ percent_checks percent) (record { number = 24; fault = budget_fault 0 }) (buffer_checks size)
      answer
      (budget-within s 0 (omega arith))

  -- with no percent, check 23 passes
  sweep_checks_lem : checked (search_checks p 0 0 size) answer s ≡ checked (sweep_checks p size) answer s
  unfolding filter_checks sweep_checks table_checks
  sweep_checks_lem =
      filter_checks_lem 0
      ∙ left_out s (table_checks ++ plan_checks p) (record { number = 23; fault = percent_fault 0 }) (buffer_checks size)
      answer
      (percent-within s 0 (omega arith))

module _ (s p : List ℕ) (size : ℕ) where
  pub sweep_refused : (n i : ℕ) → request_outcome s p 0 0 size ≡ refused n i → sweep_outcome s p size ≡ refused n i
  unfolding request_outcome sweep_outcome
  sweep_refused n i e = sym (sweep_checks_lem s p size _) ∙ checked_refused s _ reading n i _ e

  pub sweep_answered : (r : Reading) → request_outcome s p 0 0 size ≡ answered r → sweep_outcome s p size ≡ answered (record { upper_bound = upper_bound (table_of s) p; derivatives = derivatives (table_of s) p })
  unfolding request_outcome sweep_outcome
  sweep_answered r e = sym (sweep_checks_lem s p size _) ∙ checked-answered s _ reading r _ e

  module _ (percent : ℕ) where
    pub filter-refused : (n i : ℕ) → request_outcome s p 0 percent size ≡ refused n i → filter_outcome s p percent size ≡ refused n i
    unfolding request_outcome filter_outcome
    filter-refused n i e = sym (filter_checks_lem s p size _ percent) ∙ checked_refused s _ reading n i _ e

    pub filter-answered : (r : Reading) → request_outcome s p 0 percent size ≡ answered r → filter_outcome s p percent size ≡ filtering (table_of s) percent p
    unfolding request_outcome filter_outcome
    filter-answered r e = sym (filter_checks_lem s p size _ percent) ∙ checked-answered s _ reading r _ e

    module _ (budget : ℕ) where
      pub search_refused : (n i : ℕ) → request_outcome s p budget percent size ≡ refused n i → search_outcome s p budget percent size ≡ refused n i
      unfolding request_outcome search_outcome
      search_refused n i e = checked_refused s _ reading n i _ e

      pub search_answered : (r : Reading) → request_outcome s p budget percent size ≡ answered r → search_outcome s p budget percent size ≡ searching (table_of s) budget percent p
      unfolding request_outcome search_outcome
      search_answered r e = checked-answered s _ reading r _ e

-- ---------------------------------------------------------------------------
-- The score

module _ (s p : List ℕ) where
  pub score-refused : (n i : ℕ) → read_outcome s ≡ refused n i → refused n i ≡ score_outcome s p
  unfolding score_outcome score_checks
  score-refused n i e = sym (read-refuses s _ _ n i e)

  -- by what is found of the plan
  module _ {v : Result Unit Refusal} (promise : outcome_by (λ _. tt) v ≡ finding (full_plan_checks p) s) where
    pub score_turned : read_outcome s ≡ answered (reading s) → (r : Refusal) → v ≡ Err r → refused (reason_number r.reason) r.place ≡ score_outcome s p
    unfolding score_outcome score_checks
    score_turned read r e = sym (request_stops s (full_plan_checks p) _ _ read promise r e)

    module _ (t : Unit) (e : v ≡ Ok t) where
      pub plan-long : length p ≡ choice_count (table_of s).variables
      unfolding plan_length_fault
      plan-long = eqb-true _ _ (none_passes _ (part_passes (λ _. tt) (full_plan_checks p) tt s promise t e 21 (plan_length_fault p) first))

      pub plan_full : full_plan_fault p s ≡ none
      plan_full = part_passes (λ _. tt) (full_plan_checks p) tt s promise t e 22 (full_plan_fault p) (search (first, later) depth 20)

      pub score-answered : read_outcome s ≡ answered (reading s) → (x : ℕ) → x ≡ upper_bound (table_of s) p → answered x ≡ score_outcome s p
      unfolding score_outcome score_checks upper_bound
      score-answered read x h =
          let same = open_taken-same p (full_closed p s plan_full) in
          let is : x ≡ score (table_of s) p = h ∙ rw same in
          ap answered is ∙ sym (request_passes s (full_plan_checks p) _ _ read promise t e)
