-- Demand 3: what `sweep` and `filter` promise is what the briefing demands of them.
-- Assumes nothing.
use Prim.Native.Nat.{ℕ, zero, suc, ◌+◌, ◌≤◌, ◌<◌}
use native.Mathlib.Nat.{zero-add}
use native.Mathlib.Omega.{arith}
use mathlib.Core.Path.{◌≡◌, refl, ap, sym, ◌∙◌}
use mathlib.Core.Bool.{Bool, true, false, cond, ◌&&◌, false≢true}
use mathlib.Core.Logic.{◌↔◌}
use mathlib.Core.Option.{none}
use mathlib.Core.List.{List, []}
use lib.ListN.{length, get_or, set}
use lib.Dec.{eqb, ltb}
use borrow.Author.Tests.{eqb-true, eq-eqb, le-ltb}
use Rattle.diagram.specs.Table.{table_of}
use Rattle.diagram.specs.Score.{score}
use Rattle.diagram.specs.Plans.{completions, open_taken, is_open, upper_bound, derivative, derivatives, none_of, passing, forced, forced_plan, count_of, forced_count}
use Rattle.diagram.specs.Checks.{plan_mark_fault}
use Rattle.diagram.specs.Services.{answered, written, reading, Sweeping, Filtering, sweep_outcome, filtering, filter_outcome, filter_buffer}
use Rattle.terms.specs.declared.refusal.Refusal.{Refusal}
use Rattle.diagram.proofs.Every.{both, and_true_both, both_ways}
use Rattle.diagram.proofs.Places.{sequence-length, sequence-at, no_place}
use Rattle.diagram.proofs.Checked.{Passed, read_passed}
use Rattle.diagram.proofs.Rising.{drop-le-bound}
use Rattle.reading.proofs.Accepted.{passed_formed, passed_monotone}
use Rattle.std.specs.Prelude.{Result, Ok}
use Rattle.terms.specs.declared.refusal.Reason.TheVariants as reason
use Rattle.terms.specs.Numbers.{reason_number}
use Rattle.filtering.specs.Answer.{filter_of}
use Rattle.theorems.specs.Plans.{LegalMarking, Open, NonePasses, NoneLeaves}
use Rattle.theorems.specs.Reasons.{Accepted}
use Rattle.theorems.specs.Demand3.{refused_31, SweepHolds, FilterHolds, Demand3}
use Rattle.requesting.specs.Request.{request_outcome}
use Rattle.requesting.proofs.Requests.{request_accepted, sweep_answered, filter-answered}
use Rattle.theorems.proofs.Answers.{refusal_is, refuses_by, answers_by, ok_not_err}
use Rattle.theorems.proofs.Deciding.{accepted-read}
use Rattle.theorems.proofs.Completing.{open_test, test_open, closed_test, no_way_passes_lem, no_way_leaves}

-- ---------------------------------------------------------------------------
-- The checks

-- marks of at most 2 pass check 22
marks_fit : (p s : List ℕ) → ((i : ℕ) → i < length p → get_or p i 0 ≤ 2) → plan_mark_fault p s ≡ none
unfolding plan_mark_fault
marks_fit p s h = no_place (λ i. ltb 2 (get_or p i 0)) 0 (length p) (λ k l. rw zero-add (le-ltb 2 _ (h k l)))

module _ (s p : List ℕ) (read : Accepted s) (legal : LegalMarking s p) (size : ℕ) (fits : size ≡ length p) where
  -- no check turns such a request away
  pub legal_request : (budget percent : ℕ) → budget ≤ 10020 → percent ≤ 100 → request_outcome s p budget percent size ≡ answered (reading s)
  legal_request budget percent b h =
      sym (request_accepted s p budget percent size (accepted-read s read) legal.size (marks_fit p [] legal.marks) h b (fits ∙ legal.size))

  -- what the sweep answers to a legal marking of an accepted table
  sweep_answers : sweep_outcome s p size ≡ answered (record { upper_bound = upper_bound (table_of s) p; derivatives = derivatives (table_of s) p })
  sweep_answers = sweep_answered s p size _ (legal_request 0 0 (omega arith) (omega arith))

  -- what the filter answers to one, 31 or the forced lines
  filter-answers : (percent : ℕ) → percent ≤ 100 → filter_outcome s p percent size ≡ filtering (table_of s) percent p
  filter-answers percent h = filter-answered s p size percent _ (legal_request 0 percent (omega arith) h)

-- ---------------------------------------------------------------------------
-- The sweep

module _ (s p : List ℕ) where
  -- the drop written for a line
  drop_at : (i : ℕ) → i < length p → get_or (derivatives (table_of s) p) i 0 ≡ derivative (table_of s) p i
  unfolding derivatives
  drop_at i l = sequence-at (derivative (table_of s) p) 0 (length p) i 0 l ∙ rw zero-add

  -- an open line's drop and the score with it left come to the top
  drop_open : Passed s → (i : ℕ) → Open p i → get_or (derivatives (table_of s) p) i 0 + score (table_of s) (open_taken (set p i 2)) ≡ score (table_of s) (open_taken p)
  unfolding upper_bound
  drop_open h i o = rw (drop_at i o.0) (drop-le-bound (table_of s) (passed_formed h) (passed_monotone h) p i (open_test p i o))

  -- the drop of any other line
  drop_other : (i : ℕ) → i < length p → (get_or p i 0 ≡ 0 → ⊥) → get_or (derivatives (table_of s) p) i 0 ≡ 0
  unfolding derivative
  drop_other i l n = drop_at i l ∙ rw (closed_test p i l n) refl

  -- what is demanded of the top and the drops
  sweep_holds : Passed s → SweepHolds s p (Ok (upper_bound (table_of s) p)) (derivatives (table_of s) p)
  unfolding upper_bound derivatives
  sweep_holds h =
      record {
        size = sequence-length (derivative (table_of s) p) 0 (length p);
        top = refl;
        open_line = drop_open h;
        other_line = drop_other;
      }

-- ---------------------------------------------------------------------------
-- The filter

-- two tests that agree below n hold of as many numbers
count_same : (f g : ℕ → Bool) (n : ℕ) → ((i : ℕ) → i < n → f i ≡ g i) → count_of f n ≡ count_of g n
unfolding count_of
count_same f g zero h = refl
count_same f g (suc n) h =
    let rest = count_same f g n (λ i l. h i (omega arith)) in
    let last = h n (omega arith) in
    rw (rest, last)

-- an open mark that is 1 after the filter was forced
cond-one : (b : Bool) (m : ℕ) → m ≡ 0 → cond b 1 m ≡ 1 → b ≡ true
cond-one true m z e = refl
cond-one false m z e = absurd (omega arith)

module _ (s p : List ℕ) (percent : ℕ) where
  -- the test of a forced line, and the plan with forced lines taken
  abbrev is_forced : ℕ → Bool
  is_forced = forced (table_of s) percent p

  abbrev marks : List ℕ
  marks = forced_plan (table_of s) percent p

  -- the mark written for a line
  mark-at : (i : ℕ) → i < length p → get_or marks i 0 ≡ cond (is_forced i) 1 (get_or p i 0)
  unfolding forced_plan
  mark-at i l = sequence-at (λ j. cond (is_forced j) 1 (get_or p j 0)) 0 (length p) i 0 l ∙ rw zero-add

  -- a forced line is open, and no passing way leaves it
  forced_open : (i : ℕ) → i < length p → is_forced i ≡ true → Open p i × NoneLeaves s p percent i
  unfolding forced
  forced_open i l e = let r = both (is_open p i) e in (test_open p i l r.0, (no_way_leaves s percent p i).0 r.1)

  -- an open line that no passing way leaves is forced
  open_forced : (i : ℕ) → Open p i → NoneLeaves s p percent i → is_forced i ≡ true
  unfolding forced
  open_forced i o n = and_true_both _ _ (open_test p i o) ((no_way_leaves s percent p i).1 n)

  -- an open line is taken exactly when no passing way leaves it
  takes-line : (i : ℕ) → Open p i → (get_or marks i 0 ≡ 1) ↔ NoneLeaves s p percent i
  takes-line i o = (
    λ e. (forced_open i o.0 (cond-one (is_forced i) _ o.1 (sym (mark-at i o.0) ∙ e))).1,
    λ n. mark-at i o.0 ∙ rw (open_forced i o n) refl,
  )

  -- the mark of any other line is kept
  keeps_line : (i : ℕ) → i < length p → (Open p i → NoneLeaves s p percent i → ⊥) → get_or marks i 0 ≡ get_or p i 0
  keeps_line i l n = mark-at i l ∙ go (is_forced i) (λ e. let r = forced_open i l e in n r.0 r.1)
    where
      go : (b : Bool) → (b ≡ true → ⊥) → cond b 1 (get_or p i 0) ≡ get_or p i 0
      go true h = absurd (h refl)
      go false h = refl

  -- the lines that were open and are taken now are the forced ones
  counts-lines : forced_count (table_of s) percent p ≡ count_of (λ i. eqb (get_or p i 0) 0 && eqb (get_or marks i 0) 1) (length p)
  unfolding forced_count
  counts-lines = count_same is_forced (λ i. eqb (get_or p i 0) 0 && eqb (get_or marks i 0) 1) (length p) (λ i l. both_ways _ _ (to i l) (from i l))
    where
      to : (i : ℕ) → i < length p → is_forced i ≡ true → (eqb (get_or p i 0) 0 && eqb (get_or marks i 0) 1) ≡ true
      to i l e = and_true_both _ _ (eq-eqb _ 0 (forced_open i l e).0.1) (eq-eqb _ 1 (mark-at i l ∙ rw e refl))

      from : (i : ℕ) → i < length p → (eqb (get_or p i 0) 0 && eqb (get_or marks i 0) 1) ≡ true → is_forced i ≡ true
      from i l e =
          let r = both (eqb (get_or p i 0) 0) e in
          cond-one (is_forced i) _ (eqb-true _ 0 r.0) (sym (mark-at i l) ∙ eqb-true _ 1 r.1)

  -- where no way passes
  refuses-holds : NonePasses s p percent → (held : List ℕ) → length held ≡ length p → FilterHolds s p percent held refused_31 held
  refuses-holds no_way held fits =
      record {
        size = fits;
        refuses = (λ e. no_way, λ n. refl);
        untouched = λ e. refl;
        takes = λ f. absurd (f no_way);
        keeps = λ f. absurd (f no_way);
        counts = λ f. absurd (f no_way);
      }

  -- where some way passes
  forces_holds : (NonePasses s p percent → ⊥) → (held : List ℕ) → FilterHolds s p percent held (Ok (forced_count (table_of s) percent p)) marks
  unfolding forced_plan
  forces_holds some held =
      record {
        size = sequence-length _ 0 (length p);
        refuses = (λ e. absurd (ok_not_err e), λ n. absurd (some n));
        untouched = λ e. absurd (ok_not_err e);
        takes = λ f. takes-line;
        keeps = λ f. keeps_line;
        counts = λ f. ap Ok counts-lines;
      }

  -- the filter's answer and buffer, by whether any way passes
  filter-holds : (held plan : List ℕ) (answer : Result ℕ Refusal) → length held ≡ length p → filter_of answer plan ≡ filtering (table_of s) percent p → plan ≡ written (λ a. a.plan) (filtering (table_of s) percent p) held → FilterHolds s p percent held answer plan
  unfolding filtering written reason_number
  filter-holds held plan answer fits e b = go (none_of (passing (table_of s) percent) (completions p)) refl
    where
      go : (c : Bool) → none_of (passing (table_of s) percent) (completions p) ≡ c → FilterHolds s p percent held answer plan
      go true q =
          let is = refusal_is reason.BelowPercentage (refuses_by _ answer (rw q at e)) in
          let same : plan ≡ held = rw q at b in
          rw (is, same) (refuses-holds ((no_way_passes_lem s percent p).0 q) held fits)
      go false q =
          let is = answers_by _ answer (rw q at e) in
          let count = ap (λ (a : Filtering). a.forced) is.2 in
          let same = ap (λ (a : Filtering). a.plan) is.2 in
          rw (is.1, count, same) (forces_holds (λ n. false≢true (sym q ∙ (no_way_passes_lem s percent p).1 n)) held)

-- ---------------------------------------------------------------------------
-- Both

-- demand 3: the promises of `sweep` and `filter` are turned into what is demanded
pub demand_3 : Demand3
unfolding Demand3 filter_buffer
demand_3 s p read legal = (
  λ held drops answer fits e b.
      let is = answers_by _ answer (e ∙ sweep_answers s p read legal (length held) fits) in
      let top = ap (λ (a : Sweeping). a.upper_bound) is.2 in
      let same = ap (λ (a : Sweeping). a.derivatives) is.2 in
      rw (is.1, top, same) (sweep_holds s p (read_passed s _ (accepted-read s read))),
  λ percent held plan answer h fits e b.
      let is = filter-answers s p read legal (length held) fits percent h in
      filter-holds s p percent held plan answer fits (e ∙ is) (b ∙ rw is refl),
)
