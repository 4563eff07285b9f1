-- What is printed for a job, from what reading and the search answer, and from what the job word says, and the whole buffer that it is printed to. Assumes
-- nothing.
use Prim.Native.Nat.{ℕ, ◌-◌, ◌/◌, ◌≤◌, min}
use native.Mathlib.Decide.{dec_lt}
use native.Mathlib.Omega.{arith}
use mathlib.Core.Path.{◌≡◌, refl, ap, sym, ◌∙◌}
use mathlib.Core.List.{List, ◌++◌}
use mathlib.Core.Logic.{by_cases}
use lib.ListN.{length, take, drop, replicate, length-take, take-append-drop}
use lib.Seq.{length-take-le, take-length, take_all}
use Rattle.std.proofs.lemmas.List.{take-replicate}
use mathlib.Core.Bool.{true, false}
use lib.Dec.{eqb}
use borrow.Author.Tests.{eqb-true, le-ltb}
use Rattle.diagram.specs.Words.{word_at, kind, field_r}
use Rattle.diagram.specs.Table.{table_of, choice_count, scale}
use Rattle.diagram.specs.Plans.{cost_of, cost}
use Rattle.diagram.specs.Checks.{place_zero, job_fault, job_checks, search_checks}
use Rattle.diagram.specs.Services.{refused, Reading, reading, read_outcome, search_outcome}
use Rattle.diagram.specs.Printout.{refusal_text, plan_text, search_text, job_outcome, job_kits, program_outcome, printout}
use Rattle.terms.specs.declared.refusal.Refusal.{Refusal}
use Rattle.diagram.proofs.Places.{drop-replicate}
use Rattle.diagram.proofs.Checked.{checked-passes, checked_stops, checked_end, read-refuses}
use Rattle.decoding.specs.Decoding.{pad_to}
use Rattle.decoding.proofs.Kits.{kits-length}
use Rattle.cost.proofs.Kits.{cost-padded}
use Rattle.std.specs.Prelude.{Result, Ok, Err}
use Rattle.steps.specs.Steps.{outcome_by}
use Rattle.terms.specs.Numbers.{reason_number}
use Rattle.decoding.specs.declared.table.Decoded.{Decoded}
use Rattle.reading.specs.Answer.{numbers_in}
use Rattle.reading.proofs.Accepted.{passed_choices}
use Rattle.reading.proofs.Outcomes.{table_passed, table-choices, table-reading}
use Rattle.search.specs.declared.answer.Finding.{Finding}
use Rattle.search.specs.Answer.{search_of}
use Rattle.writing.specs.declared.text.Text.{Text}
use Rattle.writing.specs.Wrote.{Wrote, Appends, empty}
use Rattle.printout.specs.Found.{job_text}
use Rattle.text.specs.Lines.{table_text, found_text, full_text}

-- ---------------------------------------------------------------------------
-- The table

module _ (s : List ℕ) {r : Result Decoded Refusal} (promise : outcome_by numbers_in r ≡ read_outcome s) (d : Decoded) (e : r ≡ Ok d) where
  -- a table that is read has at most 20 choices, so that none is cut off
  choices-kept : {n : ℕ} → n ≡ min d.choices 20 → n ≡ choice_count (table_of s).variables
  choices-kept q =
      omega (arith, table-choices numbers_in s promise d e, passed_choices (table_passed numbers_in s promise d e))

  -- so the open plan has a mark for each choice, every line is open, and the buffer that the search is lent has a place for each mark
  pub plan-open : {n : ℕ} {marks : List ℕ} → n ≡ min d.choices 20 → marks ≡ replicate 20 0 → (n ≡ choice_count (table_of s).variables) × (take n marks ≡ replicate (choice_count (table_of s).variables) 0) × (length (take n (replicate {A = ℕ} 20 0)) ≡ n)
  plan-open {n} q zeros =
      let few : n ≤ 20 = omega (arith, q) in
      (choices-kept q, rw (zeros, ← choices-kept q) (take-replicate n 20 0 few), length-take-le n _ few)

  -- its scale is the one that reading answers
  pub scale-read : d.scale ≡ scale (table_of s)
  unfolding reading
  scale-read = ap (λ (x : Reading). x.scale) (table-reading numbers_in s promise d e)

-- ---------------------------------------------------------------------------
-- The search of a job

module _ (s : List ℕ) (budget percent : ℕ) where
  -- a table that reading refuses
  pub job_unread : (n i : ℕ) → read_outcome s ≡ refused n i → refusal_text n i ≡ search_text (table_of s) (job_outcome s budget percent)
  unfolding job_outcome search_outcome search_checks search_text
  job_unread n i e = sym (ap (search_text (table_of s)) (read-refuses s _ _ n i e))

  module _ (r : Result Finding Refusal) (out : List ℕ) {marks : List ℕ} {size : ℕ} (promise : search_of r out ≡ search_outcome s marks budget percent size) (zeros : marks ≡ replicate (choice_count (table_of s).variables) 0) (long : size ≡ choice_count (table_of s).variables) where
    -- the search from the fully open plan is the job's
    job-searched : search_of r out ≡ job_outcome s budget percent
    unfolding job_outcome
    job-searched = promise ∙ rw (zeros, long) refl

    -- a search that is refused
    pub job-refused : (x : Refusal) → r ≡ Err x → refusal_text (reason_number x.reason) x.place ≡ search_text (table_of s) (job_outcome s budget percent)
    unfolding outcome_by search_text
    job-refused x e = rw (← job-searched, e) refl

    -- a plan that is found
    pub job-found : (f : Finding) → r ≡ Ok f → {choices b c : ℕ} → choices ≡ choice_count (table_of s).variables → b ≡ scale (table_of s) → c ≡ cost (table_of s) out → full_text choices b c f.score f.visits out ≡ search_text (table_of s) (job_outcome s budget percent)
    unfolding outcome_by search_text plan_text full_text table_text found_text
    job-found f e ec eb ek = rw (← job-searched, e, ec, eb, ek) refl

-- ---------------------------------------------------------------------------
-- The job word

module _ (input : List ℕ) {w : ℕ} (word : w ≡ word_at input 0) where
  -- kind 5 is of no word that is missing
  pub job_there : eqb (kind w) 5 ≡ true → 4 ≤ length input
  unfolding word_at
  job_there e =
      let five = eqb-true (kind w) 5 e in
      by_cases (dec_lt (length input) 4)
      (λ h. let none : w ≡ 0 = word ∙ rw (le-ltb 0 (length input / 4) (omega arith)) refl in absurd (omega (arith, five)))
      (λ f. omega arith)

  -- any other kind is refused
  pub job-kind : eqb (kind w) 5 ≡ false → refusal_text 10 0 ≡ job_text input
  unfolding program_outcome job_checks job_fault place_zero search_text
  job-kind f =
      let stops : program_outcome input ≡ refused 10 0 = checked_stops _ _ _ input 0 (rw (← word, f) refl) in
      ap (search_text (table_of (drop 4 input))) (sym stops)

  -- of a job the table that follows is searched, with its kits and R
  pub job-taken : eqb (kind w) 5 ≡ true → {b p : ℕ} → b ≡ job_kits w → p ≡ field_r w → search_text (table_of (drop 4 input)) (job_outcome (drop 4 input) b p) ≡ job_text input
  unfolding program_outcome job_checks job_fault place_zero
  job-taken five eb ep =
      ap (search_text (table_of (drop 4 input)))
      (sym (checked-passes _ _ _ input (rw (← word, five) refl) ∙ checked_end _ input ∙ rw (eb, ep, word) refl))

-- ---------------------------------------------------------------------------
-- The printed kits

-- what the plan printed costs, from the kits of the file in an array
pub cost-is : (s p kits : List ℕ) → kits ≡ pad_to 20 (table_of s).kits → length p ≡ choice_count (table_of s).variables → cost_of kits p ≡ cost (table_of s) p
unfolding cost pad_to
cost-is s p kits e long = rw e (cost-padded (table_of s).kits _ p (long ∙ sym (kits-length s)))

-- at most 1,329 bytes are read
pub printed : (input : List ℕ) {n : ℕ} → n ≡ min (length input) 1329 → job_text (take n input) ≡ printout input
unfolding printout
printed input {n} e =
    let same : take n input ≡ take 1329 input = by_cases (dec_lt (length input) 1329)
    (λ h. let all : n ≡ length input = omega arith in rw (all, take-length input, take_all 1329 input (omega arith)) refl)
    (λ f. let part : n ≡ 1329 = omega arith in rw part refl) in
    ap (λ (read : List ℕ). job_text read) same

-- ---------------------------------------------------------------------------
-- The whole buffer

-- what is appended to no text ends within the buffer
pub appended_within : {t : Text} {x : List ℕ} → Appends empty x t → (t.count ≡ length x) × (t.count ≤ 1024)
appended_within {t} w = (omega (arith, w.count), t.fits)

-- and is followed by zeros
pub appended_all : {t : Text} {x : List ℕ} → Appends empty x t → t.bytes ≡ x ++ replicate (1024 - t.count) 0
appended_all {t} w = sym (take-append-drop t.count t.bytes) ∙ rw (w.text, w.rest, drop-replicate t.count 1024 0) refl

-- what is written from the start ends within the buffer
pub wrote_within : {a b : List ℕ} {j : ℕ} {x : List ℕ} → Wrote a 0 b j x → j ≤ length a
wrote_within {b = b} {j} w = omega (arith, w.count, w.size, ap length w.text, length-take j b)

-- what is written from the start of zeros is followed by zeros
pub wrote_all : (n v : ℕ) {b : List ℕ} {j : ℕ} {x : List ℕ} → Wrote (replicate n v) 0 b j x → v ≡ 0 → b ≡ x ++ replicate (n - j) 0
wrote_all n v {b} {j} w e = sym (take-append-drop j b) ∙ rw (w.text, w.rest, drop-replicate j n v, e) refl
