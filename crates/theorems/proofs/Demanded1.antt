-- Demand 1: a request is turned away with the first row that finds it wrong, at its first place, or it is served; what the services promise is what the
-- briefing demands of them.
-- Assumes nothing.
use Prim.Native.Nat.{ℕ}
use native.Mathlib.Omega.{arith}
use mathlib.Core.Path.{◌≡◌, refl, ap, sym, ◌∙◌}
use mathlib.Core.Bool.{Bool, true, false, false≢true}
use mathlib.Core.Option.{Option, none, some}
use mathlib.Core.List.{List, [], ◌∷◌}
use lib.ListN.{take}
use Rattle.diagram.specs.Table.{Table, table_of}
use Rattle.diagram.specs.Score as meaning
use Rattle.diagram.specs.Plans.{completions, none_of, passing, forced_plan, forced_count}
use Rattle.diagram.specs.Ranking.{best_plan}
use Rattle.diagram.specs.Visits.{visit_count}
use Rattle.diagram.specs.Checks.{job_fault, job_checks, score_checks, sweep_checks, filter_checks, search_checks}
use Rattle.diagram.specs.Services.{Outcome, refused, answered, written, Reading, reading, Searching, score_outcome, sweep_outcome, sweep_buffer, filtering, filter_outcome, filter_buffer, searching, search_outcome, search_buffer}
use Rattle.diagram.specs.Printout.{refusal_text, plan_text, search_text, job_outcome, job_kits, program_outcome, printout}
use Rattle.terms.specs.declared.refusal.Refusal.{Refusal}
use Rattle.diagram.proofs.Checked.{checked-passes, checked_stops, checked_end, answered_not_refused, read-reading, read_passed}
use Rattle.std.specs.Prelude.{Result, Ok}
use Rattle.steps.specs.Steps.{outcome_by}
use Rattle.sweep.specs.Answer.{sweep_of}
use Rattle.filtering.specs.Answer.{filter_of}
use Rattle.search.specs.Answer.{search_of}
use Rattle.reading.specs.declared.answer.Summary.{Summary}
use Rattle.reading.specs.Answer.{numbers}
use Rattle.theorems.specs.Reasons.{Request, Reason, no_way_passes, no_candidate, number_of, Wrong, file_reasons, score_reasons, sweep_reasons, filter_reasons, search_reasons, program_reasons, at_first, no_row, passes_row}
use Rattle.theorems.specs.Demand1.{Judged, Refuses, IsRead, refuses, serves, Services, job_of, Finds, Demand1}
use Rattle.theorems.proofs.Answers.{refuses_by, answers_by}
use Rattle.theorems.proofs.Completing.{no_way_passes_lem}
use Rattle.theorems.proofs.Deciding.{Decided, stops, answers, end, row, one_more, decided_as, decide, at_once, file-rows, rendered_append, read-decided}
use Rattle.theorems.proofs.Demanded2.{none-holds, best-candidate}
use Rattle.theorems.proofs.Rows.{row_10, row_21, row_22, row_22_full, row_23, row_24, row_25, whole_table}

-- ---------------------------------------------------------------------------
-- The rows of each service

module _ (q : Request) where
  score-decided : Decided q score_reasons (score_outcome q.file q.plan)
  unfolding file_reasons score_reasons score_outcome score_checks number_of
  score-decided =
      decide (rendered_append (file-rows q) (row refl (row_21 q) (row refl (row_22_full q) end)))
      (λ file. answered (meaning.score (table_of file) q.plan))
      (at_once q _)

  sweep_decided : Decided q sweep_reasons (sweep_outcome q.file q.plan q.size)
  unfolding file_reasons sweep_reasons sweep_outcome sweep_checks number_of
  sweep_decided =
      decide (rendered_append (file-rows q) (row refl (row_21 q) (row refl (row_22 q) (row refl (row_25 q) end)))) _ (at_once q _)

  -- 31 comes where no way passes
  row_31 : Decided q (no_way_passes ∷ []) (filtering (table_of q.file) q.percent q.plan)
  unfolding filtering Wrong number_of
  row_31 = go (none_of (passing (table_of q.file) q.percent) (completions q.plan)) refl
    where
      go : (b : Bool) → none_of (passing (table_of q.file) q.percent) (completions q.plan) ≡ b → Decided q (no_way_passes ∷ []) (filtering (table_of q.file) q.percent q.plan)
      go true e = stops (at_first {r = no_way_passes} {i = 0} (refl, (no_way_passes_lem q.file q.percent q.plan).0 e) (λ j l h. absurd (omega arith))) (rw e refl)
      go false e = answers (record { forced = forced_count (table_of q.file) q.percent q.plan; plan = forced_plan (table_of q.file) q.percent q.plan }) (passes_row {r = no_way_passes} (λ j h. false≢true (sym e ∙ (no_way_passes_lem q.file q.percent q.plan).1 h.1)) no_row) (rw e refl)

  filter-decided : Decided q filter_reasons (filter_outcome q.file q.plan q.percent q.size)
  unfolding file_reasons filter_reasons filter_outcome filter_checks number_of
  filter-decided =
      decide
      (rendered_append (file-rows q) (row refl (row_21 q) (row refl (row_22 q) (row refl (row_23 q) (row refl (row_25 q) end)))))
      (λ file. filtering (table_of file) q.percent q.plan)
      row_31

  -- 32 comes where there is no candidate
  row_32 : Decided q (no_candidate ∷ []) (searching (table_of q.file) q.budget q.percent q.plan)
  unfolding searching Wrong number_of
  row_32 = go (best_plan (table_of q.file) q.budget q.percent q.plan) refl
    where
      go : (b : Option (List ℕ)) → best_plan (table_of q.file) q.budget q.percent q.plan ≡ b → Decided q (no_candidate ∷ []) (searching (table_of q.file) q.budget q.percent q.plan)
      go none e =
          let no_way = (none-holds q.file q.plan q.budget q.percent e []).refuses.0 refl in
          stops (at_first {r = no_candidate} {i = 0} (refl, no_way) (λ j l h. absurd (omega arith))) (rw (e, searching) refl)
      go (some b) e =
          let best = best-candidate q.file q.plan q.budget q.percent b e in
          answers (record { score = meaning.score (table_of q.file) b; visits = visit_count (table_of q.file) q.budget q.percent q.plan; plan = b }) (passes_row {r = no_candidate} (λ j h. h.1 b best.candidate) no_row) (rw (e, searching) refl)

  search_decided : Decided q search_reasons (search_outcome q.file q.plan q.budget q.percent q.size)
  unfolding file_reasons search_reasons search_outcome search_checks number_of
  search_decided =
      decide
      (rendered_append (file-rows q)
      (row refl (row_21 q) (row refl (row_22 q) (row refl (row_23 q) (row refl (row_24 q) (row refl (row_25 q) end))))))
      (λ file. searching (table_of file) q.budget q.percent q.plan)
      row_32

-- the program's rows: 10 of its job word, and then those of the search
program_decided : (input : List ℕ) → Decided (job_of input) program_reasons (program_outcome (take 1329 input))
unfolding program_reasons job_of program_outcome job_checks job_kits job_outcome number_of
program_decided input = go (job_fault (take 1329 input)) refl
  where
    go : (o : Option ℕ) → job_fault (take 1329 input) ≡ o → Decided (job_of input) program_reasons (program_outcome (take 1329 input))
    go none e =
        decided_as (checked-passes _ _ _ _ e ∙ checked_end _ _)
        (one_more ((row_10 (job_of input) (take 1329 input) refl).passes e) (search_decided (job_of input)))
    go (some i) e =
        let f = (row_10 (job_of input) (take 1329 input) refl).finds i e in
        stops (at_first f.0 f.1) (checked_stops _ _ _ _ i e)

-- what the search of a request answers, it finds
search_finds : (q : Request) (found : Searching) {o : Outcome Searching} → o ≡ search_outcome q.file q.plan q.budget q.percent q.size → o ≡ answered found → Finds q found
search_finds q found e f = sym e ∙ f

-- what the program answers, the search finds
program_finds : (input : List ℕ) (found : Searching) → program_outcome (take 1329 input) ≡ answered found → Finds (job_of input) found
unfolding job_of program_outcome job_checks job_kits job_outcome
program_finds input found e = go (job_fault (take 1329 input)) refl
  where
    go : (o : Option ℕ) → job_fault (take 1329 input) ≡ o → Finds (job_of input) found
    go none q = search_finds (job_of input) found (checked-passes _ _ _ _ q ∙ checked_end _ _) e
    go (some i) q = absurd (answered_not_refused found _ i (sym e ∙ checked_stops _ _ _ _ i q))

-- ---------------------------------------------------------------------------
-- From an outcome to an answer

-- a result that stands for a decided outcome
judge : {T A : Type 0} {q : Request} {rs : List Reason} {o : Outcome A} (part : T → A) (Served : Result T Refusal → Type 0) (answer : Result T Refusal) → ((a : A) → o ≡ answered a → (x : T) → answer ≡ Ok x → part x ≡ a → Served answer) → outcome_by part answer ≡ o → Decided q rs o → Judged q rs Refuses Served answer
judge part Served answer serve e (stops {n} {i} t f) = refuses n i t (refuses_by part answer (e ∙ f))
judge part Served answer serve e (answers a l f) =
    let is = answers_by part answer (e ∙ f) in
    serves l (serve a f is.0 is.1 is.2)

-- and has a value where one is demanded
judge_value : {T A : Type 0} {q : Request} {rs : List Reason} {o : Outcome A} (part : T → A) (answer : Result T Refusal) → outcome_by part answer ≡ o → Decided q rs o → Judged q rs Refuses (λ a. (x : T) × (a ≡ Ok x)) answer
judge_value part answer = judge part _ answer (λ a f x is same. (x, is))

-- a refused request leaves the buffer as it was
kept : {A : Type 0} (part : A → List ℕ) {o : Outcome A} (held : List ℕ) {n i : ℕ} → refused n i ≡ o → written part o held ≡ held
unfolding written
kept part held e = rw (← e) refl

-- a text that is printed of a decided outcome
judge_text : {q : Request} {rs : List Reason} {o : Outcome Searching} (t : Table) (text : List ℕ) → ((found : Searching) → o ≡ answered found → Finds q found) → text ≡ search_text t o → Decided q rs o → Judged q rs (λ number place a. a ≡ refusal_text number place) (λ a. (found : Searching) × Finds q found × (a ≡ plan_text t found)) text
unfolding search_text
judge_text t text finds e (stops {n} {i} s f) = refuses n i s (e ∙ rw f refl)
judge_text t text finds e (answers a l f) = serves l (a, finds a f, e ∙ rw f refl)

-- the numbers read are those of the file
summary_is : (t : Summary) {a : Reading} → numbers t ≡ a → t ≡ record { variables = a.variables; records = a.records; choices = a.choices; scale = a.scale }
summary_is t e =
    ap (λ (a : Reading). record { variables = a.variables; records = a.records; choices = a.choices; scale = a.scale }) e

-- the five services
services : (q : Request) → Services q
unfolding Services reading sweep_buffer filter_buffer search_buffer outcome_by
services q = (
  λ answer e.
      judge numbers (IsRead q.file) answer
      (λ a f x is same. (whole_table (read_passed q.file a f), is ∙ ap Ok (summary_is x (same ∙ read-reading q.file a f))))
      e
      (read-decided q),
  λ answer e. judge_value _ answer e (score-decided q),
  λ held drops answer size e b.
      let p : sweep_of answer drops ≡ sweep_outcome q.file q.plan q.size = rw (← size) e in
      (judge_value _ answer p (sweep_decided q), λ r is. b ∙ kept _ held (rw is at e)),
  λ held plan answer size e b.
      let p : filter_of answer plan ≡ filter_outcome q.file q.plan q.percent q.size = rw (← size) e in
      (judge_value _ answer p (filter-decided q), λ r is. b ∙ kept _ held (rw is at e)),
  λ held plan answer size e b.
      let p : search_of answer plan ≡ search_outcome q.file q.plan q.budget q.percent q.size = rw (← size) e in
      (judge_value _ answer p (search_decided q), λ r is. b ∙ kept _ held (rw is at e)),
)

-- demand 1: the promises of the services and of the program are turned into what is demanded
pub demand_1 : Demand1
unfolding Demand1 printout job_of
demand_1 = (services, λ input text e. judge_text _ text (program_finds input) e (program_decided input))
