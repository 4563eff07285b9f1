-- Demand 1 of the briefing, in its words and with its quantifiers written out. It speaks of what the five services return and write, of what the program
-- prints, and of the rows of document 01's table "Turned away" with those of paper 3; nothing in it is about how a file is gone through.
use Rattle.std.specs.Prelude.{ℕ, ◌+◌, ◌*◌, ◌≡◌, List, Result, Ok, Err, length, take, drop, replicate}
use Rattle.diagram.specs.Words.{word_at, field_p, field_q, field_r}
use Rattle.diagram.specs.Table.{table_of, variable_count, record_count, choice_count, scale}
use Rattle.diagram.specs.Services.{answered, Searching, read_outcome, score_outcome, sweep_outcome, sweep_buffer, filter_outcome, filter_buffer, search_outcome, search_buffer}
use Rattle.diagram.specs.Printout.{refusal_text, plan_text, printout}
use Rattle.terms.specs.declared.refusal.Refusal.{Refusal}
use Rattle.terms.specs.Numbers.{reason_number}
use Rattle.reading.specs.declared.answer.Summary.{Summary}
use Rattle.reading.specs.Answer as reading
use Rattle.scoring.specs.Answer as scoring
use Rattle.filtering.specs.Answer.{filter_of}
use Rattle.sweep.specs.Answer.{sweep_of}
use Rattle.search.specs.declared.answer.Finding.{Finding}
use Rattle.search.specs.Answer.{search_of}
use Rattle.theorems.specs.Reasons.{Request, Reason, FirstReason, NoReason, WholeTable, file_reasons, score_reasons, sweep_reasons, filter_reasons, search_reasons, program_reasons}

-- A request is "turned away with a number and a place from document 01", and "the first reason in that paper's order is the one returned"; or there is no
-- reason, and it is served
pub data Judged (q : Request) (reasons : List Reason) {Answer : Type 0} (Refused : (number place : ℕ) → Answer → Type 0) (Served : Answer → Type 0) (answer : Answer) : Type 0 where
  refuses : (number place : ℕ) → FirstReason q reasons number place → Refused number place answer → Judged q reasons Refused Served answer
  serves : NoReason q reasons → Served answer → Judged q reasons Refused Served answer

-- A service turns a request away with a number and a place: the number is that of the refusal's reason
abbrev pub Refuses : {Value : Type 0} → (number place : ℕ) → Result Value Refusal → Type 0
Refuses number place answer = (r : Refusal) × (answer ≡ Err r) × (reason_number r.reason ≡ number) × (r.place ≡ place)

-- "a turned-away request leaves the plan and the drops as they were": the buffer that is written. The plan handed in is lent to be read alone.
abbrev pub LeavesBuffer : {Value : Type 0} → Result Value Refusal → (held after : List ℕ) → Type 0
LeavesBuffer answer held after = (r : Refusal) → answer ≡ Err r → after ≡ held

-- A file that "is read to its last word", and V, N, the number of choices and B answered
abbrev pub IsRead : (file : List ℕ) → Result Summary Refusal → Type 0
IsRead file answer =
    WholeTable file
    × (answer
    ≡ Ok
    (record {
      variables = variable_count file;
      records = record_count file;
      choices = choice_count (table_of file).variables;
      scale = scale (table_of file);
    }))

-- What is said of the five services. What is assumed of answer and buffer is word for word what they promise. What an answer that is no refusal says is
-- demand 2's and 3's.
unfoldable pub Services : Request → Type 0
Services q =
    ((answer : Result Summary Refusal) →
    reading.outcome_of answer ≡ read_outcome q.file →
    Judged q file_reasons Refuses (IsRead q.file) answer)
    × ((answer : Result ℕ Refusal) →
    scoring.outcome_of answer ≡ score_outcome q.file q.plan →
    Judged q score_reasons Refuses (λ a. (x : ℕ) × (a ≡ Ok x)) answer)
    × ((held drops : List ℕ) (answer : Result ℕ Refusal) →
    length held ≡ q.size →
    sweep_of answer drops ≡ sweep_outcome q.file q.plan (length held) →
    drops ≡ sweep_buffer q.file q.plan held →
    Judged q sweep_reasons Refuses (λ a. (x : ℕ) × (a ≡ Ok x)) answer
    × LeavesBuffer answer held drops)
    × ((held written : List ℕ) (answer : Result ℕ Refusal) →
    length held ≡ q.size →
    filter_of answer written ≡ filter_outcome q.file q.plan q.percent (length held) →
    written ≡ filter_buffer q.file q.plan q.percent held →
    Judged q filter_reasons Refuses (λ a. (n : ℕ) × (a ≡ Ok n)) answer
    × LeavesBuffer answer held written)
    × ((held written : List ℕ) (answer : Result Finding Refusal) →
    length held ≡ q.size →
    search_of answer written ≡ search_outcome q.file q.plan q.budget q.percent (length held) →
    written ≡ search_buffer q.file q.plan q.budget q.percent held →
    Judged q search_reasons Refuses (λ a. (f : Finding) × (a ≡ Ok f)) answer
    × LeavesBuffer answer held written)

-- The request that the program makes of the bytes that it can read: a job word with percent and kits, "P plus 64 times Q", and the table after it,
-- searched "from the fully open plan"; "the program reads 1,329" bytes
unfoldable pub job_of : (input : List ℕ) → Request
job_of input =
    let job = word_at (take 1329 input) 0 in
    let file = drop 4 (take 1329 input) in
    let choices = choice_count (table_of file).variables in
    record { job = job; file = file; plan = replicate choices 0; percent = field_r job; budget = field_p job + 64 * field_q job; size = choices }

-- The score, the visits and the plan that the search finds
abbrev pub Finds : Request → Searching → Type 0
Finds q found = search_outcome q.file q.plan q.budget q.percent q.size ≡ answered found

-- Demand 1, of any bytes and whatever comes with them: "Every public service makes the check itself, on the file and on what comes with it". Of the text
-- is assumed what `print` promises.
unfoldable pub Demand1 : Type 0
Demand1 =
    ((q : Request) → Services q)
    × ((input text : List ℕ) →
    text ≡ printout input →
    Judged (job_of input) program_reasons
    (λ number place a. a ≡ refusal_text number place)
    (λ a. (found : Searching) × Finds (job_of input) found × (a ≡ plan_text (table_of (job_of input).file) found))
    text)
