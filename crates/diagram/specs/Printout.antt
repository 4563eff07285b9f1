-- Document 01, "The program plan and its printout": what the program prints for the bytes that it reads. Text is a list of ASCII codes.
use Rattle.std.specs.Prelude.{ℕ, zero, suc, ◌+◌, ◌*◌, ◌/◌, ◌%◌, true, false, cond, List, [], ◌∷◌, ◌++◌, take, drop, replicate, ltb}
use Rattle.diagram.specs.Words.{word_at, field_p, field_q, field_r}
use Rattle.diagram.specs.Table.{Table, table_of, choice_count, scale}
use Rattle.diagram.specs.Score.{is_taken}
use Rattle.diagram.specs.Plans.{cost}
use Rattle.diagram.specs.Checks.{job_checks}
use Rattle.diagram.specs.Services.{Outcome, refused, answered, checked, Searching, search_outcome}

-- The decimal digits of n, the first of which is 0 only for 0 itself. `fuel` is at least their number.
unfoldable pub digits : (fuel n : ℕ) → List ℕ
digits zero n = []
digits (suc fuel) n =
    elim (ltb n 10) as (λ _. List ℕ) [ true ↦ (48 + n) ∷ [] | false ↦ digits fuel (n / 10) ++ (48 + n % 10) ∷ [] ]

-- A number in decimal, as document 01 prints it
unfoldable pub decimal : ℕ → List ℕ
decimal n = digits (suc n) n

-- "refused "
unfoldable pub refused_word : List ℕ
refused_word = 114 ∷ 101 ∷ 102 ∷ 117 ∷ 115 ∷ 101 ∷ 100 ∷ 32 ∷ []

-- "choices "
unfoldable pub choices_word : List ℕ
choices_word = 99 ∷ 104 ∷ 111 ∷ 105 ∷ 99 ∷ 101 ∷ 115 ∷ 32 ∷ []

-- " scale "
unfoldable pub scale_word : List ℕ
scale_word = 32 ∷ 115 ∷ 99 ∷ 97 ∷ 108 ∷ 101 ∷ 32 ∷ []

-- "kits "
unfoldable pub kits_word : List ℕ
kits_word = 107 ∷ 105 ∷ 116 ∷ 115 ∷ 32 ∷ []

-- " score "
unfoldable pub score_word : List ℕ
score_word = 32 ∷ 115 ∷ 99 ∷ 111 ∷ 114 ∷ 101 ∷ 32 ∷ []

-- " visits "
unfoldable pub visits_word : List ℕ
visits_word = 32 ∷ 118 ∷ 105 ∷ 115 ∷ 105 ∷ 116 ∷ 115 ∷ 32 ∷ []

-- " take"
unfoldable pub take_word : List ℕ
take_word = 32 ∷ 116 ∷ 97 ∷ 107 ∷ 101 ∷ []

-- " left"
unfoldable pub left_word : List ℕ
left_word = 32 ∷ 108 ∷ 101 ∷ 102 ∷ 116 ∷ []

-- A line ends with a newline
unfoldable pub line : List ℕ → List ℕ
line text = text ++ 10 ∷ []

-- "then for each choice its number and its mark": the choices from number i on
unfoldable pub mark_lines : (i : ℕ) → List ℕ → List ℕ
mark_lines i [] = []
mark_lines i (m ∷ p) = line (decimal i ++ cond (is_taken m) take_word left_word) ++ mark_lines (suc i) p

-- "A refusal prints one line, as `refused 32 0`."
unfoldable pub refusal_text : (number place : ℕ) → List ℕ
refusal_text number place = line (refused_word ++ decimal number ++ 32 ∷ [] ++ decimal place)

-- "Fields: the number of choices and B; the lines taken, score and visits; then for each choice its number and its mark", where the sum of kits is printed
-- for the lines taken
unfoldable pub plan_text : Table → Searching → List ℕ
plan_text t found =
    line (choices_word ++ decimal (choice_count t.variables) ++ scale_word ++ decimal (scale t))
    ++ line (kits_word ++ decimal (cost t found.plan) ++ score_word ++ decimal found.score ++ visits_word ++ decimal found.visits)
    ++ mark_lines 0 found.plan

-- What is printed of what the search answers: a refusal's line, or the plan
unfoldable pub search_text : Table → Outcome Searching → List ℕ
search_text t (refused number place) = refusal_text number place
search_text t (answered found) = plan_text t found

-- The search "from the fully open plan" of the table's choices, in a buffer of its own
unfoldable pub job_outcome : (file : List ℕ) → (budget percent : ℕ) → Outcome Searching
job_outcome file budget percent =
    let choices = choice_count (table_of file).variables in
    search_outcome file (replicate choices 0) budget percent choices

-- The kits of a job word. Document 02, paper 2: "The job word's kits become P plus 64 times Q."
unfoldable pub job_kits : ℕ → ℕ
job_kits w = field_p w + 64 * field_q w

-- "Plan reads one job word and then a table": the percentage is the job word's R; the table is all that follows
unfoldable pub program_outcome : List ℕ → Outcome Searching
program_outcome input =
    checked job_checks (λ job. job_outcome (drop 4 job) (job_kits (word_at job 0)) (field_r (word_at job 0))) input

-- What the program prints for all that could be read from standard input: "the program reads 1,329"
unfoldable pub printout : List ℕ → List ℕ
printout input =
    let read = take 1329 input in
    search_text (table_of (drop 4 read)) (program_outcome read)
