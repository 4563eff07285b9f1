-- Document 01, "Turned away", row by row, as papers 1, 2 and 3 of document 02 have it: what is wrong with a request, and at which place. A row does not
-- search: it says of each place whether the request is wrong there.
use Rattle.std.specs.Prelude.{ℕ, ◌+◌, ◌*◌, ◌%◌, ◌^◌, ◌≤◌, ◌<◌, ◌≡◌, Bool, true, ◌⊎◌, List, [], ◌∷◌, ◌++◌, length, get_or, take}
use Rattle.diagram.specs.Words.{word_at, kind, field_p, field_q, field_r}
use Rattle.diagram.specs.Table.{choice, chance, Record, Table, table_of, variable_count, record_count, root_count, record_at, choice_count, scale_of, total_reward}
use Rattle.diagram.specs.Score.{truth}
use Rattle.theorems.specs.Plans.{NonePasses, NoCandidate}

-- All that can come with a request; a service looks at what it takes
pub record Request : Type 0 where
  -- the program's job word
  pub job : ℕ
  pub file : List ℕ
  pub plan : List ℕ
  pub percent : ℕ
  -- the kits
  pub budget : ℕ
  -- the written buffer's length
  pub size : ℕ

-- The rows of the table. 22 is two of them: `full_plan_mark` is the score's, "for the score also an open byte".
pub data Reason : Type 0 where
  job_word : Reason
  table_length : Reason
  heading_word : Reason
  word_count : Reason
  variable_word : Reason
  choice_limit : Reason
  scale_limit : Reason
  record_word : Reason
  root_word : Reason
  reward_limit : Reason
  not_monotone : Reason
  plan_length : Reason
  plan_mark : Reason
  full_plan_mark : Reason
  percent_limit : Reason
  budget_limit : Reason
  buffer_length : Reason
  no_way_passes : Reason
  no_candidate : Reason

-- The number that a row returns
unfoldable pub number_of : Reason → ℕ
number_of job_word = 10
number_of table_length = 11
number_of heading_word = 12
number_of word_count = 13
number_of variable_word = 14
number_of choice_limit = 15
number_of scale_limit = 16
number_of record_word = 17
number_of root_word = 26
number_of reward_limit = 27
number_of not_monotone = 18
number_of plan_length = 21
number_of plan_mark = 22
number_of full_plan_mark = 22
number_of percent_limit = 23
number_of budget_limit = 24
number_of buffer_length = 25
number_of no_way_passes = 31
number_of no_candidate = 32

-- ---------------------------------------------------------------------------
-- Right words

-- "5 job", of which refusal 10 "no longer looks at Q"
abbrev pub JobWord : ℕ → Type 0
JobWord w = kind w ≡ 5

-- "1 heading | V, variables, 1 to 60 | N, records, 1 to 254 |" and R, which "gives a number of root words, 0 to 16"
pub record HeadingWord (w : ℕ) : Type 0 where
  pub kind-is : kind w ≡ 1
  pub variables : (1 ≤ field_p w) × (field_p w ≤ 60)
  pub records : (1 ≤ field_q w) × (field_q w ≤ 254)
  pub roots : field_r w ≤ 16

-- "2 choice | its position | 0 |" and R, which "now holds its kits less one, 0 to 500"
pub record ChoiceWord (position w : ℕ) : Type 0 where
  pub kind-is : kind w ≡ 2
  pub place : field_p w ≡ position
  pub zero : field_q w ≡ 0
  pub limit : field_r w ≤ 500

-- "3 chance | its position | a, 0 to b | b, 1 to 1,000"
pub record ChanceWord (position w : ℕ) : Type 0 where
  pub kind-is : kind w ≡ 3
  pub place : field_p w ≡ position
  pub share : field_q w ≤ field_r w
  pub limits : (1 ≤ field_r w) × (field_r w ≤ 1000)

-- "Both children have smaller node numbers, and a child that is a record has a larger variable position": node n as a child of record k, which stands at
-- a position; "record k, from 0, is node k+2"
pub record Child (records : List Record) (k position n : ℕ) : Type 0 where
  pub smaller : n < k + 2
  pub later : (j : ℕ) → n ≡ j + 2 → position < (record_at records j).position

-- "4 record | variable position | hi node | lo node", of record k
pub record RecordWord (v : ℕ) (records : List Record) (k w : ℕ) : Type 0 where
  pub kind-is : kind w ≡ 4
  pub place : field_p w < v
  pub hi : Child records k (field_p w) (field_q w)
  pub lo : Child records k (field_p w) (field_r w)

-- "kind 6, P zero, Q a reward of 1 to 64, R a record's node number", of n records: "record k, from 0, is node k+2"
pub record RootWord (n w : ℕ) : Type 0 where
  pub kind-is : kind w ≡ 6
  pub zero : field_p w ≡ 0
  pub reward : (1 ≤ field_q w) × (field_q w ≤ 64)
  pub node : (k : ℕ) × (k < n) × (field_r w ≡ k + 2)

-- "at every choice record, reachable or not, each settling of all variables that leads from lo to true also leads from hi to true": at record k
abbrev pub MonotoneAt : Table → ℕ → Type 0
MonotoneAt t k =
    get_or t.variables (record_at t.records k).position (chance 0 1) ≡ choice →
    (s : List Bool) → length s ≡ length t.variables →
    truth t.records s (record_at t.records k).lo ≡ true →
    truth t.records s (record_at t.records k).hi ≡ true

-- ---------------------------------------------------------------------------
-- The rows

-- Place i is word 1 + p, of the variable at position p
abbrev pub AtVariable : (file : List ℕ) → (i p : ℕ) → Type 0
AtVariable file i p = (p < variable_count file) × (i ≡ 1 + p)

-- Place i is word 1 + V + k, of record k
abbrev pub AtRecord : (file : List ℕ) → (i k : ℕ) → Type 0
AtRecord file i k = (k < record_count file) × (i ≡ 1 + variable_count file + k)

-- Place i is word 1 + V + N + r, of root word r: root words "follow the records"
abbrev pub AtRoot : (file : List ℕ) → (i r : ℕ) → Type 0
AtRoot file i r = (r < root_count file) × (i ≡ 1 + variable_count file + record_count file + r)

-- Whether a request is wrong at a place, in the words of each row. "Places in a file count words from the heading, which is 0."
unfoldable pub Wrong : Request → Reason → (place : ℕ) → Type 0
-- 10: "job word missing, kind not 5"; a missing word is 0, which is of no kind
Wrong q job_word i = (i ≡ 0) × (JobWord q.job → ⊥)
-- 11: "table length under 4, over [..] or no multiple of 4"; it "allows 1,324 bytes"
Wrong q table_length i = (i ≡ 0) × ((length q.file < 4) ⊎ ((1324 < length q.file) ⊎ (length q.file % 4 ≡ 0 → ⊥)))
-- 12: "heading's kind or a field wrong"
Wrong q heading_word i = (i ≡ 0) × (HeadingWord (word_at q.file 0) → ⊥)
-- 13: "length is not 4 times (1 + V + N)", and it "counts root words"
Wrong q word_count i =
    (i ≡ 0) × (length q.file ≡ 4 * (1 + variable_count q.file + record_count q.file + root_count q.file) → ⊥)
-- 14: "a variable word's kind or a field wrong"
Wrong q variable_word i =
    (p : ℕ) × AtVariable q.file i p × ((ChoiceWord p (word_at q.file i) ⊎ ChanceWord p (word_at q.file i)) → ⊥)
-- 15: "more than 20 choices", counted up to this word
Wrong q choice_limit i = (p : ℕ) × AtVariable q.file i p × (20 < choice_count (take (1 + p) (table_of q.file).variables))
-- 16: "product of b above 2^56", taken up to this word
Wrong q scale_limit i = (p : ℕ) × AtVariable q.file i p × (2 ^ 56 < scale_of (take (1 + p) (table_of q.file).variables))
-- 17: "a record's kind, position or child wrong"
Wrong q record_word i =
    (k : ℕ) × AtRecord q.file i k × (RecordWord (variable_count q.file) (table_of q.file).records k (word_at q.file i) → ⊥)
-- 26: "the first wrong root word (its place)"
Wrong q root_word i = (r : ℕ) × AtRoot q.file i r × (RootWord (record_count q.file) (word_at q.file i) → ⊥)
-- 27: "B times the total reward is above 2^56 (place 0)", B being the product of b
Wrong q reward_limit i = (i ≡ 0) × (2 ^ 56 < scale_of (table_of q.file).variables * total_reward (table_of q.file).roots)
-- 18: "not monotone"
Wrong q not_monotone i = (k : ℕ) × AtRecord q.file i k × (MonotoneAt (table_of q.file) k → ⊥)
-- 21: "plan length is not the number of choices"
Wrong q plan_length i = (i ≡ 0) × (length q.plan ≡ choice_count (table_of q.file).variables → ⊥)
-- 22: "a plan byte above 2", by its index
Wrong q plan_mark i = (i < length q.plan) × (2 < get_or q.plan i 0)
-- 22: "for the score also an open byte"
Wrong q full_plan_mark i = (i < length q.plan) × ((2 < get_or q.plan i 0) ⊎ (get_or q.plan i 0 ≡ 0))
-- 23: "percent above 100"
Wrong q percent_limit i = (i ≡ 0) × (100 < q.percent)
-- 24: "kits above 10,020"
Wrong q budget_limit i = (i ≡ 0) × (10020 < q.budget)
-- 25: "the written buffer's length is not the number of choices"
Wrong q buffer_length i = (i ≡ 0) × (q.size ≡ choice_count (table_of q.file).variables → ⊥)
-- 31: "filter: no completion passes"
Wrong q no_way_passes i = (i ≡ 0) × NonePasses q.file q.plan q.percent
-- 32: "search: no candidate"
Wrong q no_candidate i = (i ≡ 0) × NoCandidate q.file q.plan q.budget q.percent

-- ---------------------------------------------------------------------------
-- "Checks run in this table's order, each over the whole file before the next; those a service has no input for are skipped."

-- The rows of every service, on the file; 26 and 27 are "the two checked after 17 and before 18"
unfoldable pub file_reasons : List Reason
file_reasons =
    table_length ∷ heading_word ∷ word_count ∷ variable_word ∷ choice_limit ∷ scale_limit ∷ record_word ∷ root_word ∷ reward_limit ∷ not_monotone ∷ []

-- Those of the score
unfoldable pub score_reasons : List Reason
score_reasons = file_reasons ++ plan_length ∷ full_plan_mark ∷ []

-- Those of the sweep
unfoldable pub sweep_reasons : List Reason
sweep_reasons = file_reasons ++ plan_length ∷ plan_mark ∷ buffer_length ∷ []

-- Those of the filter
unfoldable pub filter_reasons : List Reason
filter_reasons = file_reasons ++ plan_length ∷ plan_mark ∷ percent_limit ∷ buffer_length ∷ no_way_passes ∷ []

-- Those of the search
unfoldable pub search_reasons : List Reason
search_reasons = file_reasons ++ plan_length ∷ plan_mark ∷ percent_limit ∷ budget_limit ∷ buffer_length ∷ no_candidate ∷ []

-- Those of the program, which searches from the fully open plan
unfoldable pub program_reasons : List Reason
program_reasons = job_word ∷ search_reasons

-- "The first reason in that paper's order is the one returned": the number of the first row that finds the request wrong at some place, and the first
-- such place
pub data FirstReason (q : Request) : List Reason → (number place : ℕ) → Type 0 where
  at_first : {r : Reason} {rs : List Reason} {i : ℕ} → Wrong q r i → ((j : ℕ) → j < i → Wrong q r j → ⊥) → FirstReason q (r ∷ rs) (number_of r) i
  further_on : {r : Reason} {rs : List Reason} {n i : ℕ} → ((j : ℕ) → Wrong q r j → ⊥) → FirstReason q rs n i → FirstReason q (r ∷ rs) n i

-- There is no reason to turn the request away: no row finds it wrong at any place
pub data NoReason (q : Request) : List Reason → Type 0 where
  no_row : NoReason q []
  passes_row : {r : Reason} {rs : List Reason} → ((j : ℕ) → Wrong q r j → ⊥) → NoReason q rs → NoReason q (r ∷ rs)

-- ---------------------------------------------------------------------------
-- Accepted tables

-- A file with nothing that comes with it
abbrev pub file_alone : (file : List ℕ) → Request
file_alone file = record { job = 0; file = file; plan = []; percent = 0; budget = 0; size = 0 }

-- "a table is accepted when reading has no ground to turn it away"
abbrev pub Accepted : (file : List ℕ) → Type 0
Accepted file = NoReason (file_alone file) file_reasons

-- A table file that is right from its first word to its last: "one heading, V variable words with positions 0 to V-1 in order, then N records", then root
-- words, within all limits
pub record WholeTable (file : List ℕ) : Type 0 where
  pub size : length file ≡ 4 * (1 + variable_count file + record_count file + root_count file)
  pub heading : HeadingWord (word_at file 0)
  pub variables : (p : ℕ) → p < variable_count file → ChoiceWord p (word_at file (1 + p)) ⊎ ChanceWord p (word_at file (1 + p))
  pub choices : choice_count (table_of file).variables ≤ 20
  pub product : scale_of (table_of file).variables ≤ 2 ^ 56
  pub scale : scale_of (table_of file).variables * total_reward (table_of file).roots ≤ 2 ^ 56
  pub records : (k : ℕ) → k < record_count file → RecordWord (variable_count file) (table_of file).records k (word_at file (1 + variable_count file + k))
  pub roots : (r : ℕ) → r < root_count file → RootWord (record_count file) (word_at file (1 + variable_count file + record_count file + r))
  pub monotone : (k : ℕ) → k < record_count file → MonotoneAt (table_of file) k
