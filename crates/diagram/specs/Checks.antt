-- Document 01, "Turned away", with 26 and 27 of document 02, paper 3: the grounds for refusing a request, in the table's order. A check gives the place at
-- fault, or none where it passes.
use Rattle.std.specs.Prelude.{ℕ, zero, suc, ◌+◌, ◌-◌, ◌*◌, ◌%◌, ◌^◌, Bool, true, false, cond, not, ◌&&◌, ◌||◌, List, [], ◌∷◌, ◌++◌, length, get_or, take, eqb, ltb, leb}
use Rattle.std.proofs.Math.Option.{Option, none, some}
use Rattle.diagram.specs.Words.{word_at, kind, field_p, field_q, field_r}
use Rattle.diagram.specs.Table.{chance, Record, Table, variable_count, record_count, root_count, table_of, record_at, is_choice, choice_count, scale_of, scale}
use Rattle.diagram.specs.Score.{implies}

-- Place 0 where a fault is there, and no place where it is not
unfoldable pub place_zero : Bool → Option ℕ
place_zero fault = cond fault (some 0) none

-- The first of n places, from i on, that is at fault
unfoldable pub first_place : (ℕ → Bool) → (i n : ℕ) → Option ℕ
first_place fault i zero = none
first_place fault i (suc n) = elim (fault i) as (λ _. Option ℕ) [ true ↦ some i | false ↦ first_place fault (suc i) n ]

-- A number of the table, and what it finds in a file: what comes with the file is fixed beforehand
pub record Check : Type 0 where
  pub number : ℕ
  pub fault : List ℕ → Option ℕ

-- ---------------------------------------------------------------------------
-- 10: the program's job word, which is the first word of its input

-- 10: "job word missing, kind not 5"; it "no longer looks at Q" (document 02, paper 2)
unfoldable pub job_fault : List ℕ → Option ℕ
job_fault input = place_zero (not (eqb (kind (word_at input 0)) 5))

-- ---------------------------------------------------------------------------
-- 11 to 18, 26 and 27: the file

-- 11: "table length under 4, over [..] or no multiple of 4"; paper 3: "Refusal 11 allows 1,324 bytes"
unfoldable pub length_fault : List ℕ → Option ℕ
length_fault s = place_zero (ltb (length s) 4 || ltb 1324 (length s) || not (eqb (length s % 4) 0))

-- A heading is of kind 1 with V from 1 to 60, N from 1 to 254 and R at most 16: "12 comes for R above 16"
unfoldable pub is_heading : ℕ → Bool
is_heading w = eqb (kind w) 1 && (leb 1 (field_p w) && leb (field_p w) 60) && (leb 1 (field_q w) && leb (field_q w) 254) && leb (field_r w) 16

-- 12: "heading's kind or a field wrong"
unfoldable pub heading_fault : List ℕ → Option ℕ
heading_fault s = place_zero (not (is_heading (word_at s 0)))

-- 13: "length is not 4 times (1 + V + N)"; paper 3: "13 counts root words"
unfoldable pub count_fault : List ℕ → Option ℕ
count_fault s = place_zero (not (eqb (length s) (4 * (1 + variable_count s + record_count s + root_count s))))

-- A choice word is of kind 2 with its position, Q 0 and R from 0 to 500, which is its kits less one, a chance word of kind 3 with its position, b from 1 to
-- 1,000 and a from 0 to b
unfoldable pub is_variable_word : (position : ℕ) → ℕ → Bool
is_variable_word i w =
    eqb (field_p w) i
    && (eqb (kind w) 2 && eqb (field_q w) 0 && leb (field_r w) 500
    || eqb (kind w) 3 && (leb 1 (field_r w) && leb (field_r w) 1000) && leb (field_q w) (field_r w))

-- 14: "a variable word's kind or a field wrong", at the first such word. The variable at position i is word i + 1.
unfoldable pub variable_fault : List ℕ → Option ℕ
variable_fault s = first_place (λ i. not (is_variable_word (i - 1) (word_at s i))) 1 (variable_count s)

-- 15: "more than 20 choices", at "the 21st choice word": the first word up to which there are more than 20
unfoldable pub choice_fault : List ℕ → Option ℕ
choice_fault s = first_place (λ i. ltb 20 (choice_count (take i (table_of s).variables))) 1 (variable_count s)

-- 16: "product of b above 2^56", at the "word where it first is"
unfoldable pub scale_fault : List ℕ → Option ℕ
scale_fault s = first_place (λ i. ltb (2 ^ 56) (scale_of (take i (table_of s).variables))) 1 (variable_count s)

-- The position of a node. The ends stand after all v variables, so that "a larger variable position" is asked of records only.
unfoldable pub position_of : ℕ → List Record → ℕ → ℕ
position_of v rs zero = v
position_of v rs (suc zero) = v
position_of v rs (suc (suc k)) = (record_at rs k).position

-- "Both children have smaller node numbers, and a child that is a record has a larger variable position": node n as a child of record k at position p
unfoldable pub is_child : ℕ → List Record → (k p n : ℕ) → Bool
is_child v rs k p n = ltb n (k + 2) && ltb p (position_of v rs n)

-- A record word is of kind 4, with the position of one of the v variables and two children
unfoldable pub is_record_word : ℕ → List Record → (k : ℕ) → ℕ → Bool
is_record_word v rs k w =
    eqb (kind w) 4 && ltb (field_p w) v && (is_child v rs k (field_p w) (field_q w) && is_child v rs k (field_p w) (field_r w))

-- 17: "a record's kind, position or child wrong", at the first such word. Record k is word 1 + V + k.
unfoldable pub record_fault : List ℕ → Option ℕ
record_fault s =
    first_place
    (λ i. not (is_record_word (variable_count s) (table_of s).records (i - (1 + variable_count s)) (word_at s i)))
    (1 + variable_count s)
    (record_count s)

-- A root word is of kind 6 with P zero, "Q a reward of 1 to 64, R a record's node number" of n records
unfoldable pub is_root_word : (records : ℕ) → ℕ → Bool
is_root_word n w =
    eqb (kind w) 6 && eqb (field_p w) 0 && (leb 1 (field_q w) && leb (field_q w) 64) && (leb 2 (field_r w) && leb (field_r w) (n + 1))

-- 26: "the first wrong root word (its place)"
unfoldable pub root_fault : List ℕ → Option ℕ
root_fault s =
    first_place (λ i. not (is_root_word (record_count s) (word_at s i))) (1 + variable_count s + record_count s) (root_count s)

-- 27: "B times the total reward is above 2^56 (place 0)"
unfoldable pub reward_fault : List ℕ → Option ℕ
reward_fault s = place_zero (ltb (2 ^ 56) (scale (table_of s)))

-- "at every choice record, reachable or not, each settling of all variables that leads from lo to true also leads from hi to true": at record k
unfoldable pub is_monotone_at : Table → ℕ → Bool
is_monotone_at t k =
    not (is_choice (get_or t.variables (record_at t.records k).position (chance 0 1)))
    || implies (length t.variables) t.records (record_at t.records k).lo (record_at t.records k).hi

-- 18: "not monotone", at the "first record at fault"
unfoldable pub monotone_fault : List ℕ → Option ℕ
monotone_fault s =
    first_place (λ i. not (is_monotone_at (table_of s) (i - (1 + variable_count s)))) (1 + variable_count s) (record_count s)

-- ---------------------------------------------------------------------------
-- 21 to 25: what comes with the file

-- 21: "plan length is not the number of choices"
unfoldable pub plan_length_fault : List ℕ → List ℕ → Option ℕ
plan_length_fault p s = place_zero (not (eqb (length p) (choice_count (table_of s).variables)))

-- 22: "a plan byte above 2", at the "first such index"
unfoldable pub plan_mark_fault : List ℕ → List ℕ → Option ℕ
plan_mark_fault p s = first_place (λ i. ltb 2 (get_or p i 0)) 0 (length p)

-- 22 "for the score also an open byte"
unfoldable pub full_plan_fault : List ℕ → List ℕ → Option ℕ
full_plan_fault p s = first_place (λ i. ltb 2 (get_or p i 0) || eqb (get_or p i 0) 0) 0 (length p)

-- 23: "percent above 100"
unfoldable pub percent_fault : ℕ → List ℕ → Option ℕ
percent_fault percent s = place_zero (ltb 100 percent)

-- 24: "kits above 10,020" (document 02, paper 2)
unfoldable pub budget_fault : ℕ → List ℕ → Option ℕ
budget_fault budget s = place_zero (ltb 10020 budget)

-- 25: "the written buffer's length is not the number of choices"
unfoldable pub buffer_fault : ℕ → List ℕ → Option ℕ
buffer_fault size s = place_zero (not (eqb size (choice_count (table_of s).variables)))

-- ---------------------------------------------------------------------------
-- The checks of each service: "Checks run in this table's order, each over the whole file before the next; those a service has no input for are skipped."

-- Those of the program, on its whole input, before it asks the search
unfoldable pub job_checks : List Check
job_checks = record { number = 10; fault = job_fault } ∷ []

-- Those of every service, on the file, in named parts: the file's length and heading, the variable words, the product of b, the record and root words, B,
-- and monotony
abbrev pub heading_checks : List Check
heading_checks =
    record { number = 11; fault = length_fault }
    ∷ record { number = 12; fault = heading_fault }
    ∷ record { number = 13; fault = count_fault }
    ∷ []

abbrev pub variable_checks : List Check
variable_checks =
    record { number = 14; fault = variable_fault }
    ∷ record { number = 15; fault = choice_fault }
    ∷ []

abbrev pub scale_checks : List Check
scale_checks = record { number = 16; fault = scale_fault } ∷ []

-- 26 and 27 are "the two checked after 17 and before 18"
abbrev pub record_checks : List Check
record_checks =
    record { number = 17; fault = record_fault }
    ∷ record { number = 26; fault = root_fault }
    ∷ []

abbrev pub reward_checks : List Check
reward_checks = record { number = 27; fault = reward_fault } ∷ []

abbrev pub monotone_checks : List Check
monotone_checks = record { number = 18; fault = monotone_fault } ∷ []

unfoldable pub table_checks : List Check
table_checks =
    heading_checks ++ variable_checks ++ scale_checks ++ record_checks ++ reward_checks ++ monotone_checks

-- Those of what comes with the file: a full plan, a plan, the percent, the kits (the budget), the size of the written buffer
abbrev pub full_plan_checks : (plan : List ℕ) → List Check
full_plan_checks p =
    record { number = 21; fault = plan_length_fault p }
    ∷ record { number = 22; fault = full_plan_fault p }
    ∷ []

abbrev pub plan_checks : (plan : List ℕ) → List Check
plan_checks p =
    record { number = 21; fault = plan_length_fault p }
    ∷ record { number = 22; fault = plan_mark_fault p }
    ∷ []

abbrev pub percent_checks : (percent : ℕ) → List Check
percent_checks percent = record { number = 23; fault = percent_fault percent } ∷ []

abbrev pub budget_checks : (budget : ℕ) → List Check
budget_checks budget = record { number = 24; fault = budget_fault budget } ∷ []

abbrev pub buffer_checks : (size : ℕ) → List Check
buffer_checks size = record { number = 25; fault = buffer_fault size } ∷ []

-- The score: file and plan, which has to be full
unfoldable pub score_checks : (plan : List ℕ) → List Check
score_checks p = table_checks ++ full_plan_checks p

-- The sweep: file, plan and the size of the drops buffer
unfoldable pub sweep_checks : (plan : List ℕ) → (size : ℕ) → List Check
sweep_checks p size = table_checks ++ (plan_checks p ++ buffer_checks size)

-- The filter: file, plan, percent and the size of the plan buffer
unfoldable pub filter_checks : (plan : List ℕ) → (percent size : ℕ) → List Check
filter_checks p percent size = table_checks ++ (plan_checks p ++ percent_checks percent ++ buffer_checks size)

-- The search: file, plan, kits, percent and the size of the plan buffer
unfoldable pub search_checks : (plan : List ℕ) → (budget percent size : ℕ) → List Check
search_checks p budget percent size =
    table_checks ++ (plan_checks p ++ percent_checks percent ++ budget_checks budget ++ buffer_checks size)
