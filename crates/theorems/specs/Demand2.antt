-- Demand 2 of the briefing, in its words and with its quantifiers written out. It speaks of what `score` returns and of what `search` returns and writes;
-- nothing in it is about a visit or a fold. Document 01 explains the words.
use Rattle.std.specs.Prelude.{ℕ, ◌*◌, ◌≤◌, ◌<◌, ◌≡◌, cond, ◌⊎◌, ◌↔◌, List, Result, Ok, Err, map, length, get_or}
use Rattle.diagram.specs.Table.{Root, table_of}
use Rattle.diagram.specs.Score.{truth, settlings, weight, sum, score}
use Rattle.diagram.specs.Plans.{cost}
use Rattle.diagram.specs.Services.{score_outcome, search_outcome, search_buffer}
use Rattle.terms.specs.declared.refusal.Refusal.{Refusal}
use Rattle.terms.specs.declared.refusal.Reason.TheVariants as reason
use Rattle.scoring.specs.Answer.{outcome_of}
use Rattle.search.specs.declared.answer.Finding.{Finding}
use Rattle.search.specs.Answer.{search_of}
use Rattle.theorems.specs.Plans.{LegalMarking, FullPlan, Candidate, NoCandidate}
use Rattle.theorems.specs.Reasons.{Accepted}

-- "the weighted count of chance outcomes that lead to true" from one root: the sum, over all settlings of all chances with the choices as the plan says, of
-- the products of those whose walk from its node ends in true
abbrev pub count_from : (file plan : List ℕ) → (node : ℕ) → ℕ
count_from file plan node =
    sum
    (map
    (λ s. cond (truth (table_of file).records s node) (weight (table_of file).variables s) 0)
    (settlings (table_of file).variables plan))

-- "The score is the sum of reward times that root's score" (document 02, paper 3)
abbrev pub weighted_count : (file plan : List ℕ) → ℕ
weighted_count file plan =
    sum (map (λ (r : Root). r.reward * count_from file plan r.node) (table_of file).roots)

-- "at the lowest choice number where two differ, the one that takes it"
pub record TakesFirst (way other : List ℕ) : Type 0 where
  pub line : ℕ
  pub line-within : line < length way
  pub alike_before : (i : ℕ) → i < line → get_or way i 0 ≡ get_or other i 0
  pub takes : get_or way line 0 ≡ 1
  pub leaves : get_or other line 0 ≡ 2

-- "Ranking: higher score; then fewer lines taken; then, at the lowest choice number where two differ, the one that takes it", where the sum of kits is read
-- for the number of lines
abbrev pub RanksBefore : (file way other : List ℕ) → Type 0
RanksBefore file way other =
    (score (table_of file) other < score (table_of file) way)
    ⊎ ((score (table_of file) way ≡ score (table_of file) other)
    × ((cost (table_of file) way < cost (table_of file) other)
    ⊎ ((cost (table_of file) way ≡ cost (table_of file) other) × TakesFirst way other)))

-- "the first, in document 01's ranking, of all plans that finish the one given, stay within the kits and pass the percentage"
pub record FirstCandidate (file plan : List ℕ) (budget percent : ℕ) (way : List ℕ) : Type 0 where
  pub candidate : Candidate file plan budget percent way
  pub first : (other : List ℕ) → Candidate file plan budget percent other → (other ≡ way) ⊎ RanksBefore file way other

-- The answer 32
abbrev pub refused_32 : Result Finding Refusal
refused_32 = Err (record { reason = reason.NoCandidate; place = 0 })

-- What demand 2 says of the search's answer and of the plan that it writes over what the buffer held
pub record SearchHolds (file plan : List ℕ) (budget percent : ℕ) (held : List ℕ) (answer : Result Finding Refusal) (written : List ℕ) : Type 0 where
  -- the search finds a plan or answers 32
  pub answers : ((f : Finding) × (answer ≡ Ok f)) ⊎ (answer ≡ refused_32)
  -- "The plan returned is the first", and the score returned is its score, "with no rounding"
  pub finds : (f : Finding) → answer ≡ Ok f → FirstCandidate file plan budget percent written × (f.score ≡ score (table_of file) written)
  -- "32 is returned if there is no such plan, and only then"
  pub refuses : (answer ≡ refused_32) ↔ NoCandidate file plan budget percent
  -- and, of demand 1, "a turned-away request leaves the plan and the drops as they were"
  pub untouched : answer ≡ refused_32 → written ≡ held

-- Demand 2, of every accepted table. What is called the score here is the weighted count. "The score of a full plan is the weighted count of chance outcomes
-- that lead to true [..] with no rounding", for every full plan; and for every legal marking, and kits and percent within their limits ("Once every other
-- check passes"), what is said of the search. Its buffer has one place a choice. What is assumed of answer and buffer is word for word what `score` and
-- `search` promise.
unfoldable pub Demand2 : Type 0
Demand2 =
    (file : List ℕ) → Accepted file →
    ((plan : List ℕ) → score (table_of file) plan ≡ weighted_count file plan)
    × ((plan : List ℕ) (answer : Result ℕ Refusal) →
    FullPlan file plan →
    outcome_of answer ≡ score_outcome file plan →
    answer ≡ Ok (weighted_count file plan))
    × ((plan : List ℕ) (budget percent : ℕ) (held written : List ℕ) (answer : Result Finding Refusal) →
    LegalMarking file plan →
    budget ≤ 10020 →
    percent ≤ 100 →
    length held ≡ length plan →
    search_of answer written ≡ search_outcome file plan budget percent (length held) →
    written ≡ search_buffer file plan budget percent held →
    SearchHolds file plan budget percent held answer written)
