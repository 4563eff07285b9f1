-- Document 02, paper 3: what a file says of roots, and what is asked of a list of them.
use Rattle.std.specs.Prelude.{ℕ, ◌+◌, ◌*◌, ◌≤◌, ◌<◌, ◌≡◌, ◌↔◌, List, [], ◌∷◌, map, length}
use Rattle.diagram.specs.Words.{word_at, kind, field_p, field_q, field_r}
use Rattle.diagram.specs.Table.{Root, Table, sequence, table_of, variable_count, record_count, root_count, scale_of, scale}
use Rattle.diagram.specs.Score.{sum, score}
use Rattle.diagram.specs.Plans.{cost, upper_bound, derivatives}
use Rattle.diagram.specs.Services.{filtering, searching, read_outcome, score_outcome, sweep_outcome, filter_outcome, search_outcome}
use Rattle.diagram.specs.Printout.{printout}
use Rattle.theorems.specs.Reasons.{scale_limit, reward_limit, Wrong, file_alone, Accepted}
use Rattle.theorems.specs.Demand2.{count_from}

-- Root word r, from 0: root words "follow the records"
abbrev pub root_word_at : (file : List ℕ) → (r : ℕ) → ℕ
root_word_at file r = word_at file (1 + variable_count file + record_count file + r)

-- "Q a reward of 1 to 64, R a record's node number": one root a root word, in the file's order. "With no root words the last record is the root with reward
-- 1", and "record k, from 0, is node k+2".
unfoldable pub RootsAreHeld : Type 0
RootsAreHeld =
    (file : List ℕ) →
    (1 ≤ root_count file →
    (table_of file).roots
    ≡ sequence (λ r. record { node = field_r (root_word_at file r); reward = field_q (root_word_at file r) }) 0 (root_count file))
    × (root_count file ≡ 0 → (table_of file).roots ≡ record { node = record_count file + 1; reward = 1 } ∷ [])

-- "B is multiplied by the total reward": B is the product of all b times the sum of the rewards
unfoldable pub ScaleIsTheProduct : Type 0
ScaleIsTheProduct =
    (t : Table) → scale t ≡ scale_of t.variables * sum (map (λ (r : Root). r.reward) t.roots)

-- No plan scores more than B
unfoldable pub ScoreWithinScale : Type 0
ScoreWithinScale = (file plan : List ℕ) → Accepted file → score (table_of file) plan ≤ scale (table_of file)

-- ---------------------------------------------------------------------------
-- Two files

-- Two files with the same kind, V and N in the heading, the same variable words and the same records
pub record SameNetwork (file other : List ℕ) : Type 0 where
  pub heading : kind (word_at other 0) ≡ kind (word_at file 0)
  pub variables : variable_count other ≡ variable_count file
  pub records : record_count other ≡ record_count file
  pub words : (i : ℕ) → i < variable_count file + record_count file → word_at other (1 + i) ≡ word_at file (1 + i)

-- Two files that each service answers alike, whatever comes with them, and the program after any job word
pub record ServedAlike (file other : List ℕ) : Type 0 where
  pub reads : read_outcome file ≡ read_outcome other
  pub scores : (plan : List ℕ) → score_outcome file plan ≡ score_outcome other plan
  pub sweeps : (plan : List ℕ) (size : ℕ) → sweep_outcome file plan size ≡ sweep_outcome other plan size
  pub filters : (plan : List ℕ) (percent size : ℕ) → filter_outcome file plan percent size ≡ filter_outcome other plan percent size
  pub searches : (plan : List ℕ) (budget percent size : ℕ) → search_outcome file plan budget percent size ≡ search_outcome other plan budget percent size
  pub prints : (a b c d : ℕ) → printout (a ∷ b ∷ c ∷ d ∷ file) ≡ printout (a ∷ b ∷ c ∷ d ∷ other)

-- ---------------------------------------------------------------------------
-- No root words

-- A file without root words has the scores and the B that it had: the weighted count from the last record's node, and the product of all b. Where 16 finds
-- nothing, neither does 27.
unfoldable pub OneRoot : Type 0
OneRoot =
    (file : List ℕ) → root_count file ≡ 0 →
    ((plan : List ℕ) → score (table_of file) plan ≡ count_from file plan (record_count file + 1))
    × (scale (table_of file) ≡ scale_of (table_of file).variables)
    × (((i : ℕ) → Wrong (file_alone file) scale_limit i → ⊥) → (i : ℕ) → Wrong (file_alone file) reward_limit i → ⊥)

-- A file without root words, and the same with the one root word that names the last record with reward 1
pub record NamesLast (file named : List ℕ) : Type 0 where
  pub network : SameNetwork file named
  pub size : length named ≡ length file + 4
  pub none : root_count file ≡ 0
  pub one : root_count named ≡ 1
  pub word-kind : kind (root_word_at named 0) ≡ 6
  pub word-zero : field_p (root_word_at named 0) ≡ 0
  pub word-reward : field_q (root_word_at named 0) ≡ 1
  pub word-node : field_r (root_word_at named 0) ≡ record_count file + 1

-- "With no root words the last record is the root with reward 1": both files stand for one table, one is accepted if and only if the other is, and then
-- they are served alike
unfoldable pub LastIsRoot : Type 0
LastIsRoot =
    (file named : List ℕ) → NamesLast file named →
    (table_of named ≡ table_of file) × (Accepted file ↔ Accepted named) × (Accepted file → ServedAlike file named)

-- ---------------------------------------------------------------------------
-- Several roots

-- Lists that differ in their order alone
pub data Reordered {A : Type 0} : List A → List A → Type 0 where
  nothing : Reordered [] []
  first-kept : {x : A} {xs ys : List A} → Reordered xs ys → Reordered (x ∷ xs) (x ∷ ys)
  exchanged : {x y : A} {xs : List A} → Reordered (x ∷ y ∷ xs) (y ∷ x ∷ xs)
  in_steps : {xs ys zs : List A} → Reordered xs ys → Reordered ys zs → Reordered xs zs

-- The root words of a file
abbrev pub root_words : (file : List ℕ) → List ℕ
root_words file = sequence (root_word_at file) 0 (root_count file)

-- Two files that differ in the order of their root words alone
pub record OtherOrder (file other : List ℕ) : Type 0 where
  pub network : SameNetwork file other
  pub size : length other ≡ length file
  pub count : root_count other ≡ root_count file
  pub roots : Reordered (root_words file) (root_words other)

-- The order of root words does not matter: if one file is accepted, so is the other, and they are served alike
unfoldable pub OrderIsFree : Type 0
OrderIsFree = (file other : List ℕ) → OtherOrder file other → Accepted file → Accepted other × ServedAlike file other

-- Two files that differ in two root words for one node, wherever they stand, in whose place the other has one, with the rewards added
pub record AddsRewards (file added : List ℕ) : Type 0 where
  pub network : SameNetwork file added
  pub size : length file ≡ length added + 4
  pub count : root_count file ≡ root_count added + 1
  pub first : ℕ
  pub second : ℕ
  pub both : ℕ
  pub others : List ℕ
  pub two : Reordered (root_words file) (first ∷ second ∷ others)
  pub one : Reordered (both ∷ others) (root_words added)
  pub both-kind : kind both ≡ 6
  pub both_zero : field_p both ≡ 0
  pub both-node : (field_r both ≡ field_r first) × (field_r both ≡ field_r second)
  pub both-reward : field_q both ≡ field_q first + field_q second
  pub limit : field_q first + field_q second ≤ 64

-- "a node named twice counts twice": as one word with the rewards added, as long as they come to at most 64
unfoldable pub TwiceIsAdded : Type 0
TwiceIsAdded = (file added : List ℕ) → AddsRewards file added → Accepted file → Accepted added × ServedAlike file added

-- ---------------------------------------------------------------------------
-- Tables with other roots

-- Two tables of which the services say the same: B, what plans cost and score, tops, drops, and what filter and search answer and write
pub record AnswerAlike (t u : Table) : Type 0 where
  pub scales : scale t ≡ scale u
  pub costs : (plan : List ℕ) → cost t plan ≡ cost u plan
  pub scores : (plan : List ℕ) → score t plan ≡ score u plan
  pub tops : (plan : List ℕ) → upper_bound t plan ≡ upper_bound u plan
  pub drops : (plan : List ℕ) → derivatives t plan ≡ derivatives u plan
  pub filters : (percent : ℕ) (plan : List ℕ) → filtering t percent plan ≡ filtering u percent plan
  pub searches : (budget percent : ℕ) (plan : List ℕ) → searching t budget percent plan ≡ searching u budget percent plan

-- Of a table's roots the services read the scores and B alone
unfoldable pub ReadByScores : Type 0
ReadByScores =
    (t u : Table) → t.kits ≡ u.kits → scale t ≡ scale u → ((plan : List ℕ) → score t plan ≡ score u plan) → AnswerAlike t u

-- A table with other roots
unfoldable pub with_roots : List Root → Table → Table
with_roots rs t = record { variables = t.variables; records = t.records; kits = t.kits; roots = rs }

-- Two roots at one node count as one with the rewards added, wherever they stand and whatever the rewards are
unfoldable pub RootsAreAdded : Type 0
RootsAreAdded =
    (t : Table) (node first second : ℕ) (roots others : List Root) →
    Reordered roots (record { node = node; reward = first } ∷ record { node = node; reward = second } ∷ others) →
    AnswerAlike (with_roots roots t) (with_roots (record { node = node; reward = first + second } ∷ others) t)
