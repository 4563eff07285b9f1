-- Document 01, "The diagram on the counter" and "Words of a table file", with papers 2 and 3 of document 02: the diagram that a file stands for.
-- What a file means is defined for any bytes. Whether it is a table at all is the checks' business (Checks).
use Rattle.std.specs.Prelude.{ℕ, zero, suc, ◌+◌, ◌*◌, Bool, true, false, cond, List, [], ◌∷◌, get_or, eqb}
use Rattle.diagram.specs.Words.{word_at, kind, field_p, field_q, field_r}

-- f i, f (i + 1), ..: n of them
unfoldable pub sequence : {A : Type 0} → (ℕ → A) → ℕ → ℕ → List A
sequence f i zero = []
sequence f i (suc n) = f i ∷ sequence f (suc i) n

-- "Each variable is a choice (reinforce a line or not) or a chance (an independent event with share a out of b)"
pub data Variable : Type 0 where
  choice : Variable
  chance : ℕ → ℕ → Variable

-- A record: the position of its variable, and the nodes that its two arcs lead to
pub record Record : Type 0 where
  pub position : ℕ
  pub hi : ℕ
  pub lo : ℕ

-- A root: the node that its walks start at, and its reward. Document 02, paper 3: "Hospitals, pumps and farms each have their own root and reward."
pub record Root : Type 0 where
  pub node : ℕ
  pub reward : ℕ

-- The variables by position, the records in file order, the kits that each choice takes, by choice number, and the roots, which are one or more
pub record Table : Type 0 where
  pub variables : List Variable
  pub records : List Record
  pub kits : List ℕ
  pub roots : List Root

-- V, the number of variables: P of the heading
unfoldable pub variable_count : List ℕ → ℕ
variable_count s = field_p (word_at s 0)

-- N, the number of records: Q of the heading
unfoldable pub record_count : List ℕ → ℕ
record_count s = field_q (word_at s 0)

-- Paper 3: "The heading's R gives a number of root words, 0 to 16"
unfoldable pub root_count : List ℕ → ℕ
root_count s = field_r (word_at s 0)

-- A word of kind 2 is a choice, one of kind 3 a chance with a in Q and b in R
unfoldable pub variable_of : ℕ → Variable
variable_of w = cond (eqb (kind w) 2) choice (chance (field_q w) (field_r w))

-- A word of kind 4 has the variable position in P, the hi node in Q and the lo node in R
unfoldable pub record_of : ℕ → Record
record_of w = record { position = field_p w; hi = field_q w; lo = field_r w }

-- The kits of the choices among some variable words, in order. Document 02, paper 2: "A choice word's R now holds its kits less one"
unfoldable pub kits_of : List ℕ → List ℕ
kits_of [] = []
kits_of (w ∷ ws) = cond (eqb (kind w) 2) ((field_r w + 1) ∷ kits_of ws) (kits_of ws)

-- Paper 3: a word of kind 6 has "Q a reward of 1 to 64, R a record's node number"
unfoldable pub root_of : ℕ → Root
root_of w = record { node = field_r w; reward = field_q w }

-- Paper 3: "With no root words the last record is the root with reward 1", and "record k, from 0, is node k+2"
unfoldable pub roots_or : (last : ℕ) → List Root → List Root
roots_or last [] = record { node = last; reward = 1 } ∷ []
roots_or last (r ∷ rs) = r ∷ rs

-- "A file is one heading, V variable words with positions 0 to V-1 in order, then N records", and root words, "which follow the records"
unfoldable pub table_of : List ℕ → Table
table_of s =
    record {
      variables = sequence (λ i. variable_of (word_at s i)) 1 (variable_count s);
      records = sequence (λ i. record_of (word_at s i)) (1 + variable_count s) (record_count s);
      kits = kits_of (sequence (word_at s) 1 (variable_count s));
      roots = roots_or (record_count s + 1) (sequence (λ i. root_of (word_at s i)) (1 + variable_count s + record_count s) (root_count s));
    }

-- Record k, from 0. Past the last record it is one of zeros, which no check lets a walk reach.
unfoldable pub record_at : List Record → ℕ → Record
record_at rs k = get_or rs k (record { position = 0; hi = 0; lo = 0 })

-- Whether a variable is a choice
unfoldable pub is_choice : Variable → Bool
is_choice choice = true
is_choice (chance a b) = false

-- How many variables are choices
unfoldable pub choice_count : List Variable → ℕ
choice_count [] = 0
choice_count (choice ∷ vs) = suc (choice_count vs)
choice_count (chance a b ∷ vs) = choice_count vs

-- "the product of all b (1 if there are none)", which is B but for the rewards
unfoldable pub scale_of : List Variable → ℕ
scale_of [] = 1
scale_of (choice ∷ vs) = scale_of vs
scale_of (chance a b ∷ vs) = b * scale_of vs

-- The total reward
unfoldable pub total_reward : List Root → ℕ
total_reward [] = 0
total_reward (r ∷ rs) = r.reward + total_reward rs

-- B of a table, the scale of its scores. Paper 3: "B is multiplied by the total reward"
unfoldable pub scale : Table → ℕ
scale t = total_reward t.roots * scale_of t.variables
