-- What document 01 says of plans, completions and candidates, and document 02, papers 1, 2 and 3, of passing, kits and B, in words that the demands share, with
-- every quantifier written out: no list of completions is gone through.
use Rattle.std.specs.Prelude.{ℕ, ◌*◌, ◌≤◌, ◌<◌, ◌≡◌, ◌⊎◌, List, length, get_or}
use Rattle.diagram.specs.Table.{table_of, scale, choice_count}
use Rattle.diagram.specs.Score.{score}
use Rattle.diagram.specs.Plans.{cost}

-- "a marking is legal when it has one byte a choice and none above 2": 0 open, 1 taken, 2 left
pub record LegalMarking (file plan : List ℕ) : Type 0 where
  pub size : length plan ≡ choice_count (table_of file).variables
  pub marks : (i : ℕ) → i < length plan → get_or plan i 0 ≤ 2

-- "A full plan has no open byte": one byte a choice, each of them taken or left
pub record FullPlan (file plan : List ℕ) : Type 0 where
  pub size : length plan ≡ choice_count (table_of file).variables
  pub marks : (i : ℕ) → i < length plan → (get_or plan i 0 ≡ 1) ⊎ (get_or plan i 0 ≡ 2)

-- Line i is open
abbrev pub Open : (plan : List ℕ) → (i : ℕ) → Type 0
Open plan i = (i < length plan) × (get_or plan i 0 ≡ 0)

-- "A way of settling a plan's open lines, or completion, is a full plan with each open line made taken or left and every other mark kept"
pub record Completion (plan way : List ℕ) : Type 0 where
  pub size : length way ≡ length plan
  pub settled : (i : ℕ) → Open plan i → (get_or way i 0 ≡ 1) ⊎ (get_or way i 0 ≡ 2)
  pub kept : (i : ℕ) → i < length plan → (get_or plan i 0 ≡ 0 → ⊥) → get_or way i 0 ≡ get_or plan i 0

-- "It passes when its score does", the score counted afresh: "100 times the score is not less than p times B"
abbrev pub Passing : (file : List ℕ) → (percent : ℕ) → (way : List ℕ) → Type 0
Passing file percent way = percent * scale (table_of file) ≤ 100 * score (table_of file) way

-- "no way of settling the open lines passes"
abbrev pub NonePasses : (file plan : List ℕ) → (percent : ℕ) → Type 0
NonePasses file plan percent = (way : List ℕ) → Completion plan way → Passing file percent way → ⊥

-- "no passing way leaves it"; a way "leaves a line when that line's byte is 2"
abbrev pub NoneLeaves : (file plan : List ℕ) → (percent i : ℕ) → Type 0
NoneLeaves file plan percent i =
    (way : List ℕ) → Completion plan way → Passing file percent way → get_or way i 0 ≡ 2 → ⊥

-- "plans that finish the one given, stay within the kits and pass the percentage". A plan takes the sum of the kits of its taken lines, whether a line
-- was taken before, is forced or is chosen: no line is counted twice.
pub record Candidate (file plan : List ℕ) (budget percent : ℕ) (way : List ℕ) : Type 0 where
  pub finishes : Completion plan way
  pub within : cost (table_of file) way ≤ budget
  pub passes : Passing file percent way

-- There is no candidate
abbrev pub NoCandidate : (file plan : List ℕ) → (budget percent : ℕ) → Type 0
NoCandidate file plan budget percent = (way : List ℕ) → Candidate file plan budget percent way → ⊥
