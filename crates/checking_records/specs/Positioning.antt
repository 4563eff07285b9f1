-- Check 17 by the positions in an array, which has those of the two ends and of the records before.
use Rattle.std.specs.Prelude.{ℕ, ◌+◌, Bool, ◌&&◌, List, get_or, eqb, ltb}
use Rattle.diagram.specs.Words.{kind, field_p, field_q, field_r}

-- Node n as a child of record k at position p
unfoldable pub child_by : (positions : List ℕ) → (k p n : ℕ) → Bool
child_by ps k p n = ltb n (k + 2) && ltb p (get_or ps n 0)

-- Word w as that of record k, in a file of v variables
unfoldable pub record_word_by : (v : ℕ) → (positions : List ℕ) → (k w : ℕ) → Bool
record_word_by v ps k w =
    eqb (kind w) 4 && ltb (field_p w) v && (child_by ps k (field_p w) (field_q w) && child_by ps k (field_p w) (field_r w))
