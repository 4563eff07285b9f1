-- Check 18 of a decoded table: the pairs of nodes that are met, and the stack of those to be expanded.
use Rattle.std.specs.Prelude.{ℕ, zero, suc, ◌+◌, ◌-◌, ◌*◌, ◌/◌, ◌%◌, ◌^◌, ◌≤◌, ◌<◌, min, ◌≡◌, Bool, true, cond, not, ◌⊎◌, List, length, get_or, set, eqb, leb}
use Rattle.std.proofs.Math.Option.{Option}
use Rattle.diagram.specs.Table.{Record, Table, sequence, variable_of, is_choice}
use Rattle.diagram.specs.Score.{implies}
use Rattle.diagram.specs.Checks.{first_place, is_monotone_at}
use Rattle.diagram.specs.Validity.{Formed}
use Rattle.decoding.specs.declared.table.Decoded.{Decoded}
use Rattle.decoding.specs.Decoding.{table_in, Held}
use Rattle.implication.specs.declared.worklist.Pair.{Pair}
use Rattle.implication.specs.declared.worklist.Worklist.{Worklist}

-- The records that three arrays by node number hold, with room for 254
unfoldable pub records_of : (positions high low : List ℕ) → List Record
records_of ps hs ls =
    sequence (λ k. record { position = get_or ps (k + 2) 0; hi = get_or hs (k + 2) 0; lo = get_or ls (k + 2) 0 }) 0 254

-- The position of the ends, which the array of positions has at node 0
unfoldable pub end_of : (positions : List ℕ) → ℕ
end_of ps = get_or ps 0 0

-- A decoded table whose records are formed, as check 17 leaves them, within the limits of check 12
pub record Checkable (d : Decoded) : Type 0 where
  pub held : Held d
  pub formed : Formed d.variables (table_in d).records
  pub few : d.variables ≤ 60
  pub most : d.records ≤ 254

-- 18 of a table: the word of the first record that is not monotone
unfoldable pub monotone_fault_in : Table → Option ℕ
monotone_fault_in t =
    first_place
    (λ i. not (is_monotone_at t (i - (1 + length t.variables))))
    (1 + length t.variables)
    (length t.records)

-- The node that check 18 asks about at record k, the low or the high one by the children in cs: the record's child where its
-- variable is a choice, and else false, which implies itself
unfoldable pub asked_node : (words positions cs : List ℕ) → (k : ℕ) → ℕ
asked_node ws ps cs k = cond (is_choice (variable_of (get_or ws (get_or ps (k + 2) 0) 0))) (get_or cs (k + 2) 0) 0

-- What passing a pair on needs: arrays that hold records as check 17 wants them, both ends at one position, which is at most
-- 60, and 0 for the ends' children
pub record Pairs (ps hs ls : List ℕ) : Type 0 where
  pub formed : Formed (end_of ps) (records_of ps hs ls)
  pub ends : get_or ps 1 0 ≡ end_of ps
  pub few : end_of ps ≤ 60
  pub high_ends : (n : ℕ) → n < 2 → get_or hs n 0 ≡ 0
  pub low_ends : (n : ℕ) → n < 2 → get_or ls n 0 ≡ 0

-- Where m of the pair m, n leads to by the children in cs: to its child, unless n stands at a smaller position
abbrev pub next : (ps cs : List ℕ) → (m n : ℕ) → ℕ
next ps cs m n = cond (leb (get_or ps m 0) (get_or ps n 0)) (get_or cs m 0) m

-- The smaller position of two nodes
abbrev pub smaller : List ℕ → (m n : ℕ) → ℕ
smaller ps m n = min (get_or ps m 0) (get_or ps n 0)

-- The pairs of which it is known at once that the first node implies the second
abbrev pub AtOnce : (m n : ℕ) → Type 0
AtOnce m n = (m ≡ 0) ⊎ ((n ≡ 1) ⊎ (m ≡ n))

-- Whether a pair is such
unfoldable pub is_known : (m n : ℕ) → Bool
is_known m n = cond (eqb m 0) true (cond (eqb n 1) true (eqb m n))

-- The bit of a pair of nodes, of which there are 256 for each first node, in four words
unfoldable pub bit : List ℕ → (m n : ℕ) → ℕ
bit met m n = get_or met (m * 4 + n / 64) 0 / 2 ^ (n % 64) % 2

-- The cell of a pair of nodes: 1 where the pair is known at once or its bit says that it has been met, and else 0
unfoldable pub cell : List ℕ → (m n : ℕ) → ℕ
cell met m n = cond (is_known m n) 1 (bit met m n)

-- How many of the first pairs have the cell 0
unfoldable pub zeros_below : List ℕ → ℕ → ℕ
zeros_below met zero = 0
zeros_below met (suc i) = zeros_below met i + (1 - cell met (i / 256) (i % 256))

-- How many cells are 0
unfoldable pub zeros : List ℕ → ℕ
zeros met = zeros_below met 65536

-- The cells of met' are those of met, but for that of the pair m, n, which is 1
pub record Met (met met' : List ℕ) (m n : ℕ) : Type 0 where
  pub size : length met' ≡ length met
  pub here : cell met' m n ≡ 1
  pub kept : (p q : ℕ) → cell met p q ≡ 1 → cell met' p q ≡ 1
  pub others : (p q : ℕ) → p < 256 → q < 256 → ((p ≡ m) × (q ≡ n)) ⊎ (cell met' p q ≡ cell met p q)

-- The pair that stands for none
abbrev pub no_pair : Pair
no_pair = record { first = record { 0 = 0 }; second = record { 0 = 0 } }

-- The two nodes of the pair of the stack that has j others under it
abbrev pub first_at : (stack : List Pair) → (j : ℕ) → ℕ
first_at stack j = (get_or stack j no_pair).first.0

abbrev pub second_at : (stack : List Pair) → (j : ℕ) → ℕ
second_at stack j = (get_or stack j no_pair).second.0

-- The stack has at most 62 pairs, so that there is room for one more
pub record RoomFor (met : List ℕ) (stack : List Pair) (depth : ℕ) : Type 0 where
  pub size : length met ≡ 1024
  pub stack_size : length stack ≡ 64
  pub shallow : depth ≤ 62

abbrev pub Room : Worklist → Type 0
Room w = RoomFor w.met w.stack w.depth

-- The worklist before its last pair was taken off, and that pair
abbrev pub put_back : Worklist → Worklist
put_back w = record { met = w.met; stack = w.stack; depth = suc w.depth }

abbrev pub top_of : Worklist → Pair
top_of w = get_or w.stack w.depth no_pair

-- How many pairs are to be met or expanded
abbrev pub to_do : Worklist → ℕ
to_do w = zeros w.met + w.depth

-- The stack after the pair m, n is met: it is written on top where its cell was 0
unfoldable pub pushed : (cell : ℕ) → (stack : List Pair) → (depth m n : ℕ) → List Pair
pushed zero stack depth m n = set stack depth (record { first = record { 0 = m }; second = record { 0 = n } })
pushed (suc _) stack depth m n = stack

-- The worklist after the pair m, n is met: it is put on top of the stack and marked where its cell was 0
pub record Adds (old new : Worklist) (m n : ℕ) : Type 0 where
  pub depth : new.depth ≡ old.depth + (1 - cell old.met m n)
  pub met : Met old.met new.met m n
  pub stack : new.stack ≡ pushed (cell old.met m n) old.stack old.depth m n

-- Both pairs that m, n leads to have been met
pub record Expanded (ps hs ls met : List ℕ) (m n : ℕ) : Type 0 where
  pub high : cell met (next ps hs m n) (next ps hs n m) ≡ 1
  pub low : cell met (next ps ls m n) (next ps ls n m) ≡ 1

-- The pair m, n stands on the stack
pub record Waits (stack : List Pair) (depth m n : ℕ) : Type 0 where
  pub slot : ℕ
  pub below : slot < depth
  pub first : first_at stack slot ≡ m
  pub second : second_at stack slot ≡ n

-- The stack of the pairs met: those on it are still to be expanded, as is the pair m, n that has been taken off last (0, 0 where
-- there is none), a pair with j others under it stands at position j - 1 or later, and all pairs met imply if the pair a, b does
pub record Stack (ps hs ls met : List ℕ) (stack : List Pair) (a b m n depth : ℕ) : Type 0 where
  pub pairs : Pairs ps hs ls
  pub room : RoomFor met stack depth
  pub asked : cell met a b ≡ 1
  pub origin : cell met 0 0 ≡ 1
  pub small : (j : ℕ) → j < depth → (first_at stack j < 256) × (second_at stack j < 256)
  pub waiting : (j : ℕ) → j < depth → cell met (first_at stack j) (second_at stack j) ≡ 1
  pub deep : (j : ℕ) → j < depth → j ≤ smaller ps (first_at stack j) (second_at stack j) + 1
  pub traced : (p q : ℕ) → p < 256 → q < 256 → cell met p q ≡ 1 → AtOnce p q ⊎ (Expanded ps hs ls met p q ⊎ (Waits stack depth p q ⊎ ((p ≡ m) × (q ≡ n))))
  pub right : implies (end_of ps) (records_of ps hs ls) a b ≡ true → (p q : ℕ) → p < 256 → q < 256 → cell met p q ≡ 1 → implies (end_of ps) (records_of ps hs ls) p q ≡ true

-- The worklist's stack is that of the pair a, b, and no pair is taken off
abbrev pub Tracks : Decoded → Worklist → (a b : ℕ) → Type 0
Tracks t w a b = Stack t.positions t.high t.low w.met w.stack a b 0 0 w.depth

-- It is that of some pair
abbrev pub Started : Decoded → Worklist → Type 0
Started t w = (a : ℕ) × (b : ℕ) × Tracks t w a b

-- The second worklist's stack is that of the same pair as the first's, whichever that is
abbrev pub Kept : Decoded → (old new : Worklist) → Type 0
Kept t old new = (a b : ℕ) → Tracks t old a b → Tracks t new a b
