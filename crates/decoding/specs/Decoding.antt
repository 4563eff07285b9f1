-- The table that a decoded one stands for, and what its arrays hold beside.
use Rattle.std.specs.Prelude.{ℕ, suc, ◌+◌, ◌-◌, ◌≤◌, ◌<◌, ◌^◌, ◌≡◌, List, [], ◌∷◌, ◌++◌, length, get_or, take, replicate}
use Rattle.diagram.specs.Table.{Variable, choice, chance, Record, Root, Table, sequence, variable_of, choice_count, scale_of, scale}
use Rattle.diagram.specs.Validity.{Formed, BoundedShares, Monotone}
use Rattle.decoding.specs.declared.table.Decoded.{Decoded}
use Rattle.decoding.specs.Nodes.{position_column, high_column, low_column}

-- A list in an array of so many cells: those after its end are 0
unfoldable pub pad_to : (width : ℕ) → List ℕ → List ℕ
pad_to n xs = xs ++ replicate (n - length xs) 0

-- ---------------------------------------------------------------------------
-- Parts by number

-- The positions of the choices among variables that stand from position x on
unfoldable pub positions_from : (x : ℕ) → List Variable → List ℕ
positions_from x [] = []
positions_from x (choice ∷ vs) = x ∷ positions_from (suc x) vs
positions_from x (chance a b ∷ vs) = positions_from (suc x) vs

-- The positions of the choices, by choice number
unfoldable pub choice_positions : List Variable → List ℕ
choice_positions vs = positions_from 0 vs

-- Root i, from 0. Past the last root it is one of zeros.
unfoldable pub root_at : List Root → ℕ → Root
root_at rs i = get_or rs i (record { node = 0; reward = 0 })

-- The nodes of the roots
unfoldable pub root_nodes : List Root → List ℕ
root_nodes rs = sequence (λ i. (root_at rs i).node) 0 (length rs)

-- The rewards of the roots
unfoldable pub root_rewards : List Root → List ℕ
root_rewards rs = sequence (λ i. (root_at rs i).reward) 0 (length rs)

-- ---------------------------------------------------------------------------
-- The table in the arrays

-- The first n variables of an array of words by position
unfoldable pub variables_in : (words : List ℕ) → (n : ℕ) → List Variable
variables_in ws n = sequence (λ x. variable_of (get_or ws x 0)) 0 n

-- The first n records of three arrays by node number; record k is node k + 2
unfoldable pub records_in : (positions high low : List ℕ) → (n : ℕ) → List Record
records_in ps hs ls n =
    sequence (λ k. record { position = get_or ps (k + 2) 0; hi = get_or hs (k + 2) 0; lo = get_or ls (k + 2) 0 }) 0 n

-- The first n roots of two arrays
unfoldable pub roots_in : (nodes rewards : List ℕ) → (n : ℕ) → List Root
roots_in ns ws n = sequence (λ i. record { node = get_or ns i 0; reward = get_or ws i 0 }) 0 n

-- The table that a decoded one stands for
unfoldable pub table_in : Decoded → Table
table_in d =
    record {
      variables = variables_in d.words d.variables;
      records = records_in d.positions d.high d.low d.records;
      kits = take d.choices d.kits;
      roots = roots_in d.nodes d.rewards d.roots;
    }

-- What a decoded table has beside: the number of choices, B and the choices' positions, the ends' cells, and zeros in the cells that are not used
pub record Held (d : Decoded) : Type 0 where
  pub choices : d.choices ≡ choice_count (table_in d).variables
  pub scaled : d.scale ≡ scale (table_in d)
  pub words : d.words ≡ pad_to 64 (take d.variables d.words)
  pub choice_positions : d.choice_positions ≡ pad_to 20 (choice_positions (table_in d).variables)
  pub kits : d.kits ≡ pad_to 20 (table_in d).kits
  pub positions : d.positions ≡ position_column d.variables (table_in d).records
  pub high : d.high ≡ high_column (table_in d).records
  pub low : d.low ≡ low_column (table_in d).records
  pub nodes : d.nodes ≡ pad_to 16 (root_nodes (table_in d).roots)
  pub rewards : d.rewards ≡ pad_to 16 (root_rewards (table_in d).roots)

-- Every root is a record's node
abbrev pub Rooted : Table → Type 0
Rooted t =
    (i : ℕ) → i < length t.roots → (2 ≤ (root_at t.roots i).node) × ((root_at t.roots i).node < length t.records + 2)

-- What the checks of a file have shown of its table
pub record Valid (t : Table) : Type 0 where
  pub variables : (1 ≤ length t.variables) × (length t.variables ≤ 60)
  pub records : (1 ≤ length t.records) × (length t.records ≤ 254)
  pub choices : choice_count t.variables ≤ 20
  pub shares : BoundedShares t.variables
  pub product : scale_of t.variables ≤ 2 ^ 56
  pub formed : Formed (length t.variables) t.records
  pub roots : length t.roots ≤ 16
  pub rooted : Rooted t
  pub rewards : (i : ℕ) → i < length t.roots → (root_at t.roots i).reward ≤ 64
  pub scaled : scale t ≤ 2 ^ 56
  pub monotone : Monotone t

-- A decoded table that is accepted
pub record Sound (d : Decoded) : Type 0 where
  pub held : Held d
  pub valid : Valid (table_in d)

-- The table of no file: zeros everywhere
unfoldable pub empty_table : Decoded
empty_table =
    record {
      variables = 0;
      records = 0;
      choices = 0;
      scale = 0;
      words = replicate 64 0;
      choice_positions = replicate 20 0;
      kits = replicate 20 0;
      positions = replicate 256 0;
      high = replicate 256 0;
      low = replicate 256 0;
      roots = 0;
      nodes = replicate 16 0;
      rewards = replicate 16 0;
    }
