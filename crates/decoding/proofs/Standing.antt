-- A decoded table stands for the table of its file, if its arrays hold the file's parts.
-- Assumes nothing.
use Prim.Native.Nat.{ℕ, zero, suc, ◌+◌, ◌≤◌, ◌<◌}
use native.Mathlib.Nat.{zero-add}
use native.Mathlib.Omega.{arith}
use mathlib.Core.Path.{◌≡◌, refl, ap, sym, ◌∙◌}
use mathlib.Core.Bool.{true}
use mathlib.Core.List.{List, [], ◌∷◌}
use lib.ListN.{length, get_or, take}
use lib.Seq.{ext_get_or}
use Rattle.diagram.specs.Words.{word_at}
use Rattle.diagram.specs.Table.{Variable, choice, chance, Record, Root, sequence, is_choice, variable_of, record_of, record_at, variable_count, record_count, choice_count, table_of, scale}
use Rattle.diagram.proofs.Places.{sequence-length, sequence-at, sequence_past}
use Rattle.decoding.specs.declared.table.Decoded.{Decoded}
use Rattle.decoding.specs.Nodes.{column}
use Rattle.decoding.specs.Decoding.{pad_to, positions_from, choice_positions, root_at, root_nodes, root_rewards, variables_in, records_in, roots_in, table_in, Held}
use Rattle.decoding.proofs.Shape.{record-at-word}
use Rattle.decoding.proofs.Columns.{column-at}
use Rattle.decoding.proofs.Kits.{kits-length}
use Rattle.decoding.proofs.Finding.{positions-length}
use Rattle.decoding.proofs.Padding.{pad_at, pad_take}

-- ---------------------------------------------------------------------------
-- Sequences

-- two sequences with the same elements
pub sequence-same : {A : Type 0} (f g : ℕ → A) (i j n : ℕ) → ((k : ℕ) → k < n → f (i + k) ≡ g (j + k)) → sequence f i n ≡ sequence g j n
unfolding sequence
sequence-same f g i j zero h = refl
sequence-same f g i j (suc n) h =
    let a : i + 0 ≡ i = omega arith in
    let b : j + 0 ≡ j = omega arith in
    let here = rw (a, b) at (h 0 (omega arith)) in
    let rest = sequence-same f g (suc i) (suc j) n (λ k l. let x : i + suc k ≡ suc i + k = omega arith in let y : j + suc k ≡ suc j + k = omega arith in rw (x, y) at (h (suc k) (omega arith))) in
    rw (here, rest) refl

-- a list by its elements
pub list-sequence : {A : Type 0} (l : List A) (d : A) → sequence (λ i. get_or l i d) 0 (length l) ≡ l
list-sequence l d =
    let long = sequence-length (λ i. get_or l i d) 0 (length l) in
    ext_get_or d _ l long (λ i h. sequence-at (λ j. get_or l j d) 0 (length l) i d (omega (arith, long)) ∙ rw zero-add refl)

-- ---------------------------------------------------------------------------
-- The table of a decoded one, part by part

module _ (d : Decoded) where
  pub variables_in_lem : length (table_in d).variables ≡ d.variables
  unfolding table_in variables_in
  variables_in_lem = sequence-length (λ x. variable_of (get_or d.words x 0)) 0 d.variables

  pub records_in_lem : length (table_in d).records ≡ d.records
  unfolding table_in records_in
  records_in_lem = sequence-length _ 0 d.records

  pub roots_in_lem : length (table_in d).roots ≡ d.roots
  unfolding table_in roots_in
  roots_in_lem = sequence-length _ 0 d.roots

  pub root_in : (i : ℕ) → i < d.roots → root_at (table_in d).roots i ≡ record { node = get_or d.nodes i 0; reward = get_or d.rewards i 0 }
  unfolding table_in roots_in root_at
  root_in i h = sequence-at _ 0 d.roots i _ h ∙ rw zero-add

  -- the variable at position x
  pub variable_in : (x : ℕ) → x < d.variables → get_or (table_in d).variables x (chance 0 1) ≡ variable_of (get_or d.words x 0)
  unfolding table_in variables_in
  variable_in x h = sequence-at (λ y. variable_of (get_or d.words y 0)) 0 d.variables x _ h ∙ rw zero-add

  pub record_in_past : (k : ℕ) → d.records ≤ k → record_at (table_in d).records k ≡ record { position = 0; hi = 0; lo = 0 }
  unfolding table_in records_in record_at
  record_in_past k h = sequence_past _ 0 d.records k _ h

-- ---------------------------------------------------------------------------
-- The positions of choices

-- Position x of some variables is that of choice i
pub record ChoiceAt (vs : List Variable) (i x : ℕ) : Type 0 where
  pub within : x < length vs
  pub is : is_choice (get_or vs x (chance 0 1)) ≡ true
  pub number : choice_count (take x vs) ≡ i

choice-from : (x : ℕ) (vs : List Variable) (i : ℕ) → i < choice_count vs → (y : ℕ) × (get_or (positions_from x vs) i 0 ≡ x + y) × ChoiceAt vs i y
unfolding choice_count positions_from is_choice
choice-from x [] i h = absurd (omega arith)
choice-from x (choice ∷ vs) zero h = (0, omega arith, record { within = omega arith; is = refl; number = refl })
choice-from x (choice ∷ vs) (suc i) h =
    let rest = choice-from (suc x) vs i (omega arith) in
    let at = rest.2 in
    (suc rest.0, omega (arith, rest.1), record { within = omega (arith, at.within); is = at.is; number = ap suc at.number })
choice-from x (chance a b ∷ vs) i h =
    let rest = choice-from (suc x) vs i h in
    let at = rest.2 in
    (suc rest.0, omega (arith, rest.1), record { within = omega (arith, at.within); is = at.is; number = at.number })

-- the place of choice i
pub choice-position_in : {d : Decoded} → Held d → (i : ℕ) → i < d.choices → ChoiceAt (table_in d).variables i (get_or d.choice_positions i 0)
unfolding choice_positions
choice-position_in {d} h i l =
    let vs = (table_in d).variables in
    let at = choice-from 0 vs i (omega (arith, h.choices)) in
    let here : get_or d.choice_positions i 0 ≡ at.0 = ap (λ (cells : List ℕ). get_or cells i 0) h.choice_positions ∙ pad_at 20 (positions_from 0 vs) i (omega (arith, positions-length 0 vs, h.choices)) ∙ at.1 ∙ zero-add at.0 in
    rw here at.2

-- ---------------------------------------------------------------------------
-- The parts of a file

-- The arrays hold the parts of a file
pub record Parts (s : List ℕ) (d : Decoded) : Type 0 where
  pub variables : d.variables ≡ variable_count s
  pub records : d.records ≡ record_count s
  pub choices : d.choices ≡ choice_count (table_of s).variables
  pub scaled : d.scale ≡ scale (table_of s)
  pub words : d.words ≡ pad_to 64 (sequence (word_at s) 1 (variable_count s))
  pub choice_positions : d.choice_positions ≡ pad_to 20 (choice_positions (table_of s).variables)
  pub kits : d.kits ≡ pad_to 20 (table_of s).kits
  pub positions : d.positions ≡ column (variable_count s) (λ (r : Record). r.position) (table_of s).records
  pub high : d.high ≡ column 0 (λ (r : Record). r.hi) (table_of s).records
  pub low : d.low ≡ column 0 (λ (r : Record). r.lo) (table_of s).records
  pub roots : d.roots ≡ length (table_of s).roots
  pub nodes : d.nodes ≡ pad_to 16 (root_nodes (table_of s).roots)
  pub rewards : d.rewards ≡ pad_to 16 (root_rewards (table_of s).roots)

module _ {s : List ℕ} {d : Decoded} (p : Parts s d) (few : record_count s ≤ 254) where
  variables-stand : variables_in d.words d.variables ≡ (table_of s).variables
  unfolding variables_in table_of
  variables-stand =
      rw (p.words, p.variables)
      (sequence-same (λ x. variable_of (get_or (pad_to 64 (sequence (word_at s) 1 (variable_count s))) x 0)) (λ i. variable_of (word_at s i)) 0 1 (variable_count s)
      (λ k h. let long = sequence-length (word_at s) 1 (variable_count s) in rw (zero-add, pad_at 64 (sequence (word_at s) 1 (variable_count s)) k (omega (arith, long)), sequence-at (word_at s) 1 (variable_count s) k 0 h) refl))

  records-stand : records_in d.positions d.high d.low d.records ≡ (table_of s).records
  unfolding records_in table_of record_of
  records-stand =
      let rs = (table_of s).records in
      let at : (k : ℕ) → k < record_count s → record { position = get_or d.positions (k + 2) 0; hi = get_or d.high (k + 2) 0; lo = get_or d.low (k + 2) 0 } ≡ record_of (word_at s (1 + variable_count s + k)) = λ k h. rw (p.positions, p.high, p.low, column-at _ (λ (r : Record). r.position) rs k (omega arith), column-at _ (λ (r : Record). r.hi) rs k (omega arith), column-at _ (λ (r : Record). r.lo) rs k (omega arith), record-at-word s k h) refl in
      rw p.records (sequence-same _ (λ i. record_of (word_at s i)) 0 (1 + variable_count s) (record_count s) (λ k h. rw zero-add (at k h)))

  roots-stand : roots_in d.nodes d.rewards d.roots ≡ (table_of s).roots
  unfolding roots_in root_nodes root_rewards root_at
  roots-stand =
      let rs = (table_of s).roots in
      let n = length rs in
      let zeros : Root = record { node = 0; reward = 0 } in
      let part : (f : ℕ → ℕ) (k : ℕ) → k < n → get_or (pad_to 16 (sequence f 0 n)) k 0 ≡ f k = λ f k h. pad_at 16 (sequence f 0 n) k (omega (arith, sequence-length f 0 n)) ∙ sequence-at f 0 n k 0 h ∙ rw zero-add refl in
      rw p.roots
      (sequence-same _ (λ i. get_or rs i zeros) 0 0 n
      (λ k h. rw (zero-add, p.nodes, p.rewards, part (λ i. (root_at rs i).node) k h, part (λ i. (root_at rs i).reward) k h) refl)
      ∙ list-sequence rs zeros)

  kits-stand : take d.choices d.kits ≡ (table_of s).kits
  kits-stand = rw p.kits (pad_take 20 (table_of s).kits d.choices (p.choices ∙ sym (kits-length s)))

  -- the table is the file's
  pub stands : table_in d ≡ table_of s
  unfolding table_in
  stands = rw (variables-stand, records-stand, kits-stand, roots-stand) refl

  -- and the arrays hold it
  pub holds : Held d
  holds =
      record {
        choices = rw stands p.choices;
        scaled = rw stands p.scaled;
        words = rw (p.words, p.variables, pad_take 64 (sequence (word_at s) 1 (variable_count s)) (variable_count s) (sym (sequence-length (word_at s) 1 (variable_count s)))) refl;
        choice_positions = rw stands p.choice_positions;
        kits = rw stands p.kits;
        positions = rw (stands, p.variables) p.positions;
        high = rw stands p.high;
        low = rw stands p.low;
        nodes = rw stands p.nodes;
        rewards = rw stands p.rewards;
      }
