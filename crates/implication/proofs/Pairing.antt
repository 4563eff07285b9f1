-- The arrays by node number hold a table's records, and a pair of nodes implies where the two pairs that it leads to do.
-- Assumes of the records what check 17 finds, where a law says so: see `Formed`.
use Prim.Native.Nat.{ℕ, zero, suc, ◌+◌, ◌-◌, ◌≤◌, ◌<◌, min}
use native.Mathlib.Nat.{zero-add, eq-or-lt_of_le}
use native.Mathlib.Decide.{dec_lt}
use native.Mathlib.Omega.{arith}
use mathlib.Core.Path.{◌≡◌, refl, ap, sym, ◌∙◌}
use mathlib.Core.Bool.{Bool, true, false, cond, not, ◌&&◌, ◌||◌}
use mathlib.Core.Logic.{⊎_elim, by_cases}
use mathlib.Core.List.{List}
use lib.ListN.{length, get_or}
use lib.Dec.{eqb, leb}
use borrow.Author.Tests.{eq-eqb, ne_eqb, le-leb, lt-leb}
use Rattle.diagram.specs.Table.{Record, Table, record_at, table_of, variable_of, is_choice}
use Rattle.diagram.specs.Score.{walk, truth, implies}
use Rattle.diagram.specs.Checks.{position_of, is_monotone_at, monotone_fault}
use Rattle.diagram.specs.Validity.{Formed}
use Rattle.diagram.proofs.Places.{sequence-at, sequence_past}
use Rattle.diagram.proofs.Locality.{position-le, position_less}
use Rattle.diagram.proofs.Implication.{hi_of, lo_of, follow, follow-le, follow_less, follow-later, implies_split, implies_false_end}
use Rattle.decoding.specs.declared.table.Decoded.{Decoded}
use Rattle.decoding.specs.Nodes.{column}
use Rattle.decoding.specs.Decoding.{table_in}
use Rattle.decoding.proofs.Choosing.{variables-length}
use Rattle.decoding.proofs.Shape.{records-length}
use Rattle.decoding.proofs.Columns.{column-at, column-ends}
use Rattle.decoding.proofs.Standing.{variables_in_lem, variable_in, record_in_past}
use Rattle.implication.specs.Nodes.{records_of, end_of, asked_node, Pairs, Checkable, monotone_fault_in, next, smaller}

-- ---------------------------------------------------------------------------
-- The records that arrays hold

module _ (ps hs ls : List ℕ) where
  pub held_at : (k : ℕ) → k < 254 → record_at (records_of ps hs ls) k ≡ record { position = get_or ps (k + 2) 0; hi = get_or hs (k + 2) 0; lo = get_or ls (k + 2) 0 }
  unfolding record_at records_of
  held_at k l = sequence-at _ 0 254 k _ l ∙ rw zero-add

  held_past : (k : ℕ) → 254 ≤ k → record_at (records_of ps hs ls) k ≡ record { position = 0; hi = 0; lo = 0 }
  unfolding record_at records_of
  held_past k l = sequence_past _ 0 254 k _ l

-- ---------------------------------------------------------------------------
-- Records that are alike

module _ (rs rs' : List Record) (same : (k : ℕ) → record_at rs k ≡ record_at rs' k) where
  walk_alike : (f : ℕ) (s : List Bool) (n : ℕ) → walk f rs s n ≡ walk f rs' s n
  unfolding walk
  walk_alike zero s n = refl
  walk_alike (suc f) s zero = refl
  walk_alike (suc f) s (suc zero) = refl
  walk_alike (suc f) s (suc (suc k)) = rw (same k) (walk_alike f s _)

  truth_alike : (s : List Bool) (n : ℕ) → truth rs s n ≡ truth rs' s n
  unfolding truth
  truth_alike s n = walk_alike n s n

  pub implies_alike : (v m n : ℕ) → implies v rs m n ≡ implies v rs' m n
  unfolding implies
  implies_alike v m n = simp truth_alike

  position_alike : (v n : ℕ) → position_of v rs n ≡ position_of v rs' n
  unfolding position_of
  position_alike v zero = refl
  position_alike v (suc zero) = refl
  position_alike v (suc (suc k)) = ap (λ (r : Record). r.position) (same k)

  pub formed_alike : {v : ℕ} → Formed v rs → Formed v rs'
  formed_alike {v} h =
      record {
        hi_less = λ k. rw (same k) at (h.hi_less k);
        lo_less = λ k. rw (same k) at (h.lo_less k);
        hi_later = λ k. rw (same k, position_alike) at (h.hi_later k);
        lo_later = λ k. rw (same k, position_alike) at (h.lo_later k);
      }

-- ---------------------------------------------------------------------------
-- The arrays by node number

-- where a node leads to at position x by the children in cs
abbrev leads : (ps cs : List ℕ) → (x n : ℕ) → ℕ
leads ps cs x n = cond (eqb (get_or ps n 0) x) (get_or cs n 0) n

module _ (ps hs ls : List ℕ) (ends : get_or ps 1 0 ≡ end_of ps) where
  pub position-held : (n : ℕ) → n < 256 → position_of (end_of ps) (records_of ps hs ls) n ≡ get_or ps n 0
  unfolding position_of end_of
  position-held zero l = refl
  position-held (suc zero) l = sym ends
  position-held (suc (suc k)) l =
      ap (λ (r : Record). r.position) (held_at ps hs ls k (omega arith)) ∙ ap (λ (i : ℕ). get_or ps i 0) (omega arith)

  -- what a node leads to at x by an arc whose children are in cs: an end stands after every variable, so not at x
  arc_held : (b : Bool) (cs : List ℕ) → ((k : ℕ) → k < 254 → cond b (record_at (records_of ps hs ls) k).hi (record_at (records_of ps hs ls) k).lo ≡ get_or cs (k + 2) 0) → (x n : ℕ) → x < end_of ps → n < 256 → follow (end_of ps) (records_of ps hs ls) x b n ≡ leads ps cs x n
  unfolding follow hi_of lo_of end_of
  arc_held b cs h x zero l m = rw (position-held 0 m, ne_eqb (get_or ps 0 0) x (λ e. omega arith))
  arc_held b cs h x (suc zero) l m = rw (position-held 1 m, ne_eqb (get_or ps 1 0) x (λ e. omega arith))
  arc_held b cs h x (suc (suc k)) l m =
      let at : k + 2 ≡ suc (suc k) = omega arith in
      rw (position-held (suc (suc k)) m, h k (omega arith), at)

  pub follow-held : (b : Bool) (x n : ℕ) → x < end_of ps → n < 256 → follow (end_of ps) (records_of ps hs ls) x b n ≡ leads ps (cond b hs ls) x n
  follow-held true = arc_held true hs (λ k l. ap (λ (r : Record). r.hi) (held_at ps hs ls k l))
  follow-held false = arc_held false ls (λ k l. ap (λ (r : Record). r.lo) (held_at ps hs ls k l))

-- ---------------------------------------------------------------------------
-- A pair by its children

-- a node at the ends' position is an end
only_ends : {v : ℕ} {rs : List Record} → Formed v rs → (n : ℕ) → v ≤ position_of v rs n → n < 2
unfolding position_of
only_ends h zero l = omega arith
only_ends h (suc zero) l = omega arith
only_ends h (suc (suc k)) l = absurd (omega (arith, position_less h k))

-- of two nodes that are not both ends, with x the smaller position
module _ {v : ℕ} {rs : List Record} (h : Formed v rs) (m n x : ℕ) (met : m < 2 → n < 2 → ⊥) (first : x ≡ min (position_of v rs m) (position_of v rs n)) where
  first_less : x < v
  first_less = ⊎_elim (λ e. absurd (met (only_ends h m (omega arith)) (only_ends h n (omega arith)))) (λ l. l) (eq-or-lt_of_le {n = x} {m = v} (omega (arith, position-le h m)))

  -- neither number rises, and one falls
  pair_less : (b : Bool) → follow v rs x b m + follow v rs x b n < m + n
  pair_less b =
      let l = first_less in
      let m-le = follow-le h x b m l in
      let n-le = follow-le h x b n l in
      ⊎_elim
      (λ e. omega (arith, rw (← e) at (follow_less h b m (omega arith))))
      (λ g. let e : position_of v rs n ≡ x = omega arith in omega (arith, rw e at (follow_less h b n (omega arith))))
      (eq-or-lt_of_le {n = x} {m = position_of v rs m} (omega arith))

  -- the pair that they lead to stands later
  pair_later : (b : Bool) → x < min (position_of v rs (follow v rs x b m)) (position_of v rs (follow v rs x b n))
  pair_later b =
      let m-later = follow-later h x b m first_less (omega arith) in
      let n-later = follow-later h x b n first_less (omega arith) in
      omega arith

  pair_split : implies v rs m n ≡ (implies v rs (follow v rs x true m) (follow v rs x true n) && implies v rs (follow v rs x false m) (follow v rs x false n))
  pair_split = implies_split h x m n first_less (omega arith) (omega arith)

-- a node moves on where it stands at the smaller position
moves : (p q x : ℕ) → x ≡ min p q → eqb p x ≡ leb p q
moves p q x e =
    by_cases (dec_lt q p)
    (λ l. ne_eqb p x (λ f. omega arith) ∙ sym (lt-leb p q l))
    (λ l. eq-eqb p x (omega arith) ∙ sym (le-leb p q (omega arith)))

-- two nodes that are not both ends
pub record Meets (ps hs ls : List ℕ) (m n : ℕ) : Type 0 where
  pub pairs : Pairs ps hs ls
  pub m_small : m < 256
  pub n_small : n < 256
  pub met : m < 2 → n < 2 → ⊥

module _ {ps hs ls : List ℕ} {m n : ℕ} (h : Meets ps hs ls m n) where
  first-held : smaller ps m n ≡ min (position_of (end_of ps) (records_of ps hs ls) m) (position_of (end_of ps) (records_of ps hs ls) n)
  first-held =
      rw (position-held ps hs ls h.pairs.ends m h.m_small, position-held ps hs ls h.pairs.ends n h.n_small)

  before-ends : smaller ps m n < end_of ps
  before-ends = first_less h.pairs.formed m n _ h.met first-held

  m_next : (b : Bool) → follow (end_of ps) (records_of ps hs ls) (smaller ps m n) b m ≡ next ps (cond b hs ls) m n
  m_next b =
      rw (follow-held ps hs ls h.pairs.ends b (smaller ps m n) m before-ends h.m_small, moves (get_or ps m 0) (get_or ps n 0) (smaller ps m n) refl)

  n_next : (b : Bool) → follow (end_of ps) (records_of ps hs ls) (smaller ps m n) b n ≡ next ps (cond b hs ls) n m
  n_next b =
      rw (follow-held ps hs ls h.pairs.ends b (smaller ps m n) n before-ends h.n_small, moves (get_or ps n 0) (get_or ps m 0) (smaller ps m n) (omega arith))

  -- neither number rises, and their sum falls
  pub next_le : (b : Bool) → (next ps (cond b hs ls) m n ≤ m) × (next ps (cond b hs ls) n m ≤ n)
  next_le b =
      rw (← m_next b, ← n_next b) (follow-le h.pairs.formed (smaller ps m n) b m before-ends, follow-le h.pairs.formed (smaller ps m n) b n before-ends)

  pub next_less : (b : Bool) → next ps (cond b hs ls) m n + next ps (cond b hs ls) n m < m + n
  next_less b = rw (← m_next b, ← n_next b) (pair_less h.pairs.formed m n _ h.met first-held b)

  -- the pair that they lead to stands later
  pub next-later : (b : Bool) → smaller ps m n < smaller ps (next ps (cond b hs ls) m n) (next ps (cond b hs ls) n m)
  next-later b =
      let m_small = h.m_small in
      let n_small = h.n_small in
      let m-le = (next_le b).0 in
      let n-le = (next_le b).1 in
      let m-held = position-held ps hs ls h.pairs.ends (next ps (cond b hs ls) m n) (omega arith) in
      let n_held = position-held ps hs ls h.pairs.ends (next ps (cond b hs ls) n m) (omega arith) in
      let later = pair_later h.pairs.formed m n (smaller ps m n) h.met first-held b in
      rw (m-held, n_held) at (rw (m_next b, n_next b) at later)

  -- m implies n where both pairs that they lead to do
  pub next_split : implies (end_of ps) (records_of ps hs ls) m n ≡ (implies (end_of ps) (records_of ps hs ls) (next ps hs m n) (next ps hs n m) && implies (end_of ps) (records_of ps hs ls) (next ps ls m n) (next ps ls n m))
  next_split =
      rw (← m_next true, ← n_next true, ← m_next false, ← n_next false) (pair_split h.pairs.formed m n _ h.met first-held)

-- every position is at most 60
pub position-few : {ps hs ls : List ℕ} → Pairs ps hs ls → (n : ℕ) → n < 256 → get_or ps n 0 ≤ 60
position-few {ps} {hs} {ls} h n l =
    omega (arith, h.few, position-le h.formed n, position-held ps hs ls h.ends n l)

-- ---------------------------------------------------------------------------
-- The arrays of a decoded table

-- the node that is asked about, at the numbers that the code has read: the record's node, its position, and whether a choice stands
-- there
module _ (ws ps cs : List ℕ) (k : ℕ) {node at r : ℕ} {test : Bool} (en : node ≡ k + 2) (ea : at ≡ get_or ps node 0) (et : test ≡ is_choice (variable_of (get_or ws at 0))) where
  pub asked-choice : test ≡ true → r ≡ get_or cs node 0 → r ≡ asked_node ws ps cs k
  unfolding asked_node
  asked-choice taken er = rw (← en, ← ea, ← et, taken) er

  pub asked-chance : test ≡ false → r ≡ 0 → r ≡ asked_node ws ps cs k
  unfolding asked_node
  asked-chance left er = rw (← en, ← ea, ← et, left) er

-- a record's children imply, or its variable is no choice
asked-implies : (choice : Bool) (v : ℕ) (rs : List Record) (m n : ℕ) → (not choice || implies v rs m n) ≡ implies v rs (cond choice m 0) (cond choice n 0)
asked-implies true v rs m n = refl
asked-implies false v rs m n = sym (implies_false_end v rs 0)

module _ {d : Decoded} (h : Checkable d) where
  held_end : end_of d.positions ≡ d.variables
  unfolding end_of column
  held_end = rw h.held.positions

  held-ends : get_or d.positions 1 0 ≡ end_of d.positions
  unfolding end_of column
  held-ends = rw h.held.positions

  held-records : (k : ℕ) → record_at (records_of d.positions d.high d.low) k ≡ record_at (table_in d).records k
  held-records k =
      let part : (cells : List ℕ) (end : ℕ) (f : Record → ℕ) → cells ≡ column end f (table_in d).records → k < 254 → get_or cells (k + 2) 0 ≡ f (record_at (table_in d).records k) = λ cells end f e l. rw e (column-at end f (table_in d).records k l) in
      by_cases (dec_lt k 254)
      (λ l. held_at d.positions d.high d.low k l ∙ rw (part _ _ (λ (r : Record). r.position) h.held.positions l, part _ _ (λ (r : Record). r.hi) h.held.high l, part _ _ (λ (r : Record). r.lo) h.held.low l) refl)
      (λ l. held_past d.positions d.high d.low k (omega arith) ∙ sym (record_in_past d k (omega (arith, h.most))))

  pub held-pairs : Pairs d.positions d.high d.low
  held-pairs =
      record {
        formed = rw held_end (formed_alike _ _ (λ k. sym (held-records k)) h.formed);
        ends = held-ends;
        few = omega (arith, held_end, h.few);
        high_ends = λ n l. rw h.held.high (column-ends _ _ n l);
        low_ends = λ n l. rw h.held.low (column-ends _ _ n l);
      }

  held-implies : (m n : ℕ) → implies (end_of d.positions) (records_of d.positions d.high d.low) m n ≡ implies (length (table_in d).variables) (table_in d).records m n
  held-implies m n = rw (held_end, variables_in_lem) (implies_alike _ _ held-records d.variables m n)

  -- the cells of record k
  held-cells : (k : ℕ) → k < d.records → record_at (table_in d).records k ≡ record { position = get_or d.positions (k + 2) 0; hi = get_or d.high (k + 2) 0; lo = get_or d.low (k + 2) 0 }
  held-cells k l = sym (held-records k) ∙ held_at d.positions d.high d.low k (omega (arith, h.most))

  -- a record's position is a variable's
  pub held-position : (k : ℕ) → k < d.records → get_or d.positions (k + 2) 0 < 64
  held-position k l =
      let before = position_less h.formed k in
      omega (arith, h.few, ap (λ (r : Record). r.position) (held-cells k l))

  -- check 18's test of record k, as the arrays have it
  held_test : (k : ℕ) → k < d.records → is_monotone_at (table_in d) k ≡ (not (is_choice (variable_of (get_or d.words (get_or d.positions (k + 2) 0) 0))) || implies (end_of d.positions) (records_of d.positions d.high d.low) (get_or d.low (k + 2) 0) (get_or d.high (k + 2) 0))
  unfolding is_monotone_at
  held_test k l =
      let before = position_less h.formed k in
      rw (held-implies, variable_in d _ before, held-cells k l)

  -- the same by the nodes that the code has read
  pub held-asked : (k : ℕ) → k < d.records → {lo hi : ℕ} {r : Bool} → lo ≡ asked_node d.words d.positions d.low k → hi ≡ asked_node d.words d.positions d.high k → r ≡ implies (end_of d.positions) (records_of d.positions d.high d.low) lo hi → r ≡ is_monotone_at (table_in d) k
  unfolding asked_node
  held-asked k l elo ehi er = er ∙ rw (elo, ehi) (sym (held_test k l ∙ asked-implies (is_choice (variable_of (get_or d.words (get_or d.positions (k + 2) 0) 0))) _ _ _ _))

-- ---------------------------------------------------------------------------
-- Check 18's test of a word, of a table of v variables

abbrev pub unmonotone_at : Table → ℕ → Bool
unmonotone_at t i = not (is_monotone_at t (i - (1 + length t.variables)))

pub unmonotone_test : (t : Table) (k : ℕ) {b : Bool} → b ≡ is_monotone_at t k → unmonotone_at t (1 + length t.variables + k) ≡ not b
unmonotone_test t k e =
    let back : 1 + length t.variables + k - (1 + length t.variables) ≡ k = omega arith in
    rw (back, e)

-- a file's check 18 is that of its table
pub fault_of-table : (s : List ℕ) → monotone_fault_in (table_of s) ≡ monotone_fault s
unfolding monotone_fault_in monotone_fault
fault_of-table s = rw (variables-length, records-length) refl
