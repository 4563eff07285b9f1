-- Arrays by position that a loop writes cell by cell, the products of b from each position on, and the weight of an arc as a quotient of two of them.
-- Assumes of the decoded table that it is accepted (`Sound`), and of the variables what check 14 finds (`BoundedShares`), where a law says so.
use Prim.Native.Nat.{ℕ, zero, suc, ◌+◌, ◌*◌, ◌/◌, ◌≤◌, ◌<◌, ◌^◌}
use native.Mathlib.Nat.{le_refl, zero-add, mul-le-mul_left, mul-le-mul_right, mul-div_cancel, eq-or-lt_of_le}
use native.Mathlib.Numerals.{add-one}
use native.Mathlib.Omega.{arith}
use mathlib.Core.Path.{◌≡◌, refl, ap, sym, ◌∙◌}
use mathlib.Core.Logic.{⊎_elim}
use mathlib.Core.List.{List, [], ◌∷◌}
use lib.ListN.{length, get_or, set, drop, replicate, length-set, get_or-replicate}
use lib.Seq.{drop-cons, get_or-set_same, get_or-set_other, ext_get_or}
use mathlib.Core.Bool.{true, false}
use mathlib.Core.Logic.{by_cases}
use native.Mathlib.Decide.{dec_lt}
use lib.Dec.{eqb}
use borrow.Author.Count.{below_more}
use Rattle.diagram.specs.Words.{kind, field_q, field_r}
use Rattle.diagram.specs.Table.{Variable, choice, chance, Record, Table, sequence, variable_of, record_at, scale_of}
use Rattle.diagram.specs.Checks.{position_of}
use Rattle.diagram.specs.Validity.{BoundedShares, no_shares, choice-shares, chance-shares}
use Rattle.diagram.proofs.Places.{sequence-length, sequence-at}
use Rattle.diagram.proofs.Locality.{position-le, position_less}
use Rattle.diagram.proofs.FirstVariable.{scale-positive}
use Rattle.decoding.specs.declared.table.Decoded.{Decoded}
use Rattle.decoding.specs.Nodes.{column}
use Rattle.decoding.specs.Decoding.{variables_in, table_in, Held, Sound}
use Rattle.decoding.proofs.Columns.{front-position, column-at}
use Rattle.decoding.proofs.Standing.{variables_in_lem}
use Rattle.weighing.specs.Value.{node_position, gap, variable_at, high_share, low_share, high_arc, low_arc}
use Rattle.weighing.specs.Weights.{products, shares_by, high_shares, low_shares, arc_weight, Weighable}
use Rattle.weighing.proofs.Values.{gap-scale, shares-drop, shares_sum}

-- ---------------------------------------------------------------------------
-- The weight of an arc

-- the share times the quotient of two products, at the numbers that are read
pub weight_is : (qs : List ℕ) (share : ℕ) {i j from to : ℕ} → i ≡ from → j ≡ to → share * (get_or qs (i + 1) 0 / get_or qs j 0) ≡ share * (get_or qs (from + 1) 0 / get_or qs to 0)
weight_is qs share e f = rw (e, f)

-- ---------------------------------------------------------------------------
-- A word's variable

module _ (w : ℕ) where
  pub word-choice : eqb (kind w) 2 ≡ true → variable_of w ≡ choice
  unfolding variable_of
  word-choice e = simp e

  pub word-chance : eqb (kind w) 2 ≡ false → variable_of w ≡ chance (field_q w) (field_r w)
  unfolding variable_of
  word-chance e = simp e

-- ---------------------------------------------------------------------------
-- An array by position, written from the last position on

-- the cells from position p on are written
pub record From (f : ℕ → ℕ) (p : ℕ) (cells : List ℕ) : Type 0 where
  pub size : length cells ≡ 64
  pub at : (x : ℕ) → p ≤ x → x < 64 → get_or cells x 0 ≡ f x

module _ {f : ℕ → ℕ} where
  pub from_start : (p one : ℕ) → ((x : ℕ) → p ≤ x → f x ≡ one) → From f p (replicate 64 one)
  from_start p one h = record { size = refl; at = λ x l m. get_or-replicate 64 x one 0 m ∙ sym (h x l) }

  pub from_next : {p q : ℕ} {before : List ℕ} (x : ℕ) → From f q before → q ≡ p + 1 → p < 64 → x ≡ f p → From f p (set before p x)
  from_next {p} {q} {before} x w e h y =
      let size = w.size in
      record {
        size = simp length-set size;
        at = λ i l m. ⊎_elim
            (λ e. rw (← e, get_or-set_same before p x 0 (omega arith)) y)
            (λ less. rw (get_or-set_other before p i x 0 (omega arith)) (w.at i (omega arith) m))
            (eq-or-lt_of_le {n = p} {m = i} l);
      }

  pub from_all : {cells : List ℕ} → From f 0 cells → cells ≡ sequence f 0 64
  from_all {cells} w =
      let size = w.size in
      let long = sequence-length f 0 64 in
      ext_get_or 0 cells (sequence f 0 64) (omega arith)
      (λ i l. w.at i (omega arith) (omega arith) ∙ sym (sequence-at f 0 64 i 0 (omega arith) ∙ rw zero-add))

-- the cells before position p are written, and the others hold a number
pub record UpTo (f : ℕ → ℕ) (one p : ℕ) (cells : List ℕ) : Type 0 where
  pub size : length cells ≡ 64
  pub at : (x : ℕ) → x < p → get_or cells x 0 ≡ f x
  pub past : (x : ℕ) → p ≤ x → x < 64 → get_or cells x 0 ≡ one

module _ {f : ℕ → ℕ} {one : ℕ} where
  pub up_start : UpTo f one 0 (replicate 64 one)
  up_start = record { size = refl; at = λ x l. absurd (omega arith); past = λ x l m. get_or-replicate 64 x one 0 m }

  pub up_next : {p : ℕ} {before : List ℕ} (x : ℕ) → UpTo f one p before → p < 64 → x ≡ f p → UpTo f one (p + 1) (set before p x)
  up_next {p} {before} x w h y =
      let size = w.size in
      record {
        size = simp length-set size;
        at = below_more _ _
            (λ i l. rw (get_or-set_other before p i x 0 (omega arith)) (w.at i l))
            (rw (get_or-set_same before p x 0 (omega arith)) y);
        past = λ i l m. rw (get_or-set_other before p i x 0 (omega arith)) (w.past i (omega arith) m);
      }

  pub up_end : {p : ℕ} {cells : List ℕ} → UpTo f one p cells → ((x : ℕ) → p ≤ x → f x ≡ one) → cells ≡ sequence f 0 64
  up_end {p} {cells} w none =
      let size = w.size in
      let long = sequence-length f 0 64 in
      ext_get_or 0 cells (sequence f 0 64) (omega arith)
      (λ i l. by_cases (dec_lt i p) (λ b. w.at i b) (λ b. w.past i (omega arith) (omega arith) ∙ sym (none i (omega arith))) ∙ sym (sequence-at f 0 64 i 0 (omega arith) ∙ rw zero-add))

-- ---------------------------------------------------------------------------
-- The product of b from a position on

-- past the last variable it is 1
pub suffix_past : (vs : List Variable) (x : ℕ) → length vs ≤ x → scale_of (drop x vs) ≡ 1
unfolding scale_of
suffix_past [] zero h = refl
suffix_past [] (suc x) h = refl
suffix_past (v ∷ vs) zero h = absurd (omega arith)
suffix_past (v ∷ vs) (suc x) h = suffix_past vs x (omega arith)

scale_cons : (v : Variable) (vs : List Variable) → scale_of (v ∷ vs) ≡ scale_of vs * scale_of (v ∷ [])
unfolding scale_of
scale_cons choice vs = omega arith
scale_cons (chance a b) vs = omega arith

pub suffix_step : (vs : List Variable) (x : ℕ) → x < length vs → scale_of (drop x vs) ≡ scale_of (drop (x + 1) vs) * scale_of (get_or vs x (chance 0 1) ∷ [])
suffix_step vs x h = rw (drop-cons vs x (chance 0 1) h, add-one) (scale_cons (get_or vs x (chance 0 1)) (drop (suc x) vs))

pub suffix-le : {vs : List Variable} → BoundedShares vs → (x : ℕ) → scale_of (drop x vs) ≤ scale_of vs
unfolding scale_of
suffix-le h zero = le_refl _
suffix-le no_shares (suc x) = le_refl _
suffix-le (choice-shares h) (suc x) = suffix-le h x
suffix-le (chance-shares {b} {vs} ab b1 h) (suc x) = omega (arith, suffix-le h x, mul-le-mul_right (scale_of vs) b1)

-- the product between two positions is the quotient of the products from each on
pub suffix-gap : (t : Table) (x y : ℕ) → BoundedShares t.variables → x ≤ y → y ≤ length t.variables → scale_of (drop x t.variables) / scale_of (drop y t.variables) ≡ gap t x y
suffix-gap t x y h l m = rw (← gap-scale t x y l m) (mul-div_cancel (gap t x y) (scale-positive (shares-drop h y)))

-- the product from position x on
abbrev pub suffix : List Variable → (x : ℕ) → ℕ
suffix vs x = scale_of (drop x vs)

-- the variables that words by position hold
module _ (ws : List ℕ) (n : ℕ) where
  pub held-length : length (variables_in ws n) ≡ n
  unfolding variables_in
  held-length = sequence-length (λ x. variable_of (get_or ws x 0)) 0 n

  pub held-variable : (x : ℕ) → x < n → get_or (variables_in ws n) x (chance 0 1) ≡ variable_of (get_or ws x 0)
  unfolding variables_in
  held-variable x h = sequence-at (λ y. variable_of (get_or ws y 0)) 0 n x _ h ∙ rw zero-add

  -- the product from a position on is the product after it, times its own b
  pub suffix_down : (p : ℕ) {x b : ℕ} → p < n → x ≡ suffix (variables_in ws n) (p + 1) → b ≡ scale_of (variable_of (get_or ws p 0) ∷ []) → x * b ≡ suffix (variables_in ws n) p
  suffix_down p h e f = rw (suffix_step (variables_in ws n) p (omega (arith, held-length)), held-variable p h, e, f)

-- those of a decoded table
pub table-variables : (d : Decoded) → variables_in d.words d.variables ≡ (table_in d).variables
unfolding table_in
table-variables d = refl

pub suffix-fits : {vs : List Variable} → BoundedShares vs → scale_of vs ≤ 2 ^ 56 → (x : ℕ) → suffix vs x ≤ 2 ^ 56
suffix-fits h fits x = omega (arith, suffix-le h x, fits)

-- ---------------------------------------------------------------------------
-- The weight of an arc

-- where node n stands, by an array of positions
pub column-position : (v : ℕ) (rs : List Record) (n : ℕ) → n < 256 → get_or (column v (λ (r : Record). r.position) rs) n 0 ≡ position_of v rs n
unfolding column
column-position v rs n h = front-position v rs 254 n h

-- the cells of a decoded table: a node's position, and the children of record k
module _ {d : Decoded} (h : Held d) where
  pub position_in : (n : ℕ) → n < 256 → get_or d.positions n 0 ≡ node_position (table_in d) n
  unfolding node_position
  position_in n l =
      ap (λ (cells : List ℕ). get_or cells n 0) h.positions ∙ column-position d.variables (table_in d).records n l ∙ rw (variables_in_lem d) refl

  pub high_in : (k : ℕ) → k < 254 → get_or d.high (k + 2) 0 ≡ (record_at (table_in d).records k).hi
  high_in k l = ap (λ (cells : List ℕ). get_or cells (k + 2) 0) h.high ∙ column-at _ _ _ k l

  pub low_in : (k : ℕ) → k < 254 → get_or d.low (k + 2) 0 ≡ (record_at (table_in d).records k).lo
  low_in k l = ap (λ (cells : List ℕ). get_or cells (k + 2) 0) h.low ∙ column-at _ _ _ k l

  pub record-position_in : (k : ℕ) → k < 254 → get_or d.positions (k + 2) 0 ≡ (record_at (table_in d).records k).position
  record-position_in k l = ap (λ (cells : List ℕ). get_or cells (k + 2) 0) h.positions ∙ column-at _ _ _ k l

pub products_at : (vs : List Variable) (x : ℕ) → x < 64 → get_or (products vs) x 0 ≡ scale_of (drop x vs)
unfolding products
products_at vs x h = sequence-at (λ i. scale_of (drop i vs)) 0 64 x 0 h ∙ rw zero-add

shares_at : (share : Variable → ℕ) (vs : List Variable) (x : ℕ) → x < 64 → get_or (shares_by share vs) x 0 ≡ share (get_or vs x (chance 0 1))
unfolding shares_by
shares_at share vs x h = sequence-at (λ i. share (get_or vs i (chance 0 1))) 0 64 x 0 h ∙ rw zero-add

-- a share, times b of the variables after position x and before position y, is at most the product from x on
gap-fits : (t : Table) (x y share : ℕ) → BoundedShares t.variables → x < y → y ≤ length t.variables → share * scale_of (drop (x + 1) t.variables) ≤ scale_of (drop x t.variables) → share * gap t (x + 1) y ≤ scale_of (drop x t.variables)
gap-fits t x y share h l m e =
    omega (
      arith,
      ap (λ (z : ℕ). share * z) (gap-scale t (x + 1) y (omega arith) m),
      mul-le-mul_left (share * gap t (x + 1) y) (scale-positive (shares-drop h y)),
    )

-- the shares of a variable's two arcs, times the product after it, are the product from it on
suffix-shares : (t : Table) (x : ℕ) → BoundedShares t.variables → x < length t.variables → (m : ℕ) → let v = get_or t.variables x (chance 0 1) in (high_share v m + low_share v m) * scale_of (drop (x + 1) t.variables) ≡ scale_of (drop x t.variables)
suffix-shares t x h l m =
    let first = drop-cons t.variables x (chance 0 1) l in
    rw (first, add-one) (shares_sum (rw first at (shares-drop h x)) m)

-- the weight of node n's arc can be computed from the arrays, and is the number
pub record Weighs (qs ss ps cs : List ℕ) (n arc : ℕ) : Type 0 where
  pub weighable : Weighable qs ss ps cs n
  pub weight : arc_weight qs ss ps cs n ≡ arc

module _ {d : Decoded} {qs : List ℕ} (sound : Sound d) (held : qs ≡ products (table_in d).variables) (k : ℕ) (few : k < 254) where
  -- an arc to child n
  arc_weighs : {ss cs : List ℕ} (share : Variable → ℕ) (n : ℕ) → let x = (record_at (table_in d).records k).position in let own = share (variable_at (table_in d) k) in ss ≡ shares_by share (table_in d).variables → get_or cs (k + 2) 0 ≡ n → n < k + 2 → x < node_position (table_in d) n → own * suffix (table_in d).variables (x + 1) ≤ suffix (table_in d).variables x → Weighs qs ss d.positions cs (k + 2) (own * gap (table_in d) (x + 1) (node_position (table_in d) n))
  unfolding node_position arc_weight variable_at
  arc_weighs {ss} {cs} share n read child small later fit =
      let t = table_in d in
      let x = (record_at t.records k).position in
      let y = node_position t n in
      let own = share (variable_at t k) in
      let v = sound.valid.variables in
      let within : y ≤ length t.variables = position-le sound.valid.formed n in
      let from : get_or d.positions (k + 2) 0 ≡ x = record-position_in sound.held k few in
      let to : get_or d.positions (get_or cs (k + 2) 0) 0 ≡ y = rw child (position_in sound.held n (omega arith)) in
      let shares : get_or ss x 0 ≡ own = rw read (shares_at share t.variables x (omega arith)) in
      let quotient = suffix-gap t (x + 1) y sound.valid.shares (omega arith) within in
      let weight : arc_weight qs ss d.positions cs (k + 2) ≡ own * gap t (x + 1) y = rw (from, to, shares, held, products_at t.variables (x + 1) (omega arith), products_at t.variables y (omega arith), quotient) in
      record {
        weighable = record {
          from = rw from (omega arith);
          to = rw to (omega arith);
          positive = rw (to, held, products_at t.variables y (omega arith)) (scale-positive (shares-drop sound.valid.shares y));
          fits = rw weight (omega (arith, gap-fits t x y own sound.valid.shares later within fit, suffix-fits sound.valid.shares sound.valid.product x));
        };
        weight = weight;
      }

  pub high_weighs : {ss : List ℕ} → ss ≡ high_shares (table_in d).variables → Weighs qs ss d.positions d.high (k + 2) (high_arc (table_in d) k)
  unfolding high_arc variable_at node_position
  high_weighs read =
      let formed = sound.valid.formed in
      let shares = suffix-shares (table_in d) _ sound.valid.shares (position_less formed k) 1 in
      arc_weighs (λ v. high_share v 1) _ read (high_in sound.held k few) (formed.hi_less k) (formed.hi_later k) (omega arith)

  pub low_weighs : {ss : List ℕ} → ss ≡ low_shares (table_in d).variables → Weighs qs ss d.positions d.low (k + 2) (low_arc (table_in d) k)
  unfolding low_arc variable_at node_position
  low_weighs read =
      let formed = sound.valid.formed in
      let shares = suffix-shares (table_in d) _ sound.valid.shares (position_less formed k) 2 in
      arc_weighs (λ v. low_share v 2) _ read (low_in sound.held k few) (formed.lo_less k) (formed.lo_later k) (omega arith)
