-- The values of nodes: the gaps between positions, the weights of arcs, the bound of a value, the ends, and how a value goes by the first variable and
-- over the variables that a walk skips.
-- Assumes of the records what check 17 finds (`Formed`) and of the variables what check 14 finds (`BoundedShares`), where a law says so.
use Prim.Native.Nat.{ℕ, zero, suc, ◌+◌, ◌-◌, ◌*◌, ◌≤◌}
use native.Mathlib.Nat.{le_refl, add-sub_of_le, sub_self}
use native.Mathlib.Numerals.{add-one}
use native.Mathlib.Omega.{arith}
use mathlib.Core.Path.{◌≡◌, refl, ap, sym, ◌∙◌}
use mathlib.Core.Bool.{Bool, true, false, cond}
use mathlib.Core.List.{List, [], ◌∷◌, ◌++◌, tail, append_assoc}
use lib.ListN.{length, get_or, take, drop, replicate, length-append, length-drop, length-replicate}
use lib.Seq.{drop-cons, drop-drop, take-add, drop-length, append_snoc, get_or_at}
use Rattle.diagram.specs.Table.{Variable, choice, chance, Table, record_at, choice_count, scale_of, scale}
use Rattle.diagram.specs.Score.{is_taken, truth, total, score_from, score}
use Rattle.diagram.specs.Checks.{position_of}
use Rattle.diagram.specs.Validity.{Formed, BoundedShares, no_shares, choice-shares, chance-shares}
use Rattle.diagram.proofs.Truth.{truth_step, truth_false, truth_true}
use Rattle.diagram.proofs.Locality.{position-le, position_less, child_later, truth_local}
use Rattle.diagram.proofs.FirstVariable.{total_nil, total-choice, total-chance, total-same, total-le, rewarded-same, rewarded-all}
use Rattle.weighing.specs.Value.{node_position, marks_from, value_from, value, gap, rooted_sum, variable_at, mark_at, high_share, low_share, high_weight, low_weight}

-- ---------------------------------------------------------------------------
-- Gaps

scale_split : (n : ℕ) (vs : List Variable) → scale_of (take n vs) * scale_of (drop n vs) ≡ scale_of vs
unfolding scale_of
scale_split zero vs = omega arith
scale_split (suc n) [] = refl
scale_split (suc n) (choice ∷ vs) = scale_split n vs
scale_split (suc n) (chance a b ∷ vs) = omega (arith, ap (λ (z : ℕ). b * z) (scale_split n vs))

pub gap_same : (t : Table) (x : ℕ) → gap t x x ≡ 1
unfolding gap scale_of
gap_same t x = rw sub_self refl

pub gap-scale : (t : Table) (x y : ℕ) → x ≤ y → y ≤ length t.variables → gap t x y * scale_of (drop y t.variables) ≡ scale_of (drop x t.variables)
unfolding gap
gap-scale t x y h l = rw (drop-drop, add-sub_of_le h) at (scale_split (y - x) (drop x t.variables))

-- ---------------------------------------------------------------------------
-- Shares

pub shares-drop : {vs : List Variable} → BoundedShares vs → (x : ℕ) → BoundedShares (drop x vs)
shares-drop h zero = h
shares-drop no_shares (suc x) = no_shares
shares-drop (choice-shares h) (suc x) = shares-drop h x
shares-drop (chance-shares ab b1 h) (suc x) = shares-drop h x

-- the two arcs of a variable have all of its b
pub shares_sum : {v : Variable} {vs : List Variable} → BoundedShares (v ∷ vs) → (m : ℕ) → (high_share v m + low_share v m) * scale_of vs ≡ scale_of (v ∷ vs)
unfolding high_share low_share scale_of
shares_sum (choice-shares {vs} h) m = go (is_taken m)
  where
    go : (b : Bool) → (cond b 1 0 + cond b 0 1) * scale_of vs ≡ scale_of vs
    go true = omega arith
    go false = omega arith
shares_sum (chance-shares {a} {b} {vs} ab b1 h) m = ap (λ (z : ℕ). z * scale_of vs) (add-sub_of_le ab)

-- the weights are the shares, each times its arc's gap
weights-shares : (t : Table) (p : List ℕ) (k hi lo x y : ℕ) → gap t ((record_at t.records k).position + 1) (node_position t (record_at t.records k).hi) * hi ≡ x → gap t ((record_at t.records k).position + 1) (node_position t (record_at t.records k).lo) * lo ≡ y → high_weight t p k * hi + low_weight t p k * lo ≡ high_share (variable_at t k) (mark_at t p k) * x + low_share (variable_at t k) (mark_at t p k) * y
unfolding high_weight low_weight
weights-shares t p k hi lo x y e f = go _ _ _ _ e f
  where
    go : (a b g h : ℕ) → g * hi ≡ x → h * lo ≡ y → a * g * hi + b * h * lo ≡ a * x + b * y
    go a b g h e f = omega (arith, ap (λ (z : ℕ). a * z) e, ap (λ (z : ℕ). b * z) f)

pub weights-scale : (t : Table) → Formed (length t.variables) t.records → BoundedShares t.variables → (p : List ℕ) (k : ℕ) → high_weight t p k * scale_of (drop (node_position t (record_at t.records k).hi) t.variables) + low_weight t p k * scale_of (drop (node_position t (record_at t.records k).lo) t.variables) ≡ scale_of (drop (record_at t.records k).position t.variables)
unfolding variable_at node_position
weights-scale t h shares p k =
    let x = (record_at t.records k).position in
    let hi-later = h.hi_later k in
    let lo-later = h.lo_later k in
    let high = gap-scale t (x + 1) (node_position t (record_at t.records k).hi) (omega arith) (position-le h _) in
    let low = gap-scale t (x + 1) (node_position t (record_at t.records k).lo) (omega arith) (position-le h _) in
    let first = drop-cons t.variables x (chance 0 1) (position_less h k) in
    let both = shares_sum (rw first at (shares-drop shares x)) (mark_at t p k) in
    rw (weights-shares t p k _ _ _ _ high low, first, add-one) (omega (arith, both))

pub value-le : (t : Table) → BoundedShares t.variables → (p : List ℕ) (n : ℕ) → value t p n ≤ scale_of (drop (node_position t n) t.variables)
unfolding value value_from
value-le t shares p n = total-le (shares-drop shares (node_position t n)) _ _

-- ---------------------------------------------------------------------------
-- The ends

pub value_false : (t : Table) (p : List ℕ) → value t p 0 ≡ 0
unfolding value value_from node_position position_of
value_false t p = rw (drop-length, total_nil, truth_false)

pub value_true : (t : Table) (p : List ℕ) → value t p 1 ≡ 1
unfolding value value_from node_position position_of
value_true t p = rw (drop-length, total_nil, truth_true)

-- ---------------------------------------------------------------------------
-- Marks

choice_count-append : (us vs : List Variable) → choice_count (us ++ vs) ≡ choice_count us + choice_count vs
unfolding choice_count
choice_count-append [] vs = omega arith
choice_count-append (choice ∷ us) vs = omega (arith, choice_count-append us vs)
choice_count-append (chance a b ∷ us) vs = choice_count-append us vs

-- the marks n positions further on
marks-add : (t : Table) (p : List ℕ) (x n : ℕ) → drop (choice_count (take n (drop x t.variables))) (marks_from t x p) ≡ marks_from t (x + n) p
unfolding marks_from
marks-add t p x n = rw (drop-drop, take-add, choice_count-append)

drop_tail : (p : List ℕ) (n : ℕ) → drop n (tail p) ≡ drop (suc n) p
drop_tail [] zero = refl
drop_tail [] (suc n) = refl
drop_tail (m ∷ p) n = refl

-- ---------------------------------------------------------------------------
-- One variable

total_first : (v : Variable) (vs : List Variable) (p : List ℕ) (f : List Bool → Bool) → total (v ∷ vs) p f ≡ high_share v (get_or p 0 0) * total vs (drop (choice_count (v ∷ [])) p) (λ s. f (true ∷ s)) + low_share v (get_or p 0 0) * total vs (drop (choice_count (v ∷ [])) p) (λ s. f (false ∷ s))
unfolding high_share low_share choice_count
total_first choice vs p f = rw (total-choice, ← drop_tail p 0) (go (is_taken (get_or p 0 0)))
  where
    go : (b : Bool) → total vs (tail p) (λ s. f (b ∷ s)) ≡ cond b 1 0 * total vs (tail p) (λ s. f (true ∷ s)) + cond b 0 1 * total vs (tail p) (λ s. f (false ∷ s))
    go true = omega arith
    go false = omega arith
total_first (chance a b) vs p f = total-chance a b vs p f

-- a factor b for each of n variables that a test does not look at
total_skip : (n : ℕ) {vs : List Variable} → n ≤ length vs → BoundedShares vs → (p : List ℕ) (f g : List Bool → Bool) → ((r s : List Bool) → length r ≡ n → f (r ++ s) ≡ g s) → total vs p f ≡ scale_of (take n vs) * total (drop n vs) (drop (choice_count (take n vs)) p) g
unfolding scale_of choice_count
total_skip zero {vs} l h p f g e = omega (arith, total-same vs p f g (λ s. e [] s refl))
total_skip (suc n) l no_shares p f g e = absurd (omega arith)
total_skip (suc n) l (choice-shares h) p f g e =
    rw (total-choice, ← drop_tail) (total_skip n (omega arith) h (tail p) _ g (λ r s q. e (_ ∷ r) s (ap suc q)))
total_skip (suc n) l (chance-shares {a} {b} {vs} ab b1 h) p f g e =
    let high = total_skip n (omega arith) h p (λ s. f (true ∷ s)) g (λ r s q. e (true ∷ r) s (ap suc q)) in
    let low = total_skip n (omega arith) h p (λ s. f (false ∷ s)) g (λ r s q. e (false ∷ r) s (ap suc q)) in
    let rest = scale_of (take n vs) * total (drop n vs) (drop (choice_count (take n vs)) p) g in
    rw (total-chance, high, low) (omega (arith, ap (λ (z : ℕ). z * rest) (add-sub_of_le ab)))

-- ---------------------------------------------------------------------------
-- Settlings before a position

-- elements past two beginnings of one length
get_d_past : (q r s : List Bool) (i : ℕ) → length q ≡ length r → length r ≤ i → get_or (q ++ s) i false ≡ get_or (r ++ s) i false
get_d_past [] [] s i e l = refl
get_d_past [] (c ∷ r) s i e l = absurd (omega arith)
get_d_past (b ∷ q) [] s i e l = absurd (omega arith)
get_d_past (b ∷ q) (c ∷ r) s zero e l = absurd (omega arith)
get_d_past (b ∷ q) (c ∷ r) s (suc i) e l = get_d_past q r s i (omega arith) (omega arith)

module _ (t : Table) (h : Formed (length t.variables) t.records) where
  truth_past : (q s : List Bool) (x n : ℕ) → length q ≡ x → x ≤ node_position t n → truth t.records (q ++ s) n ≡ truth t.records (replicate x false ++ s) n
  unfolding node_position
  truth_past q s x n e l =
      let d = length-replicate x false in
      truth_local h _ _ n (λ i m. get_d_past q (replicate x false) s i (omega arith) (omega arith))

  -- the truth of record k's node under b at its position
  truth-at : (b : Bool) (s : List Bool) (k : ℕ) → truth t.records (replicate (record_at t.records k).position false ++ b ∷ s) (suc (suc k)) ≡ truth t.records (replicate ((record_at t.records k).position + 1) false ++ s) (cond b (record_at t.records k).hi (record_at t.records k).lo)
  unfolding node_position
  truth-at b s k =
      let x = (record_at t.records k).position in
      let later = child_later h b k in
      rw (truth_step h _ k, get_or_at (replicate x false) b s false x (length-replicate x false), ← append_snoc (replicate x false) b s)
      (truth_past (replicate x false ++ b ∷ []) s (x + 1) _ (rw (length-append, length-replicate) refl) (omega arith))

  -- a value at a record's position is the shares of the children's values from the next position on
  value-first : (p : List ℕ) (k : ℕ) → value t p (suc (suc k)) ≡ high_share (variable_at t k) (mark_at t p k) * value_from t p ((record_at t.records k).position + 1) (record_at t.records k).hi + low_share (variable_at t k) (mark_at t p k) * value_from t p ((record_at t.records k).position + 1) (record_at t.records k).lo
  unfolding value value_from node_position position_of variable_at mark_at
  value-first p k =
      let x = (record_at t.records k).position in
      let v = variable_at t k in
      let first : drop x t.variables ≡ v ∷ drop (x + 1) t.variables = rw add-one (drop-cons t.variables x (chance 0 1) (position_less h k)) in
      let marks : drop (choice_count (v ∷ [])) (marks_from t x p) ≡ marks_from t (x + 1) p = rw first at (marks-add t p x 1) in
      let high = total-same (drop (x + 1) t.variables) (marks_from t (x + 1) p) _ _ (λ s. truth-at true s k) in
      let low = total-same (drop (x + 1) t.variables) (marks_from t (x + 1) p) _ _ (λ s. truth-at false s k) in
      rw (first, total_first, marks, high, low) refl

-- ---------------------------------------------------------------------------
-- Skipped variables

module _ (t : Table) (h : Formed (length t.variables) t.records) (shares : BoundedShares t.variables) where
  -- a walk does not look at the variables between x and y, where the node stands at y or after
  from_skip : (p : List ℕ) (x y n : ℕ) → x ≤ y → y ≤ node_position t n → value_from t p x n ≡ gap t x y * value_from t p y n
  unfolding value_from gap node_position
  from_skip p x y n l m =
      let e : x + (y - x) ≡ y = add-sub_of_le l in
      let k : node_position t n ≤ length t.variables = position-le h n in
      rw (marks-add, drop-drop, e) at
      (total_skip
      (y - x)
      (omega (arith, length-drop x t.variables))
      (shares-drop shares x)
      (marks_from t x p)
      (λ s. truth t.records (replicate x false ++ s) n)
      (λ s. truth t.records (replicate y false ++ s) n)
      (λ r s q. rw (← append_assoc) (truth_past t h (replicate x false ++ r) s y n (rw (length-append, length-replicate, q) e) m)))

  pub value_skip : (p : List ℕ) (x n : ℕ) → x ≤ node_position t n → value_from t p x n ≡ gap t x (node_position t n) * value t p n
  unfolding value
  value_skip p x n l = from_skip p x (node_position t n) n l (le_refl _)

  pub value_step : (p : List ℕ) (k : ℕ) → value t p (k + 2) ≡ high_weight t p k * value t p (record_at t.records k).hi + low_weight t p k * value t p (record_at t.records k).lo
  unfolding node_position
  value_step p k =
      let e : k + 2 ≡ suc (suc k) = omega arith in
      let hi-later = h.hi_later k in
      let lo-later = h.lo_later k in
      let high = value_skip p ((record_at t.records k).position + 1) (record_at t.records k).hi (omega arith) in
      let low = value_skip p ((record_at t.records k).position + 1) (record_at t.records k).lo (omega arith) in
      rw e (value-first t h p k ∙ sym (weights-shares t p k _ _ _ _ (sym high) (sym low)))

  pub score-value : (p : List ℕ) (n : ℕ) → score_from t p n ≡ gap t 0 (node_position t n) * value t p n
  unfolding score_from value_from marks_from choice_count
  score-value p n = value_skip p 0 n (omega arith)

  -- a score is the sum over the roots of what comes to them times their values
  pub score-rooted : (p : List ℕ) → score t p ≡ rooted_sum t (value t p)
  unfolding score rooted_sum
  score-rooted p = rewarded-same _ _ t.roots (score-value p)

  -- and the scale is the sum with every value at its largest
  pub scale-rooted : rooted_sum t (λ n. scale_of (drop (node_position t n) t.variables)) ≡ scale t
  unfolding rooted_sum scale node_position
  scale-rooted =
      rewarded-same _ (λ _. scale_of t.variables) t.roots (λ n. gap-scale t 0 (node_position t n) (omega arith) (position-le h n))
      ∙ rewarded-all (scale_of t.variables) t.roots
