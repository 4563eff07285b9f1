-- No completion passes exactly when the top does not, and a line is forced exactly when it is open and the top less its drop does not pass: what the
-- filter tests is what brute force over all completions finds. Then the steps of the tests and of the loop that takes the forced lines.
-- Assumes of the table what checks 17 and 18 find, `Formed` and `Monotone`, and in the tests of a turn that the top and the drops are the plan's: `Swept`.
use Prim.Native.Nat.{ℕ, zero, suc, ◌+◌, ◌-◌, ◌≤◌, ◌<◌}
use native.Mathlib.Nat.{zero-add}
use native.Mathlib.Numerals.{add-one}
use native.Mathlib.Omega.{arith}
use mathlib.Core.Path.{◌≡◌, refl, ap, ◌∙◌}
use mathlib.Core.Bool.{Bool, true, false, cond, not, ◌&&◌, false≢true}
use mathlib.Core.List.{List, [], ◌∷◌, append-nil}
use lib.ListN.{length, get_or, set}
use lib.Seq.{drop-length}
use lib.Dec.{eqb, leb}
use Rattle.diagram.specs.Table.{Table, sequence}
use Rattle.diagram.specs.Score.{score}
use Rattle.diagram.specs.Plans.{completions, open_taken, is_open, leaves, upper_bound, derivative, passes, none_of, passing, forced, forced_plan, count_of, forced_count}
use Rattle.diagram.specs.Validity.{Formed, Monotone}
use Rattle.diagram.proofs.Every.{both_ways}
use Rattle.diagram.proofs.Places.{sequence-length, sequence-snoc}
use Rattle.diagram.proofs.Rising.{
  all-complete,
  each_complete,
  open_taken_completes,
  open_taken-leaves,
  completion_le_bound,
  leaving_le,
  drop-le-bound,
  larger_passes,
}
use Rattle.arrays.specs.Arrays.{over}
use Rattle.arrays.proofs.Over.{over-next}
use Rattle.filtering.specs.Forced.{Swept}

-- ---------------------------------------------------------------------------
-- Tests

-- where the second of two tests follows from the first, so does the first's denial from the second's
denied : (a b : Bool) → (a ≡ true → b ≡ true) → not b ≡ true → not a ≡ true
denied true b f h = rw (f refl) at h
denied false b f h = refl

-- a conjunction is denied where its first side is, whenever its second side holds
denied_both : (a b : Bool) → (b ≡ true → not a ≡ true) → not (a && b) ≡ true
denied_both true true f = f refl
denied_both true false f = refl
denied_both false b f = refl

denied_first : (a b : Bool) → b ≡ true → not (a && b) ≡ true → not a ≡ true
denied_first true true e h = h
denied_first true false e h = absurd (false≢true e)
denied_first false b e h = refl

-- two conjunctions whose second sides are alike where the first side holds
and_alike : (a b b' : Bool) → (a ≡ true → b ≡ b') → (a && b) ≡ (a && b')
and_alike true b b' f = f refl
and_alike false b b' f = refl

-- ---------------------------------------------------------------------------
-- Passing

-- a smaller score fails where a larger one does
smaller_fails : (t : Table) (percent : ℕ) {x y : ℕ} → x ≤ y → not (passes t percent y) ≡ true → not (passes t percent x) ≡ true
smaller_fails t percent {x} {y} l = denied (passes t percent x) (passes t percent y) (larger_passes t percent l)

module _ (t : Table) (formed : Formed (length t.variables) t.records) (monotone : Monotone t) where
  -- no completion passes exactly when the top does not
  pub none_passes : (percent : ℕ) (p : List ℕ) → none_of (passing t percent) (completions p) ≡ not (passes t percent (upper_bound t p))
  unfolding none_of passing upper_bound
  none_passes percent p =
      both_ways
      _
      _
      (λ h. each_complete (λ c. not (passing t percent c)) p (open_taken p) h (open_taken_completes p))
      (λ h. all-complete (λ c. not (passing t percent c)) p (λ c k. smaller_fails t percent (completion_le_bound t formed monotone k) h))

  -- the top less an open line's drop is the score with that line left and the other open lines taken
  left-score : (p : List ℕ) (i : ℕ) → is_open p i ≡ true → upper_bound t p - derivative t p i ≡ score t (open_taken (set p i 2))
  left-score p i o = omega (arith, drop-le-bound t formed monotone p i o)

  -- no passing completion leaves an open line exactly when the score with that line left does not pass
  none-leaves : (percent : ℕ) (p : List ℕ) (i : ℕ) → is_open p i ≡ true → none_of (λ c. passing t percent c && leaves c i) (completions p) ≡ not (passes t percent (score t (open_taken (set p i 2))))
  unfolding none_of passing
  none-leaves percent p i o =
      let left = open_taken-leaves p i o in
      both_ways
      _
      _
      (λ h.
      denied_first
      (passing t percent (open_taken (set p i 2)))
      _
      left.1
      (each_complete (λ c. not (passing t percent c && leaves c i)) p (open_taken (set p i 2)) h left.0))
      (λ h.
      all-complete
      (λ c. not (passing t percent c && leaves c i))
      p
      (λ c k. denied_both (passing t percent c) (leaves c i) (λ l. smaller_fails t percent (leaving_le t formed monotone k i o l) h)))

  -- a line is forced exactly when it is open and the top less its drop does not pass
  pub forced-is : (percent : ℕ) (p : List ℕ) (i : ℕ) → forced t percent p i ≡ (is_open p i && not (passes t percent (upper_bound t p - derivative t p i)))
  unfolding forced
  forced-is percent p i = and_alike (is_open p i) _ _ (λ o. rw (left-score p i o) (none-leaves percent p i o))

-- ---------------------------------------------------------------------------
-- The tests of a turn

get_or-within : (p : List ℕ) (i : ℕ) → i < length p → get_or p i 0 ≡ get_or p i 1
get_or-within [] i h = absurd (omega arith)
get_or-within (m ∷ p) zero h = refl
get_or-within (m ∷ p) (suc i) h = get_or-within p i (omega arith)

module _ {t : Table} {p : List ℕ} {percent least bound : ℕ} {drops : List ℕ} (s : Swept t p percent least bound drops) where
  -- no drop is larger than the top
  pub drop-within : (i : ℕ) → i < length p → get_or drops i 0 ≤ bound
  unfolding derivative
  drop-within i h = rw (s.derivatives i h, s.top) (go (is_open p i) (upper_bound t p) (score t (open_taken (set p i 2))))
    where
      go : (o : Bool) (x y : ℕ) → cond o (x - y) 0 ≤ x
      go true x y = omega arith
      go false x y = omega arith

  -- what a turn tests, its line's mark and its line's drop, is whether the line is forced
  pub forced_turn : (i : ℕ) → i < length p → {mark drop : ℕ} {r : Bool} → mark ≡ get_or p i 0 → drop ≡ get_or drops i 0 → r ≡ (eqb mark 0 && not (leb least (bound - drop))) → forced t percent p i ≡ r
  unfolding is_open
  forced_turn i h {mark} {drop} m d r =
      forced-is t s.formed s.monotone percent p i
      ∙ rw (r, m, d, s.derivatives i h, s.top, get_or-within p i h, s.passing) refl

-- ---------------------------------------------------------------------------
-- The loop that takes the forced lines

-- After i turns the forced ones of the first i lines are counted, and the first i marks of the forced plan are written over the buffer
pub record Forcing (t : Table) (percent : ℕ) (p old : List ℕ) (i count : ℕ) (out : List ℕ) : Type 0 where
  pub counted : count ≡ count_of (forced t percent p) i
  pub written : out ≡ over (sequence (λ i. cond (forced t percent p i) 1 (get_or p i 0)) 0 i) old

module _ {t : Table} {percent : ℕ} {p old : List ℕ} where
  pub forcing_start : Forcing t percent p old 0 0 old
  unfolding count_of over sequence
  forcing_start = record { counted = refl; written = refl }

  module _ {i count : ℕ} {out : List ℕ} (f : Forcing t percent p old i count out) (h : i < length old) {x n : ℕ} where
    forcing_next : x ≡ cond (forced t percent p i) 1 (get_or p i 0) → n ≡ count + cond (forced t percent p i) 1 0 → Forcing t percent p old (i + 1) n (set out i x)
    unfolding count_of
    forcing_next e k =
        let marks : ℕ → ℕ = λ i. cond (forced t percent p i) 1 (get_or p i 0) in
        record {
          counted = rw (add-one i) (k ∙ ap (λ (z : ℕ). z + cond (forced t percent p i) 1 0) f.counted);
          written = rw (f.written, e, add-one i) (over-next (sequence marks 0 i) old i (marks i) (sequence-length marks 0 i) h ∙ ap (λ (l : List ℕ). over l old) (rw zero-add at (sequence-snoc marks 0 i)));
        }

    -- a forced line is counted once and taken
    pub forcing_taken : forced t percent p i ≡ true → x ≡ 1 → n ≡ count + 1 → Forcing t percent p old (i + 1) n (set out i x)
    forcing_taken q e k = forcing_next (rw q e) (rw q k)

    -- any other line keeps its mark
    pub forcing_kept : forced t percent p i ≡ false → x ≡ get_or p i 0 → n ≡ count → Forcing t percent p old (i + 1) n (set out i x)
    forcing_kept q e k = forcing_next (rw q e) (rw q (omega arith))

  -- after the last turn
  pub forcing_end : {i count : ℕ} {out : List ℕ} → Forcing t percent p old i count out → length old ≡ length p → i ≡ length p → (count ≡ forced_count t percent p) × (out ≡ forced_plan t percent p)
  unfolding forced_count forced_plan over
  forcing_end f size e =
      (rw e at f.counted, (rw e at f.written) ∙ rw (sequence-length, ← size, drop-length, append-nil))
