-- Positions are at most the number of variables, and the truth of a node depends only on the settling from its position on.
-- Assumes of the records what check 17 finds: see `Formed`.
use Prim.Native.Nat.{ℕ, zero, suc, ◌≤◌, ◌<◌}
use native.Mathlib.Nat.{le_refl}
use native.Mathlib.Omega.{arith}
use mathlib.Core.Path.{◌≡◌}
use mathlib.Core.Bool.{Bool, true, false, cond}
use mathlib.Core.List.{List}
use lib.ListN.{get_or}
use Rattle.diagram.specs.Table.{Record, record_at}
use Rattle.diagram.specs.Score.{truth}
use Rattle.diagram.specs.Checks.{position_of}
use Rattle.diagram.specs.Validity.{Formed}
use Rattle.diagram.proofs.Truth.{child_less, truth_false, truth_true, truth_step}

-- ---------------------------------------------------------------------------
-- Positions

-- a child stands later than its record
pub child_later : {v : ℕ} {rs : List Record} → Formed v rs → (b : Bool) (k : ℕ) → (record_at rs k).position < position_of v rs (cond b (record_at rs k).hi (record_at rs k).lo)
child_later h true k = h.hi_later k
child_later h false k = h.lo_later k

-- the next law, by induction on a number f that the node's is at most
position-le_by : {v : ℕ} {rs : List Record} → Formed v rs → (f n : ℕ) → n ≤ f → position_of v rs n ≤ v
unfolding position_of
position-le_by h zero zero a = le_refl _
position-le_by h zero (suc n) a = absurd (omega arith)
position-le_by h (suc f) zero a = le_refl _
position-le_by h (suc f) (suc zero) a = le_refl _
position-le_by {rs} h (suc f) (suc (suc k)) a =
    let less = h.hi_less k in
    let later = h.hi_later k in
    let child = position-le_by h f (record_at rs k).hi (omega arith) in
    omega arith

pub position-le : {v : ℕ} {rs : List Record} → Formed v rs → (n : ℕ) → position_of v rs n ≤ v
position-le h n = position-le_by h n n (le_refl n)

pub position_less : {v : ℕ} {rs : List Record} → Formed v rs → (k : ℕ) → (record_at rs k).position < v
position_less {rs} h k = omega (arith, h.hi_later k, position-le h (record_at rs k).hi)

-- ---------------------------------------------------------------------------
-- Truth

-- the next law, by induction on a number f that the node's is at most
truth-within_by : {v : ℕ} {rs : List Record} → Formed v rs → (s u : List Bool) (f n : ℕ) → n ≤ f → ((i : ℕ) → position_of v rs n ≤ i → i < v → get_or s i false ≡ get_or u i false) → truth rs s n ≡ truth rs u n
unfolding position_of
truth-within_by h s u zero zero a e = rw (truth_false, truth_false)
truth-within_by h s u zero (suc n) a e = absurd (omega arith)
truth-within_by h s u (suc f) zero a e = rw (truth_false, truth_false)
truth-within_by h s u (suc f) (suc zero) a e = rw (truth_true, truth_true)
truth-within_by {rs} h s u (suc f) (suc (suc k)) a e =
    let q = get_or u (record_at rs k).position false in
    let less = child_less h q k in
    let later = child_later h q k in
    rw (truth_step h s k, truth_step h u k, e (record_at rs k).position (le_refl _) (position_less h k))
    (truth-within_by h s u f (cond q (record_at rs k).hi (record_at rs k).lo) (omega arith) (λ i l m. e i (omega arith) m))

-- settlings that agree from the node's position on, on the variables, give it the same truth
pub truth-within : {v : ℕ} {rs : List Record} → Formed v rs → (s u : List Bool) (n : ℕ) → ((i : ℕ) → position_of v rs n ≤ i → i < v → get_or s i false ≡ get_or u i false) → truth rs s n ≡ truth rs u n
truth-within h s u n e = truth-within_by h s u n n (le_refl n) e

pub truth_local : {v : ℕ} {rs : List Record} → Formed v rs → (s u : List Bool) (n : ℕ) → ((i : ℕ) → position_of v rs n ≤ i → get_or s i false ≡ get_or u i false) → truth rs s n ≡ truth rs u n
truth_local h s u n e = truth-within h s u n (λ i l m. e i l)
