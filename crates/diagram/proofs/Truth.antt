-- How the truth of a node follows from that of its children.
-- Assumes of the records what check 17 finds: see `Formed`.
use Prim.Native.Nat.{ℕ, zero, suc, ◌+◌, ◌≤◌, ◌<◌}
use native.Mathlib.Nat.{le_refl}
use native.Mathlib.Omega.{arith}
use mathlib.Core.Path.{◌≡◌, refl}
use mathlib.Core.Bool.{Bool, true, false, cond}
use mathlib.Core.List.{List}
use lib.ListN.{get_or}
use Rattle.diagram.specs.Table.{Record, record_at}
use Rattle.diagram.specs.Score.{walk, truth}
use Rattle.diagram.specs.Validity.{Formed}

-- ---------------------------------------------------------------------------
-- Fuel

-- the child that a settling goes to is smaller
pub child_less : {v : ℕ} {rs : List Record} → Formed v rs → (b : Bool) (k : ℕ) → cond b (record_at rs k).hi (record_at rs k).lo < k + 2
child_less h true k = h.hi_less k
child_less h false k = h.lo_less k

-- as much fuel as the node's number gives what any more gives
walk_enough : {v : ℕ} {rs : List Record} → Formed v rs → (s : List Bool) (f g n : ℕ) → n ≤ f → n ≤ g → walk f rs s n ≡ walk g rs s n
unfolding walk
walk_enough h s zero zero n a b = refl
walk_enough h s zero (suc g) zero a b = refl
walk_enough h s zero (suc g) (suc n) a b = absurd (omega arith)
walk_enough h s (suc f) zero zero a b = refl
walk_enough h s (suc f) zero (suc n) a b = absurd (omega arith)
walk_enough h s (suc f) (suc g) zero a b = refl
walk_enough h s (suc f) (suc g) (suc zero) a b = refl
walk_enough {rs} h s (suc f) (suc g) (suc (suc k)) a b =
    let q = get_or s (record_at rs k).position false in
    let c = child_less h q k in
    walk_enough h s f g (cond q (record_at rs k).hi (record_at rs k).lo) (omega arith) (omega arith)

-- ---------------------------------------------------------------------------
-- One move

pub truth_false : (rs : List Record) (s : List Bool) → truth rs s 0 ≡ false
unfolding truth walk
truth_false rs s = refl

pub truth_true : (rs : List Record) (s : List Bool) → truth rs s 1 ≡ true
unfolding truth walk
truth_true rs s = refl

-- the truth of record k's node is that of the child that the settling goes to
pub truth_step : {v : ℕ} {rs : List Record} → Formed v rs → (s : List Bool) (k : ℕ) → truth rs s (suc (suc k)) ≡ truth rs s (cond (get_or s (record_at rs k).position false) (record_at rs k).hi (record_at rs k).lo)
unfolding truth walk
truth_step {rs} h s k =
    let q = get_or s (record_at rs k).position false in
    let c = child_less h q k in
    walk_enough h s (suc k) (cond q (record_at rs k).hi (record_at rs k).lo) (cond q (record_at rs k).hi (record_at rs k).lo) (omega arith) (le_refl _)
