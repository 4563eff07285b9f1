-- Arrays by arc number, written record after record.
-- Assumes nothing.
use Prim.Native.Nat.{ℕ, zero, suc, ◌+◌, ◌≤◌, ◌<◌}
use native.Mathlib.Nat.{eq-or-lt_of_le, add_comm}
use native.Mathlib.Numerals.{add-one}
use native.Mathlib.Omega.{arith}
use mathlib.Core.Path.{◌≡◌, refl, ◌∙◌}
use mathlib.Core.Logic.{⊎_elim}
use mathlib.Core.List.{List}
use lib.ListN.{length, get_or, set, drop, length-set}
use lib.Seq.{get_or-drop, get_or-set_same, get_or-set_other}
use Rattle.ordering.specs.Numbers.{high_arc_number, low_arc_number}
use Rattle.weighing.specs.Weights.{arcs_over}

-- the lo arc's weight, in the part of the array that has the lo arcs by node
pub low_part : (ws : List ℕ) (m : ℕ) → get_or (drop 256 ws) m 0 ≡ get_or ws (m + 256) 0
low_part ws m = rw (get_or-drop, add_comm 256 m) refl

module _ (high low : ℕ → ℕ) (old : List ℕ) where
  pub arcs-length : (n : ℕ) → length (arcs_over high low n old) ≡ length old
  unfolding arcs_over
  arcs-length zero = refl
  arcs-length (suc k) = simp length-set (arcs-length k)

  -- one record more
  pub arcs-next : {k x y : ℕ} {cells : List ℕ} → cells ≡ arcs_over high low k old → x ≡ high k → y ≡ low k → set (set cells (high_arc_number k) x) (low_arc_number k) y ≡ arcs_over high low (k + 1) old
  unfolding arcs_over
  arcs-next {k} e ex ey = rw (add-one k, e, ex, ey) refl

  -- what no record's arc has stays
  pub arcs_other : (n i : ℕ) → ((k : ℕ) → k < n → (i ≡ high_arc_number k → ⊥) × (i ≡ low_arc_number k → ⊥)) → get_or (arcs_over high low n old) i 0 ≡ get_or old i 0
  unfolding arcs_over
  arcs_other zero i f = refl
  arcs_other (suc k) i f =
      let here = f k (omega arith) in
      let before = arcs_over high low k old in
      get_or-set_other (set before (high_arc_number k) (high k)) (low_arc_number k) i (low k) 0 here.1
      ∙ get_or-set_other before (high_arc_number k) i (high k) 0 here.0
      ∙ arcs_other k i (λ j h. f j (omega arith))

  module _ (long : length old ≡ 544) where
    pub arcs-high : (n k : ℕ) → n ≤ 254 → k < n → get_or (arcs_over high low n old) (high_arc_number k) 0 ≡ high k
    unfolding arcs_over
    arcs-high zero k few h = absurd (omega arith)
    arcs-high (suc n) k few h =
        let size = arcs-length n in
        let before = arcs_over high low n old in
        get_or-set_other (set before (high_arc_number n) (high n)) (low_arc_number n) (high_arc_number k) (low n) 0 (omega arith)
        ∙ ⊎_elim
        (λ e. rw e (get_or-set_same before (high_arc_number n) (high n) 0 (omega arith)))
        (λ l. get_or-set_other before (high_arc_number n) (high_arc_number k) (high n) 0 (omega arith) ∙ arcs-high n k (omega arith) l)
        (eq-or-lt_of_le {n = k} {m = n} (omega arith))

    pub arcs-low : (n k : ℕ) → n ≤ 254 → k < n → get_or (arcs_over high low n old) (low_arc_number k) 0 ≡ low k
    unfolding arcs_over
    arcs-low zero k few h = absurd (omega arith)
    arcs-low (suc n) k few h =
        let size = arcs-length n in
        let before = arcs_over high low n old in
        let half = set before (high_arc_number n) (high n) in
        ⊎_elim
        (λ e. rw e (get_or-set_same half (low_arc_number n) (low n) 0 (simp length-set (omega arith))))
        (λ l.
        get_or-set_other half (low_arc_number n) (low_arc_number k) (low n) 0 (omega arith)
        ∙ get_or-set_other before (high_arc_number n) (low_arc_number k) (high n) 0 (omega arith)
        ∙ arcs-low n k (omega arith) l)
        (eq-or-lt_of_le {n = k} {m = n} (omega arith))

-- weights that are alike at each record
pub arcs-same : (high low high' low' : ℕ → ℕ) (old : List ℕ) (n : ℕ) → ((k : ℕ) → k < n → (high k ≡ high' k) × (low k ≡ low' k)) → arcs_over high low n old ≡ arcs_over high' low' n old
unfolding arcs_over
arcs-same high low high' low' old zero h = refl
arcs-same high low high' low' old (suc k) h =
    let here = h k (omega arith) in
    rw (arcs-same high low high' low' old k (λ j l. h j (omega arith)), here.0, here.1) refl
