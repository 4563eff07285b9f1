-- The sum over the roots in arrays of what comes to a root times its node's value, which with the values of nodes
-- under a plan with all open lines taken is the plan's bound.
-- Assumes of the arrays, for the bound, that they hold the table and the plan: see `Marked`.
use Prim.Native.Nat.{ℕ, zero, suc, ◌+◌, ◌*◌, ◌≤◌, ◌<◌, ◌^◌}
use native.Mathlib.Nat.{le_refl, eq-or-lt_of_le}
use native.Mathlib.Numerals.{add-one}
use native.Mathlib.Omega.{arith}
use mathlib.Core.Path.{◌≡◌, refl, ap, sym, ◌∙◌}
use mathlib.Core.Logic.{⊎_elim}
use mathlib.Core.List.{List}
use lib.ListN.{length, get_or, take}
use lib.Seq.{take_all}
use Rattle.diagram.specs.Table.{Table, sequence}
use Rattle.diagram.specs.Score.{rewarded}
use Rattle.diagram.specs.Plans.{open_taken, upper_bound}
use Rattle.decoding.proofs.Rooting.{rewarded-next}
use Rattle.arrays.specs.Arrays.{over}
use Rattle.arrays.proofs.Over.{over-sequence-at}
use Rattle.weighing.specs.declared.roots.Roots.{Roots}
use Rattle.weighing.specs.Value.{node_position, value, gap, rooted_sum}
use Rattle.weighing.proofs.HeldRoots.{RootsHeld}
use Rattle.weighing.proofs.Values.{score-rooted}
use Rattle.valuing.specs.Passes.{root_sum, Marked}
use Rattle.valuing.proofs.Bounding.{top-fits}

-- ---------------------------------------------------------------------------
-- Sums

pub root-sum-next : (rs : Roots) (vs : List ℕ) (i : ℕ) → root_sum rs vs (i + 1) ≡ root_sum rs vs i + get_or rs.weights i 0 * get_or vs (get_or rs.nodes i 0) 0
unfolding root_sum
root-sum-next rs vs i = rw (add-one i) refl

-- a sum over fewer roots is no more
pub root-sum-le : (rs : Roots) (vs : List ℕ) (i n : ℕ) → i ≤ n → root_sum rs vs i ≤ root_sum rs vs n
unfolding root_sum
root-sum-le rs vs i zero h =
    let none : i ≡ 0 = omega arith in
    rw none (le_refl 0)
root-sum-le rs vs i (suc n) h =
    ⊎_elim
    (λ e. rw e (le_refl _))
    (λ l. omega (arith, root-sum-le rs vs i n (omega arith)))
    (eq-or-lt_of_le {n = i} {m = suc n} h)

module _ {t : Table} {rs : Roots} (e : RootsHeld t rs) (vs : List ℕ) (v : ℕ → ℕ) (values : (m : ℕ) → m < length t.records + 2 → get_or vs m 0 ≡ v m) where
  root-sum_part : (i : ℕ) → i ≤ rs.count → root_sum rs vs i ≡ rewarded (λ m. gap t 0 (node_position t m) * v m) (take i t.roots)
  unfolding root_sum rewarded
  root-sum_part zero h = refl
  root-sum_part (suc i) h =
      let less : i < rs.count = omega arith in
      rw (rewarded-next _ t.roots i (omega (arith, e.all)), root-sum_part i (omega arith), values _ (e.within i less).1, e.weight i less, e.node i less) (omega arith)

  -- the sum by the arrays is the sum over the table's roots
  pub root-sum : root_sum rs vs rs.count ≡ rooted_sum t v
  unfolding rooted_sum
  root-sum =
      root-sum_part rs.count (le_refl rs.count) ∙ ap (rewarded _) (take_all rs.count t.roots (omega (arith, e.all)))

module _ {t : Table} {p : List ℕ} {n : ℕ} {ps hs ls ws ms : List ℕ} (m : Marked t p n ps hs ls ws ms) {rs : Roots} (e : RootsHeld t rs) {vs : List ℕ} (W : List ℕ) (evs : vs ≡ over (sequence (value t (open_taken p)) 0 (n + 2)) W) where
  -- with the values under the plan with all open lines taken it is the bound
  pub root-bound : root_sum rs vs rs.count ≡ upper_bound t p
  unfolding upper_bound
  root-bound =
      root-sum e vs (value t (open_taken p)) (λ r h. rw evs (over-sequence-at (value t (open_taken p)) W (n + 2) r (omega (arith, m.size.0))))
      ∙ sym (score-rooted t m.formed m.shares (open_taken p))

  pub root-sum-fits : (rs.count ≤ 16) × (root_sum rs vs rs.count ≤ 2 ^ 56)
  root-sum-fits = (e.few, rw root-bound (top-fits m))
