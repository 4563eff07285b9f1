use Prim.Native.Nat.{ℕ, ◌+◌, ◌*◌, ◌≤◌, ◌<◌, ◌^◌}
use native.Mathlib.Omega.{arith}
use mathlib.Core.Path.{◌≡◌, refl, sym}
use mathlib.Core.List.{List}
use lib.ListN.{get_or}
use Rattle.weighing.specs.declared.roots.Roots.{Roots}
use Rattle.valuing.specs.Passes.{root_sum}
use Rattle.valuing.proofs.RootSums.{root-sum-le, root-sum-next}
use Rattle.valuing.proofs.bound.root_sum.Goals as goal

-- the sum after a turn, by the value and the node that the code has read
next : (roots : Roots) (vs : List ℕ) (i : ℕ) {sum value node : ℕ} → sum ≡ root_sum roots vs i → value ≡ get_or vs node 0 → node ≡ get_or roots.nodes i 0 → sum + get_or roots.weights i 0 * value ≡ root_sum roots vs (i + 1)
next roots vs i e f g = rw (f, g, e) (sym (root-sum-next roots vs i))

-- and it fits
fits : (roots : Roots) (vs : List ℕ) (i : ℕ) {sum value node : ℕ} → sum ≡ root_sum roots vs i → value ≡ get_or vs node 0 → node ≡ get_or roots.nodes i 0 → i < roots.count → root_sum roots vs roots.count ≤ 2 ^ 56 → sum + get_or roots.weights i 0 * value ≤ 2 ^ 56
fits roots vs i e f g h k =
    omega (arith, next roots vs i e f g, k, root-sum-le roots vs (i + 1) roots.count (omega arith))

pub loop-i-init : goal.loop-i-init
unfolding root_sum
loop-i-init c = refl

pub overflow_mul-sum : goal.overflow_mul-sum
overflow_mul-sum c = omega (arith, fits c.args.roots.now c.args.values.now c.loop-i.i c.loop-i.invariant c.value_of.ensures c.new.ensures (omega arith) c.requires.1)

pub overflow_add-sum : goal.overflow_add-sum
overflow_add-sum c = omega (arith, fits c.args.roots.now c.args.values.now c.loop-i.i c.loop-i.invariant c.value_of.ensures c.new.ensures (omega arith) c.requires.1)

pub loop-i-preserved : goal.loop-i-preserved
loop-i-preserved c = next c.args.roots.now c.args.values.now c.loop-i.i c.loop-i.invariant c.value_of.ensures c.new.ensures
