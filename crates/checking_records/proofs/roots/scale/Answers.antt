-- `scale` meets its contract: the product is made where it is at most 2^56. Assumes nothing.
use Prim.Native.Nat.{ℕ, ◌*◌, ◌^◌}
use native.Mathlib.Omega.{arith}
use mathlib.Core.Path.{◌≡◌, refl, ap, sym, ◌∙◌}
use mathlib.Core.Bool.{Bool, true, false}
use mathlib.Core.List.{List}
use lib.Dec.{ltb}
use borrow.Author.Tests.{ltb-false}
use Rattle.diagram.specs.Table.{table_of, scale, total_reward}
use Rattle.diagram.specs.Checks.{reward_fault, place_zero}
use Rattle.std.specs.Prelude.{Ok, Err}
use Rattle.steps.specs.Steps.{bounded_by}
use Rattle.checking.specs.Limited.{product_of}
use Rattle.checking_records.proofs.roots.scale.Goals as goal

-- B, from what has been read
scale_is : (s : List ℕ) {x y : ℕ} → x ≡ total_reward (table_of s).roots → y ≡ product_of s → x * y ≡ scale (table_of s)
unfolding scale
scale_is s e f = rw (e, f) refl

-- the two answers
module _ (s : List ℕ) {b : Bool} (e : b ≡ ltb (2 ^ 56) (scale (table_of s))) where
  above : b ≡ true → Err 0 ≡ bounded_by (reward_fault s) (scale (table_of s))
  unfolding reward_fault place_zero bounded_by
  above q = rw (sym e ∙ q) refl

  within : {x : ℕ} → b ≡ false → x ≡ scale (table_of s) → Ok x ≡ bounded_by (reward_fault s) (scale (table_of s))
  unfolding reward_fault place_zero bounded_by
  within q f = rw (f, sym e ∙ q) refl

pub returns-then-exceeds : goal.returns-then-exceeds
returns-then-exceeds c =
    let tested : c.exceeds.result ≡ ltb (2 ^ 56) (scale (table_of c.args.file.now)) = c.exceeds.ensures ∙ ap (ltb (2 ^ 56)) (scale_is _ c.total_reward-reward.ensures c.requires.product) in
    above _ tested c.if-exceeds.true

pub overflow_mul-result : goal.overflow_mul-result
overflow_mul-result c =
    let tested : c.exceeds.result ≡ ltb (2 ^ 56) (scale (table_of c.args.file.now)) = c.exceeds.ensures ∙ ap (ltb (2 ^ 56)) (scale_is _ c.total_reward-reward.ensures c.requires.product) in
    omega (arith, scale_is _ c.total_reward-reward.ensures c.requires.product, ltb-false (2 ^ 56) (scale (table_of c.args.file.now)) (sym tested ∙ c.if-exceeds.false))

pub returns : goal.returns
returns c =
    let tested : c.exceeds.result ≡ ltb (2 ^ 56) (scale (table_of c.args.file.now)) = c.exceeds.ensures ∙ ap (ltb (2 ^ 56)) (scale_is _ c.total_reward-reward.ensures c.requires.product) in
    within _ tested c.if-exceeds.false (scale_is _ c.total_reward-reward.ensures c.requires.product)
