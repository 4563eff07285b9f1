-- Paper 2: a file's kits are held by choice number, a plan costs the sum over its lines, and where every choice has R 0, the number of lines that it takes.
-- Assumes nothing.
use Prim.Native.Nat.{ℕ, zero, suc, ◌+◌, ◌<◌}
use native.Mathlib.Omega.{arith}
use mathlib.Core.Path.{◌≡◌, refl, sym}
use mathlib.Core.Bool.{Bool, true, false, cond}
use mathlib.Core.List.{List, [], ◌∷◌}
use lib.ListN.{length, get_or, get_or-replicate}
use lib.Dec.{eqb}
use Rattle.diagram.specs.Table.{sequence, table_of, choice_count}
use Rattle.diagram.specs.Score.{sum}
use Rattle.diagram.specs.Plans.{cost, cost_of, count_of}
use Rattle.decoding.proofs.Kits.{kits-length, kits-held, kits_unit}
use Rattle.theorems.specs.Kits.{KitsAreHeld, CostIsTheSum, lines_taken, UnitKits, KeepsMeaning}

pub kits_are_held : KitsAreHeld
unfolding KitsAreHeld
kits_are_held file = (kits-length file, λ p at. kits-held file p at.0 at.1)

-- a sum from the second place on is one of the rest of both lists
later-sum : (kits plan : List ℕ) (k m i n : ℕ) → sum (sequence (λ j. cond (eqb (get_or (m ∷ plan) j 0) 1) (get_or (k ∷ kits) j 0) 0) (suc i) n) ≡ sum (sequence (λ j. cond (eqb (get_or plan j 0) 1) (get_or kits j 0) 0) i n)
unfolding sequence sum
later-sum kits plan k m i zero = refl
later-sum kits plan k m i (suc n) = rw (later-sum kits plan k m (suc i) n) refl

-- without kits every line costs nothing
no_kits : (b : Bool) → ◌≡◌ {A = ℕ} (cond b 0 0) 0
no_kits true = refl
no_kits false = refl

none-sum : (plan : List ℕ) (i n : ℕ) → sum (sequence (λ j. cond (eqb (get_or plan j 0) 1) (get_or [] j 0) 0) i n) ≡ 0
unfolding sequence sum
none-sum plan i zero = refl
none-sum plan i (suc n) = omega (arith, no_kits (eqb (get_or plan i 0) 1), none-sum plan (suc i) n)

sum_is : (kits plan : List ℕ) → cost_of kits plan ≡ sum (sequence (λ i. cond (eqb (get_or plan i 0) 1) (get_or kits i 0) 0) 0 (length plan))
unfolding cost_of sequence sum
sum_is kits [] = refl
sum_is [] (m ∷ p) = sym (none-sum (m ∷ p) 0 (suc (length p)))
sum_is (k ∷ kits) (m ∷ p) = rw (later-sum kits p k m 0 (length p), sum_is kits p) refl

pub cost-is_the_sum : CostIsTheSum
unfolding CostIsTheSum cost
cost-is_the_sum t = sum_is t.kits

-- the first number below n + 1, and the others
count-first : (test : ℕ → Bool) (n : ℕ) → count_of test (suc n) ≡ cond (test 0) 1 0 + count_of (λ i. test (suc i)) n
unfolding count_of
count-first test zero = omega arith
count-first test (suc n) = omega (arith, count-first test n)

-- kits of 1 for each line
unit_cost : (kits plan : List ℕ) → ((i : ℕ) → i < length plan → get_or kits i 0 ≡ 1) → cost_of kits plan ≡ lines_taken plan
unfolding cost_of count_of
unit_cost kits [] h = refl
unit_cost [] (m ∷ p) h = absurd (omega (arith, h 0 (omega arith)))
unit_cost (k ∷ kits) (m ∷ p) h =
    let rest = unit_cost kits p (λ i l. h (suc i) (omega arith)) in
    rw (count-first, h 0 (omega arith), rest) refl

pub unit_kits : UnitKits
unfolding UnitKits cost
unit_kits t = unit_cost t.kits

pub keeps_meaning : KeepsMeaning
unfolding KeepsMeaning cost
keeps_meaning file h plan e =
    unit_cost (table_of file).kits plan
    (λ i l. rw (kits_unit file (λ p a b. h p (a, b))) (get_or-replicate (choice_count (table_of file).variables) i 1 0 (omega arith)))
