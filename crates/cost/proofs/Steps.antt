-- What a plan costs, as the sum over its lines beside their kits.
-- Assumes nothing.
use Rattle.std.proofs.Common.{ℕ, ◌≡◌, refl, cond, List, [], ◌∷◌}
use Rattle.std.specs.List.{zip, sum_by}
use Rattle.std.proofs.lemmas.List.Sums.{sum_by-cons}
use lib.Dec.{eqb}
use Rattle.diagram.specs.Plans.{cost_of}

-- what a line costs
abbrev pub line_cost : ℕ × ℕ → ℕ
line_cost x = cond (eqb x.0 1) x.1 0

pub cost_sum : (kits plan : List ℕ) → cost_of kits plan ≡ sum_by line_cost (zip plan kits)
unfolding cost_of
cost_sum kits [] = refl
cost_sum [] (m ∷ p) = refl
cost_sum (k ∷ kits) (m ∷ p) = rw (sum_by-cons, cost_sum kits p) refl
