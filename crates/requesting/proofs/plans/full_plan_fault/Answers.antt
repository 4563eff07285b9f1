-- `full_plan_fault` meets its contract: the place that the search finds is the first at fault. Assumes nothing.
use mathlib.Core.Path.{◌≡◌, ◌∙◌}
use mathlib.Core.Bool.{◌||◌}
use lib.Dec.{eqb, ltb}
use borrow.Author.Rules.{rules}
use borrow.Author.Tests.{tests}
use Rattle.std.specs.List.{position}
use Rattle.std.proofs.lemmas.Iterator.{YieldsList-from_slice}
use Rattle.std.proofs.lemmas.Iterator.Search.{position_from_yields_List}
use Rattle.diagram.specs.Checks.{full_plan_fault}
use Rattle.requesting.proofs.Marks.{place-position}
use Rattle.requesting.proofs.plans.full_plan_fault.Goals as goal

pub returns : goal.returns
unfolding full_plan_fault
returns c =
    let found : c.position.result ≡ position (λ m. ltb 2 m || eqb m 0) c.args.plan.now = position_from_yields_List (λ m. ltb 2 m || eqb m 0) _ _ _ c.position.ensures.ran (YieldsList-from_slice c.args.plan.now cc) (λ x b q k. search (rules, tests)) in
    found ∙ place-position (λ m. ltb 2 m || eqb m 0) c.args.plan.now
