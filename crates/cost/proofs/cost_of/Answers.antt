-- `cost_of` meets its contract: the kits of the lines taken are added up. Assumes nothing.
use Rattle.std.proofs.Common.{rules, tests, ◌∙◌, sym}
use Rattle.std.specs.List.{zip}
use Rattle.std.proofs.lemmas.Iterator.{YieldsList-from_slice, YieldsList-from_zip, YieldsList-from_map}
use Rattle.std.proofs.lemmas.Iterator.Consumers.{sum_by_from_yields_List, YieldsList-at}
use Rattle.cost.proofs.Steps.{line_cost, cost_sum}
use Rattle.cost.proofs.cost_of.Goals as goal

pub returns : goal.returns
returns c =
    let plan = c.args.plan.now in
    let kits = c.args.kits.now in
    sum_by_from_yields_List line_cost (zip plan kits) c.map.result c.sum.result c.sum.ensures.ran (YieldsList-from_map _ line_cost (YieldsList-at c.map.ensures.source (YieldsList-from_zip (YieldsList-at c.zip.ensures.first (YieldsList-from_slice plan c.iter.ensures.rest)) (YieldsList-from_slice kits c.zip.ensures.second.0))) c.map.ensures.closure (λ x r q k. search (rules, tests)))
    ∙ sym (cost_sum kits plan)
