-- `expand` meets its contract: the pairs that the pair taken off leads to are met one after the other. Assumes nothing.
use Rattle.implication.proofs.Stacking.{meeting, take, expand_high, expand_both, expand_left}
use mathlib.Core.Path.{ap}
use Rattle.implication.specs.declared.worklist.Pair.{Pair}
use borrow.Author.Rules.{rules}
use Rattle.implication.proofs.monotone.expand.Goals as goal

pub meet-requires : goal.meet-requires
meet-requires c = (take c.requires.started.2 (ap (λ (p : Pair). p.first.0) c.requires.top) (ap (λ (p : Pair). p.second.0) c.requires.top)).room

pub meet-requires-2 : goal.meet-requires-2
meet-requires-2 c =
    let high_meeting = meeting {w = c.args.work.now} {w' = c.meet.new.self} (search rules) (search rules) c.meet.ensures in
    (expand_high c.requires.started.2 (ap (λ (p : Pair). p.first.0) c.requires.top) (ap (λ (p : Pair). p.second.0) c.requires.top) c.step-high_m.ensures c.step-high_n.ensures high_meeting).room

pub returns : goal.returns
returns c =
    let high_meeting = meeting {w = c.args.work.now} {w' = c.meet.new.self} (search rules) (search rules) c.meet.ensures in
    let low_meeting = meeting {w = c.meet.new.self} {w' = c.meet-2.new.self} (search (rules, c.step-low_m.type_inv)) (search (rules, c.step-low_n.type_inv)) c.meet-2.ensures in
    let first = ap (λ (p : Pair). p.first.0) c.requires.top in
    let second = ap (λ (p : Pair). p.second.0) c.requires.top in
    let hm = c.step-high_m.ensures in
    let hn = c.step-high_n.ensures in
    let lm = c.step-low_m.ensures in
    let ln = c.step-low_n.ensures in
    record { stack = λ a b h. expand_both h first second hm hn high_meeting lm ln low_meeting; left = expand_left c.requires.started.2 first second hm hn high_meeting lm ln low_meeting }
