use Rattle.std.proofs.Common.{ℕ, ◌≤◌, ◌≡◌, ◌∙◌, ap, sym, arith, get_or}
use lib.ListN.{get_or-eq_default}
use Rattle.diagram.specs.Table.{Variable, chance, variable_of}
use Rattle.decoding.specs.Decoding.{variables_in}
use Rattle.weighing.specs.Value.{high_share, low_share}
use Rattle.weighing.specs.Weights.{shares_by}
use Rattle.weighing.proofs.Arcing.{up_start, up_next, up_end, held-length, held-variable}
use Rattle.weighing.proofs.arcs.shares_by_position.Goals as goal

pub loop-p-init : goal.loop-p-init
loop-p-init c = (up_start, up_start)

pub loop-p-preserved : goal.loop-p-preserved
loop-p-preserved c =
    let a = c.args in
    let read : variable_of (get_or a.words.now c.loop-p.p 0) ≡ get_or (variables_in a.words.now a.v) c.loop-p.p (chance 0 1) = sym (held-variable a.words.now a.v c.loop-p.p (omega arith)) in
    let inv = c.loop-p.invariant in (
      up_next _ inv.0 (omega arith) (c.high_share.ensures ∙ ap (λ (v : Variable). high_share v 1) read),
      up_next _ inv.1 (omega arith) (c.low_share.ensures ∙ ap (λ (v : Variable). low_share v 2) read),
    )

pub returns : goal.returns
unfolding shares_by high_share low_share
returns c =
    let vs = variables_in c.args.words.now c.args.v in
    let long = held-length c.args.words.now c.args.v in
    let past : (x : ℕ) → c.loop-p.p ≤ x → get_or vs x (chance 0 1) ≡ chance 0 1 = λ x l. get_or-eq_default vs (chance 0 1) {n = x} (omega (arith, long)) in
    record {
      high = up_end c.loop-p.invariant.0 (λ x l. ap (λ (v : Variable). high_share v 1) (past x l));
      low = up_end c.loop-p.invariant.1 (λ x l. ap (λ (v : Variable). low_share v 2) (past x l));
    }
