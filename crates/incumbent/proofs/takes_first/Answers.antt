use mathlib.Core.Path.{refl, sym, ◌∙◌}
use mathlib.Core.Logic.{inl, inr, ⊎_elim}
use borrow.Author.Tests.{eq-eqb, ne_eqb}
use Rattle.diagram.specs.Ranking.{takes_first}
use Rattle.incumbent.proofs.Keeping.{first_end}
use Rattle.incumbent.proofs.takes_first.Goals as goal

pub returns-then-mark-held : goal.returns-then-mark-held
unfolding takes_first
returns-then-mark-held c =
    sym (c.loop-mark.invariant ∙ rw (c.in-Some.ensures.steps.0, c.in-Some.ensures.steps.1, ne_eqb _ _ c.if-mark-held.true) refl)

pub loop-mark-preserved : goal.loop-mark-preserved
unfolding takes_first
loop-mark-preserved c =
    c.loop-mark.invariant ∙ rw (c.in-Some.ensures.steps.0, c.in-Some.ensures.steps.1, eq-eqb _ _ c.if-mark-held.false) refl

pub returns : goal.returns
returns c =
    sym (c.loop-mark.invariant ∙ first_end _ _ (⊎_elim (λ x. inl x.1.0) (λ x. inr x.1.0) c.in-None.ensures.steps))
