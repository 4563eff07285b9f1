-- What a service's result is, from the outcome that it stands for.
-- Assumes nothing.
use Prim.Native.Nat.{ℕ}
use native.Mathlib.Omega.{arith}
use mathlib.Core.Path.{◌≡◌, refl, ap, sym, ◌∙◌}
use mathlib.Core.Bool.{cond}
use lib.Dec.{eqb}
use Rattle.std.specs.Prelude.{Result, Ok, Err}
use Rattle.diagram.specs.Services.{refused, answered}
use Rattle.diagram.proofs.Checked.{answered_not_refused}
use Rattle.terms.specs.declared.refusal.Reason.{Reason}
use Rattle.terms.specs.declared.refusal.Reason.TheVariants as reason
use Rattle.terms.specs.declared.refusal.Refusal.{Refusal}
use Rattle.terms.specs.Numbers.{reason_number}
use Rattle.steps.specs.Steps.{outcome_by}
use Rattle.theorems.specs.Demand1.{Refuses}

-- ---------------------------------------------------------------------------
-- Reasons by their numbers

-- the reason of a number
unfoldable reason_of : ℕ → Reason
reason_of n =
    cond (eqb n 10) reason.NoJob
    (cond (eqb n 11) reason.Length
    (cond (eqb n 12) reason.Heading
    (cond (eqb n 13) reason.Counts
    (cond (eqb n 14) reason.Variable
    (cond (eqb n 15) reason.Choices
    (cond (eqb n 16) reason.Product
    (cond (eqb n 17) reason.Record
    (cond (eqb n 18) reason.Monotony
    (cond (eqb n 21) reason.PlanLength
    (cond (eqb n 22) reason.Mark
    (cond (eqb n 23) reason.Percentage
    (cond (eqb n 24) reason.Budget
    (cond (eqb n 25) reason.Buffer
    (cond (eqb n 26) reason.Root
    (cond (eqb n 27) reason.Scale
    (cond (eqb n 31) reason.BelowPercentage reason.NoCandidate))))))))))))))))

-- each reason has a number of its own
numbered : (r : Reason) → reason_of (reason_number r) ≡ r
unfolding reason_of reason_number
numbered reason.NoJob = refl
numbered reason.Length = refl
numbered reason.Heading = refl
numbered reason.Counts = refl
numbered reason.Variable = refl
numbered reason.Choices = refl
numbered reason.Product = refl
numbered reason.Record = refl
numbered reason.Monotony = refl
numbered reason.PlanLength = refl
numbered reason.Mark = refl
numbered reason.Percentage = refl
numbered reason.Budget = refl
numbered reason.Buffer = refl
numbered reason.Root = refl
numbered reason.Scale = refl
numbered reason.BelowPercentage = refl
numbered reason.NoCandidate = refl

-- a result that refuses with the number of a reason and a place is that refusal
pub refusal_is : {T : Type 0} {answer : Result T Refusal} (q : Reason) {i : ℕ} → Refuses (reason_number q) i answer → answer ≡ Err (record { reason = q; place = i })
refusal_is q (r, is, number, place) =
    let same : r.reason ≡ q = sym (numbered r.reason) ∙ ap reason_of number ∙ numbered q in
    is ∙ rw (← same, ← place) refl

-- ---------------------------------------------------------------------------
-- Outcomes

module _ {T A : Type 0} (f : T → A) where
  -- a result that stands for a refusal refuses with its number and place
  pub refuses_by : (answer : Result T Refusal) {n i : ℕ} → outcome_by f answer ≡ refused n i → Refuses n i answer
  unfolding outcome_by
  refuses_by (Ok x) e = absurd (answered_not_refused _ _ _ e)
  refuses_by (Err r) e = (r, refl, cc, cc)

  -- and one that stands for an answer has a value that does
  pub answers_by : (answer : Result T Refusal) {a : A} → outcome_by f answer ≡ answered a → ((x : T) × (answer ≡ Ok x) × (f x ≡ a))
  unfolding outcome_by
  answers_by (Ok x) e = (x, refl, cc)
  answers_by (Err r) e = absurd (answered_not_refused _ _ _ (sym e))

-- no result is a value and a refusal
pub ok_not_err : {T : Type 0} {x : T} {r : Refusal} → ◌≡◌ {A = Result T Refusal} (Ok x) (Err r) → ⊥
ok_not_err e =
    let z : ◌≡◌ {A = ℕ} 0 1 = cc in
    omega arith
