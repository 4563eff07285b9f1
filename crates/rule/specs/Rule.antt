-- The visit rule of document 01 with its parts left open: any bound of a plan's completions, any cost, any test of a score. The rule itself (`diagram`,
-- Visits) is one instance; another bound or another cost is another instance under the same laws.
use Rattle.std.specs.Prelude.{ℕ, zero, suc, ◌≤◌, ◌<◌, ◌≡◌, Bool, true, false, not, ◌&&◌, ◌||◌, List, set, ltb, leb}
use Rattle.std.proofs.Math.Option.{Option, none, some}
use Rattle.diagram.specs.Table.{Table}
use Rattle.diagram.specs.Score as scores
use Rattle.diagram.specs.Plans as plans
use Rattle.diagram.specs.Plans.{open_count, Completes}
use Rattle.diagram.specs.Ranking.{better}
use Rattle.diagram.specs.Visits.{Tally, lowest_open}

-- The parts of the rule: a plan's bound and cost, a full plan's score, the budget, which scores pass, and which of the plan held and a finished plan is
-- held from then on
pub record Terms : Type 0 where
  pub bound : List ℕ → ℕ
  pub cost : List ℕ → ℕ
  pub score : List ℕ → ℕ
  pub budget : ℕ
  pub passes : ℕ → Bool
  pub keep : Option (List ℕ) → List ℕ → Option (List ℕ)

-- Those of document 01
unfoldable pub terms : Table → (budget percent : ℕ) → Terms
terms t budget percent =
    record {
      bound = plans.upper_bound t;
      cost = plans.cost t;
      score = scores.score t;
      budget = budget;
      passes = plans.passes t percent;
      keep = better t;
    }

-- Whether a best plan is held and x is less than its score
unfoldable pub beaten : Terms → Option (List ℕ) → ℕ → Bool
beaten z none x = false
beaten z (some b) x = ltb x (z.score b)

-- A visit goes back if the plan costs more than the budget, if its bound does not pass, or if a best plan is held and the bound is less than its score
unfoldable pub goes_back : Terms → List ℕ → Option (List ℕ) → Bool
goes_back z p held =
    ltb z.budget (z.cost p) || not (z.passes (z.bound p)) || beaten z held (z.bound p)

-- A plan with a line left is visited if its bound passes and, where a best plan is held, is not less than its score
unfoldable pub worthwhile : Terms → List ℕ → Option (List ℕ) → Bool
worthwhile z p held = z.passes (z.bound p) && not (beaten z held (z.bound p))

-- The rule. The first argument is the number of open lines.
unfoldable pub rule : ℕ → Terms → List ℕ → Tally → Tally
rule zero z p w =
    elim (goes_back z p w.held) as (λ _. Tally) [
      | true ↦ record { held = w.held; visits = suc w.visits }
      | false ↦ record { held = z.keep w.held p; visits = suc w.visits }
    ]
rule (suc n) z p w =
    elim (goes_back z p w.held) as (λ _. Tally) [
      | true ↦ record { held = w.held; visits = suc w.visits }
      | false ↦
          let u = rule n z (set p (lowest_open p) 1) (record { held = w.held; visits = suc w.visits }) in
          elim (worthwhile z (set p (lowest_open p) 2) u.held) as (λ _. Tally)
          [ true ↦ rule n z (set p (lowest_open p) 2) u | false ↦ u ]
    ]

-- A full plan within the budget whose score passes
unfoldable pub candidate : Terms → List ℕ → Bool
candidate z c = leb (z.cost c) z.budget && z.passes (z.score c)

-- What the laws of the rule ask of its parts: a plan's bound and cost bound its completions' from above and from below, a plan with no line open is its
-- own completion, a larger score passes where a smaller one does, and a plan with a smaller score than the one held is not kept
pub record Bounding (z : Terms) : Type 0 where
  pub bounds : {p c : List ℕ} → Completes p c → z.score c ≤ z.bound p
  pub costs : {p c : List ℕ} → Completes p c → z.cost p ≤ z.cost c
  pub exact : (p : List ℕ) → open_count p ≡ 0 → z.bound p ≡ z.score p
  pub rises : {x y : ℕ} → x ≤ y → z.passes x ≡ true → z.passes y ≡ true
  pub holds : (b c : List ℕ) → z.score c < z.score b → z.keep (some b) c ≡ some b
