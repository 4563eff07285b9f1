-- Document 01, "Ranking and visits": the visit rule, sentence by sentence.
use Rattle.std.specs.Prelude.{ℕ, zero, suc, ◌-◌, Bool, true, false, not, ◌&&◌, ◌||◌, List, [], ◌∷◌, set, ltb}
use Rattle.std.proofs.Math.Option.{Option, none, some}
use Rattle.diagram.specs.Table.{Table}
use Rattle.diagram.specs.Score.{score}
use Rattle.diagram.specs.Plans.{open_count, cost, upper_bound, derivative, passes}
use Rattle.diagram.specs.Ranking.{better}

-- The best plan held so far, if any, and the visits counted so far
pub record Tally : Type 0 where
  pub held : Option (List ℕ)
  pub visits : ℕ

-- Whether a best plan is held and x is less than its score
unfoldable pub beaten : Table → Option (List ℕ) → ℕ → Bool
beaten t none x = false
beaten t (some b) x = ltb x (score t b)

-- "It goes back if more lines are taken than kits, if the top does not pass, or if a best plan is held and the top is less than its score", where the sum
-- of kits is read for the number of lines
unfoldable pub goes_back : Table → (budget percent : ℕ) → List ℕ → Option (List ℕ) → Bool
goes_back t budget percent p held =
    ltb budget (cost t p) || not (passes t percent (upper_bound t p)) || beaten t held (upper_bound t p)

-- "the lowest open choice"
unfoldable pub lowest_open : List ℕ → ℕ
lowest_open [] = 0
lowest_open (zero ∷ p) = 0
lowest_open (suc m ∷ p) = suc (lowest_open p)

-- "A visit counts 1. It goes back if .. With no line open, the plan becomes the best held if none is held or it ranks before it. Otherwise let d be
-- the lowest open choice: visit with d taken; then visit with d left, but only if the top less d's drop passes and, where a best plan is now held,
-- is not less than its score." The first argument is the number of open lines.
unfoldable pub visit : ℕ → Table → (budget percent : ℕ) → List ℕ → Tally → Tally
visit zero t budget percent p w =
    elim (goes_back t budget percent p w.held) as (λ _. Tally) [
      | true ↦ record { held = w.held; visits = suc w.visits }
      | false ↦ record { held = better t w.held p; visits = suc w.visits }
    ]
visit (suc n) t budget percent p w =
    elim (goes_back t budget percent p w.held) as (λ _. Tally) [
      | true ↦ record { held = w.held; visits = suc w.visits }
      | false ↦
          let d = lowest_open p in
          let u = visit n t budget percent (set p d 1) (record { held = w.held; visits = suc w.visits }) in
          let x = upper_bound t p - derivative t p d in
          elim (passes t percent x && not (beaten t u.held x)) as (λ _. Tally)
          [ true ↦ visit n t budget percent (set p d 2) u | false ↦ u ]
    ]

-- What a search from plan p holds and has counted at its end
unfoldable pub visited : Table → (budget percent : ℕ) → List ℕ → Tally
visited t budget percent p = visit (open_count p) t budget percent p (record { held = none; visits = 0 })

-- The visits of the rule
unfoldable pub visit_count : Table → (budget percent : ℕ) → List ℕ → ℕ
visit_count t budget percent p = (visited t budget percent p).visits
