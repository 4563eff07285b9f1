-- Document 01's visit rule finds the first of all candidates in the ranking, and makes at most 2^(n+1) - 1 visits.
-- Assumes of the table what checks 17 and 18 find: `Formed` and `Monotone`.
use Prim.Native.Nat.{ℕ, suc, ◌+◌, ◌≤◌, ◌^◌}
use native.Mathlib.Omega.{arith}
use mathlib.Core.Path.{◌≡◌, refl, ap, ◌∙◌}
use mathlib.Core.Option.{none}
use mathlib.Core.List.{List}
use lib.ListN.{length}
use Rattle.diagram.specs.Table.{Table}
use Rattle.diagram.specs.Plans.{open_count, passing}
use Rattle.diagram.specs.Ranking.{first_ranked, is_candidate, best_plan}
use Rattle.diagram.specs.Visits.{Tally, visited, visit_count}
use Rattle.diagram.specs.Validity.{Formed, Monotone}
use Rattle.rule.specs.Rule.{terms, rule, candidate}
use Rattle.rule.proofs.Ruling.{rule-visits, rule-first}
use Rattle.rule.proofs.Instance.{terms_bounding, visit-rule}

module _ (t : Table) (formed : Formed (length t.variables) t.records) (monotone : Monotone t) (budget percent : ℕ) (p : List ℕ) where
  -- a search is the rule over document 01's terms
  pub visited-rule : visited t budget percent p ≡ rule (open_count p) (terms t budget percent) p (record { held = none; visits = 0 })
  unfolding visited
  visited-rule = visit-rule t formed monotone budget percent (open_count p) p _ refl

  -- what a search holds at its end is the first of all candidates
  pub visited-first : (visited t budget percent p).held ≡ best_plan t budget percent p
  unfolding terms candidate is_candidate passing first_ranked best_plan
  visited-first =
      ap (λ (w : Tally). w.held) visited-rule
      ∙ rule-first (terms t budget percent) (terms_bounding t formed monotone budget percent) (open_count p) p _ refl

  -- the visits are at most 2^(n+1) - 1, of n open lines
  pub visits-bounded : visit_count t budget percent p + 1 ≤ 2 ^ suc (open_count p)
  unfolding visit_count
  visits-bounded =
      rw (visit_count, visited-rule) (omega (arith, rule-visits (open_count p) (terms t budget percent) p (record { held = none; visits = 0 })))
