-- What the checks 21 to 25 find of a request is what their list finds in a file with the number of choices, what the checks 21 and 22 leave for the others,
-- and the checks by number, whose straight code finds what their list does.
-- Assumes nothing.
use Prim.Native.Nat.{ℕ}
use mathlib.Core.Path.{◌≡◌, refl, sym, ◌∙◌}
use mathlib.Core.Option.{none, some}
use mathlib.Core.List.{List, [], ◌∷◌, ◌++◌}
use lib.ListN.{length}
use lib.Dec.{eqb, ltb}
use mathlib.Core.Bool.{not}
use Rattle.std.specs.Prelude.{Result, Ok}
use Rattle.std.specs.Prelude as code
use Rattle.diagram.specs.Table.{table_of, choice_count}
use Rattle.diagram.specs.Checks.{Check, place_zero, plan_length_fault, plan_mark_fault, full_plan_fault, percent_fault, budget_fault, buffer_fault, full_plan_checks, plan_checks, percent_checks, budget_checks}
use Rattle.diagram.specs.Services.{Outcome, refused, answered, checked}
use Rattle.diagram.proofs.Checked.{checked-append, checked-answered, checked_refused, checked-passes, checked_stops, checked_end}
use Rattle.steps.specs.declared.numbered.Numbered.{Numbered}
use Rattle.steps.specs.Steps.{fault_of, finding, and_then, finding_after}
use Rattle.steps.proofs.Stepping.{decided, checked-finding}
use Rattle.requesting.specs.Request.{request_checks, equal_check, plan_list, full_plan_list, request_list, plan_finding, full_plan_finding, request_finding, unequal_fault, above_fault}

module _ (p s : List ℕ) {n : ℕ} (choices : n ≡ choice_count (table_of s).variables) where
  pub plan_finds : plan_finding p n ≡ finding (plan_checks p) s
  unfolding plan_finding checked plan_length_fault plan_mark_fault
  plan_finds = rw choices refl

  pub full_plan_finds : full_plan_finding p n ≡ finding (full_plan_checks p) s
  unfolding full_plan_finding checked plan_length_fault full_plan_fault
  full_plan_finds = rw choices refl

  pub request_finds : (budget percent size : ℕ) → request_finding p budget percent size n ≡ finding (request_checks p budget percent size) s
  unfolding request_finding checked plan_length_fault plan_mark_fault percent_fault budget_fault buffer_fault
  request_finds budget percent size = rw choices refl

-- ---------------------------------------------------------------------------
-- The parts, by their outcomes

-- that no check finds a fault
abbrev passes : List ℕ → Outcome Unit
passes _ = answered tt

module _ (p : List ℕ) (budget percent size n : ℕ) where
  -- 24 and 25
  abbrev of_budget : List Check
  of_budget = record { number = 24; fault = λ _. place_zero (ltb 10020 budget) } ∷ equal_check 25 size n ∷ []

  -- 23 to 25
  abbrev of_percent : List Check
  of_percent = record { number = 23; fault = λ _. place_zero (ltb 100 percent) } ∷ of_budget

  pub plan_refuses : (m i : ℕ) → refused m i ≡ plan_finding p n → refused m i ≡ request_finding p budget percent size n
  unfolding plan_finding request_finding percent_fault budget_fault
  plan_refuses m i e =
      sym (checked-append [] (plan_list p n) of_percent passes ∙ checked_refused [] (plan_list p n) (λ _. tt) m i (checked of_percent passes) (sym e))

  module _ (plan : answered tt ≡ plan_finding p n) where
    plan_rests : checked of_percent passes [] ≡ request_finding p budget percent size n
    unfolding plan_finding request_finding percent_fault budget_fault
    plan_rests =
        sym (checked-append [] (plan_list p n) of_percent passes ∙ checked-answered [] (plan_list p n) (λ _. tt) tt (checked of_percent passes) (sym plan))

    pub percent_refuses : (i : ℕ) → place_zero (ltb 100 percent) ≡ some i → refused 23 i ≡ request_finding p budget percent size n
    percent_refuses i e = sym (checked_stops _ of_budget passes [] i e) ∙ plan_rests

    module _ (some_percent : place_zero (ltb 100 percent) ≡ none) where
      percent_rests : checked of_budget passes [] ≡ request_finding p budget percent size n
      percent_rests = sym (checked-passes _ of_budget passes [] some_percent) ∙ plan_rests

      pub budget_refuses : (i : ℕ) → place_zero (ltb 10020 budget) ≡ some i → refused 24 i ≡ request_finding p budget percent size n
      budget_refuses i e = sym (checked_stops _ (equal_check 25 size n ∷ []) passes [] i e) ∙ percent_rests

      module _ (some_budget : place_zero (ltb 10020 budget) ≡ none) where
        budget_rests : checked (equal_check 25 size n ∷ []) passes [] ≡ request_finding p budget percent size n
        budget_rests = sym (checked-passes _ (equal_check 25 size n ∷ []) passes [] some_budget) ∙ percent_rests

        pub buffer_refuses : (i : ℕ) → place_zero (not (eqb size n)) ≡ some i → refused 25 i ≡ request_finding p budget percent size n
        buffer_refuses i e = sym (checked_stops _ [] passes [] i e) ∙ budget_rests

        pub buffer_passes : place_zero (not (eqb size n)) ≡ none → answered tt ≡ request_finding p budget percent size n
        buffer_passes e = sym (checked-passes _ [] passes [] e ∙ checked_end passes []) ∙ budget_rests

-- what the parts decide, one after the other
pub ruleset parts = (plan_refuses, percent_refuses, budget_refuses, buffer_refuses, buffer_passes)

-- ---------------------------------------------------------------------------
-- The checks by number

module _ (p : List ℕ) (n : ℕ) where
  -- 21 and 22
  abbrev pub plan_numbered : Result Unit Numbered
  plan_numbered = finding_after (Ok tt) (plan_list p n) []

  pub plan-is : {v w : Result Unit Numbered} {l m : ℕ} {a b : code.Option ℕ} → w ≡ and_then v m b → m ≡ 22 → b ≡ fault_of (plan_mark_fault p []) → v ≡ and_then (Ok tt) l a → l ≡ 21 → a ≡ unequal_fault (length p) n → w ≡ plan_numbered
  unfolding finding_after
  plan-is e22 m f22 e21 l f21 = rw (e22, m, f22, e21, l, f21) refl

  -- which stands for what they find
  pub plan_decides : decided plan_numbered (answered tt) ≡ plan_finding p n
  unfolding plan_finding
  plan_decides = sym (checked-finding (plan_list p n) passes [] tt)

  -- those of the score
  abbrev pub full_plan_numbered : Result Unit Numbered
  full_plan_numbered = finding_after (Ok tt) (full_plan_list p n) []

  pub full_plan_is : {v w : Result Unit Numbered} {l m : ℕ} {a b : code.Option ℕ} → w ≡ and_then v m b → m ≡ 22 → b ≡ fault_of (full_plan_fault p []) → v ≡ and_then (Ok tt) l a → l ≡ 21 → a ≡ unequal_fault (length p) n → w ≡ full_plan_numbered
  unfolding finding_after
  full_plan_is e22 m f22 e21 l f21 = rw (e22, m, f22, e21, l, f21) refl

  pub full_plan_decides : decided full_plan_numbered (answered tt) ≡ full_plan_finding p n
  unfolding full_plan_finding
  full_plan_decides = sym (checked-finding (full_plan_list p n) passes [] tt)

  module _ (budget percent size : ℕ) where
    -- 23 to 25 after them
    abbrev pub request_numbered : Result Unit Numbered
    request_numbered = finding_after (Ok tt) (request_list p budget percent size n) []

    pub request_is : {v w x y : Result Unit Numbered} {j k l kits most : ℕ} {a b c : code.Option ℕ} → y ≡ and_then x l c → l ≡ 25 → c ≡ unequal_fault size n → x ≡ and_then w k b → k ≡ 24 → b ≡ above_fault kits budget → kits ≡ 10020 → w ≡ and_then v j a → j ≡ 23 → a ≡ above_fault most percent → most ≡ 100 → v ≡ plan_numbered → y ≡ request_numbered
    unfolding finding_after percent_fault budget_fault
    request_is e25 l f25 e24 k f24 kits e23 j f23 most e22 =
        rw (e25, l, f25, e24, k, f24, kits, e23, j, f23, most, e22) refl

    pub request_decides : decided request_numbered (answered tt) ≡ request_finding p budget percent size n
    unfolding request_finding
    request_decides = sym (checked-finding (request_list p budget percent size n) passes [] tt)
