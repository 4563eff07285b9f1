-- What each part of the checks 11 to 17, 26 and 27 decides by its outcome, and what it leaves for the parts after it; and the parts as checks by number, whose
-- straight code finds what its list does.
-- Assumes nothing.
use Prim.Native.Nat.{ℕ}
use mathlib.Core.Path.{◌≡◌, refl, sym, ◌∙◌}
use mathlib.Core.Option.{none}
use mathlib.Core.List.{List, ◌++◌}
use Rattle.std.specs.Prelude.{Result, Ok}
use Rattle.std.specs.Prelude as code
use Rattle.diagram.specs.Checks.{Check, length_fault, heading_fault, count_fault, variable_fault, choice_fault, record_fault, root_fault, heading_checks, variable_checks, scale_checks, record_checks, reward_checks}
use Rattle.diagram.specs.Services.{Outcome, refused, answered, checked}
use Rattle.diagram.proofs.Checked.{first, later, checked-append, checked-answered, checked_refused}
use Rattle.steps.specs.declared.numbered.Numbered.{Numbered}
use Rattle.steps.specs.Steps.{fault_of, bounded_by, finding, measuring, and_then, and_within, finding_after, measuring_after}
use Rattle.steps.proofs.Stepping.{passes_each, one_check, one-measured, measured-after}
use Rattle.checking.specs.Limited.{choices_of, product_of, file_scale}
use Rattle.reading.specs.Answer.{shape_checks}

-- B, as what is answered where no check finds a fault
abbrev scaled : List ℕ → List ℕ → Outcome ℕ
scaled s _ = answered (file_scale s)

-- a part that refuses decides, and one that does not leaves the rest to decide
module _ {A : Type 0} (s : List ℕ) (cs ds : List Check) (a : A) where
  part_refuses : (n i : ℕ) → refused n i ≡ checked cs (λ _. answered a) s → refused n i ≡ checked (cs ++ ds) (scaled s) s
  part_refuses n i e =
      sym (checked-append s cs ds (scaled s) ∙ checked_refused s cs (λ _. a) n i (checked ds (scaled s)) (sym e))

  part_rests : (x : A) → answered x ≡ checked cs (λ _. answered a) s → checked ds (scaled s) s ≡ checked (cs ++ ds) (scaled s) s
  part_rests x e =
      sym (checked-append s cs ds (scaled s) ∙ checked-answered s cs (λ _. a) x (checked ds (scaled s)) (sym e))

abbrev after_product : List Check
after_product = record_checks ++ reward_checks

abbrev after_variables : List Check
after_variables = scale_checks ++ after_product

abbrev after_heading : List Check
after_heading = variable_checks ++ after_variables

module _ (s : List ℕ) where
  pub heading_refuses : (n i : ℕ) → refused n i ≡ finding heading_checks s → refused n i ≡ measuring shape_checks s (file_scale s)
  heading_refuses = part_refuses s heading_checks after_heading tt

  -- the product that is handed on
  pub product-made : (x : ℕ) → answered x ≡ measuring scale_checks s (product_of s) → x ≡ product_of s
  product-made x e =
      let q : answered x ≡ answered (product_of s) = e ∙ checked-answered s scale_checks (λ _. product_of s) x (λ _. answered (product_of s)) (sym e) in
      cc

  -- the root words are right
  pub roots_right : answered tt ≡ finding record_checks s → root_fault s ≡ none
  roots_right e =
      passes_each (record { number = 26; fault = root_fault }) (λ _. answered tt) s tt (sym e) (search (first, later) depth 20)

  module _ (heading : answered tt ≡ finding heading_checks s) where
    -- the heading is right
    pub heading_right : heading_fault s ≡ none
    heading_right =
        passes_each (record { number = 12; fault = heading_fault }) (λ _. answered tt) s tt (sym heading) (search (first, later) depth 20)

    heading_rests : checked after_heading (scaled s) s ≡ measuring shape_checks s (file_scale s)
    heading_rests = part_rests s heading_checks after_heading tt tt heading

    pub variables_refuse : (n i : ℕ) → refused n i ≡ measuring variable_checks s (choices_of s) → refused n i ≡ measuring shape_checks s (file_scale s)
    variables_refuse n i e = part_refuses s variable_checks after_variables (choices_of s) n i e ∙ heading_rests

    module _ (v : ℕ) (variables : answered v ≡ measuring variable_checks s (choices_of s)) where
      variables_rest : checked after_variables (scaled s) s ≡ measuring shape_checks s (file_scale s)
      variables_rest = part_rests s variable_checks after_variables (choices_of s) v variables ∙ heading_rests

      pub product_refuses : (n i : ℕ) → refused n i ≡ measuring scale_checks s (product_of s) → refused n i ≡ measuring shape_checks s (file_scale s)
      product_refuses n i e = part_refuses s scale_checks after_product (product_of s) n i e ∙ variables_rest

      module _ (x : ℕ) (product : answered x ≡ measuring scale_checks s (product_of s)) where
        product_rests : checked after_product (scaled s) s ≡ measuring shape_checks s (file_scale s)
        product_rests = part_rests s scale_checks after_product (product_of s) x product ∙ variables_rest

        pub records_refuse : (n i : ℕ) → refused n i ≡ finding record_checks s → refused n i ≡ measuring shape_checks s (file_scale s)
        records_refuse n i e = part_refuses s record_checks reward_checks tt n i e ∙ product_rests

        pub records_rest : answered tt ≡ finding record_checks s → measuring reward_checks s (file_scale s) ≡ measuring shape_checks s (file_scale s)
        records_rest e = part_rests s record_checks reward_checks tt tt e ∙ product_rests

-- what the parts of the list decide, one after the other
pub ruleset parts = (heading_refuses, heading_right, variables_refuse, product_refuses, records_refuse, records_rest, product-made, roots_right)

-- ---------------------------------------------------------------------------
-- The parts as checks by number

-- three steps are the first list
pub heading-is : (s : List ℕ) {v w x : Result Unit Numbered} {l m n : ℕ} {a b c : code.Option ℕ} → x ≡ and_then w n c → n ≡ 13 → c ≡ fault_of (count_fault s) → w ≡ and_then v m b → m ≡ 12 → b ≡ fault_of (heading_fault s) → v ≡ and_then (Ok tt) l a → l ≡ 11 → a ≡ fault_of (length_fault s) → x ≡ finding_after (Ok tt) heading_checks s
unfolding finding_after
heading-is s e13 n f13 e12 m f12 e11 l f11 = rw (e13, n, f13, e12, m, f12, e11, l, f11) refl

-- two are the second
pub variables_are : (s : List ℕ) (v : Result Unit Numbered) {w : Result Unit Numbered} {m n : ℕ} {f : code.Option ℕ} {b : Result ℕ ℕ} {r : Result ℕ Numbered} → r ≡ and_within w n b → n ≡ 15 → b ≡ bounded_by (choice_fault s) (choices_of s) → w ≡ and_then v m f → m ≡ 14 → f ≡ fault_of (variable_fault s) → r ≡ measuring_after v variable_checks s (choices_of s)
variables_are s v {w} e15 n f15 e14 m f14 =
    measured-after v _ _ s _ (one_check v (record { number = 14; fault = variable_fault }) s e14 m f14) (one-measured w _ s _ e15 n f15)

-- two are that of the record and root words
pub records_are : (s : List ℕ) {u v w : Result Unit Numbered} {m n : ℕ} {a b : code.Option ℕ} → w ≡ and_then v n b → n ≡ 26 → b ≡ fault_of (root_fault s) → v ≡ and_then (Ok tt) m a → m ≡ 17 → a ≡ fault_of (record_fault s) → u ≡ Ok tt → w ≡ finding_after u record_checks s
unfolding finding_after
records_are s e26 n f26 e17 m f17 p = rw (e26, n, f26, e17, m, f17, p) refl
