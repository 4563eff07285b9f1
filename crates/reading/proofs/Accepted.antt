-- What is known of a file that no check finds at fault: its records are formed and monotone, its variables have shares, and its numbers are within
-- their limits.
-- Assumes nothing.
use Prim.Native.Nat.{ℕ, zero, suc, ◌+◌, ◌-◌, ◌≤◌, ◌<◌, ◌^◌}
use native.Mathlib.Decide.{dec_lt}
use native.Mathlib.Omega.{arith}
use mathlib.Core.Path.{◌≡◌, refl, sym, ◌∙◌}
use mathlib.Core.Bool.{Bool, true, false, not, cond, ◌&&◌, ◌||◌, or-true}
use mathlib.Core.Logic.{by_cases}
use mathlib.Core.Option.{none}
use mathlib.Core.List.{List, ◌∷◌}
use lib.ListN.{length}
use lib.Seq.{take_all}
use lib.Dec.{eqb, leb}
use borrow.Author.Tests.{ltb-false, leb-true, not-false}
use Rattle.diagram.specs.Words.{word_at, kind, field_p, field_q, field_r}
use Rattle.diagram.specs.Table.{Variable, choice, chance, variable_of, sequence, table_of, variable_count, record_count, choice_count, scale_of, scale}
use Rattle.diagram.specs.Checks.{first_place, heading_fault, is_variable_word, variable_fault, choice_fault, scale_fault, is_monotone_at, place_zero, reward_fault}
use Rattle.diagram.specs.Validity.{Formed, BoundedShares, no_shares, choice-shares, chance-shares, Monotone}
use Rattle.diagram.proofs.Every.{both}
use Rattle.diagram.proofs.Places.{none-at}
use Rattle.diagram.proofs.Checked.{Passed}
use Rattle.diagram.proofs.Implication.{implies-same}
use Rattle.decoding.specs.Nodes.{Shaped}
use Rattle.decoding.specs.Decoding.{Valid}
use Rattle.decoding.proofs.Rooting.{roots_few, root_is}
use Rattle.implication.specs.Nodes.{monotone_fault_in}
use Rattle.decoding.proofs.Choosing.{variables-length}
use Rattle.decoding.proofs.Shape.{heading-variables, heading-records, records-length, record_past, shaped-formed}
use Rattle.implication.proofs.Pairing.{unmonotone_at, unmonotone_test, fault_of-table}
use Rattle.checking.proofs.Counting.{above}

-- ---------------------------------------------------------------------------
-- The heading and the records

pub passed_variables : {s : List ℕ} → Passed s → (1 ≤ length (table_of s).variables) × (length (table_of s).variables ≤ 60)
passed_variables {s} h = rw variables-length (heading-variables s h.heading)

pub passed_records : {s : List ℕ} → Passed s → (1 ≤ length (table_of s).records) × (length (table_of s).records ≤ 254)
passed_records {s} h = rw records-length (heading-records s h.heading)

pub passed_shaped : {s : List ℕ} → Passed s → Shaped s
passed_shaped h = record { heading = h.heading; records = h.records }

pub passed_formed : {s : List ℕ} → Passed s → Formed (length (table_of s).variables) (table_of s).records
passed_formed {s} h = rw variables-length (shaped-formed s (passed_shaped h))

-- past the last record both children are one
pub passed_monotone : {s : List ℕ} → Passed s → Monotone (table_of s)
unfolding monotone_fault_in is_monotone_at
passed_monotone {s} h k =
    let None-found = fault_of-table s ∙ h.monotone in
    by_cases (dec_lt k (record_count s))
    (λ l. not-false _ (sym (unmonotone_test (table_of s) k refl) ∙ none-at (unmonotone_at (table_of s)) (1 + length (table_of s).variables) (length (table_of s).records) k None-found (omega (arith, records-length s))))
    (λ l. rw (record_past s k (omega arith), implies-same, or-true))

-- ---------------------------------------------------------------------------
-- The variables

-- a word that check 14 lets through is a variable with a share
word-shares : (i w : ℕ) {vs : List Variable} → is_variable_word i w ≡ true → BoundedShares vs → BoundedShares (variable_of w ∷ vs)
unfolding is_variable_word variable_of
word-shares i w {vs} h rest =
    go (eqb (kind w) 2) (eqb (field_q w) 0) (leb (field_r w) 500) (eqb (kind w) 3) (field_q w) (field_r w) (both (eqb (field_p w) i) h).1
  where
    go : (b x y c : Bool) (p q : ℕ) → (b && x && y || c && (leb 1 q && leb q 1000) && leb p q) ≡ true → BoundedShares (cond b choice (chance p q) ∷ vs)
    go true x y c p q e = choice-shares rest
    go false x y c p q e =
        let tests = both (c && (leb 1 q && leb q 1000)) e in
        let range = both (leb 1 q) (both c tests.0).1 in
        chance-shares (leb-true p q tests.1) (leb-true 1 q range.0) rest

words-shares : (s : List ℕ) (i n : ℕ) → ((k : ℕ) → k < n → is_variable_word (i + k - 1) (word_at s (i + k)) ≡ true) → BoundedShares (sequence (λ i. variable_of (word_at s i)) i n)
unfolding sequence
words-shares s i zero h = no_shares
words-shares s i (suc n) h =
    let from : i + 0 ≡ i = omega arith in
    word-shares (i - 1) (word_at s i) (rw from at (h 0 (omega arith)))
    (words-shares s (suc i) n (λ k l. let on : i + suc k ≡ suc i + k = omega arith in rw on at (h (suc k) (omega arith))))

pub passed_shares : {s : List ℕ} → Passed s → BoundedShares (table_of s).variables
unfolding table_of variable_fault
passed_shares {s} h =
    words-shares s 1 (variable_count s)
    (λ k l. not-false _ (none-at (λ i. not (is_variable_word (i - 1) (word_at s i))) 1 (variable_count s) k h.variables l))

-- ---------------------------------------------------------------------------
-- Limits

-- a number of the variables that is above its limit at no word is within it at the last
whole_within : (number : List Variable → ℕ) (limit : ℕ) (s : List ℕ) → heading_fault s ≡ none → first_place (above number limit s) 1 (variable_count s) ≡ none → number (table_of s).variables ≤ limit
whole_within number limit s heading e =
    let some-variable = heading-variables s heading in
    let last : 1 + (variable_count s - 1) ≡ variable_count s = omega arith in
    let all = take_all (variable_count s) (table_of s).variables (omega (arith, variables-length s)) in
    let passes = none-at (above number limit s) 1 (variable_count s) (variable_count s - 1) e (omega arith) in
    ltb-false limit _ (rw (last, all) at passes)

pub choices-within : (s : List ℕ) → heading_fault s ≡ none → choice_fault s ≡ none → choice_count (table_of s).variables ≤ 20
unfolding choice_fault
choices-within s heading choices = whole_within choice_count 20 s heading choices

pub passed_choices : {s : List ℕ} → Passed s → choice_count (table_of s).variables ≤ 20
passed_choices {s} h = choices-within s h.heading h.choices

pub passed_product : {s : List ℕ} → Passed s → scale_of (table_of s).variables ≤ 2 ^ 56
unfolding scale_fault
passed_product {s} h = whole_within scale_of (2 ^ 56) s h.heading h.scale

pub passed_scale : {s : List ℕ} → Passed s → scale (table_of s) ≤ 2 ^ 56
unfolding reward_fault place_zero
passed_scale {s} h = ltb-false (2 ^ 56) _ (no_fault _ h.reward)
  where
    no_fault : (b : Bool) → place_zero b ≡ none → b ≡ false
    no_fault false e = refl
    no_fault true e =
        let z : ◌≡◌ {A = ℕ} 0 1 = cc in
        absurd (omega arith)

-- ---------------------------------------------------------------------------
-- The table of a file that no check finds at fault

pub passed_valid : {s : List ℕ} → Passed s → Valid (table_of s)
passed_valid {s} h =
    record {
      variables = passed_variables h;
      records = passed_records h;
      choices = passed_choices h;
      shares = passed_shares h;
      product = passed_product h;
      formed = passed_formed h;
      roots = roots_few s h.heading h.roots;
      rooted = λ i l. rw records-length (root_is s h.heading h.roots i l).within;
      rewards = λ i l. (root_is s h.heading h.roots i l).rewards.1;
      scaled = passed_scale h;
      monotone = passed_monotone h;
    }
