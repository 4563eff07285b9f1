-- The choices and the scale of a file's first variables, one variable after the other, and how a loop keeps such a number within its limit.
-- Assumes nothing.
use Prim.Native.Nat.{ℕ, suc, ◌+◌, ◌-◌, ◌*◌, ◌≤◌, ◌<◌}
use native.Mathlib.Omega.{arith}
use mathlib.Core.Path.{◌≡◌, refl, ap, sym, ◌∙◌}
use mathlib.Core.Bool.{Bool, true, false}
use mathlib.Core.Option.{some}
use mathlib.Core.List.{List, [], ◌∷◌, ◌++◌}
use lib.ListN.{length, take}
use lib.Seq.{take-suc, take_all}
use lib.Dec.{ltb}
use borrow.Author.Tests.{lt-ltb, le-ltb}
use Rattle.diagram.specs.Words.{word_at, field_q, field_r}
use Rattle.diagram.specs.Table.{Variable, choice, chance, variable_of, is_choice, choice_count, scale_of, variable_count, table_of}
use Rattle.diagram.specs.Checks.{first_place}
use Rattle.diagram.proofs.Places.{sequence-at, place-start, place_here, place-next, place_end}
use Rattle.decoding.proofs.Choosing.{is-choice-kind, variables-length}
use Rattle.std.specs.Prelude.{Ok}
use Rattle.steps.specs.Steps.{bounded_by}

-- ---------------------------------------------------------------------------
-- A word's variable

variable-choice : (w : ℕ) → is_choice (variable_of w) ≡ true → variable_of w ≡ choice
unfolding variable_of
variable-choice w e = simp (sym (is-choice-kind w) ∙ e)

variable-chance : (w : ℕ) → is_choice (variable_of w) ≡ false → variable_of w ≡ chance (field_q w) (field_r w)
unfolding variable_of
variable-chance w e = simp (sym (is-choice-kind w) ∙ e)

-- ---------------------------------------------------------------------------
-- One variable more

choice-count_last : (vs : List Variable) (x : Variable) → choice_count (vs ++ (x ∷ [])) ≡ choice_count vs + choice_count (x ∷ [])
unfolding choice_count
choice-count_last [] x = omega arith
choice-count_last (choice ∷ vs) x = omega (arith, choice-count_last vs x)
choice-count_last (chance a b ∷ vs) x = choice-count_last vs x

scale_last : (vs : List Variable) (x : Variable) → scale_of (vs ++ (x ∷ [])) ≡ scale_of vs * scale_of (x ∷ [])
unfolding scale_of
scale_last [] x = omega arith
scale_last (choice ∷ vs) x = scale_last vs x
scale_last (chance a b ∷ vs) x = omega (arith, ap (λ (z : ℕ). b * z) (scale_last vs x))

-- the first p variables of a file, and the one after them
abbrev pub first : (file : List ℕ) → (p : ℕ) → List Variable
first s p = take p (table_of s).variables

abbrev pub next : (file : List ℕ) → (p : ℕ) → Variable
next s p = variable_of (word_at s (1 + p))

module _ (s : List ℕ) where
  module _ (p : ℕ) (h : p < variable_count s) where
    variables_last : first s (1 + p) ≡ first s p ++ (next s p ∷ [])
    unfolding table_of
    variables_last =
        let on : 1 + p ≡ suc p = omega arith in
        rw (
          on,
          take-suc (table_of s).variables p choice (omega (arith, variables-length s)),
          sequence-at (λ i. variable_of (word_at s i)) 1 (variable_count s) p choice h,
          on,
        )

    pub choice_more : is_choice (next s p) ≡ true → choice_count (first s (1 + p)) ≡ choice_count (first s p) + 1
    unfolding choice_count
    choice_more e = rw (variables_last, choice-count_last, variable-choice (word_at s (1 + p)) e)

    pub choice-same : is_choice (next s p) ≡ false → choice_count (first s (1 + p)) ≡ choice_count (first s p)
    unfolding choice_count
    choice-same e = rw (variables_last, choice-count_last, variable-chance (word_at s (1 + p)) e) (omega arith)

    -- with the product so far, the variable's word and its b
    pub scale_more : (x : ℕ) {i w b : ℕ} → x ≡ scale_of (first s p) → is_choice (next s p) ≡ false → i ≡ 1 + p → w ≡ word_at s i → b ≡ field_r w → scale_of (first s (1 + p)) ≡ x * b
    unfolding scale_of
    scale_more x d e f g k =
        rw (variables_last, scale_last, variable-chance (word_at s (1 + p)) e, k, g, f, d) (omega arith)

    pub scale_same : is_choice (next s p) ≡ true → scale_of (first s (1 + p)) ≡ scale_of (first s p)
    unfolding scale_of
    scale_same e = rw (variables_last, scale_last, variable-choice (word_at s (1 + p)) e) (omega arith)

-- ---------------------------------------------------------------------------
-- A number of the first p variables, within its limit: as a loop over the variables has it before each turn

-- the variables up to word i take the number above its limit
abbrev pub above : (List Variable → ℕ) → (limit : ℕ) → (file : List ℕ) → ℕ → Bool
above number limit s i = ltb limit (number (first s i))

pub record Prefix (number : List Variable → ℕ) (limit : ℕ) (s : List ℕ) (p x : ℕ) : Type 0 where
  pub value : x ≡ number (first s p)
  pub bound : x ≤ limit
  pub place : first_place (above number limit s) 1 (variable_count s) ≡ first_place (above number limit s) (1 + p) (variable_count s - p)

module _ (number : List Variable → ℕ) (limit : ℕ) (s : List ℕ) where
  pub prefix_start : number [] ≤ limit → Prefix number limit s 0 (number [])
  prefix_start h = record { value = refl; bound = h; place = place-start (above number limit s) 1 (variable_count s) }

  module _ (p : ℕ) {x : ℕ} (i : Prefix number limit s p x) where
    -- a turn that stays within the limit
    pub prefix_next : p < variable_count s → (y : ℕ) → y ≡ number (first s (1 + p)) → y ≤ limit → Prefix number limit s (p + 1) y
    prefix_next h y e l =
        let on : p + 1 ≡ 1 + p = omega arith in
        let within : number (first s (1 + p)) ≤ limit = omega arith in
        record {
          value = rw on e;
          bound = l;
          place = i.place ∙ place-next (above number limit s) 1 (variable_count s) p h (le-ltb _ _ within);
        }

    -- a turn that goes above it
    pub prefix_above : p < variable_count s → limit < number (first s (1 + p)) → first_place (above number limit s) 1 (variable_count s) ≡ some (1 + p)
    prefix_above h l = i.place ∙ place_here (above number limit s) 1 (variable_count s) p h (lt-ltb _ _ l)

    -- all variables within it
    pub prefix_end : variable_count s ≤ p → Ok x ≡ bounded_by (first_place (above number limit s) 1 (variable_count s)) (number (table_of s).variables)
    unfolding bounded_by
    prefix_end h =
        let all : length (table_of s).variables ≤ p = omega (arith, variables-length s) in
        rw (i.place, place_end (above number limit s) (1 + p) (variable_count s) p h, i.value, take_all p (table_of s).variables all)
