-- How many variables a file has, and which are choices.
-- Assumes nothing.
use Prim.Native.Nat.{ℕ, ◌+◌, ◌<◌}
use mathlib.Core.Path.{◌≡◌, refl}
use mathlib.Core.Bool.{Bool, true, false, cond}
use mathlib.Core.List.{List}
use lib.ListN.{length, get_or}
use lib.Dec.{eqb}
use Rattle.diagram.specs.Words.{word_at, kind, field_q, field_r}
use Rattle.diagram.specs.Table.{choice, chance, variable_of, is_choice, variable_count, table_of}
use Rattle.diagram.proofs.Places.{sequence-length, sequence-at}

pub variables-length : (s : List ℕ) → length (table_of s).variables ≡ variable_count s
unfolding table_of
variables-length s = sequence-length (λ i. variable_of (word_at s i)) 1 (variable_count s)

pub is-choice-kind : (w : ℕ) → is_choice (variable_of w) ≡ eqb (kind w) 2
unfolding is_choice variable_of
is-choice-kind w = go (eqb (kind w) 2) (field_q w) (field_r w)
  where
    go : (b : Bool) (x y : ℕ) → is_choice (cond b choice (chance x y)) ≡ b
    go true x y = refl
    go false x y = refl

-- the variable of a word
pub variable-at : (s : List ℕ) (p : ℕ) → p < variable_count s → get_or (table_of s).variables p (chance 0 1) ≡ variable_of (word_at s (1 + p))
unfolding table_of
variable-at s p l = sequence-at (λ i. variable_of (word_at s i)) 1 (variable_count s) p _ l
