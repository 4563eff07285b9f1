-- Text written into a buffer; a text in the making, and what is appended to it.
use Rattle.std.specs.Prelude.{ℕ, ◌+◌, ◌≡◌, List, ◌++◌, length, take, drop, replicate}
use Rattle.std.proofs.Common.{arith}
use Rattle.writing.specs.declared.text.Text.{Text}

-- x is written from index `at` on, up to index `end`, and what stands before and after is kept
pub record Wrote (before : List ℕ) (at : ℕ) (after : List ℕ) (end : ℕ) (x : List ℕ) : Type 0 where
  pub text : take end after ≡ take at before ++ x
  pub count : end ≡ at + length x
  pub size : length after ≡ length before
  pub rest : drop end after ≡ drop end before

-- No text yet
abbrev pub empty : Text
empty = record { bytes = replicate 1024 0; count = 0; fits = omega arith }

-- x is written after the text, and what follows is kept
pub record Appends (before : Text) (x : List ℕ) (after : Text) : Type 0 where
  pub text : take after.count after.bytes ≡ take before.count before.bytes ++ x
  pub count : after.count ≡ before.count + length x
  pub size : length after.bytes ≡ length before.bytes
  pub rest : drop after.count after.bytes ≡ drop after.count before.bytes
