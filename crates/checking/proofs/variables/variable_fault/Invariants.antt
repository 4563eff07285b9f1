-- `variable_fault` meets its contract. The loop's invariant: the first place at fault is the first from the next word on.
-- Assumes nothing.
use Prim.Native.Nat.{ℕ, ◌+◌, ◌-◌}
use mathlib.Core.Path.{◌≡◌}
use mathlib.Core.Bool.{Bool, not}
use mathlib.Core.List.{List}
use Rattle.diagram.specs.Words.{word_at}
use Rattle.diagram.specs.Table.{variable_count}
use Rattle.diagram.specs.Checks.{is_variable_word, first_place, variable_fault}
use Rattle.checking.proofs.variables.variable_fault.Given as goal

-- word i is not the one that the variable there has
abbrev pub wrong : (file : List ℕ) → ℕ → Bool
wrong s i = not (is_variable_word (i - 1) (word_at s i))

abbrev pub invariant-loop-p : goal.invariant-loop-p
invariant-loop-p l = variable_fault l.file ≡ first_place (wrong l.file) (1 + l.p) (variable_count l.file - l.p)
