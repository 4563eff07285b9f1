-- `root_fault` meets its contract. The loop's invariant: the first fault of all root words is the first of those from r on. Assumes nothing.
use Prim.Native.Nat.{ℕ, ◌+◌, ◌-◌}
use mathlib.Core.Path.{◌≡◌}
use mathlib.Core.Bool.{Bool, not}
use mathlib.Core.List.{List}
use Rattle.diagram.specs.Words.{word_at}
use Rattle.diagram.specs.Table.{variable_count, record_count, root_count}
use Rattle.diagram.specs.Checks.{root_fault, is_root_word, first_place}
use Rattle.checking_records.proofs.roots.root_fault.Given as goal

-- word i is no root's
abbrev pub wrong : (file : List ℕ) → ℕ → Bool
wrong s i = not (is_root_word (record_count s) (word_at s i))

-- where the root words begin
abbrev pub begin : (file : List ℕ) → ℕ
begin s = 1 + variable_count s + record_count s

abbrev pub invariant-loop-r : goal.invariant-loop-r
invariant-loop-r l = root_fault l.file ≡ first_place (wrong l.file) (begin l.file + l.r) (root_count l.file - l.r)
