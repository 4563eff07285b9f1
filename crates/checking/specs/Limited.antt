-- The numbers of a file that have a limit, and what has to be right before B can be made.
use Rattle.std.specs.Prelude.{ℕ, ◌≡◌, List}
use Rattle.std.proofs.Math.Option.{none}
use Rattle.diagram.specs.Table.{table_of, choice_count, scale_of, scale}
use Rattle.diagram.specs.Checks.{heading_fault, root_fault}

-- The number of choices
abbrev pub choices_of : (file : List ℕ) → ℕ
choices_of s = choice_count (table_of s).variables

-- The product of b
abbrev pub product_of : (file : List ℕ) → ℕ
product_of s = scale_of (table_of s).variables

-- B
abbrev pub file_scale : (file : List ℕ) → ℕ
file_scale s = scale (table_of s)

-- The checks 12 and 26 find nothing
abbrev pub RootsRight : (file : List ℕ) → Type 0
RootsRight s = (heading_fault s ≡ none) × (root_fault s ≡ none)
