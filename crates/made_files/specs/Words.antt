-- What the contracts of words cite.
use Rattle.std.specs.Prelude.{ℕ}
use Rattle.made_files.specs.declared.words.Kind.{Kind}
use Rattle.made_files.specs.declared.words.Kind.TheVariants as kind

-- the number of a kind in a table file
abbrev pub kind_number : Kind → ℕ
kind_number kind.Heading = 1
kind_number kind.Choice = 2
kind_number kind.Chance = 3
kind_number kind.Record = 4
kind_number kind.Root = 6
