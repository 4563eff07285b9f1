-- The cells of a search.
use Rattle.std.specs.Prelude.{ℕ, ◌+◌}

-- The cell of what the hi arc of the node at a rank hands on, before the arc's own weight
abbrev pub high_cell : (rank : ℕ) → ℕ
high_cell i = i + 2

-- and that of its lo arc
abbrev pub low_cell : (rank : ℕ) → ℕ
low_cell i = i + 258

-- The cell that the roots' arcs start from, which has 1
abbrev pub root_cell : ℕ
root_cell = 1
