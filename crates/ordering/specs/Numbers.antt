-- The numbers of arcs.
use Rattle.std.specs.Prelude.{ℕ, ◌+◌}

-- The number of the first record's hi arc, which is that of its node
abbrev pub high_arcs : ℕ
high_arcs = 2

-- of its lo arc
abbrev pub low_arcs : ℕ
low_arcs = 258

-- and of the arc of the first root, which brings its weight to its node
abbrev pub root_arcs : ℕ
root_arcs = 514

-- The number of record k's hi arc
abbrev pub high_arc_number : (k : ℕ) → ℕ
high_arc_number k = k + high_arcs

-- of its lo arc
abbrev pub low_arc_number : (k : ℕ) → ℕ
low_arc_number k = k + low_arcs

-- and of the arc of root i, from 0
abbrev pub root_arc_number : (i : ℕ) → ℕ
root_arc_number i = i + root_arcs

-- How much larger the number of a node's lo arc is than the node's
abbrev pub low_offset : ℕ
low_offset = 256

-- The number of node m's lo arc
abbrev pub low_arc_of : (m : ℕ) → ℕ
low_arc_of m = m + low_offset
