-- Document 01, "Words of a table file": a word and its four fields.
use Rattle.std.specs.Prelude.{ℕ, ◌+◌, ◌*◌, ◌/◌, ◌%◌, ◌^◌, cond, List, length, get_or, ltb}

-- Word i of a file, counted from the heading, which is word 0: four bytes, highest byte first. Past the last whole word it is 0, and 0 is of no kind.
unfoldable pub word_at : List ℕ → ℕ → ℕ
word_at s i =
    cond (ltb i (length s / 4))
    (get_or s (4 * i) 0 * 2 ^ 24 + get_or s (4 * i + 1) 0 * 2 ^ 16 + get_or s (4 * i + 2) 0 * 2 ^ 8 + get_or s (4 * i + 3) 0)
    0

-- "Its top four bits are its kind"
abbrev pub kind : ℕ → ℕ
kind w = w / 2 ^ 28

-- "the next six (27 to 22) are field P"
abbrev pub field_p : ℕ → ℕ
field_p w = w / 2 ^ 22 % 64

-- "bits 21 to 11 field Q"
abbrev pub field_q : ℕ → ℕ
field_q w = w / 2 ^ 11 % 2048

-- "bits 10 to 0 field R"
abbrev pub field_r : ℕ → ℕ
field_r w = w % 2048
