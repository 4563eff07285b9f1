-- The words of a table file. Assumes nothing.
use Prim.Native.Nat.{ℕ, ◌+◌, ◌*◌, ◌<◌, ◌/◌}
use mathlib.Core.Path.{◌≡◌, refl}
use mathlib.Core.List.{List}
use lib.ListN.{length, get_or}
use borrow.Author.Tests.{lt-ltb}
use Rattle.diagram.specs.Words.{word_at}

-- four bytes make a whole word
pub word-is : (s : List ℕ) (i : ℕ) → i < length s / 4 → {r a b c d : ℕ} → r ≡ a * 16777216 + b * 65536 + c * 256 + d → a ≡ get_or s (4 * i) 0 → b ≡ get_or s (4 * i + 1) 0 → c ≡ get_or s (4 * i + 2) 0 → d ≡ get_or s (4 * i + 3) 0 → r ≡ word_at s i
unfolding word_at
word-is s i h e ea eb ec ed = rw (e, ea, eb, ec, ed, lt-ltb i (length s / 4) h) refl
