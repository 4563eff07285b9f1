-- The word of a mark, where the texts of the printout end at the most, and the lines of the marks one after the other. Assumes nothing.
use Prim.Native.Nat.{ℕ, suc, ◌+◌, ◌≤◌, ◌<◌, ◌^◌}
use native.Mathlib.Nat.{add-zero, zero-add, add-suc, suc-add}
use native.Mathlib.Numerals.{add-one}
use native.Mathlib.Omega.{arith}
use mathlib.Core.Path.{◌≡◌, refl}
use mathlib.Core.Bool.{Bool, true, false, cond}
use mathlib.Core.List.{List, [], ◌∷◌, ◌++◌, append_assoc, append-nil}
use lib.ListN.{length, get_or, take, length-append}
use lib.Seq.{take-suc, length-take-le}
use borrow.Author.Tests.{eq-eqb, ne_eqb}
use Rattle.diagram.specs.Score.{is_taken}
use Rattle.diagram.specs.Printout.{decimal, choices_word, scale_word, kits_word, score_word, visits_word, take_word, left_word, line, mark_lines}
use Rattle.writing.specs.declared.text.Text.{Text}
use Rattle.writing.specs.Wrote.{Wrote, Appends}
use Rattle.text.specs.Lines.{table_text, found_text, mark_text}
use Rattle.writing.proofs.Writes.{wrote_then, appends_then}
use Rattle.writing.proofs.Digits.{count_fits}

-- ---------------------------------------------------------------------------
-- The word of a mark

-- " take" or " left"
abbrev pub mark_word : ℕ → List ℕ
mark_word m = cond (is_taken m) take_word left_word

-- " take" is the word of a taken line
pub take_is : {m : ℕ} → m ≡ 1 → take_word ≡ mark_word m
take_is {m} e = rw (eq-eqb m 1 e) refl

-- " left" is the word of any other
pub left_is : {m : ℕ} → (m ≡ 1 → ⊥) → left_word ≡ mark_word m
left_is {m} f = rw (ne_eqb m 1 f) refl

-- where it is written
module _ {a b : List ℕ} {i j m : ℕ} where
  -- so it is what is written, of a taken line
  pub wrote_take : m ≡ 1 → Wrote a i b j take_word → Wrote a i b j (mark_word m)
  wrote_take e w = rw (eq-eqb m 1 e) w

  -- and of any other
  pub wrote_left : (m ≡ 1 → ⊥) → Wrote a i b j left_word → Wrote a i b j (mark_word m)
  wrote_left f w = rw (ne_eqb m 1 f) w

-- either has five letters
word-length : (t : Bool) → length (cond t take_word left_word) ≡ 5
unfolding take_word left_word
word-length true = refl
word-length false = refl

-- ---------------------------------------------------------------------------
-- Where a text ends

-- a number takes at most 20 places
pub number-ends : {a b : List ℕ} {i j n : ℕ} → Wrote a i b j (decimal n) → n < 2 ^ 64 → j ≤ i + 20
number-ends {n = n} w h = omega (arith, w.count, count_fits n h)

module _ {a b : List ℕ} {i j : ℕ} where
  -- the line of the table's numbers at most 56
  pub table-ends : {n m : ℕ} → Wrote a i b j (table_text n m) → n < 2 ^ 64 → m < 2 ^ 64 → j ≤ i + 56
  unfolding table_text choices_word scale_word line
  table-ends {n} {m} w h k = omega (arith, simp length-append at w.count, count_fits n h, count_fits m k)

  -- the line of the cost, the score and the visits at most 81
  pub found-ends : {n m v : ℕ} → Wrote a i b j (found_text n m v) → n < 2 ^ 64 → m < 2 ^ 64 → v < 2 ^ 64 → j ≤ i + 81
  unfolding found_text kits_word score_word visits_word line
  found-ends {n} {m} {v} w h k l =
      omega (arith, simp length-append at w.count, count_fits n h, count_fits m k, count_fits v l)

  -- a number and the word of a mark at most 25
  pub word-ends : (m : ℕ) {n : ℕ} → Wrote a i b j (decimal n ++ mark_word m) → n < 2 ^ 64 → j ≤ i + 25
  word-ends m {n} w h = omega (arith, simp length-append at w.count, word-length (is_taken m), count_fits n h)

  -- and the line of the mark at most 26
  pub mark-ends : (m : ℕ) {n : ℕ} → Wrote a i b j (mark_text n m) → n < 2 ^ 64 → j ≤ i + 26
  unfolding mark_text line
  mark-ends m {n} w h = omega (arith, simp length-append at w.count, word-length (is_taken m), count_fits n h)

-- ---------------------------------------------------------------------------
-- The lines of the marks

-- no line is written at the start
pub lines_start : {a : Text} → Appends a (mark_lines 0 []) a
unfolding mark_lines
lines_start = record { text = rw append-nil refl; count = omega arith; size = refl; rest = refl }

-- the lines of the marks, and of one mark more
lines_more : (i : ℕ) (p : List ℕ) (m : ℕ) → mark_lines i (p ++ m ∷ []) ≡ mark_lines i p ++ mark_text (i + length p) m
unfolding mark_lines mark_text
lines_more i [] m = rw (add-zero, append-nil) refl
lines_more i (x ∷ p) m = rw (lines_more (suc i) p m, ← append_assoc, add-suc, suc-add) refl

-- the line of choice n after those before it
pub lines_next : {a b c : Text} (p : List ℕ) (n : ℕ) → n < length p → Appends a (mark_lines 0 (take n p)) b → Appends b (mark_text n (get_or p n 0)) c → Appends a (mark_lines 0 (take (n + 1) p)) c
lines_next p n h v w =
    let more = lines_more 0 (take n p) (get_or p n 0) in
    let long = length-take-le n p (omega arith) in
    rw (add-one, take-suc p n 0 h, more, zero-add, long) (appends_then v w)

-- the same of lines that are written into a buffer
pub written_start : {a : List ℕ} {i : ℕ} → Wrote a i a i (mark_lines 0 [])
unfolding mark_lines
written_start = record { text = rw append-nil refl; count = omega arith; size = refl; rest = refl }

pub written_next : {a b c : List ℕ} {i j k : ℕ} (p : List ℕ) (n : ℕ) → n < length p → Wrote a i b j (mark_lines 0 (take n p)) → Wrote b j c k (mark_text n (get_or p n 0)) → Wrote a i c k (mark_lines 0 (take (n + 1) p))
written_next p n h v w =
    let more = lines_more 0 (take n p) (get_or p n 0) in
    let long = length-take-le n p (omega arith) in
    rw (add-one, take-suc p n 0 h, more, zero-add, long) (wrote_then v w)
