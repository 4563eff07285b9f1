-- Two texts one after the other, in a buffer and in a text in the making, and a text written byte by byte. Assumes nothing.
use Prim.Native.Nat.{ℕ, suc, ◌+◌, ◌≤◌, ◌<◌}
use native.Mathlib.Nat.{add-zero}
use native.Mathlib.Numerals.{add-one}
use native.Mathlib.Omega.{arith}
use mathlib.Core.Path.{◌≡◌, refl, ap, sym, ◌∙◌}
use mathlib.Core.List.{List, ◌++◌, append-nil, append_assoc}
use lib.ListN.{length, get_or, set, take, drop, length-append, length-set}
use lib.Seq.{take-suc, take-suc-set, take-length, drop-set-lt, drop-drop}
use Rattle.writing.specs.declared.text.Text.{Text}
use Rattle.writing.specs.Wrote.{Wrote, Appends, empty}

-- what is kept from a place on is kept from a later place on
rest_on : (a b : List ℕ) (j n : ℕ) {k : ℕ} → k ≡ j + n → drop j b ≡ drop j a → drop k b ≡ drop k a
rest_on a b j n e h = rw e (sym (drop-drop n j b) ∙ ap (drop n) h ∙ drop-drop n j a)

-- a text and then another are the two together
pub wrote_then : {a b c : List ℕ} {i j k : ℕ} {x y : List ℕ} → Wrote a i b j x → Wrote b j c k y → Wrote a i c k (x ++ y)
wrote_then {a} {b} {j = j} {y = y} v w =
    record {
      text = w.text ∙ rw (v.text, append_assoc) refl;
      count = let n = w.count in let m = v.count in rw length-append (omega arith);
      size = w.size ∙ v.size;
      rest = w.rest ∙ rest_on a b j (length y) w.count v.rest;
    }

-- what is written at a text's end is appended to it
pub wrote-appends : {a b : Text} {x : List ℕ} → Wrote a.bytes a.count b.bytes b.count x → Appends a x b
wrote-appends w = record { text = w.text; count = w.count; size = w.size; rest = w.rest }

-- and what is appended is written there
pub appends-wrote : {a b : Text} {x : List ℕ} → Appends a x b → Wrote a.bytes a.count b.bytes b.count x
appends-wrote w = record { text = w.text; count = w.count; size = w.size; rest = w.rest }

-- so a text and then another, appended, are the two together
pub appends_then : {a b c : Text} {x y : List ℕ} → Appends a x b → Appends b y c → Appends a (x ++ y) c
appends_then v w = wrote-appends (wrote_then (appends-wrote v) (appends-wrote w))

-- what is appended to an empty text is all of it
pub appended_first : {a b : Text} {x : List ℕ} → a ≡ empty → Appends a x b → take b.count b.bytes ≡ x
appended_first {x = x} e w = w.text ∙ ap (λ (t : Text). take t.count t.bytes ++ x) e

-- ---------------------------------------------------------------------------
-- A text written byte by byte, as a loop writes it

-- the first i bytes of x are written from place `at` on, and what stands before and after is kept
pub record Writing (before : List ℕ) (at : ℕ) (x out : List ℕ) (i : ℕ) : Type 0 where
  pub text : take (at + i) out ≡ take at before ++ take i x
  pub size : length out ≡ length before
  pub rest : drop (at + i) out ≡ drop (at + i) before

-- nothing is written at the start
pub writing_start : {before : List ℕ} {at : ℕ} {x : List ℕ} → Writing before at x before 0
writing_start {at = at} = record { text = rw (add-zero at, append-nil) refl; size = refl; rest = refl }

-- one byte more
pub writing_next : {before : List ℕ} {at : ℕ} {x out : List ℕ} {i v : ℕ} → Writing before at x out i → i < length x → at + i < length before → v ≡ get_or x i 0 → Writing before at x (set out (at + i) v) (i + 1)
writing_next {before} {at} {x} {out} {i} {v} w h l e =
    let on : at + (i + 1) ≡ suc (at + i) = omega arith in
    let on_one : at + (i + 1) ≡ at + i + 1 = omega arith in
    let within : at + i < length out = omega (arith, w.size) in
    record {
      text = rw (on, take-suc-set out (at + i) v within, add-one, take-suc x i 0 h, w.text, e, append_assoc) refl;
      size = simp length-set w.size;
      rest = drop-set-lt (at + (i + 1)) out (at + i) v (omega arith) ∙ rest_on before out (at + i) 1 on_one w.rest;
    }

-- the whole text is written at the end
pub writing_end : {before : List ℕ} {at : ℕ} {x out : List ℕ} {i n : ℕ} → Writing before at x out i → n ≡ length x → n ≤ i → i ≤ n → Wrote before at out (at + n) x
writing_end {x = x} {i = i} {n} w e l h =
    let same : n ≡ i = omega arith in
    let long : i ≡ length x = omega arith in
    record { text = rw same (w.text ∙ rw (long, take-length) refl); count = rw e refl; size = w.size; rest = rw same w.rest }
