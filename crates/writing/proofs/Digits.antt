-- Numbers in decimal: how many digits a number has, and its digits put into a room one by one, the last first. Assumes nothing.
use Prim.Native.Nat.{ℕ, zero, suc, ◌+◌, ◌-◌, ◌/◌, ◌%◌, ◌^◌, ◌≤◌, ◌<◌}
use native.Mathlib.Nat.{pow-suc}
use native.Mathlib.Numerals.{add-one}
use native.Mathlib.Decide.{dec_lt}
use native.Mathlib.Omega.{arith}
use mathlib.Core.Path.{◌≡◌, refl, ap, ◌∙◌}
use mathlib.Core.List.{List, [], ◌∷◌, ◌++◌, append-nil}
use mathlib.Core.Logic.{by_cases}
use lib.ListN.{length, set, take, drop, length-append, length-set, length-drop}
use lib.Seq.{drop_at, take_all, drop-length, length-take-le, set_split, append_snoc}
use borrow.Author.Tests.{lt-ltb, le-ltb}
use Rattle.diagram.specs.Printout.{digits, decimal}
use Rattle.writing.specs.declared.text.Text.{Text}
use Rattle.writing.specs.Wrote.{Wrote, Appends}
use Rattle.writing.proofs.Writes.{wrote-appends, appends-wrote}

-- ---------------------------------------------------------------------------
-- The digits of a number

-- the two cases of the definition, with fuel left
digits-small : (f n : ℕ) → n < 10 → digits (suc f) n ≡ (48 + n) ∷ []
unfolding digits
digits-small f n h = rw (lt-ltb n 10 h, digits) refl

digits_more : (f n : ℕ) → 10 ≤ n → digits (suc f) n ≡ digits f (n / 10) ++ (48 + n % 10) ∷ []
unfolding digits
digits_more f n h = rw (le-ltb n 10 h, digits) refl

-- any fuel that is enough gives the same digits
digits_enough : (f g n : ℕ) → n < f → n < g → digits f n ≡ digits g n
digits_enough zero g n h k = absurd (omega arith)
digits_enough (suc f) zero n h k = absurd (omega arith)
digits_enough (suc f) (suc g) n h k =
    by_cases (dec_lt n 10)
    (λ l. rw (digits-small f n l, digits-small g n l) refl)
    (λ l.
    let many : 10 ≤ n = omega arith in
    rw (digits_more f n many, digits_more g n many, digits_enough f g (n / 10) (omega arith) (omega arith)) refl)

-- a number below ten is one digit
decimal-small : (n : ℕ) → n < 10 → decimal n ≡ (48 + n) ∷ []
unfolding decimal
decimal-small n h = digits-small n n h

-- any other has the digits of its tenth and one more
decimal_more : (n : ℕ) → 10 ≤ n → decimal n ≡ decimal (n / 10) ++ (48 + n % 10) ∷ []
unfolding decimal
decimal_more n h = rw (digits_more n n h, digits_enough n (suc (n / 10)) (n / 10) (omega arith) (omega arith)) refl

-- so it has one digit more than its tenth
count_more : (n : ℕ) → 10 ≤ n → length (decimal n) ≡ suc (length (decimal (n / 10)))
count_more n h = rw (decimal_more n h, length-append) (omega arith)

-- a number below ten has one
count_small : (n : ℕ) → n < 10 → length (decimal n) ≡ 1
count_small n h = rw (decimal-small n h) refl

-- every number has a digit
count-some : (n : ℕ) → 1 ≤ length (decimal n)
count-some n = by_cases (dec_lt n 10) (λ h. omega (arith, count_small n h)) (λ h. omega (arith, count_more n (omega arith)))

-- a number below 10 ^ suc k has at most suc k
count_most : (k n : ℕ) → n < 10 ^ suc k → length (decimal n) ≤ suc k
count_most zero n l = omega (arith, count_small n l)
count_most (suc k) n l =
    by_cases (dec_lt n 10)
    (λ s. omega (arith, count_small n s))
    (λ s. omega (arith, count_more n (omega arith), count_most k (n / 10) (omega (arith, pow-suc 10 (suc k)))))

-- one of 64 bits has at most 20
pub count_fits : (n : ℕ) → n < 2 ^ 64 → length (decimal n) ≤ 20
count_fits n h = count_most 19 n (omega arith)

-- ---------------------------------------------------------------------------
-- Digits put into a room of 20 places, from its end towards its front

-- from place i on the room has the digits of n that come after those of m
pub record Tail (n m i : ℕ) (room : List ℕ) : Type 0 where
  pub text : decimal m ++ drop i room ≡ decimal n
  pub size : length room ≡ 20

-- at the start it has none
pub tail_start : (n : ℕ) (room : List ℕ) → length room ≡ 20 → Tail n n 20 room
tail_start n room e = record { text = rw (← e, drop-length room, append-nil) refl; size = e }

module _ {n m k : ℕ} {room : List ℕ} (w : Tail n m k room) where
  -- there is a place for the last digit of what is left
  pub tail_some : n < 2 ^ 64 → 1 ≤ k
  tail_some h = omega (arith, w.size, count_fits n h, count-some m, simp (length-append, length-drop) at (ap length w.text))

  module _ (i v : ℕ) (e : k ≡ i + 1) (h : k ≤ 20) where
    -- it is put before those that stand there
    put-before : drop i (set room i v) ≡ v ∷ drop k room
    put-before =
        let l : i < length room = omega (arith, w.size) in
        rw (set_split room i v l, drop_at (take i room) (v ∷ drop (suc i) room) i (length-take-le i room (omega arith)), e, add-one) refl

    -- a tenth is left after it
    pub tail_next : {j q : ℕ} → j ≡ i → 10 ≤ m → q ≡ m / 10 → v ≡ 48 + m % 10 → Tail n q i (set room j v)
    tail_next {j} s l d x = record { text = rw (s, put-before, d, x, ← append_snoc, ← decimal_more m l) w.text; size = length-set room j v ∙ w.size }

    -- or nothing, where it is the only one: what stands from there on is the number
    tail_digits : {j : ℕ} → j ≡ i → m < 10 → v ≡ 48 + m → drop j (set room j v) ≡ decimal n
    tail_digits s l x = rw (s, put-before, ← w.text, decimal-small m l, ← x) refl

    -- which is what is written
    pub tail_written : {a b : List ℕ} {at end j c : ℕ} → Wrote a at b end (take c (drop j (set room j v))) → j ≡ i → c ≡ 20 - j → m < 10 → v ≡ 48 + m → Wrote a at b end (decimal n)
    tail_written {j = j} {c = c} t s f l x =
        let long : length (drop j (set room j v)) ≤ c = omega (arith, f, length-drop j (set room j v), length-set room j v, w.size) in
        rw (take_all c _ long, tail_digits s l x) at t

    -- or appended to a text
    pub tail_appended : {a b : Text} {j c : ℕ} → Appends a (take c (drop j (set room j v))) b → j ≡ i → c ≡ 20 - j → m < 10 → v ≡ 48 + m → Appends a (decimal n) b
    tail_appended t s f l x = wrote-appends (tail_written (appends-wrote t) s f l x)

    -- and so of what is written from there on up to the room's end
    pub tail_last : {j : ℕ} {a b : List ℕ} {at end : ℕ} → Wrote a at b end (take (20 - i) (drop i (set room j v))) → j ≡ i → m < 10 → v ≡ 48 + m → Wrote a at b end (decimal n)
    tail_last wrote s l x =
        let all = take_all (20 - i) (drop i (set room i v)) (omega (arith, w.size, length-drop i (set room i v), length-set room i v)) in
        rw (← w.text, decimal-small m l, ← x, ← put-before, ← all) (rw s at wrote)
