-- The list of a plan's open lines, line after line. Assumes nothing.
use Prim.Native.Nat.{ℕ, zero, suc, ◌+◌, ◌≤◌, ◌<◌}
use native.Mathlib.Nat.{le_refl, zero-add}
use native.Mathlib.Numerals.{add-one}
use native.Mathlib.Omega.{arith}
use mathlib.Core.Path.{◌≡◌, refl, ap, sym, ◌∙◌}
use mathlib.Core.List.{List, [], ◌∷◌, ◌++◌}
use lib.ListN.{length, get_or, take, set, replicate, length-append}
use lib.Seq.{take-suc, length-take-le, get_or-take}
use Rattle.diagram.specs.Plans.{open_count}
use Rattle.decoding.specs.Decoding.{pad_to}
use Rattle.decoding.proofs.Padding.{pad_none, pad_next, pad_at}
use Rattle.terms.specs.declared.plan.Plan.{Plan}
use Rattle.lines.specs.Open.{rows, open_from, open_lines}

-- the list has one number for each open line
pub lines-length : (i : ℕ) (p : List ℕ) → length (open_from i p) ≡ open_count p
unfolding open_from open_count
lines-length i [] = refl
lines-length i (zero ∷ p) = ap suc (lines-length (suc i) p)
lines-length i (suc m ∷ p) = lines-length (suc i) p

-- there are no more open lines than lines
pub open_le : (p : List ℕ) → open_count p ≤ length p
unfolding open_count
open_le [] = le_refl 0
open_le (zero ∷ p) = omega (arith, open_le p)
open_le (suc m ∷ p) = omega (arith, open_le p)

pub lines-few : (p : List ℕ) → length (open_lines p) ≤ length p
unfolding open_lines
lines-few p = omega (arith, lines-length 0 p, open_le p)

-- an open line at the end is the last of the list
open_last : (i m : ℕ) (p : List ℕ) → m ≡ 0 → open_from i (p ++ m ∷ []) ≡ open_from i p ++ (i + length p) ∷ []
unfolding open_from
open_last i m [] e = rw e (ap (λ (k : ℕ). k ∷ []) (omega arith))
open_last i m (zero ∷ p) e =
    let here : suc i + length p ≡ i + suc (length p) = omega arith in
    ap (λ (ks : List ℕ). i ∷ ks) (open_last (suc i) m p e ∙ rw here refl)
open_last i m (suc k ∷ p) e =
    let here : suc i + length p ≡ i + suc (length p) = omega arith in
    open_last (suc i) m p e ∙ rw here refl

-- a marked line is none of the list
marked_last : (i m : ℕ) (p : List ℕ) → (m ≡ 0 → ⊥) → open_from i (p ++ m ∷ []) ≡ open_from i p
unfolding open_from
marked_last i zero [] f = absurd (f refl)
marked_last i (suc m) [] f = refl
marked_last i m (zero ∷ p) f = ap (λ (ks : List ℕ). i ∷ ks) (marked_last (suc i) m p f)
marked_last i m (suc k ∷ p) f = marked_last (suc i) m p f

-- an open line's number stands after those of the open lines before it
at_open : (j i : ℕ) (p : List ℕ) → i < length p → get_or p i 0 ≡ 0 → (length (open_from j (take i p)) < length (open_from j p)) × (get_or (open_from j p) (length (open_from j (take i p))) 0 ≡ j + i)
unfolding open_from
at_open j i [] h e = absurd (omega arith)
at_open j zero (zero ∷ p) h e = (omega arith, omega arith)
at_open j zero (suc m ∷ p) h e = absurd (omega arith)
at_open j (suc i) (zero ∷ p) h e = let rest = at_open (suc j) i p (omega arith) e in (omega (arith, rest.0), omega (arith, rest.1))
at_open j (suc i) (suc m ∷ p) h e = let rest = at_open (suc j) i p (omega arith) e in (rest.0, omega (arith, rest.1))

-- ---------------------------------------------------------------------------
-- The array of the open lines among the first i

-- of no line there is none
pub listed-none : (marks : List ℕ) → replicate 20 0 ≡ pad_to 20 (open_lines (take 0 marks))
unfolding open_lines open_from
listed-none marks = sym (pad_none 20)

module _ (marks : List ℕ) (i : ℕ) (less : i < length marks) where
  -- the lines up to line i are those before it and line i
  row_next : take (i + 1) marks ≡ take i marks ++ get_or marks i 0 ∷ []
  row_next = rw (add-one i) (take-suc marks i 0 less)

  row_length : length (take i marks) ≡ i
  row_length = length-take-le i marks (omega arith)

  -- an open line is one more
  open_next : get_or marks i 0 ≡ 0 → open_lines (take (i + 1) marks) ≡ open_lines (take i marks) ++ i ∷ []
  unfolding open_lines
  open_next e =
      let here : 0 + length (take i marks) ≡ i = omega (arith, row_length) in
      rw row_next (open_last 0 (get_or marks i 0) (take i marks) e ∙ rw here refl)

  module _ {count : ℕ} (counted : count ≡ length (open_lines (take i marks))) where
    pub count-few : count ≤ i
    count-few = omega (arith, counted, lines-few (take i marks), row_length)

    pub count_open : get_or marks i 0 ≡ 0 → count + 1 ≡ length (open_lines (take (i + 1) marks))
    count_open e = rw (open_next e, length-append, counted) refl

    pub listed_open : {numbers : List ℕ} → numbers ≡ pad_to 20 (open_lines (take i marks)) → get_or marks i 0 ≡ 0 → {x : ℕ} → x ≡ i → i < 20 → set numbers count x ≡ pad_to 20 (open_lines (take (i + 1) marks))
    listed_open listed e ex few =
        rw (listed, counted, ex, open_next e) (pad_next 20 (open_lines (take i marks)) i (omega (arith, counted, count-few)))

    -- an open line's number, in the array of all open lines, stands after those of the open lines before it
    pub number_open : length marks ≤ 20 → get_or marks i 0 ≡ 0 → (count < length (open_lines marks)) × (get_or (pad_to 20 (open_lines marks)) count 0 ≡ i)
    unfolding open_lines
    number_open few e =
        let at = at_open 0 i marks less e in
        let here : count < length (open_from 0 marks) = rw counted at.0 in
        (here, pad_at 20 (open_from 0 marks) count here ∙ rw counted (at.1 ∙ zero-add i))

  -- a marked line is passed
  pub lines-marked : (get_or marks i 0 ≡ 0 → ⊥) → open_lines (take (i + 1) marks) ≡ open_lines (take i marks)
  unfolding open_lines
  lines-marked f = rw row_next (marked_last 0 (get_or marks i 0) (take i marks) f)

-- ---------------------------------------------------------------------------
-- An open line of a plan, the open lines before it counted

pub record OpenRow (plan : Plan) (i count : ℕ) : Type 0 where
  pub within : i < length (rows plan)
  pub mark : get_or (rows plan) i 0 ≡ 0
  pub below : count < length (open_lines (rows plan))
  pub few : count < 20
  pub number : get_or (pad_to 20 (open_lines (rows plan))) count 0 ≡ i

-- a line of a plan is one of its rows
pub row_within : (plan : Plan) {i : ℕ} → length plan.marks ≡ 20 → plan.count ≤ 20 → i < plan.count → i < length (rows plan)
row_within plan size most less =
    let long = length-take-le plan.count plan.marks (omega arith) in
    omega arith

-- an open line's number stands after those of the open lines before it
pub open_row : (plan : Plan) {i count : ℕ} → length plan.marks ≡ 20 → plan.count ≤ 20 → i < plan.count → get_or plan.marks i 0 ≡ 0 → count ≡ length (open_lines (take i (rows plan))) → OpenRow plan i count
open_row plan {i} {count} size most less e counted =
    let long = length-take-le plan.count plan.marks (omega arith) in
    let within = row_within plan size most less in
    let mark : get_or (rows plan) i 0 ≡ 0 = get_or-take plan.count plan.marks i 0 less ∙ e in
    let at = number_open (rows plan) i within counted (omega arith) mark in
    record { within = within; mark = mark; below = at.0; few = omega (arith, at.0, lines-few (rows plan)); number = at.1 }
