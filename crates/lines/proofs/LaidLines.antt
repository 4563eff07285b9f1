-- The open lines laid out one after the other. Assumes nothing.
use Prim.Native.Nat.{ℕ, zero, suc, ◌+◌, ◌-◌, ◌<◌}
use native.Mathlib.Numerals.{add-one}
use native.Mathlib.Omega.{arith}
use mathlib.Core.Path.{◌≡◌, refl, ap, ◌∙◌}
use mathlib.Core.List.{List, [], ◌∷◌, ◌++◌, append_assoc}
use lib.ListN.{length, get_or, take, set, replicate}
use lib.Seq.{take_at, set-append_seam}
use Rattle.terms.specs.declared.numbering.Choice.{Choice}
use Rattle.layers.specs.declared.ranks.Rank.{Rank}
use Rattle.lines.specs.declared.lay.Line.{Line}
use Rattle.lines.specs.Laid.{Listing, number_at, position_at, layer_start, line_at, lines_from, no_line, lines_laid}

-- one line more stands at the end
lines_last : (l : Listing) (i n : ℕ) → lines_from l i (suc n) ≡ lines_from l i n ++ line_at l (i + n) ∷ []
unfolding lines_from
lines_last l i zero = let here : i + 0 ≡ i = omega arith in rw here refl
lines_last l i (suc n) =
    let here : suc i + n ≡ i + suc n = omega arith in
    ap (λ (lines : List Line). line_at l i ∷ lines) (lines_last l (suc i) n ∙ rw here refl)

-- n lines are n
pub laid-length : (l : Listing) (i n : ℕ) → length (lines_from l i n) ≡ n
unfolding lines_from
laid-length l i zero = refl
laid-length l i (suc n) = ap suc (laid-length l (suc i) n)

-- no line yet
pub laid-none : (l : Listing) → replicate 20 no_line ≡ lines_laid l 0
unfolding lines_from
laid-none l = refl

-- what stands where no line does
pub none-is : {r : Rank} {c : Choice} → r.0 ≡ 0 → c.0 ≡ 0 → (record { layer = record { first = r; own = r; next = r }; choice = c; kits = 0 }) ≡ no_line
none-is {r} {c} er ec =
    let rank : r ≡ (record { 0 = 0 }) = ap (λ (n : ℕ). record { 0 = n }) er in
    let choice : c ≡ (record { 0 = 0 }) = ap (λ (n : ℕ). record { 0 = n }) ec in
    rw (rank, choice) refl

-- the lines in use
pub lines_used : (l : Listing) {n count : ℕ} {lines used : List Line} → lines ≡ lines_laid l n → count ≡ n → used ≡ take count lines → used ≡ lines_from l 0 n
lines_used l {n} laid counted taken =
    rw (taken, counted, laid) (take_at (lines_from l 0 n) _ n (laid-length l 0 n))

-- the first layer begins at rank 0
pub start-first : (l : Listing) {first : ℕ} → first ≡ 0 → first ≡ layer_start l 0
unfolding layer_start
start-first l e = e

module _ (l : Listing) (i : ℕ) where
  -- each other where the one before ends
  pub start_next : {x next : ℕ} → x ≡ position_at l i → next ≡ get_or l.ends (x + 1) 0 → next ≡ layer_start l (i + 1)
  unfolding layer_start
  start_next ex en = rw add-one (rw ex at en)

  -- one line more laid out, as it is read
  pub laid_next : {lines : List Line} → lines ≡ lines_laid l i → i < 20 → {line : Line} → line ≡ line_at l i → set lines i line ≡ lines_laid l (i + 1)
  laid_next before h e =
      let room : 20 - i ≡ suc (20 - (i + 1)) = omega arith in
      let rest = replicate (20 - (i + 1)) no_line in
      let here : 0 + i ≡ i = omega arith in
      let last = rw here at (lines_last l 0 i) in
      let more : lines_from l 0 (i + 1) ≡ lines_from l 0 i ++ line_at l i ∷ [] = ap (λ (n : ℕ). lines_from l 0 n) (add-one i) ∙ last in
      let seam = rw laid-length at (set-append_seam (lines_from l 0 i) no_line rest (line_at l i)) in
      rw (before, e, room, more, append_assoc) seam

  -- the line as it is read
  pub line-is : {line : Line} → line.layer.first.0 ≡ layer_start l i → line.layer.own.0 ≡ get_or l.ends (position_at l i) 0 → line.layer.next.0 ≡ get_or l.ends (position_at l i + 1) 0 → line.choice.0 ≡ number_at l i → line.kits ≡ get_or l.kits (number_at l i) 0 → line ≡ line_at l i
  line-is {line} ef eo en ec ek = rw (← ek, ← ef, ← eo, ← en, ← ec) refl
