-- The marks at the positions, as a loop over the variables' words writes them.
-- Assumes of the plan, where a law says so, what check 21 finds: it has a mark for each choice.
use Prim.Native.Nat.{ℕ, zero, suc, ◌+◌, ◌≤◌, ◌<◌}
use native.Mathlib.Nat.{add-zero, zero-add}
use native.Mathlib.Decide.{dec_lt}
use native.Mathlib.Omega.{arith}
use mathlib.Core.Path.{◌≡◌, refl, ap, sym, ◌∙◌}
use mathlib.Core.Bool.{Bool, true, false, cond, false≢true}
use mathlib.Core.Logic.{by_cases}
use mathlib.Core.List.{List, [], ◌∷◌, ◌++◌}
use lib.ListN.{length, get_or, set, take, drop, replicate, length-set, get_or-replicate, get_or-eq_default}
use lib.Seq.{take-suc, get_or-drop, get_or-set_same, get_or-set_other, ext_get_or}
use borrow.Author.Count.{below_more}
use borrow.Author.Tests.{ne_eqb}
use Rattle.diagram.specs.Table.{Variable, choice, chance, variable_of, is_choice, choice_count}
use Rattle.diagram.specs.Plans.{open_taken}
use Rattle.diagram.proofs.Places.{sequence-length, sequence-at}
use Rattle.decoding.specs.Decoding.{variables_in}
use Rattle.decoding.proofs.Standing.{sequence-same}
use Rattle.valuing.specs.Passes.{mark_of, marks_by_position, taken_mark, taken_marks}

-- ---------------------------------------------------------------------------
-- Choices of the first variables

count-take-le : (vs : List Variable) (n : ℕ) → choice_count (take n vs) ≤ choice_count vs
unfolding choice_count
count-take-le vs zero = omega arith
count-take-le [] (suc n) = omega arith
count-take-le (choice ∷ vs) (suc n) = omega (arith, count-take-le vs n)
count-take-le (chance a b ∷ vs) (suc n) = count-take-le vs n

-- one variable more
count_last : (vs : List Variable) (x : Variable) → choice_count (vs ++ (x ∷ [])) ≡ choice_count vs + choice_count (x ∷ [])
unfolding choice_count
count_last [] x = omega arith
count_last (choice ∷ vs) x = omega (arith, count_last vs x)
count_last (chance a b ∷ vs) x = count_last vs x

count-one : (x : Variable) → choice_count (x ∷ []) ≡ cond (is_choice x) 1 0
unfolding choice_count is_choice
count-one choice = refl
count-one (chance a b) = refl

-- the first p of v variables, and the one after them
abbrev pub first : (words : List ℕ) → (v p : ℕ) → List Variable
first ws v p = take p (variables_in ws v)

abbrev pub next : (words : List ℕ) → (p : ℕ) → Variable
next ws p = variable_of (get_or ws p 0)

module _ (ws : List ℕ) (v : ℕ) where
  variables-length : length (variables_in ws v) ≡ v
  unfolding variables_in
  variables-length = sequence-length (next ws) 0 v

  module _ (p : ℕ) (h : p < v) where
    variable-here : get_or (variables_in ws v) p (chance 0 1) ≡ next ws p
    unfolding variables_in
    variable-here = sequence-at (next ws) 0 v p (chance 0 1) h ∙ ap (next ws) (zero-add p)

    counted : choice_count (first ws v (1 + p)) ≡ choice_count (first ws v p) + cond (is_choice (next ws p)) 1 0
    counted =
        let on : 1 + p ≡ suc p = omega arith in
        rw (on, take-suc (variables_in ws v) p (chance 0 1) (omega (arith, variables-length)), variable-here, count_last, count-one) refl

    pub choice_more : is_choice (next ws p) ≡ true → choice_count (first ws v (1 + p)) ≡ choice_count (first ws v p) + 1
    choice_more e = rw e at counted

    pub choice-same : is_choice (next ws p) ≡ false → choice_count (first ws v (1 + p)) ≡ choice_count (first ws v p)
    choice-same e = omega (arith, rw e at counted)

-- the choices before a choice are fewer than all
pub choices-before : (vs : List Variable) (x : ℕ) → x < length vs → is_choice (get_or vs x (chance 0 1)) ≡ true → choice_count (take x vs) < choice_count vs
unfolding choice_count is_choice
choices-before [] x h e = absurd (omega arith)
choices-before (choice ∷ vs) zero h e = omega arith
choices-before (chance a b ∷ vs) zero h e = absurd (false≢true e)
choices-before (choice ∷ vs) (suc x) h e = omega (arith, choices-before vs x (omega arith) e)
choices-before (chance a b ∷ vs) (suc x) h e = choices-before vs x (omega arith) e

-- the mark of an open line that is taken
mark-taken : (p : List ℕ) (i : ℕ) → i < length p → taken_mark (get_or p i 0) ≡ get_or (open_taken p) i 0
unfolding taken_mark open_taken
mark-taken [] i h = absurd (omega arith)
mark-taken (zero ∷ p) zero h = refl
mark-taken (suc m ∷ p) zero h = rw (ne_eqb (suc m) 0 (omega arith)) refl
mark-taken (zero ∷ p) (suc i) h = mark-taken p i (omega arith)
mark-taken (suc m ∷ p) (suc i) h = mark-taken p i (omega arith)

-- ---------------------------------------------------------------------------
-- The mark of one position

module _ (ws : List ℕ) (v : ℕ) (plan : List ℕ) (p : ℕ) where
  module _ (h : p < v) where
    mark-choice : is_choice (next ws p) ≡ true → mark_of (variables_in ws v) plan p ≡ get_or plan (choice_count (first ws v p)) 0
    unfolding mark_of
    mark-choice e = rw (variable-here ws v p h, e, get_or-drop, add-zero)

    mark-chance : is_choice (next ws p) ≡ false → mark_of (variables_in ws v) plan p ≡ 3
    unfolding mark_of
    mark-chance e = rw (variable-here ws v p h, e)

  mark_past : v ≤ p → mark_of (variables_in ws v) plan p ≡ 3
  unfolding mark_of is_choice
  mark_past h =
      let past : length (variables_in ws v) ≤ p = omega (arith, variables-length ws v) in
      rw (get_or-eq_default (variables_in ws v) (chance 0 1) {n = p} past)

-- ---------------------------------------------------------------------------
-- The marks of the first p positions: as a loop over the variables has them before each turn

pub record Marking (ws : List ℕ) (v : ℕ) (plan : List ℕ) (p choice : ℕ) (marks : List ℕ) : Type 0 where
  pub count : choice ≡ choice_count (first ws v p)
  pub size : length marks ≡ 64
  pub done : (i : ℕ) → i < p → get_or marks i 0 ≡ mark_of (variables_in ws v) plan i
  pub rest : (i : ℕ) → p ≤ i → i < 64 → get_or marks i 0 ≡ 3

module _ (ws : List ℕ) (v : ℕ) (plan : List ℕ) where
  pub marking_start : Marking ws v plan 0 0 (replicate 64 3)
  unfolding choice_count
  marking_start =
      record {
        count = refl;
        size = refl;
        done = λ i l. absurd (omega arith);
        rest = λ i _ l. get_or-replicate 64 i 3 0 l;
      }

  module _ {p choice : ℕ} {marks : List ℕ} (m : Marking ws v plan p choice marks) where
    -- the plan has a mark for a choice
    pub choice-within : p < v → is_choice (next ws p) ≡ true → length plan ≡ choice_count (variables_in ws v) → choice < length plan
    choice-within h e l =
        let count = m.count in
        omega (arith, choice_more ws v p h e, count-take-le (variables_in ws v) (1 + p))

    module _ (h : p < v) (few : v < 64) where
      pub marking_choice : is_choice (next ws p) ≡ true → Marking ws v plan (p + 1) (choice + 1) (set marks p (get_or plan choice 0))
      marking_choice e =
          let on : p + 1 ≡ 1 + p = omega arith in
          let size = m.size in
          let count = m.count in
          let x = get_or plan choice 0 in
          record {
            count = rw (on, choice_more ws v p h e, count);
            size = simp length-set size;
            done =
                below_more _ p
                (λ i l. get_or-set_other marks p i x 0 (omega arith) ∙ m.done i l)
                (get_or-set_same marks p x 0 (omega arith) ∙ rw (mark-choice ws v plan p h e, count));
            rest = λ i a l. get_or-set_other marks p i x 0 (omega arith) ∙ m.rest i (omega arith) l;
          }

      pub marking_chance : is_choice (next ws p) ≡ false → Marking ws v plan (p + 1) choice marks
      marking_chance e =
          let on : p + 1 ≡ 1 + p = omega arith in
          record {
            count = rw (on, choice-same ws v p h e) m.count;
            size = m.size;
            done = below_more _ p m.done (m.rest p (omega arith) (omega arith) ∙ sym (mark-chance ws v plan p h e));
            rest = λ i a l. m.rest i (omega arith) l;
          }

    pub marking_end : v ≤ p → marks ≡ marks_by_position (variables_in ws v) plan
    unfolding marks_by_position
    marking_end h =
        let mark = mark_of (variables_in ws v) plan in
        let size = m.size in
        ext_get_or 0 marks _ (m.size ∙ sym (sequence-length mark 0 64))
        (λ i l.
        rw (sequence-at mark 0 64 i 0 (omega arith), zero-add)
        (by_cases (dec_lt i p) (λ b. m.done i b) (λ b. m.rest i (omega arith) (omega arith) ∙ sym (mark_past ws v plan i (omega arith)))))

-- ---------------------------------------------------------------------------
-- Open lines taken

module _ (vs : List Variable) (p : List ℕ) (long : length p ≡ choice_count vs) where
  taken_at : (x : ℕ) → taken_mark (mark_of vs p x) ≡ mark_of vs (open_taken p) x
  unfolding taken_mark mark_of is_choice choice_count
  taken_at x = by_cases (dec_lt x (length vs))
      (λ l. go (is_choice (get_or vs x (chance 0 1))) refl l)
      (λ f. rw (get_or-eq_default vs (chance 0 1) {n = x} (omega (arith, f))) refl)
    where
      go : (b : Bool) → is_choice (get_or vs x (chance 0 1)) ≡ b → x < length vs → taken_mark (cond b (get_or (drop (choice_count (take x vs)) p) 0 0) 3) ≡ cond b (get_or (drop (choice_count (take x vs)) (open_taken p)) 0 0) 3
      go true c l =
          let before = choices-before vs x l c in
          simp get_or-drop (mark-taken p (choice_count (take x vs) + 0) (omega arith))
      go false c l = refl

  pub taken-marks : {ms : List ℕ} → ms ≡ marks_by_position vs p → taken_marks ms ≡ marks_by_position vs (open_taken p)
  unfolding taken_marks marks_by_position
  taken-marks {ms} e =
      sequence-same (λ (x : ℕ). taken_mark (get_or ms x 0)) (mark_of vs (open_taken p)) 0 0 64
      (λ x l. rw (zero-add x, e, sequence-at (mark_of vs p) 0 64 x 0 l, zero-add x) (taken_at x))

-- the open lines of the marks before index i are taken, and the others are as they were
pub record TakenTo (ms : List ℕ) (i : ℕ) (cells : List ℕ) : Type 0 where
  pub size : length cells ≡ length ms
  pub done : (x : ℕ) → x < i → get_or cells x 0 ≡ taken_mark (get_or ms x 0)
  pub rest : (x : ℕ) → i ≤ x → get_or cells x 0 ≡ get_or ms x 0

module _ {ms : List ℕ} {i : ℕ} {cells : List ℕ} (t : TakenTo ms i cells) where
  taken_next : (m : ℕ) → i < length ms → m ≡ taken_mark (get_or cells i 0) → TakenTo ms (i + 1) (set cells i m)
  taken_next m h e =
      let size = t.size in
      record {
        size = simp length-set size;
        done = below_more _ i
            (λ x l. get_or-set_other cells i x m 0 (omega arith) ∙ t.done x l)
            (get_or-set_same cells i m 0 (omega arith) ∙ rw (e, t.rest i (omega arith)) refl);
        rest = λ x l. get_or-set_other cells i x m 0 (omega arith) ∙ t.rest x (omega arith);
      }

  pub taken_line : i < length ms → get_or cells i 0 ≡ 0 → TakenTo ms (i + 1) (set cells i 1)
  unfolding taken_mark
  taken_line h e = taken_next 1 h (rw e refl)

  pub taken_other : i < length ms → (get_or cells i 0 ≡ 0 → ⊥) → TakenTo ms (i + 1) (set cells i (get_or cells i 0))
  unfolding taken_mark
  taken_other h some = taken_next (get_or cells i 0) h (rw (ne_eqb (get_or cells i 0) 0 some) refl)

  pub taken_end : length ms ≡ 64 → 64 ≤ i → cells ≡ taken_marks ms
  unfolding taken_marks
  taken_end long all =
      let mark : ℕ → ℕ = λ x. taken_mark (get_or ms x 0) in
      ext_get_or 0 cells _ (t.size ∙ long ∙ sym (sequence-length mark 0 64))
      (λ x l. rw (sequence-at mark 0 64 x 0 (omega (arith, t.size)), zero-add) (t.done x (omega (arith, t.size))))
