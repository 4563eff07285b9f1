-- Each check of the meaning (`diagram`, Checks) is a row of the table "Turned away": it finds no place where the row is right at every place, and else the
-- first place that is wrong.
-- Assumes nothing.
use Prim.Native.Nat.{ℕ, zero, suc, ◌+◌, ◌-◌, ◌%◌, ◌^◌, ◌≤◌, ◌<◌}
use native.Mathlib.Decide.{ℕ_discrete}
use native.Mathlib.Nat.{mul_comm}
use native.Mathlib.Omega.{arith}
use mathlib.Core.Path.{◌≡◌, refl, ap, sym, subst, ◌∙◌}
use mathlib.Core.Bool.{Bool, true, false, not, ◌&&◌, ◌||◌, false≢true}
use mathlib.Core.Logic.{◌⊎◌, inl, inr, ⊎_elim, by_cases, ◌↔◌}
use mathlib.Core.Option.{Option, none, some}
use mathlib.Core.List.{List, [], ◌∷◌, map}
use lib.ListN.{length, get_or, take}
use lib.Dec.{eqb, ltb}
use borrow.Author.Tests.{ltb-true, lt-ltb, eqb-true, eq-eqb, not-false}
use Rattle.diagram.specs.Words.{word_at, kind, field_p, field_q, field_r}
use Rattle.diagram.specs.Table.{Variable, choice, chance, Record, Table, table_of, variable_count, record_count, root_count, record_at, is_choice, choice_count, scale_of, total_reward, scale}
use Rattle.diagram.specs.Score.{truth, assignments, every, implies}
use Rattle.diagram.specs.Checks as checks
use Rattle.diagram.specs.Checks.{place_zero, first_place, is_heading, is_variable_word, position_of, is_child, is_record_word, is_root_word, is_monotone_at}
use Rattle.diagram.proofs.Every.{both, and_true_both, every_append, every_map, each_assignment, implied, implication}
use Rattle.diagram.proofs.Places.{none-at}
use Rattle.diagram.proofs.Checked.{Passed}
use Rattle.decoding.proofs.Shape.{none_passes, shaped-record-word}
use Rattle.reading.proofs.Accepted.{passed_choices, passed_product, passed_scale}
use Rattle.theorems.specs.Reasons.{Request, Reason, job_word, table_length, heading_word, word_count, variable_word, choice_limit, scale_limit, record_word, root_word, reward_limit, not_monotone, plan_length, plan_mark, full_plan_mark, percent_limit, budget_limit, buffer_length, HeadingWord, ChoiceWord, ChanceWord, Child, RecordWord, RootWord, MonotoneAt, Wrong, WholeTable}
use Rattle.theorems.proofs.Saying.{Says, says_less, says_most, says_same, in_words, says_not, says_both, says_either, says_then}

-- ---------------------------------------------------------------------------
-- A row and its check

-- The place that a check finds is the first at which a row is wrong, and it finds none where the row is right
pub record Renders (q : Request) (r : Reason) (found : Option ℕ) : Type 0 where
  pub finds : (i : ℕ) → found ≡ some i → Wrong q r i × ((j : ℕ) → j < i → Wrong q r j → ⊥)
  pub passes : found ≡ none → (j : ℕ) → Wrong q r j → ⊥

-- two places of which one is found
same_place : {i j : ℕ} → some i ≡ some j → i ≡ j
same_place e = cc

none_found : {i : ℕ} → none ≡ some i → ⊥
none_found e =
    let z : ◌≡◌ {A = ℕ} 0 1 = cc in
    omega arith

-- the place found is the first at fault
first_found : (f : ℕ → Bool) (i n k : ℕ) → first_place f i n ≡ some k → (i ≤ k) × (k < i + n) × (f k ≡ true) × ((j : ℕ) → i ≤ j → j < k → f j ≡ false)
unfolding first_place
first_found f i zero k e = absurd (none_found e)
first_found f i (suc n) k e = go (f i) refl (first_found f (suc i) n k)
  where
    go : (b : Bool) → f i ≡ b → (first_place f (suc i) n ≡ some k → (suc i ≤ k) × (k < suc i + n) × (f k ≡ true) × ((j : ℕ) → suc i ≤ j → j < k → f j ≡ false)) → (i ≤ k) × (k < i + suc n) × (f k ≡ true) × ((j : ℕ) → i ≤ j → j < k → f j ≡ false)
    go true h rest =
        let z = same_place (rw (h, first_place) at e) in
        (omega arith, omega arith, ap f (sym z) ∙ h, λ j l m. absurd (omega arith))
    go false h rest =
        let s = rest (rw (h, first_place) at e) in
        let a = s.0 in
        let b = s.1 in (
          omega arith,
          omega arith,
          s.2,
          λ j l m.
              by_cases (ℕ_discrete i j) (λ same. ap f (sym same) ∙ h) (λ other. s.3 j (omega (arith, other)) m),
        )

module _ (q : Request) (r : Reason) where
  -- a row that looks at place 0 alone
  at_zero : (b : Bool) {P : Type 0} → Says b P → ((i : ℕ) → Wrong q r i ↔ ((i ≡ 0) × P)) → Renders q r (place_zero b)
  unfolding place_zero
  at_zero true s w =
      record {
        finds = λ i e. let z = same_place e in ((w i).1 (sym z, s.0 refl), λ j l h. omega arith);
        passes = λ e. absurd (none_found (sym e));
      }
  at_zero false s w = record { finds = λ i e. absurd (none_found e); passes = λ e j h. false≢true (s.1 ((w j).0 h).1) }

  -- a row that looks at n places from i on
  along : (f : ℕ → Bool) (i n : ℕ) → ((j : ℕ) → Wrong q r j ↔ ((i ≤ j) × (j < i + n) × (f j ≡ true))) → Renders q r (first_place f i n)
  along f i n w =
      record {
        finds = λ k e.
            let s = first_found f i n k e in (
              (w k).1 (s.0, s.1, s.2),
              λ j l h. let x = (w j).0 h in false≢true (sym (s.3 j x.0 l) ∙ x.2),
            );
        passes = λ e j h.
            let x = (w j).0 h in
            let at : i + (j - i) ≡ j = let l = x.0 in omega arith in
            let k : j - i < n = let l = x.0 in let m = x.1 in omega arith in
            false≢true (sym (ap f (sym at) ∙ none-at f i n (j - i) e k) ∙ x.2);
      }

-- Places counted from b on, n of them, at which a test says what is wrong
module _ (b n : ℕ) (f : ℕ → Bool) (P : ℕ → ℕ → Type 0) (says : (p : ℕ) → p < n → Says (f (b + p)) (P (b + p) p)) where
  counted-from : (i : ℕ) → ((p : ℕ) × ((p < n) × (i ≡ b + p)) × P i p) ↔ ((b ≤ i) × (i < b + n) × (f i ≡ true))
  counted-from i = (
    λ h.
        let l = h.1.0 in
        let e = h.1.1 in
        (omega arith, omega arith, ap f e ∙ (says h.0 l).1 (subst (λ (x : ℕ). P x h.0) e h.2)),
    λ h.
        let from = h.0 in
        let to = h.1 in
        let l : i - b < n = omega arith in
        let e : b + (i - b) ≡ i = omega arith in
        (i - b, (l, sym e), subst (λ (x : ℕ). P x (i - b)) e ((says (i - b) l).0 (ap f e ∙ h.2))),
  )

-- Every index of a list at which a test says what is wrong
below : (n : ℕ) (f : ℕ → Bool) (P : ℕ → Type 0) → ((i : ℕ) → Says (f i) (P i)) → (i : ℕ) → ((i < n) × P i) ↔ ((0 ≤ i) × (i < 0 + n) × (f i ≡ true))
below n f P says i = (
  λ h. let l = h.0 in (omega arith, omega arith, (says i).1 h.1),
  λ h. let l = h.1 in (omega arith, (says i).0 h.2),
)

-- ---------------------------------------------------------------------------
-- Right words

heading_says : (w : ℕ) → Says (is_heading w) (HeadingWord w)
unfolding is_heading
heading_says w =
    in_words (is_heading w)
    (says_both _ _
    (says_both _ _
    (says_both _ _ (says_same (kind w) 1) (says_both _ _ (says_most 1 (field_p w)) (says_most (field_p w) 60)))
    (says_both _ _ (says_most 1 (field_q w)) (says_most (field_q w) 254)))
    (says_most (field_r w) 16))
    (λ h. record { kind-is = h.0.0.0; variables = h.0.0.1; records = h.0.1; roots = h.1 })
    (λ h. (((h.kind-is, h.variables), h.records), h.roots))

variable_says : (p w : ℕ) → Says (is_variable_word p w) (ChoiceWord p w ⊎ ChanceWord p w)
unfolding is_variable_word
variable_says p w =
    in_words (is_variable_word p w)
    (says_both _ _ (says_same (field_p w) p)
    (says_either _ _
    (says_both _ _ (says_both _ _ (says_same (kind w) 2) (says_same (field_q w) 0)) (says_most (field_r w) 500))
    (says_both _ _
    (says_both _ _ (says_same (kind w) 3) (says_both _ _ (says_most 1 (field_r w)) (says_most (field_r w) 1000)))
    (says_most (field_q w) (field_r w)))))
    (λ h.
    ⊎_elim (λ c. inl (record { kind-is = c.0.0; place = h.0; zero = c.0.1; limit = c.1 }))
    (λ c. inr (record { kind-is = c.0.0; place = h.0; share = c.1; limits = c.0.1 }))
    h.1)
    (⊎_elim (λ c. (c.place, inl ((c.kind-is, c.zero), c.limit))) (λ c. (c.place, inr ((c.kind-is, c.limits), c.share))))

-- a node's position is larger: of an end it always is
later_says : (v : ℕ) (rs : List Record) (p n : ℕ) → p < v → (p < position_of v rs n) ↔ ((j : ℕ) → n ≡ j + 2 → p < (record_at rs j).position)
unfolding position_of
later_says v rs p zero l = (λ h j e. absurd (omega arith), λ h. l)
later_says v rs p (suc zero) l = (λ h j e. absurd (omega arith), λ h. l)
later_says v rs p (suc (suc k)) l = (
  λ h j e. let same : k ≡ j = omega arith in rw (← same) h,
  λ h. h k (omega arith),
)

child_says : (v : ℕ) (rs : List Record) (k p n : ℕ) → p < v → Says (is_child v rs k p n) (Child rs k p n)
unfolding is_child
child_says v rs k p n l =
    let place = later_says v rs p n l in
    in_words (is_child v rs k p n) (says_both _ _ (says_less n (k + 2)) (says_less p (position_of v rs n)))
    (λ h. record { smaller = h.0; later = place.0 h.1 })
    (λ h. (h.smaller, place.1 h.later))

record_says : (v : ℕ) (rs : List Record) (k w : ℕ) → Says (is_record_word v rs k w) (RecordWord v rs k w)
unfolding is_record_word
record_says v rs k w = (
  λ e.
      let r = both (eqb (kind w) 4 && ltb (field_p w) v) e in
      let first = both (eqb (kind w) 4) r.0 in
      let arcs = both (is_child v rs k (field_p w) (field_q w)) r.1 in
      let l = ltb-true (field_p w) v first.1 in
      record {
        kind-is = eqb-true (kind w) 4 first.0;
        place = l;
        hi = (child_says v rs k (field_p w) (field_q w) l).0 arcs.0;
        lo = (child_says v rs k (field_p w) (field_r w) l).0 arcs.1;
      },
  λ h.
      and_true_both _ _ (and_true_both _ _ (eq-eqb (kind w) 4 h.kind-is) (lt-ltb (field_p w) v h.place))
      (and_true_both _ _
      ((child_says v rs k (field_p w) (field_q w) h.place).1 h.hi)
      ((child_says v rs k (field_p w) (field_r w) h.place).1 h.lo)),
)

-- a record's node number
node_says : (n x : ℕ) → ((2 ≤ x) × (x ≤ n + 1)) ↔ ((k : ℕ) × (k < n) × (x ≡ k + 2))
node_says n x = (
  λ h. let least = h.0 in let most = h.1 in (x - 2, omega arith, omega arith),
  λ h. let less = h.1 in let e = h.2 in (omega arith, omega arith),
)

root_says : (n w : ℕ) → Says (is_root_word n w) (RootWord n w)
unfolding is_root_word
root_says n w =
    let node = node_says n (field_r w) in
    in_words (is_root_word n w)
    (says_both _ _
    (says_both _ _
    (says_both _ _ (says_same (kind w) 6) (says_same (field_p w) 0))
    (says_both _ _ (says_most 1 (field_q w)) (says_most (field_q w) 64)))
    (says_both _ _ (says_most 2 (field_r w)) (says_most (field_r w) (n + 1))))
    (λ h. record { kind-is = h.0.0.0; zero = h.0.0.1; reward = h.0.1; node = node.0 h.1 })
    (λ h. (((h.kind-is, h.zero), h.reward), node.1 h.node))

-- ---------------------------------------------------------------------------
-- Monotone records

-- what holds of each list of v values holds of every assignment
all-assignments : (v : ℕ) (f : List Bool → Bool) → ((s : List Bool) → length s ≡ v → f s ≡ true) → every f (assignments v) ≡ true
unfolding assignments every
all-assignments zero f h = and_true_both (f []) true (h [] refl) refl
all-assignments (suc v) f h =
    rw (every_append f (map (λ s. true ∷ s) (assignments v)) (map (λ s. false ∷ s) (assignments v)), every_map f (λ s. true ∷ s) (assignments v), every_map f (λ s. false ∷ s) (assignments v))
    (and_true_both _ _
    (all-assignments v (λ s. f (true ∷ s)) (λ s e. h (true ∷ s) (ap suc e)))
    (all-assignments v (λ s. f (false ∷ s)) (λ s e. h (false ∷ s) (ap suc e))))

implies_says : (v : ℕ) (rs : List Record) (m n : ℕ) → Says (implies v rs m n) ((s : List Bool) → length s ≡ v → truth rs s m ≡ true → truth rs s n ≡ true)
unfolding implies
implies_says v rs m n = (
  λ e s l h. implied (truth rs s m) (each_assignment (λ x. not (truth rs x m) || truth rs x n) s v l e) h,
  λ h. all-assignments v (λ x. not (truth rs x m) || truth rs x n) (λ s l. implication (truth rs s m) (truth rs s n) (h s l)),
)

choice_says : (x : Variable) → Says (is_choice x) (x ≡ choice)
unfolding is_choice
choice_says choice = (λ e. refl, λ e. refl)
choice_says (chance a b) = (λ e. absurd (false≢true e), λ e. let z : ◌≡◌ {A = ℕ} 0 1 = cc in absurd (omega arith))

monotone_says : (t : Table) (k : ℕ) → Says (is_monotone_at t k) (MonotoneAt t k)
unfolding is_monotone_at
monotone_says t k =
    says_then _ _
    (choice_says (get_or t.variables (record_at t.records k).position (chance 0 1)))
    (implies_says (length t.variables) t.records (record_at t.records k).lo (record_at t.records k).hi)

-- ---------------------------------------------------------------------------
-- The rows

module _ (q : Request) where
  pub row_10 : (input : List ℕ) → word_at input 0 ≡ q.job → Renders q job_word (checks.job_fault input)
  unfolding Wrong checks.job_fault
  row_10 input e = rw e (at_zero q job_word _ (says_not _ (says_same (kind q.job) 5)) (λ i. (λ h. h, λ h. h)))

  pub row_11 : Renders q table_length (checks.length_fault q.file)
  unfolding Wrong checks.length_fault
  row_11 =
      let n = length q.file in
      at_zero q table_length _
      (in_words _
      (says_either _ _ (says_either _ _ (says_less n 4) (says_less 1324 n)) (says_not _ (says_same (n % 4) 0)))
      (⊎_elim (⊎_elim inl (λ h. inr (inl h))) (λ h. inr (inr h)))
      (⊎_elim (λ h. inl (inl h)) (⊎_elim (λ h. inl (inr h)) inr)))
      (λ i. (λ h. h, λ h. h))

  pub row_12 : Renders q heading_word (checks.heading_fault q.file)
  unfolding Wrong checks.heading_fault
  row_12 = at_zero q heading_word _ (says_not _ (heading_says (word_at q.file 0))) (λ i. (λ h. h, λ h. h))

  pub row_13 : Renders q word_count (checks.count_fault q.file)
  unfolding Wrong checks.count_fault
  row_13 = at_zero q word_count _ (says_not _ (says_same _ _)) (λ i. (λ h. h, λ h. h))

  pub row_14 : Renders q variable_word (checks.variable_fault q.file)
  unfolding Wrong checks.variable_fault
  row_14 =
      along q variable_word _ 1 (variable_count q.file)
      (counted-from 1 (variable_count q.file) _
      (λ i p. (ChoiceWord p (word_at q.file i) ⊎ ChanceWord p (word_at q.file i)) → ⊥)
      (λ p l.
      let at : 1 + p - 1 ≡ p = omega arith in
      rw at (says_not _ (variable_says p (word_at q.file (1 + p))))))

  pub row_15 : Renders q choice_limit (checks.choice_fault q.file)
  unfolding Wrong checks.choice_fault
  row_15 =
      along q choice_limit _ 1 (variable_count q.file)
      (counted-from 1 (variable_count q.file) _
      (λ i p. 20 < choice_count (take (1 + p) (table_of q.file).variables))
      (λ p l. says_less 20 (choice_count (take (1 + p) (table_of q.file).variables))))

  pub row_16 : Renders q scale_limit (checks.scale_fault q.file)
  unfolding Wrong checks.scale_fault
  row_16 =
      along q scale_limit _ 1 (variable_count q.file)
      (counted-from 1 (variable_count q.file) _
      (λ i p. 2 ^ 56 < scale_of (take (1 + p) (table_of q.file).variables))
      (λ p l. says_less (2 ^ 56) (scale_of (take (1 + p) (table_of q.file).variables))))

  pub row_17 : Renders q record_word (checks.record_fault q.file)
  unfolding Wrong checks.record_fault
  row_17 =
      let v = variable_count q.file in
      let rs = (table_of q.file).records in
      along q record_word _ (1 + v) (record_count q.file)
      (counted-from (1 + v) (record_count q.file) _
      (λ i k. RecordWord v rs k (word_at q.file i) → ⊥)
      (λ k l.
      let at : 1 + v + k - (1 + v) ≡ k = omega arith in
      rw at (says_not _ (record_says v rs k (word_at q.file (1 + v + k))))))

  pub row_26 : Renders q root_word (checks.root_fault q.file)
  unfolding Wrong checks.root_fault
  row_26 =
      let first = 1 + variable_count q.file + record_count q.file in
      along q root_word _ first (root_count q.file)
      (counted-from first (root_count q.file) _
      (λ i r. RootWord (record_count q.file) (word_at q.file i) → ⊥)
      (λ r l. says_not _ (root_says (record_count q.file) (word_at q.file (first + r)))))

  pub row_27 : Renders q reward_limit (checks.reward_fault q.file)
  unfolding Wrong checks.reward_fault scale
  row_27 =
      rw (mul_comm (total_reward (table_of q.file).roots) (scale_of (table_of q.file).variables))
      (at_zero q reward_limit _ (says_less (2 ^ 56) _) (λ i. (λ h. h, λ h. h)))

  pub row_18 : Renders q not_monotone (checks.monotone_fault q.file)
  unfolding Wrong checks.monotone_fault
  row_18 =
      let v = variable_count q.file in
      along q not_monotone _ (1 + v) (record_count q.file)
      (counted-from (1 + v) (record_count q.file) _
      (λ i k. MonotoneAt (table_of q.file) k → ⊥)
      (λ k l.
      let at : 1 + v + k - (1 + v) ≡ k = omega arith in
      rw at (says_not _ (monotone_says (table_of q.file) k))))

  pub row_21 : Renders q plan_length (checks.plan_length_fault q.plan q.file)
  unfolding Wrong checks.plan_length_fault
  row_21 = at_zero q plan_length _ (says_not _ (says_same _ _)) (λ i. (λ h. h, λ h. h))

  pub row_22 : Renders q plan_mark (checks.plan_mark_fault q.plan q.file)
  unfolding Wrong checks.plan_mark_fault
  row_22 =
      along q plan_mark _ 0 (length q.plan)
      (below (length q.plan) _ (λ i. 2 < get_or q.plan i 0) (λ i. says_less 2 (get_or q.plan i 0)))

  pub row_22_full : Renders q full_plan_mark (checks.full_plan_fault q.plan q.file)
  unfolding Wrong checks.full_plan_fault
  row_22_full =
      along q full_plan_mark _ 0 (length q.plan)
      (below (length q.plan) _
      (λ i. (2 < get_or q.plan i 0) ⊎ (get_or q.plan i 0 ≡ 0))
      (λ i. says_either _ _ (says_less 2 (get_or q.plan i 0)) (says_same (get_or q.plan i 0) 0)))

  pub row_23 : Renders q percent_limit (checks.percent_fault q.percent q.file)
  unfolding Wrong checks.percent_fault
  row_23 = at_zero q percent_limit _ (says_less 100 q.percent) (λ i. (λ h. h, λ h. h))

  pub row_24 : Renders q budget_limit (checks.budget_fault q.budget q.file)
  unfolding Wrong checks.budget_fault
  row_24 = at_zero q budget_limit _ (says_less 10020 q.budget) (λ i. (λ h. h, λ h. h))

  pub row_25 : Renders q buffer_length (checks.buffer_fault q.size q.file)
  unfolding Wrong checks.buffer_fault
  row_25 = at_zero q buffer_length _ (says_not _ (says_same _ _)) (λ i. (λ h. h, λ h. h))

-- ---------------------------------------------------------------------------
-- A file that no check finds at fault

pub whole_table : {s : List ℕ} → Passed s → WholeTable s
unfolding checks.heading_fault checks.count_fault checks.variable_fault checks.root_fault checks.monotone_fault scale
whole_table {s} h =
    record {
      size = eqb-true _ _ (none_passes _ h.count);
      heading = (heading_says (word_at s 0)).0 (none_passes _ h.heading);
      variables = λ p l.
          let at : 1 + p - 1 ≡ p = omega arith in
          (variable_says p (word_at s (1 + p))).0 (not-false _ (rw at at (none-at _ 1 (variable_count s) p h.variables l)));
      choices = passed_choices h;
      product = passed_product h;
      scale = rw (mul_comm (scale_of (table_of s).variables) (total_reward (table_of s).roots)) (passed_scale h);
      records = λ k l. (record_says _ _ k _).0 (shaped-record-word s h.records k l);
      roots = λ r l. (root_says _ _).0 (not-false _ (none-at _ (1 + variable_count s + record_count s) (root_count s) r h.roots l));
      monotone = λ k l.
          let at : 1 + variable_count s + k - (1 + variable_count s) ≡ k = omega arith in
          (monotone_says (table_of s) k).0 (not-false _ (rw at at (none-at _ (1 + variable_count s) (record_count s) k h.monotone l)));
    }
