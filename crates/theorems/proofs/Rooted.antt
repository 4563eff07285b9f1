-- Paper 3: a file's roots are those of its root words, no plan scores more than B, and what a list of roots means.
-- Assumes nothing.
use Prim.Native.Nat.{ℕ, zero, suc, ◌+◌, ◌-◌, ◌*◌, ◌^◌, ◌≤◌, ◌<◌}
use native.Mathlib.Nat.{add-zero, zero-add, mul_comm}
use native.Mathlib.Decide.{dec_lt}
use native.Mathlib.Omega.{arith}
use mathlib.Core.Path.{◌≡◌, refl, ap, sym, ◌∙◌}
use mathlib.Core.Logic.{⊎_elim, by_cases}
use mathlib.Core.List.{List, [], ◌∷◌, map}
use lib.ListN.{length}
use lib.Seq.{take_all}
use Rattle.diagram.specs.Words.{word_at}
use Rattle.diagram.specs.Table.{Variable, Record, Root, Table, sequence, variable_of, record_of, kits_of, root_of, roots_or, table_of, variable_count, record_count, root_count, scale_of, total_reward, scale}
use Rattle.diagram.specs.Score.{sum, total, score_from, rewarded, score}
use Rattle.diagram.proofs.FirstVariable.{score-le-scale}
use Rattle.diagram.proofs.Checked.{read_passed}
use Rattle.decoding.proofs.Choosing.{variables-length}
use Rattle.decoding.proofs.Rooting.{roots-none, roots-words}
use Rattle.reading.proofs.Accepted.{passed_shares}
use Rattle.theorems.specs.Reasons.{table_length, heading_word, word_count, variable_word, choice_limit, scale_limit, record_word, root_word, reward_limit, not_monotone, RootWord, Wrong, WholeTable, no_row, passes_row, file_reasons, file_alone, Accepted}
use Rattle.theorems.specs.Roots.{root_word_at, RootsAreHeld, ScaleIsTheProduct, ScoreWithinScale, SameNetwork, ServedAlike, OneRoot, NamesLast, LastIsRoot, Reordered, nothing, first-kept, exchanged, in_steps, root_words, OtherOrder, OrderIsFree, AddsRewards, TwiceIsAdded, AnswerAlike, ReadByScores, with_roots, RootsAreAdded}
use Rattle.theorems.proofs.Rows.{whole_table}
use Rattle.theorems.proofs.Deciding.{accepted-read}
use Rattle.theorems.proofs.Alike.{alike}
use Rattle.theorems.proofs.Served.{served_alike}

-- ---------------------------------------------------------------------------
-- Lists

-- a table, from its parts
assembled : {vs vs' : List Variable} {rs rs' : List Record} {ks ks' : List ℕ} {qs qs' : List Root} → vs ≡ vs' → rs ≡ rs' → ks ≡ ks' → qs ≡ qs' → ◌≡◌ {A = Table} (record { variables = vs; records = rs; kits = ks; roots = qs }) (record { variables = vs'; records = rs'; kits = ks'; roots = qs' })
assembled a b c d = rw (a, b, c, d) refl

-- a list that two functions give alike
same-sequence : {A : Type 0} (f g : ℕ → A) (i j n : ℕ) → ((k : ℕ) → k < n → f (i + k) ≡ g (j + k)) → sequence f i n ≡ sequence g j n
unfolding sequence
same-sequence f g i j zero h = refl
same-sequence f g i j (suc n) h =
    rw (rw (add-zero i, add-zero j) at (h 0 (omega arith)), same-sequence f g (suc i) (suc j) n (λ k l. further k (h (suc k) (omega arith)))) refl
  where
    further : (k : ℕ) → f (i + suc k) ≡ g (j + suc k) → f (suc i + k) ≡ g (suc j + k)
    further k e =
        let a : suc i + k ≡ i + suc k = omega arith in
        let b : suc j + k ≡ j + suc k = omega arith in
        rw (a, b) e

-- a list of what a function makes of another's
mapped_sequence : {A B : Type 0} (g : A → B) (f : ℕ → A) (i n : ℕ) → map g (sequence f i n) ≡ sequence (λ k. g (f k)) i n
unfolding sequence
mapped_sequence g f i zero = refl
mapped_sequence g f i (suc n) = rw (mapped_sequence g f (suc i) n) refl

-- what holds of each element of a list
Each : (ℕ → Type 0) → List ℕ → Type 0
Each P [] = Unit {0}
Each P (x ∷ xs) = P x × Each P xs

each_sequence : (P : ℕ → Type 0) (f : ℕ → ℕ) (i n : ℕ) → ((k : ℕ) → k < n → P (f (i + k))) → Each P (sequence f i n)
unfolding sequence Each
each_sequence P f i zero h = tt
each_sequence P f i (suc n) h =
    (rw (add-zero i) at (h 0 (omega arith)), each_sequence P f (suc i) n (λ k l. let at : i + suc k ≡ suc i + k = omega arith in rw at at (h (suc k) (omega arith))))

each_at : (P : ℕ → Type 0) (f : ℕ → ℕ) (i n : ℕ) → Each P (sequence f i n) → (k : ℕ) → k < n → P (f (i + k))
unfolding sequence Each
each_at P f i zero h k l = absurd (omega arith)
each_at P f i (suc n) h zero l = rw (add-zero i) h.0
each_at P f i (suc n) h (suc k) l = let at : i + suc k ≡ suc i + k = omega arith in rw at (each_at P f (suc i) n h.1 k (omega arith))

each_reordered : (P : ℕ → Type 0) {xs ys : List ℕ} → Reordered xs ys → Each P xs → Each P ys
unfolding Each
each_reordered P nothing h = tt
each_reordered P (first-kept e) h = (h.0, each_reordered P e h.1)
each_reordered P exchanged h = (h.1.0, (h.0, h.1.1))
each_reordered P (in_steps e f) h = each_reordered P f (each_reordered P e h)

reordered_map : {A B : Type 0} (g : A → B) {xs ys : List A} → Reordered xs ys → Reordered (map g xs) (map g ys)
reordered_map g nothing = nothing
reordered_map g (first-kept e) = first-kept (reordered_map g e)
reordered_map g exchanged = exchanged
reordered_map g (in_steps e f) = in_steps (reordered_map g e) (reordered_map g f)

reordered_or : (last : ℕ) {rs qs : List Root} → Reordered rs qs → Reordered (roots_or last rs) (roots_or last qs)
unfolding roots_or
reordered_or last nothing = first-kept nothing
reordered_or last (first-kept e) = first-kept e
reordered_or last exchanged = exchanged
reordered_or last (in_steps e f) = in_steps (reordered_or last e) (reordered_or last f)

-- ---------------------------------------------------------------------------
-- The roots of a file, its scores and its B

pub roots_are_held : RootsAreHeld
unfolding RootsAreHeld root_of
roots_are_held file = (
  λ some. roots-words file (omega arith) ∙ same-sequence _ _ (1 + variable_count file + record_count file) 0 (root_count file) (λ k l. rw (zero-add k) refl),
  λ none. roots-none file none,
)

rewards-sum : (rs : List Root) → total_reward rs ≡ sum (map (λ (r : Root). r.reward) rs)
unfolding total_reward sum
rewards-sum [] = refl
rewards-sum (r ∷ rs) = rw (rewards-sum rs) refl

pub scale-is_the_product : ScaleIsTheProduct
unfolding ScaleIsTheProduct scale
scale-is_the_product t =
    mul_comm (total_reward t.roots) (scale_of t.variables) ∙ rw (rewards-sum t.roots) refl

pub score-within-scale : ScoreWithinScale
unfolding ScoreWithinScale
score-within-scale file plan h =
    score-le-scale (table_of file) (passed_shares (read_passed file _ (accepted-read file h))) plan

-- ---------------------------------------------------------------------------
-- From one file to another that differs in its root words alone

module _ {file other : List ℕ} (h : SameNetwork file other) where
  same-variables : (table_of other).variables ≡ (table_of file).variables
  unfolding table_of
  same-variables = rw h.variables (same-sequence _ _ 1 1 (variable_count file) (λ k l. ap variable_of (h.words k (omega arith))))

  record-word : (k : ℕ) → k < record_count file → word_at other (1 + variable_count file + k) ≡ word_at file (1 + variable_count file + k)
  record-word k l =
      let at : 1 + variable_count file + k ≡ 1 + (variable_count file + k) = omega arith in
      rw at (h.words (variable_count file + k) (omega arith))

  same-records : (table_of other).records ≡ (table_of file).records
  unfolding table_of
  same-records =
      rw (h.variables, h.records) (same-sequence _ _ (1 + variable_count file) (1 + variable_count file) (record_count file) (λ k l. ap record_of (record-word k l)))

  same-kits : (table_of other).kits ≡ (table_of file).kits
  unfolding table_of
  same-kits = rw h.variables (ap kits_of (same-sequence _ _ 1 1 (variable_count file) (λ k l. h.words k (omega arith))))

  -- the rows 15, 16 and 27, and with a right first file the others
  same_15 : (j : ℕ) → Wrong (file_alone other) choice_limit j → Wrong (file_alone file) choice_limit j
  unfolding Wrong
  same_15 j wrong = (wrong.0, (omega (arith, wrong.1.0, h.variables), wrong.1.1), rw same-variables at wrong.2)

  same_16 : (j : ℕ) → Wrong (file_alone other) scale_limit j → Wrong (file_alone file) scale_limit j
  unfolding Wrong
  same_16 j wrong = (wrong.0, (omega (arith, wrong.1.0, h.variables), wrong.1.1), rw same-variables at wrong.2)

  same_27 : total_reward (table_of other).roots ≡ total_reward (table_of file).roots → (j : ℕ) → Wrong (file_alone other) reward_limit j → Wrong (file_alone file) reward_limit j
  unfolding Wrong
  same_27 reward j wrong = (wrong.0, rw (same-variables, reward) at wrong.1)

  module _ (w : WholeTable file) (few : root_count other ≤ 16) (size : length other ≡ 4 * (1 + variable_count file + record_count file + root_count other)) (right : (r : ℕ) → r < root_count other → RootWord (record_count file) (root_word_at other r)) where
    limits : (variable_count file ≤ 60) × (record_count file ≤ 254)
    unfolding variable_count record_count
    limits = (w.heading.variables.1, w.heading.records.1)

    other_11 : (j : ℕ) → Wrong (file_alone other) table_length j → ⊥
    unfolding Wrong
    other_11 j wrong =
        ⊎_elim (λ l. omega (arith, size)) (⊎_elim (λ l. omega (arith, size, limits)) (λ f. f (omega (arith, size)))) wrong.1

    other_12 : (j : ℕ) → Wrong (file_alone other) heading_word j → ⊥
    unfolding Wrong variable_count record_count root_count
    other_12 j wrong =
        wrong.1
        (record {
          kind-is = h.heading ∙ w.heading.kind-is;
          variables = rw h.variables w.heading.variables;
          records = rw h.records w.heading.records;
          roots = few;
        })

    other_13 : (j : ℕ) → Wrong (file_alone other) word_count j → ⊥
    unfolding Wrong
    other_13 j wrong = wrong.1 (omega (arith, size, h.variables, h.records))

    other_14 : (j : ℕ) → Wrong (file_alone other) variable_word j → ⊥
    unfolding Wrong
    other_14 j wrong =
        let p = wrong.0 in
        let l : p < variable_count file = omega (arith, wrong.1.0, h.variables) in
        wrong.2 (rw (wrong.1.1, h.words p (omega arith)) (w.variables p l))

    other_17 : (j : ℕ) → Wrong (file_alone other) record_word j → ⊥
    unfolding Wrong
    other_17 j wrong =
        let k = wrong.0 in
        let l : k < record_count file = omega (arith, wrong.1.0, h.records) in
        wrong.2 (rw (wrong.1.1, h.variables, record-word k l, same-records) (w.records k l))

    other_26 : (j : ℕ) → Wrong (file_alone other) root_word j → ⊥
    unfolding Wrong
    other_26 j wrong = wrong.2 (rw (wrong.1.1, h.records) (rw h.records at (right wrong.0 wrong.1.0)))

    other_18 : (j : ℕ) → Wrong (file_alone other) not_monotone j → ⊥
    unfolding Wrong
    other_18 j wrong =
        let l : wrong.0 < record_count file = omega (arith, wrong.1.0, h.records) in
        wrong.2 (rw (same-variables, same-records) (w.monotone wrong.0 l))

    carried : total_reward (table_of other).roots ≡ total_reward (table_of file).roots → Accepted file → Accepted other
    unfolding file_reasons
    carried reward (passes_row p11 (passes_row p12 (passes_row p13 (passes_row p14 (passes_row p15 (passes_row p16 (passes_row p17 (passes_row p26 (passes_row p27 (passes_row p18 no_row)))))))))) =
        passes_row other_11
        (passes_row other_12
        (passes_row other_13
        (passes_row other_14
        (passes_row (λ j wrong. p15 j (same_15 j wrong))
        (passes_row (λ j wrong. p16 j (same_16 j wrong))
        (passes_row other_17
        (passes_row other_26
        (passes_row (λ j wrong. p27 j (same_27 reward j wrong))
        (passes_row other_18 no_row)))))))))

-- an accepted file is right from its first word to its last
whole : (file : List ℕ) → Accepted file → WholeTable file
whole file h = whole_table (read_passed file _ (accepted-read file h))

-- ---------------------------------------------------------------------------
-- No root words

-- the one root's reward
reward-one : (file : List ℕ) → root_count file ≡ 0 → total_reward (table_of file).roots ≡ 1
unfolding total_reward
reward-one file none = rw (roots-none file none) (omega arith)

-- without variables the product is 1
no_variables : (file : List ℕ) → variable_count file ≡ 0 → scale_of (table_of file).variables ≡ 1
unfolding table_of sequence scale_of
no_variables file e = rw e refl

-- where no product of b is above 2^56, that of all b is not
product-passes : (file : List ℕ) → ((i : ℕ) → Wrong (file_alone file) scale_limit i → ⊥) → 2 ^ 56 < scale_of (table_of file).variables → ⊥
unfolding Wrong
product-passes file passes above =
    let v = variable_count file in
    by_cases (dec_lt 0 v)
    (λ l.
    let all = take_all (1 + (v - 1)) (table_of file).variables (omega (arith, variables-length file)) in
    passes (1 + (v - 1)) (v - 1, (omega arith, refl), rw all above))
    (λ f. omega (arith, no_variables file (omega (arith, f)), above))

no_27 : (file : List ℕ) → root_count file ≡ 0 → ((i : ℕ) → Wrong (file_alone file) scale_limit i → ⊥) → (i : ℕ) → Wrong (file_alone file) reward_limit i → ⊥
unfolding Wrong
no_27 file none passes i wrong =
    product-passes file passes (omega (arith, rw (reward-one file none) at wrong.1))

pub one-root : OneRoot
unfolding OneRoot score score_from total rewarded scale total_reward
one-root file none = (
  λ plan. rw (roots-none file none) (omega arith),
  rw (roots-none file none) (omega arith),
  no_27 file none,
)

-- the other way round
turned : {file other : List ℕ} → SameNetwork file other → SameNetwork other file
turned h =
    record {
      heading = sym h.heading;
      variables = sym h.variables;
      records = sym h.records;
      words = λ i l. sym (h.words i (omega (arith, l, h.variables, h.records)));
    }

module _ {file named : List ℕ} (h : NamesLast file named) where
  root-word : word_at named (1 + variable_count named + record_count named) ≡ root_word_at named 0
  root-word = rw (add-zero (1 + variable_count named + record_count named)) refl

  same-roots : (table_of named).roots ≡ (table_of file).roots
  unfolding sequence root_of
  same-roots =
      let one = h.one in
      roots-words named (omega arith)
      ∙ rw (h.one, root-word, h.word-node, h.word-reward) refl
      ∙ sym (roots-none file h.none)

  same-table : table_of named ≡ table_of file
  same-table =
      let n = h.network in
      assembled (same-variables n) (same-records n) (same-kits n) same-roots

  -- the one root word is right
  named_right : WholeTable file → (r : ℕ) → r < root_count named → RootWord (record_count file) (root_word_at named r)
  unfolding record_count
  named_right w r l =
      let zeroth : r ≡ 0 = omega (arith, h.one) in
      let some = w.heading.records.0 in
      rw zeroth
      (record {
        kind-is = h.word-kind;
        zero = h.word-zero;
        reward = (omega (arith, h.word-reward), omega (arith, h.word-reward));
        node = (record_count file - 1, omega arith, omega (arith, h.word-node));
      })

  accepted_named : Accepted file → Accepted named
  accepted_named a =
      let w = whole file a in
      carried h.network w (omega (arith, h.one)) (omega (arith, h.size, w.size, h.none, h.one)) (named_right w) (ap total_reward same-roots) a

  accepted-file : Accepted named → Accepted file
  accepted-file a =
      let w = whole named a in
      carried (turned h.network) w (omega (arith, h.none)) (omega (arith, h.size, w.size, h.network.variables, h.network.records, h.none, h.one)) (λ r l. absurd (omega (arith, h.none))) (ap total_reward (sym same-roots)) a

  named_alike : Accepted file → ServedAlike file named
  named_alike a =
      let n = h.network in
      served_alike a (accepted_named a) (sym n.variables) (sym n.records) (sym (same-variables n))
      (alike (table_of file) (table_of named) (sym (same-kits n)) (ap scale (sym same-table)) (λ p. ap (λ (t : Table). score t p) (sym same-table)))

pub last_is_root : LastIsRoot
unfolding LastIsRoot
last_is_root file named h = (same-table h, (accepted_named h, accepted-file h), named_alike h)

-- ---------------------------------------------------------------------------
-- Several roots

reordered_reward : {rs qs : List Root} → Reordered rs qs → total_reward rs ≡ total_reward qs
unfolding total_reward
reordered_reward nothing = refl
reordered_reward (first-kept h) = rw (reordered_reward h) refl
reordered_reward exchanged = omega arith
reordered_reward (in_steps h k) = reordered_reward h ∙ reordered_reward k

reordered_sum : (f : ℕ → ℕ) {rs qs : List Root} → Reordered rs qs → rewarded f rs ≡ rewarded f qs
unfolding rewarded
reordered_sum f nothing = refl
reordered_sum f (first-kept h) = rw (reordered_sum f h) refl
reordered_sum f exchanged = omega arith
reordered_sum f (in_steps h k) = reordered_sum f h ∙ reordered_sum f k

-- a file's roots, from the list of its root words
roots-listed : (file : List ℕ) → (table_of file).roots ≡ roots_or (record_count file + 1) (map root_of (sequence (root_word_at file) 0 (root_count file)))
unfolding table_of
roots-listed file =
    ap (roots_or (record_count file + 1))
    (same-sequence _ _ (1 + variable_count file + record_count file) 0 (root_count file) (λ k l. rw (zero-add k) refl)
    ∙ sym (mapped_sequence root_of (root_word_at file) 0 (root_count file)))

-- Two files of one network that have the same sums over their roots and right root words: if one is accepted, so is the other, and they are served alike
module _ {file other : List ℕ} (n : SameNetwork file other) (rewards : total_reward (table_of file).roots ≡ total_reward (table_of other).roots) (sums : (f : ℕ → ℕ) → rewarded f (table_of file).roots ≡ rewarded f (table_of other).roots) (few : WholeTable file → root_count other ≤ 16) (size : WholeTable file → length other ≡ 4 * (1 + variable_count file + record_count file + root_count other)) (right : WholeTable file → (r : ℕ) → r < root_count other → RootWord (record_count file) (root_word_at other r)) where
  accepted_other : Accepted file → Accepted other
  accepted_other a =
      let w = whole file a in
      carried n w (few w) (size w) (right w) (sym rewards) a

  same-scores : (p : List ℕ) → score (table_of file) p ≡ score (table_of other) p
  unfolding score score_from
  same-scores p = sums _ ∙ rw (same-variables n, same-records n) refl

  same_scale : scale (table_of file) ≡ scale (table_of other)
  unfolding scale
  same_scale = rw (rewards, same-variables n) refl

  other_served : Accepted file → Accepted other × ServedAlike file other
  other_served a =
      let tables = alike (table_of file) (table_of other) (sym (same-kits n)) same_scale same-scores in
      (accepted_other a, served_alike a (accepted_other a) (sym n.variables) (sym n.records) (sym (same-variables n)) tables)

-- the root words of a whole table are right, and so are those of a list that holds no others
listed-right : {file : List ℕ} → WholeTable file → Each (RootWord (record_count file)) (root_words file)
listed-right {file} w =
    each_sequence (RootWord (record_count file)) (root_word_at file) 0 (root_count file) (λ k m. rw (zero-add k) (w.roots k m))

right-listed : {n : ℕ} (other : List ℕ) → Each (RootWord n) (root_words other) → (r : ℕ) → r < root_count other → RootWord n (root_word_at other r)
right-listed {n} other each r l = rw (zero-add r) at (each_at (RootWord n) (root_word_at other) 0 (root_count other) each r l)

-- 12 lets at most 16 root words through
few-roots : {file : List ℕ} → WholeTable file → root_count file ≤ 16
unfolding root_count
few-roots w = w.heading.roots

module _ {file other : List ℕ} (h : OtherOrder file other) where
  reordered_roots : Reordered (table_of file).roots (table_of other).roots
  reordered_roots =
      rw (roots-listed file, roots-listed other, h.network.records) (reordered_or (record_count file + 1) (reordered_map root_of h.roots))

  order_served : Accepted file → Accepted other × ServedAlike file other
  order_served =
      other_served h.network (reordered_reward reordered_roots) (λ f. reordered_sum f reordered_roots)
      (λ w. omega (arith, h.count, few-roots w))
      (λ w. omega (arith, h.size, w.size, h.count))
      (λ w. right-listed other (each_reordered _ h.roots (listed-right w)))

pub order-is_free : OrderIsFree
unfolding OrderIsFree
order-is_free file other h = order_served h

-- ---------------------------------------------------------------------------
-- A node named twice

-- two roots at one node, and one with the rewards added
module _ (x y z : Root) (one-node : (z.node ≡ x.node) × (z.node ≡ y.node)) (reward : z.reward ≡ x.reward + y.reward) (rs : List Root) where
  added-reward : total_reward (x ∷ y ∷ rs) ≡ total_reward (z ∷ rs)
  unfolding total_reward
  added-reward = omega (arith, reward)

  added-sum : (f : ℕ → ℕ) → rewarded f (x ∷ y ∷ rs) ≡ rewarded f (z ∷ rs)
  unfolding rewarded
  added-sum f = rw (← one-node.0, ← one-node.1, reward) (omega arith)

module _ {file added : List ℕ} (h : AddsRewards file added) where
  two-roots : Reordered (table_of file).roots (root_of h.first ∷ root_of h.second ∷ map root_of h.others)
  unfolding roots_or
  two-roots = rw (roots-listed file) (reordered_or (record_count file + 1) (reordered_map root_of h.two))

  one-root-word : Reordered (root_of h.both ∷ map root_of h.others) (table_of added).roots
  unfolding roots_or
  one-root-word = rw (roots-listed added) (reordered_or (record_count added + 1) (reordered_map root_of h.one))

  added-rewards : total_reward (table_of file).roots ≡ total_reward (table_of added).roots
  unfolding root_of
  added-rewards =
      reordered_reward two-roots
      ∙ added-reward (root_of h.first) (root_of h.second) (root_of h.both) h.both-node h.both-reward (map root_of h.others)
      ∙ reordered_reward one-root-word

  added-sums : (f : ℕ → ℕ) → rewarded f (table_of file).roots ≡ rewarded f (table_of added).roots
  unfolding root_of
  added-sums f =
      reordered_sum f two-roots
      ∙ added-sum (root_of h.first) (root_of h.second) (root_of h.both) h.both-node h.both-reward (map root_of h.others) f
      ∙ reordered_sum f one-root-word

  added-right : WholeTable file → Each (RootWord (record_count file)) (root_words added)
  unfolding Each
  added-right w =
      let each = each_reordered (RootWord (record_count file)) h.two (listed-right w) in
      let first = each.0 in
      each_reordered (RootWord (record_count file)) h.one (
        record {
          kind-is = h.both-kind;
          zero = h.both_zero;
          reward = (omega (arith, h.both-reward, first.reward.0), omega (arith, h.both-reward, h.limit));
          node = (first.node.0, first.node.1, h.both-node.0 ∙ first.node.2);
        },
        each.1.1,
      )

  added_served : Accepted file → Accepted added × ServedAlike file added
  added_served =
      other_served h.network added-rewards added-sums
      (λ w. omega (arith, h.count, few-roots w))
      (λ w. omega (arith, h.size, w.size, h.count))
      (λ w. right-listed added (added-right w))

pub twice_is_added : TwiceIsAdded
unfolding TwiceIsAdded
twice_is_added file added h = added_served h

-- ---------------------------------------------------------------------------
-- Tables with other roots

pub read_by_scores : ReadByScores
unfolding ReadByScores
read_by_scores t u kits scales scores = alike t u kits scales scores

-- a score and B with other roots
rooted-score : (rs : List Root) (t : Table) (p : List ℕ) → score (with_roots rs t) p ≡ rewarded (score_from t p) rs
unfolding score score_from with_roots
rooted-score rs t p = refl

rooted-scale : (rs : List Root) (t : Table) → scale (with_roots rs t) ≡ total_reward rs * scale_of t.variables
unfolding scale with_roots
rooted-scale rs t = refl

module _ (t : Table) (rs qs : List Root) (rewards : total_reward rs ≡ total_reward qs) (sums : (f : ℕ → ℕ) → rewarded f rs ≡ rewarded f qs) where
  roots_alike : AnswerAlike (with_roots rs t) (with_roots qs t)
  unfolding with_roots
  roots_alike =
      alike (with_roots rs t) (with_roots qs t) refl
      (rooted-scale rs t ∙ rw rewards (sym (rooted-scale qs t)))
      (λ p. rooted-score rs t p ∙ sums (score_from t p) ∙ sym (rooted-score qs t p))

pub roots_are_added : RootsAreAdded
unfolding RootsAreAdded
roots_are_added t node first second roots others h =
    roots_alike t _ _
    (reordered_reward h ∙ added-reward _ _ _ (refl, refl) refl others)
    (λ f. reordered_sum f h ∙ added-sum _ _ _ (refl, refl) refl others f)
