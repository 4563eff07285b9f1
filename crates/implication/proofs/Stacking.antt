-- The stack of pairs of nodes: how it begins, how a pair is met, how the pair on top is expanded, and what it says at the end.
-- Assumes nothing.
use Prim.Native.Nat.{ℕ, zero, suc, ◌+◌, ◌-◌, ◌≤◌, ◌<◌, max}
use native.Mathlib.Decide.{dec_lt}
use native.Mathlib.Omega.{arith}
use mathlib.Core.Path.{◌≡◌, refl, ap, sym, ◌∙◌}
use mathlib.Core.Bool.{Bool, true, false, cond, false≢true}
use mathlib.Core.Logic.{◌⊎◌, inl, inr, ⊎_elim, by_cases}
use mathlib.Core.List.{List}
use mathlib.Mathlib.Data.Bool.Basic.{eq-false_of_not-eq-true}
use lib.ListN.{length, get_or, set, replicate, length-set, length-replicate}
use lib.Seq.{get_or-set_same, get_or-set_other}
use borrow.Author.Tests.{le-leb}
use Rattle.diagram.specs.Table.{Record}
use Rattle.diagram.specs.Score.{implies}
use Rattle.diagram.specs.Checks.{is_monotone_at}
use Rattle.diagram.proofs.Every.{both, and_true_both}
use Rattle.diagram.proofs.Implication.{implies_false_end, implies_true_end, implies-same, implies-ends}
use Rattle.decoding.specs.declared.table.Decoded.{Decoded}
use Rattle.decoding.specs.Decoding.{table_in}
use Rattle.implication.specs.Nodes.{records_of, end_of, Checkable, asked_node, Pairs, next, smaller, cell, AtOnce, zeros, first_at, second_at, Met, RoomFor, pushed, no_pair, Adds, Expanded, Waits, Stack, Kept}
use Rattle.implication.specs.declared.worklist.Pair.{Pair}
use Rattle.implication.specs.declared.worklist.Worklist.{Worklist}
use Rattle.implication.proofs.Cells.{cell-le, origin-cell, only_known, zeros-marked}
use Rattle.implication.proofs.Pairing.{Meets, next_le, next_less, next-later, next_split, position-few, held-asked}

-- ---------------------------------------------------------------------------
-- The start

-- what is known at once holds
at_once : (v : ℕ) (rs : List Record) (m n : ℕ) → AtOnce m n → implies v rs m n ≡ true
at_once v rs m n (inl e) = rw e (implies_false_end v rs n)
at_once v rs m n (inr (inl e)) = rw e (implies_true_end v rs m)
at_once v rs m n (inr (inr e)) = rw e (implies-same v rs n)

-- the stack with nothing on it
pub start : {ps hs ls met : List ℕ} {stack : List Pair} → Pairs ps hs ls → met ≡ replicate 1024 0 → length stack ≡ 64 → Stack ps hs ls met stack 0 0 0 0 0
start {ps} {hs} {ls} pairs none size =
    rw none (record {
      pairs = pairs;
      room = record { size = length-replicate {A = ℕ} 1024 0; stack_size = size; shallow = omega arith };
      asked = origin-cell (replicate 1024 0);
      origin = origin-cell (replicate 1024 0);
      small = λ j l. absurd (omega arith);
      waiting = λ j l. absurd (omega arith);
      deep = λ j l. absurd (omega arith);
      traced = λ m n lm ln e. inl (only_known 1024 m n e);
      right = λ _ m n lm ln e. at_once (end_of ps) (records_of ps hs ls) m n (only_known 1024 m n e);
    })

-- ---------------------------------------------------------------------------
-- A pair is met

-- the stack after a pair is met
pushed-length : (c : ℕ) (stack : List Pair) (depth m n : ℕ) → length (pushed c stack depth m n) ≡ length stack
unfolding pushed
pushed-length zero stack depth m n = simp length-set refl
pushed-length (suc c) stack depth m n = refl

pushed-kept : (c : ℕ) (stack : List Pair) (depth m n j : ℕ) → j < depth → get_or (pushed c stack depth m n) j no_pair ≡ get_or stack j no_pair
unfolding pushed
pushed-kept zero stack depth m n j l = get_or-set_other stack depth j _ no_pair (λ e. omega arith)
pushed-kept (suc c) stack depth m n j l = refl

pushed-new : (c : ℕ) (stack : List Pair) (depth m n : ℕ) → c < 1 → depth < length stack → get_or (pushed c stack depth m n) depth no_pair ≡ record { first = record { 0 = m }; second = record { 0 = n } }
unfolding pushed
pushed-new zero stack depth m n f l = get_or-set_same stack depth _ no_pair l
pushed-new (suc c) stack depth m n f l = absurd (omega arith)

-- at the cell that the code has read
pub pushed_none : {c : ℕ} → c ≡ 1 → (stack : List Pair) (depth m n : ℕ) → stack ≡ pushed c stack depth m n
unfolding pushed
pushed_none e stack depth m n = rw e refl

pub pushed-one : {c : ℕ} → c ≡ 0 → (stack : List Pair) (depth m n : ℕ) → set stack depth (record { first = record { 0 = m }; second = record { 0 = n } }) ≡ pushed c stack depth m n
unfolding pushed
pushed-one e stack depth m n = rw e refl

-- the arrays before and after the pair m, n is met
pub record Meeting (met : List ℕ) (stack : List Pair) (depth m n : ℕ) (met' : List ℕ) (stack' : List Pair) (depth' : ℕ) : Type 0 where
  pub m_small : m < 256
  pub n_small : n < 256
  pub end : depth' ≡ depth + (1 - cell met m n)
  pub cells : Met met met' m n
  pub pushes : stack' ≡ pushed (cell met m n) stack depth m n

-- the same of two worklists
pub meeting : {w w' : Worklist} {m n : ℕ} → m < 256 → n < 256 → Adds w w' m n → Meeting w.met w.stack w.depth m n w'.met w'.stack w'.depth
meeting lm ln e = record { m_small = lm; n_small = ln; end = e.depth; cells = e.met; pushes = e.stack }

module _ {ps hs ls met met' : List ℕ} {stack stack' : List Pair} {c d x y depth depth' m n : ℕ} (h : Stack ps hs ls met stack c d x y depth) (g : Meeting met stack depth m n met' stack' depth') where
  -- what is still to be met and what waits are as many as before
  met_left : zeros met' + depth' ≡ zeros met + depth
  met_left =
      let end = g.end in
      omega (arith, zeros-marked g.cells g.m_small g.n_small)

  -- a pair that was met before is so now, and m, n is
  kept : (a b : ℕ) → cell met a b ≡ 1 → cell met' a b ≡ 1
  kept = g.cells.kept

  here : cell met' m n ≡ 1
  here = g.cells.here

  -- the stack is as it was, and m, n stands on it if it is new
  first-kept : (j : ℕ) → j < depth → first_at stack' j ≡ first_at stack j
  first-kept j l = rw g.pushes (ap (λ (p : Pair). p.first.0) (pushed-kept (cell met m n) stack depth m n j l))

  second-kept : (j : ℕ) → j < depth → second_at stack' j ≡ second_at stack j
  second-kept j l = rw g.pushes (ap (λ (p : Pair). p.second.0) (pushed-kept (cell met m n) stack depth m n j l))

  new_pair : cell met m n < 1 → get_or stack' depth no_pair ≡ record { first = record { 0 = m }; second = record { 0 = n } }
  new_pair f =
      let shallow = h.room.shallow in
      let size = h.room.stack_size in
      rw g.pushes (pushed-new (cell met m n) stack depth m n f (omega arith))

  first_new : cell met m n < 1 → first_at stack' depth ≡ m
  first_new f = ap (λ (p : Pair). p.first.0) (new_pair f)

  second_new : cell met m n < 1 → second_at stack' depth ≡ n
  second_new f = ap (λ (p : Pair). p.second.0) (new_pair f)

  -- what holds of the pairs on the stack, and of m, n if it is new, holds of those on the stack now
  each_slot : (P : ℕ → ℕ → ℕ → Type 0) → ((j : ℕ) → j < depth → P j (first_at stack j) (second_at stack j)) → (cell met m n < 1 → P depth m n) → (j : ℕ) → j < depth' → P j (first_at stack' j) (second_at stack' j)
  each_slot P old new j below =
      by_cases (dec_lt j depth)
      (λ l. rw (first-kept j l, second-kept j l) (old j l))
      (λ l.
      let end = g.end in
      let e : j ≡ depth = omega arith in
      let f : cell met m n < 1 = omega arith in
      rw (e, first_new f, second_new f) (new f))

  carried : (a b : ℕ) → AtOnce a b ⊎ (Expanded ps hs ls met a b ⊎ (Waits stack depth a b ⊎ ((a ≡ x) × (b ≡ y)))) → AtOnce a b ⊎ (Expanded ps hs ls met' a b ⊎ (Waits stack' depth' a b ⊎ ((a ≡ x) × (b ≡ y))))
  carried a b (inl e) = inl e
  carried a b (inr (inl e)) = inr (inl (record { high = kept _ _ e.high; low = kept _ _ e.low }))
  carried a b (inr (inr (inl e))) =
      let end = g.end in
      let below = e.below in
      inr (inr (inl (record {
        slot = e.slot;
        below = omega arith;
        first = first-kept e.slot below ∙ e.first;
        second = second-kept e.slot below ∙ e.second;
      })))
  carried a b (inr (inr (inr e))) = inr (inr (inr e))

  -- a pair that was not met before and is so now is m, n
  fresh : (a b : ℕ) → a < 256 → b < 256 → cell met a b < 1 → cell met' a b ≡ 1 → (a ≡ m) × (b ≡ n)
  fresh a b la lb f e =
      ⊎_elim (λ same. same) (λ same. absurd (omega (arith, same))) (g.cells.others a b la lb)

  fresh_waits : (a b : ℕ) → cell met a b < 1 → (a ≡ m) × (b ≡ n) → Waits stack' depth' a b
  fresh_waits a b f (p, q) =
      let end = g.end in
      let f' = rw (p, q) at f in
      record { slot = depth; below = omega arith; first = first_new f' ∙ sym p; second = second_new f' ∙ sym q }

  -- m, n stands late enough, if it is new
  module _ (late : cell met m n < 1 → depth ≤ smaller ps m n + 1) where
    -- so there is room for one more
    still_shallow : depth' ≤ 62
    still_shallow =
        let end = g.end in
        let shallow = h.room.shallow in
        by_cases (dec_lt (cell met m n) 1)
        (λ f. omega (arith, late f, position-few h.pairs m g.m_small))
        (λ f. omega arith)

    roomy : RoomFor met' stack' depth'
    roomy =
        record {
          size = g.cells.size ∙ h.room.size;
          stack_size = rw g.pushes (pushed-length (cell met m n) stack depth m n ∙ h.room.stack_size);
          shallow = still_shallow;
        }

    -- the stack with one more pair met, for a pair p, q that has been met: m, n and the pair that was asked before imply if it does
    meet : (p q : ℕ) → cell met' p q ≡ 1 → (implies (end_of ps) (records_of ps hs ls) p q ≡ true → (implies (end_of ps) (records_of ps hs ls) c d ≡ true) × (implies (end_of ps) (records_of ps hs ls) m n ≡ true)) → Stack ps hs ls met' stack' p q x y depth'
    meet p q asked sound =
        record {
          pairs = h.pairs;
          room = roomy;
          asked = asked;
          origin = kept 0 0 h.origin;
          small = each_slot (λ _ a b. (a < 256) × (b < 256)) h.small (λ _. (g.m_small, g.n_small));
          waiting = each_slot (λ _ a b. cell met' a b ≡ 1) (λ j l. kept _ _ (h.waiting j l)) (λ _. here);
          deep = each_slot (λ j a b. j ≤ smaller ps a b + 1) h.deep late;
          traced = λ a b la lb e. by_cases (dec_lt (cell met a b) 1)
              (λ f. inr (inr (inl (fresh_waits a b f (fresh a b la lb f e)))))
              (λ f. let bit = cell-le met a b in carried a b (h.traced a b la lb (omega arith)));
          right = λ t a b la lb e. by_cases (dec_lt (cell met a b) 1)
              (λ f. let same = fresh a b la lb f e in rw (same.0, same.1) (sound t).1)
              (λ f. let bit = cell-le met a b in h.right (sound t).0 a b la lb (omega arith));
        }

-- ---------------------------------------------------------------------------
-- A pair is expanded

module _ {ps hs ls : List ℕ} (pairs : Pairs ps hs ls) where
  end_position : (n : ℕ) → n < 2 → get_or ps n 0 ≡ end_of ps
  unfolding end_of
  end_position zero l = refl
  end_position (suc zero) l = pairs.ends
  end_position (suc (suc n)) l = absurd (omega arith)

  -- an end leads to false beside an end
  ends_next : (b : Bool) (m n : ℕ) → m < 2 → n < 2 → next ps (cond b hs ls) m n ≡ 0
  ends_next b m n l k =
      rw (le-leb (get_or ps m 0) (get_or ps n 0) (omega (arith, end_position m l, end_position n k))) (zero-ends b)
    where
      zero-ends : (b : Bool) → get_or (cond b hs ls) m 0 ≡ 0
      zero-ends true = pairs.high_ends m l
      zero-ends false = pairs.low_ends m l

  module _ (m n : ℕ) (lm : m < 256) (ln : n < 256) where
    -- where m implies n, so do both pairs that they lead to
    implied_next : implies (end_of ps) (records_of ps hs ls) m n ≡ true → (implies (end_of ps) (records_of ps hs ls) (next ps hs m n) (next ps hs n m) ≡ true) × (implies (end_of ps) (records_of ps hs ls) (next ps ls m n) (next ps ls n m) ≡ true)
    implied_next e =
        by_cases (dec_lt (max m n) 2)
        (λ l. (rw (ends_next true m n (omega arith) (omega arith)) (implies_false_end _ _ _), rw (ends_next false m n (omega arith) (omega arith)) (implies_false_end _ _ _)))
        (λ l. both (implies (end_of ps) (records_of ps hs ls) (next ps hs m n) (next ps hs n m)) (sym (next_split (record { pairs = pairs; m_small = lm; n_small = ln; met = λ a b. l (omega arith) })) ∙ e))

    -- a pair that they lead to stands later, if it is new
    new_later : (met : List ℕ) {p q : ℕ} (b : Bool) → cell met 0 0 ≡ 1 → p ≡ next ps (cond b hs ls) m n → q ≡ next ps (cond b hs ls) n m → cell met p q < 1 → smaller ps m n < smaller ps p q
    new_later met {p} {q} b origin ep eq new =
        by_cases (dec_lt (max m n) 2)
        (λ l.
        let zp : p ≡ 0 = ep ∙ ends_next b m n (omega arith) (omega arith) in
        let zq : q ≡ 0 = eq ∙ ends_next b n m (omega arith) (omega arith) in
        absurd (omega (arith, origin, rw (zp, zq) at new)))
        (λ l. rw (ep, eq) (next-later (record { pairs = pairs; m_small = lm; n_small = ln; met = λ i j. l (omega arith) }) b))

-- the pair on top
module _ {ps hs ls met : List ℕ} {stack : List Pair} {a b top m n : ℕ} (h : Stack ps hs ls met stack a b 0 0 (suc top)) (first : m ≡ first_at stack top) (second : n ≡ second_at stack top) where
  on_stack : top < suc top
  on_stack = omega arith

  m_within : m < 256
  m_within = rw first (h.small top on_stack).0

  n_within : n < 256
  n_within = rw second (h.small top on_stack).1

  -- it stands late enough
  top_late : top ≤ smaller ps m n + 1
  top_late = rw (first, second) (h.deep top on_stack)

  -- both pairs that it leads to imply if the pair that was asked does
  sound : implies (end_of ps) (records_of ps hs ls) a b ≡ true → (implies (end_of ps) (records_of ps hs ls) (next ps hs m n) (next ps hs n m) ≡ true) × (implies (end_of ps) (records_of ps hs ls) (next ps ls m n) (next ps ls n m) ≡ true)
  sound t =
      let l = h.small top on_stack in
      let e = h.right t _ _ l.0 l.1 (h.waiting top on_stack) in
      implied_next h.pairs m n m_within n_within (rw (first, second) e)

  -- it is taken off
  pub take : Stack ps hs ls met stack a b m n top
  take =
      let shallow = h.room.shallow in
      record {
        pairs = h.pairs;
        room = record {
          size = h.room.size;
          stack_size = h.room.stack_size;
          shallow = omega arith;
        };
        asked = h.asked;
        origin = h.origin;
        small = λ j l. h.small j (omega arith);
        waiting = λ j l. h.waiting j (omega arith);
        deep = λ j l. h.deep j (omega arith);
        traced = λ p q lp lq e. off p q (h.traced p q lp lq e);
        right = h.right;
      }
    where
      off : (p q : ℕ) → AtOnce p q ⊎ (Expanded ps hs ls met p q ⊎ (Waits stack (suc top) p q ⊎ ((p ≡ 0) × (q ≡ 0)))) → AtOnce p q ⊎ (Expanded ps hs ls met p q ⊎ (Waits stack top p q ⊎ ((p ≡ m) × (q ≡ n))))
      off p q (inl e) = inl e
      off p q (inr (inl e)) = inr (inl e)
      off p q (inr (inr (inl w))) = inr (inr (by_cases (dec_lt w.slot top)
          (λ l. inl (record { slot = w.slot; below = l; first = w.first; second = w.second }))
          (λ l.
          let below = w.below in
          let e : w.slot ≡ top = omega arith in
          inr (sym w.first ∙ rw e (sym first), sym w.second ∙ rw e (sym second)))))
      off p q (inr (inr (inr e))) = inl (inl e.0)

-- a pair that was taken off is expanded where both pairs that it leads to have been met
expanded : {ps hs ls met : List ℕ} {stack : List Pair} {a b m n depth : ℕ} → Stack ps hs ls met stack a b m n depth → Expanded ps hs ls met m n → Stack ps hs ls met stack a b 0 0 depth
expanded {ps} {hs} {ls} {met} {stack} {m} {n} {depth} h on =
    record {
      pairs = h.pairs;
      room = h.room;
      asked = h.asked;
      origin = h.origin;
      small = h.small;
      waiting = h.waiting;
      deep = h.deep;
      traced = λ p q lp lq e. past p q (h.traced p q lp lq e);
      right = h.right;
    }
  where
    past : (p q : ℕ) → AtOnce p q ⊎ (Expanded ps hs ls met p q ⊎ (Waits stack depth p q ⊎ ((p ≡ m) × (q ≡ n)))) → AtOnce p q ⊎ (Expanded ps hs ls met p q ⊎ (Waits stack depth p q ⊎ ((p ≡ 0) × (q ≡ 0))))
    past p q (inl e) = inl e
    past p q (inr (inl e)) = inr (inl e)
    past p q (inr (inr (inl w))) = inr (inr (inl w))
    past p q (inr (inr (inr (i, j)))) = inr (inl (rw (i, j) on))

-- the pair on top is expanded: first the pair that it leads to by high children is met, then the one by low children
module _ {ps hs ls met met₁ : List ℕ} {stack stack₁ : List Pair} {a b top depth₁ m n high-m high-n : ℕ} (h : Stack ps hs ls met stack a b 0 0 (suc top)) (first : m ≡ first_at stack top) (second : n ≡ second_at stack top) (hm : high-m ≡ next ps hs m n) (hn : high-n ≡ next ps hs n m) (g : Meeting met stack top high-m high-n met₁ stack₁ depth₁) where
  off_top : Stack ps hs ls met stack a b m n top
  off_top = take h first second

  pub expand_high : Stack ps hs ls met₁ stack₁ a b m n depth₁
  expand_high =
      meet off_top g
      (λ new. omega (arith, top_late h first second, new_later h.pairs m n (m_within h first second) (n_within h first second) met true h.origin hm hn new))
      a b (kept off_top g a b h.asked) (λ t. (t, rw (hm, hn) (sound h first second t).0))

  module _ {met₂ : List ℕ} {stack₂ : List Pair} {depth₂ low-m low-n : ℕ} (lm : low-m ≡ next ps ls m n) (ln : low-n ≡ next ps ls n m) (g₂ : Meeting met₁ stack₁ depth₁ low-m low-n met₂ stack₂ depth₂) where
    pub expand_both : Stack ps hs ls met₂ stack₂ a b 0 0 depth₂
    expand_both =
        let end = g.end in
        let q = meet expand_high g₂
        (λ new. omega (arith, top_late h first second, new_later h.pairs m n (m_within h first second) (n_within h first second) met₁ false expand_high.origin lm ln new))
        a b (kept expand_high g₂ a b expand_high.asked) (λ t. (t, rw (lm, ln) (sound h first second t).1)) in
        expanded q (record {
          high = rw (← hm, ← hn) (kept expand_high g₂ _ _ (here off_top g));
          low = rw (← lm, ← ln) (here expand_high g₂);
        })

    pub expand_left : zeros met₂ + depth₂ ≡ zeros met + top
    expand_left = met_left expand_high g₂ ∙ met_left off_top g

-- ---------------------------------------------------------------------------
-- The end

module _ {ps hs ls met : List ℕ} {stack : List Pair} {a b : ℕ} (h : Stack ps hs ls met stack a b 0 0 0) where
  -- the pair of true and false does not imply
  refuted : cell met 1 0 ≡ 1 → implies (end_of ps) (records_of ps hs ls) a b ≡ false
  refuted e =
      eq-false_of_not-eq-true (λ t. false≢true (sym (implies-ends _ _) ∙ h.right t 1 0 (omega arith) (omega arith) e))

  module _ (apart : cell met 1 0 ≡ 1 → ⊥) where
    ends_imply : (m n : ℕ) → m < 2 → n < 2 → cell met m n ≡ 1 → implies (end_of ps) (records_of ps hs ls) m n ≡ true
    ends_imply zero n l k e = implies_false_end _ _ n
    ends_imply (suc zero) zero l k e = absurd (apart e)
    ends_imply (suc zero) (suc zero) l k e = implies_true_end _ _ 1
    ends_imply (suc zero) (suc (suc n)) l k e = absurd (omega arith)
    ends_imply (suc (suc m)) n l k e = absurd (omega arith)

    -- a pair met implies where all pairs met of a smaller sum do
    by_smaller : (m n : ℕ) → m < 256 → n < 256 → cell met m n ≡ 1 → ((p q : ℕ) → p + q < m + n → p < 256 → q < 256 → cell met p q ≡ 1 → implies (end_of ps) (records_of ps hs ls) p q ≡ true) → AtOnce m n ⊎ (Expanded ps hs ls met m n ⊎ (Waits stack 0 m n ⊎ ((m ≡ 0) × (n ≡ 0)))) → implies (end_of ps) (records_of ps hs ls) m n ≡ true
    by_smaller m n lm ln e smaller (inl k) = at_once _ _ m n k
    by_smaller m n lm ln e smaller (inr (inl k)) =
        by_cases (dec_lt (max m n) 2)
        (λ l. ends_imply m n (omega arith) (omega arith) e)
        (λ l.
        let pair : Meets ps hs ls m n = record { pairs = h.pairs; m_small = lm; n_small = ln; met = λ i j. l (omega arith) } in
        let high_le = next_le pair true in
        let low-le = next_le pair false in
        next_split pair ∙ and_true_both _ _ (smaller _ _ (next_less pair true) (omega arith) (omega arith) k.high) (smaller _ _ (next_less pair false) (omega arith) (omega arith) k.low))
    by_smaller m n lm ln e smaller (inr (inr (inl w))) = absurd (omega (arith, w.below))
    by_smaller m n lm ln e smaller (inr (inr (inr k))) = at_once _ _ m n (inl k.0)

    settled : (f m n : ℕ) → m + n < f → m < 256 → n < 256 → cell met m n ≡ 1 → implies (end_of ps) (records_of ps hs ls) m n ≡ true
    settled zero m n l lm ln e = absurd (omega arith)
    settled (suc f) m n l lm ln e = by_smaller m n lm ln e (λ p q k. settled f p q (omega arith)) (h.traced m n lm ln e)

    all_imply : (m n : ℕ) → m < 256 → n < 256 → cell met m n ≡ 1 → implies (end_of ps) (records_of ps hs ls) m n ≡ true
    all_imply m n = settled (suc (m + n)) m n (omega arith)

    -- so all pairs met imply with no more being asked
    idle : Stack ps hs ls met stack 0 0 0 0 0
    idle =
        record {
          pairs = h.pairs;
          room = h.room;
          asked = h.origin;
          origin = h.origin;
          small = h.small;
          waiting = h.waiting;
          deep = h.deep;
          traced = h.traced;
          right = λ _. all_imply;
        }

-- ---------------------------------------------------------------------------
-- A record

-- the pair of a record's children is met
pub ask : {ps hs ls met met' : List ℕ} {stack stack' : List Pair} {depth depth' m n : ℕ} → depth ≡ 0 → Stack ps hs ls met stack 0 0 0 0 0 → Meeting met stack depth m n met' stack' depth' → Stack ps hs ls met' stack' m n 0 0 depth'
ask {ps} {hs} {ls} {met} {met'} {stack} {stack'} {depth} {depth'} {m} {n} none h g =
    let here' : Stack ps hs ls met stack 0 0 0 0 depth = rw none h in
    meet here' g (λ _. omega arith) m n (here here' g) (λ t. (implies_false_end _ _ 0, t))

-- what passing on all pairs that record k leads to gives: the pair of true and false is met where the record is not monotone, and
-- else all pairs met imply
pub record Drained (d : Decoded) (met : List ℕ) (stack : List Pair) (k : ℕ) : Type 0 where
  pub fault : cell met 1 0 ≡ 1 → false ≡ is_monotone_at (table_in d) k
  pub passes : (cell met 1 0 ≡ 1 → ⊥) → (true ≡ is_monotone_at (table_in d) k) × Stack d.positions d.high d.low met stack 0 0 0 0 0

-- after the pair of record k's children is met, and then all pairs of the stack and those that they lead to
pub drained : {d : Decoded} → Checkable d → {k lo hi : ℕ} {w w' w″ : Worklist} → k < d.records → lo ≡ asked_node d.words d.positions d.low k → hi ≡ asked_node d.words d.positions d.high k → w.depth ≡ 0 → Stack d.positions d.high d.low w.met w.stack 0 0 0 0 0 → lo < 256 → hi < 256 → Adds w w' lo hi → Kept d w' w″ → w″.depth ≡ 0 → Drained d w″.met w″.stack k
drained held {k} l elo ehi none before m_small n_small adds kept empty =
    let g = meeting m_small n_small adds in
    let h = rw empty at (kept _ _ (ask none before g)) in
    record {
      fault = λ e. held-asked held k l elo ehi (sym (refuted h e));
      passes = λ e. (held-asked held k l elo ehi (sym (all_imply h e _ _ g.m_small g.n_small h.asked)), idle h e);
    }
