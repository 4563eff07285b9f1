-- What the demands say of completions, passing and leaving, in the terms of the definitions: their completions are the elements of `completions`, so that
-- the two claims that no completion is of some kind are tests over that list.
-- Assumes nothing.
use Prim.Native.Nat.{ℕ, zero, suc, ◌<◌}
use native.Mathlib.Omega.{arith}
use mathlib.Core.Path.{◌≡◌, refl, sym, ◌∙◌}
use mathlib.Core.Bool.{Bool, true, false, not, ◌&&◌, false≢true}
use mathlib.Core.Logic.{◌⊎◌, inl, inr, ◌↔◌}
use mathlib.Core.List.{List, [], ◌∷◌}
use lib.ListN.{length, get_or}
use borrow.Author.Tests.{leb-true, le-leb, eqb-true, eq-eqb, ne_eqb, not-true}
use Rattle.diagram.specs.Table.{table_of}
use Rattle.diagram.specs.Plans.{completions, is_open, leaves, none_of, passing, passes, Completes, complete, takes, leaves_open, keeps}
use Rattle.diagram.proofs.Every.{both, and_true_both}
use Rattle.diagram.proofs.Rising.{all-complete, each_complete}
use Rattle.theorems.specs.Plans.{Open, Completion, NonePasses, NoneLeaves}

-- ---------------------------------------------------------------------------
-- Open lines

-- within a plan the default is not read
get_or_inside : (p : List ℕ) (i : ℕ) → i < length p → get_or p i 1 ≡ get_or p i 0
get_or_inside [] i l = absurd (omega arith)
get_or_inside (m ∷ p) zero l = refl
get_or_inside (m ∷ p) (suc i) l = get_or_inside p i (omega arith)

module _ (p : List ℕ) (i : ℕ) where
  -- an open line's test holds
  pub open_test : Open p i → is_open p i ≡ true
  unfolding is_open
  open_test o = eq-eqb _ 0 (get_or_inside p i o.0 ∙ o.1)

  module _ (l : i < length p) where
    -- a line whose test holds is open
    pub test_open : is_open p i ≡ true → Open p i
    unfolding is_open
    test_open e = (l, sym (get_or_inside p i l) ∙ eqb-true _ 0 e)

    -- the test of a line that is not open fails
    pub closed_test : (get_or p i 0 ≡ 0 → ⊥) → is_open p i ≡ false
    unfolding is_open
    closed_test n = ne_eqb _ 0 (λ e. n (sym (get_or_inside p i l) ∙ e))

-- ---------------------------------------------------------------------------
-- Completions

-- a completion without its first mark
later : {m x : ℕ} {p c : List ℕ} → Completion (m ∷ p) (x ∷ c) → Completion p c
later h =
    record {
      size = let s = h.size in omega arith;
      settled = λ i o. h.settled (suc i) (let l = o.0 in omega arith, o.1);
      kept = λ i l n. h.kept (suc i) (omega arith) n;
    }

-- an open line is settled one way or the other
settles : {x : ℕ} {p c : List ℕ} → (x ≡ 1) ⊎ (x ≡ 2) → Completes p c → Completes (0 ∷ p) (x ∷ c)
settles (inl e) k = rw e (takes k)
settles (inr e) k = rw e (leaves_open k)

-- a completion is an element of `completions`
pub completion_completes : (p c : List ℕ) → Completion p c → Completes p c
completion_completes [] [] h = complete
completion_completes [] (x ∷ c) h = absurd (omega (arith, h.size))
completion_completes (m ∷ p) [] h = absurd (omega (arith, h.size))
completion_completes (zero ∷ p) (x ∷ c) h = settles (h.settled 0 (omega arith, refl)) (completion_completes p c (later h))
completion_completes (suc m ∷ p) (x ∷ c) h = rw (h.kept 0 (omega arith) (λ e. omega arith)) (keeps (completion_completes p c (later h)))

-- a completion with one more mark in front
earlier : (m x : ℕ) {p c : List ℕ} → (m ≡ 0 → (x ≡ 1) ⊎ (x ≡ 2)) → ((m ≡ 0 → ⊥) → x ≡ m) → Completion p c → Completion (m ∷ p) (x ∷ c)
earlier m x {p} {c} first same h = record { size = let s = h.size in omega arith; settled = by_line; kept = other }
  where
    by_line : (i : ℕ) → Open (m ∷ p) i → (get_or (x ∷ c) i 0 ≡ 1) ⊎ (get_or (x ∷ c) i 0 ≡ 2)
    by_line zero o = first o.1
    by_line (suc i) o = h.settled i (let l = o.0 in omega arith, o.1)

    other : (i : ℕ) → i < length (m ∷ p) → (get_or (m ∷ p) i 0 ≡ 0 → ⊥) → get_or (x ∷ c) i 0 ≡ get_or (m ∷ p) i 0
    other zero l n = same n
    other (suc i) l n = h.kept i (omega arith) n

-- an element of `completions` is a completion
pub completes_completion : {p c : List ℕ} → Completes p c → Completion p c
completes_completion complete = record { size = refl; settled = λ i o. absurd (omega (arith, o.0)); kept = λ i l n. refl }
completes_completion (takes k) = earlier 0 1 (λ e. inl refl) (λ n. absurd (n refl)) (completes_completion k)
completes_completion (leaves_open k) = earlier 0 2 (λ e. inr refl) (λ n. absurd (n refl)) (completes_completion k)
completes_completion (keeps {m} k) = earlier (suc m) (suc m) (λ e. absurd (omega arith)) (λ n. refl) (completes_completion k)

-- ---------------------------------------------------------------------------
-- No completion is of some kind

-- the negation of a test that cannot hold
not_so : (b : Bool) → (b ≡ true → ⊥) → not b ≡ true
not_so true h = absurd (h refl)
not_so false h = refl

-- a test holds of no element of `completions` exactly when it holds of no completion
none_test : (f : List ℕ → Bool) (p : List ℕ) → (none_of f (completions p) ≡ true) ↔ ((c : List ℕ) → Completion p c → f c ≡ true → ⊥)
unfolding none_of
none_test f p = (
  λ e c h t. false≢true (sym (not-true (f c) (each_complete (λ x. not (f x)) p c e (completion_completes p c h))) ∙ t),
  λ n. all-complete (λ x. not (f x)) p (λ c k. not_so (f c) (n c (completes_completion k))),
)

module _ (s : List ℕ) (percent : ℕ) (p : List ℕ) where
  -- no completion passes
  pub no_way_passes_lem : (none_of (passing (table_of s) percent) (completions p) ≡ true) ↔ NonePasses s p percent
  unfolding passing passes
  no_way_passes_lem =
      let law = none_test (passing (table_of s) percent) p in
      (λ e c h l. law.0 e c h (le-leb _ _ l), λ n. law.1 (λ c h t. n c h (leb-true _ _ t)))

  -- no passing completion leaves line i
  pub no_way_leaves : (i : ℕ) → (none_of (λ c. passing (table_of s) percent c && leaves c i) (completions p) ≡ true) ↔ NoneLeaves s p percent i
  unfolding passing passes leaves
  no_way_leaves i =
      let law = none_test (λ c. passing (table_of s) percent c && leaves c i) p in (
        λ e c h l x. law.0 e c h (and_true_both _ _ (le-leb _ _ l) (eq-eqb _ 2 x)),
        λ n. law.1 (λ c h t. let r = both (passing (table_of s) percent c) t in n c h (leb-true _ _ r.0) (eqb-true _ 2 r.1)),
      )
