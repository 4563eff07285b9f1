-- `implies` is implication under every settling, and it goes by pairs of children.
-- Assumes of the records what check 17 finds, where a law says so: see `Formed`.
use Prim.Native.Nat.{ℕ, zero, suc, ◌≤◌, ◌<◌}
use native.Mathlib.Nat.{le_refl}
use native.Mathlib.Omega.{arith}
use mathlib.Core.Path.{◌≡◌, refl, ap, sym, ◌∙◌}
use mathlib.Core.Bool.{Bool, true, false, cond, ◌&&◌, false≢true, and-eq-true_iff}
use mathlib.Core.Logic.{◌↔◌}
use mathlib.Core.List.{List, [], ◌∷◌}
use mathlib.Mathlib.Data.Bool.Basic.{eq-false_of_not-eq-true}
use lib.ListN.{length, get_or}
use lib.Dec.{eqb}
use borrow.Author.Tests.{eqb-true, eqb-false, eq-eqb, ne_eqb}
use Rattle.diagram.specs.Table.{Record, record_at}
use Rattle.diagram.specs.Score.{walk, truth, assignments, every, implies}
use Rattle.diagram.specs.Checks.{position_of}
use Rattle.diagram.specs.Validity.{Formed}
use Rattle.diagram.proofs.Every.{implied, implication, both_ways, all-every, each_assignment}
use Rattle.diagram.proofs.Truth.{child_less, truth_false, truth_true, truth_step}
use Rattle.diagram.proofs.Locality.{child_later, truth-within}

-- ---------------------------------------------------------------------------
-- Every assignment

-- the assignment of v variables that settles variable i as g i
settled : (v : ℕ) → (ℕ → Bool) → List Bool
settled zero g = []
settled (suc v) g = g 0 ∷ settled v (λ i. g (suc i))

settled_at : (v : ℕ) (g : ℕ → Bool) (i : ℕ) → i < v → get_or (settled v g) i false ≡ g i
unfolding settled
settled_at zero g i l = absurd (omega arith)
settled_at (suc v) g zero l = refl
settled_at (suc v) g (suc i) l = settled_at v (λ j. g (suc j)) i (omega arith)

settled-length : (v : ℕ) (g : ℕ → Bool) → length (settled v g) ≡ v
unfolding settled
settled-length zero g = refl
settled-length (suc v) g = ap suc (settled-length v (λ i. g (suc i)))

every-settled : (v : ℕ) (g : ℕ → Bool) (test : List Bool → Bool) → every test (assignments v) ≡ true → test (settled v g) ≡ true
every-settled v g test h = each_assignment test (settled v g) v (settled-length v g) h

-- ---------------------------------------------------------------------------
-- Implication under every settling

pub all-implies : (v : ℕ) (rs : List Record) (m n : ℕ) → ((s : List Bool) → truth rs s m ≡ true → truth rs s n ≡ true) → implies v rs m n ≡ true
unfolding implies
all-implies v rs m n h = all-every _ (λ s. implication (truth rs s m) _ (h s)) (assignments v)

-- a settling of any length is, on the v variables, one of the assignments
pub implies-all : {v : ℕ} {rs : List Record} → Formed v rs → (m n : ℕ) → implies v rs m n ≡ true → (s : List Bool) → truth rs s m ≡ true → truth rs s n ≡ true
unfolding implies
implies-all {v} {rs} h m n i s e =
    let u = settled v (λ i. get_or s i false) in
    let same : (k : ℕ) → truth rs u k ≡ truth rs s k = λ k. truth-within h u s k (λ i _ l. settled_at v _ i l) in
    sym (same n) ∙ implied (truth rs u m) (every-settled v _ _ i) (same m ∙ e)

pub implies_false_end : (v : ℕ) (rs : List Record) (n : ℕ) → implies v rs 0 n ≡ true
implies_false_end v rs n = all-implies v rs 0 n (λ s e. absurd (false≢true (sym (truth_false rs s) ∙ e)))

pub implies_true_end : (v : ℕ) (rs : List Record) (m : ℕ) → implies v rs m 1 ≡ true
implies_true_end v rs m = all-implies v rs m 1 (λ s _. truth_true rs s)

pub implies-same : (v : ℕ) (rs : List Record) (n : ℕ) → implies v rs n n ≡ true
implies-same v rs n = all-implies v rs n n (λ _ e. e)

pub implies-ends : (v : ℕ) (rs : List Record) → implies v rs 1 0 ≡ false
unfolding implies truth walk
implies-ends v rs = eq-false_of_not-eq-true (λ e. false≢true (every-settled v (λ _. false) _ e))

-- ---------------------------------------------------------------------------
-- Children

unfoldable pub hi_of : List Record → ℕ → ℕ
hi_of rs zero = 0
hi_of rs (suc zero) = 0
hi_of rs (suc (suc k)) = (record_at rs k).hi

unfoldable pub lo_of : List Record → ℕ → ℕ
lo_of rs zero = 0
lo_of rs (suc zero) = 0
lo_of rs (suc (suc k)) = (record_at rs k).lo

-- node n's child by arc b where n stands at position x, and n itself elsewhere
unfoldable pub follow : (v : ℕ) → List Record → (x : ℕ) → Bool → ℕ → ℕ
follow v rs x b n = cond (eqb (position_of v rs n) x) (cond b (hi_of rs n) (lo_of rs n)) n

-- what holds of a record at x with its child, and of a node elsewhere with itself, holds of each node with what it leads to
follow_case : (v : ℕ) (rs : List Record) (x : ℕ) (b : Bool) (P : ℕ → ℕ → Type 0) → x < v → ((k : ℕ) → (record_at rs k).position ≡ x → P (suc (suc k)) (cond b (record_at rs k).hi (record_at rs k).lo)) → ((n : ℕ) → (position_of v rs n ≡ x → ⊥) → P n n) → (n : ℕ) → P n (follow v rs x b n)
unfolding follow hi_of lo_of position_of
follow_case v rs x b P l here elsewhere zero = rw (ne_eqb v x (λ e. omega arith)) (elsewhere 0 (λ e. omega arith))
follow_case v rs x b P l here elsewhere (suc zero) = rw (ne_eqb v x (λ e. omega arith)) (elsewhere 1 (λ e. omega arith))
follow_case v rs x b P l here elsewhere (suc (suc k)) = go (eqb (record_at rs k).position x) refl
  where
    go : (t : Bool) → eqb (record_at rs k).position x ≡ t → P (suc (suc k)) (cond t (cond b (record_at rs k).hi (record_at rs k).lo) (suc (suc k)))
    go true e = here k (eqb-true _ _ e)
    go false e = elsewhere (suc (suc k)) (eqb-false _ _ e)

module _ {v : ℕ} {rs : List Record} (h : Formed v rs) where
  pub follow-le : (x : ℕ) (b : Bool) (n : ℕ) → x < v → follow v rs x b n ≤ n
  follow-le x b n l = follow_case v rs x b (λ m c. c ≤ m) l (λ k e. omega (arith, child_less h b k)) (λ m e. le_refl m) n

  pub follow_less : (b : Bool) (n : ℕ) → position_of v rs n < v → follow v rs (position_of v rs n) b n < n
  follow_less b n l = follow_case v rs (position_of v rs n) b (λ m c. position_of v rs m ≡ position_of v rs n → c < m) l (λ k e _. omega (arith, child_less h b k)) (λ m d e. absurd (d e)) n refl

  -- what a node leads to at x stands after x
  pub follow-later : (x : ℕ) (b : Bool) (n : ℕ) → x < v → x ≤ position_of v rs n → x < position_of v rs (follow v rs x b n)
  follow-later x b n l = follow_case v rs x b (λ m c. x ≤ position_of v rs m → x < position_of v rs c) l (λ k e _. omega (arith, child_later h b k)) (λ m d p. omega arith) n

-- ---------------------------------------------------------------------------
-- Implication by pairs of children

module _ {v : ℕ} {rs : List Record} (h : Formed v rs) where
  -- the truth of a node is that of what the settling leads to at position x
  pub truth-follow : (s : List Bool) (x n : ℕ) → x < v → truth rs s n ≡ truth rs s (follow v rs x (get_or s x false) n)
  truth-follow s x n l = follow_case v rs x (get_or s x false) (λ m c. truth rs s m ≡ truth rs s c) l (λ k e. rw (← e) (truth_step h s k)) (λ _ _. refl) n

  -- settle variable x as b: the truth of a node that does not stand before x is that of what b leads to
  put-truth : (s : List Bool) (x : ℕ) (b : Bool) (n : ℕ) → x < v → x ≤ position_of v rs n → truth rs (settled v (λ i. cond (eqb i x) b (get_or s i false))) n ≡ truth rs s (follow v rs x b n)
  put-truth s x b n l p =
      let g : ℕ → Bool = λ i. cond (eqb i x) b (get_or s i false) in
      let later = follow-later h x b n l p in
      let at_x : get_or (settled v g) x false ≡ b = settled_at v g x l ∙ rw (eq-eqb x x refl) in
      rw (truth-follow (settled v g) x n l, at_x)
      (truth-within h (settled v g) s (follow v rs x b n) (λ i q m. settled_at v g i m ∙ rw (ne_eqb i x (λ e. omega arith))))

  -- a pair of nodes implies where, at position x, both pairs that it leads to do
  pub implies_split : (x m n : ℕ) → x < v → x ≤ position_of v rs m → x ≤ position_of v rs n → implies v rs m n ≡ (implies v rs (follow v rs x true m) (follow v rs x true n) && implies v rs (follow v rs x false m) (follow v rs x false n))
  implies_split x m n l p q = both_ways _ _ (λ e. both.1 (down e true, down e false)) (λ e. up (both.0 e))
    where
      pair : Bool → Bool
      pair b = implies v rs (follow v rs x b m) (follow v rs x b n)

      both : ((pair true && pair false) ≡ true) ↔ ((pair true ≡ true) × (pair false ≡ true))
      both = and-eq-true_iff (pair true) (pair false)

      down : implies v rs m n ≡ true → (b : Bool) → pair b ≡ true
      down e b = all-implies v rs _ _ (λ s t. sym (put-truth s x b n l q) ∙ implies-all h m n e _ (put-truth s x b m l p ∙ t))

      by_arc : (pair true ≡ true) × (pair false ≡ true) → (b : Bool) → pair b ≡ true
      by_arc e true = e.0
      by_arc e false = e.1

      up : (pair true ≡ true) × (pair false ≡ true) → implies v rs m n ≡ true
      up e = all-implies v rs m n (λ s t. truth-follow s x n l ∙ implies-all h _ _ (by_arc e (get_or s x false)) s (sym (truth-follow s x m l) ∙ t))
