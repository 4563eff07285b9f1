-- A test says a fact when it holds exactly where the fact does: tests of numbers, and tests put together.
-- Assumes nothing.
use Prim.Native.Nat.{ℕ, ◌≤◌, ◌<◌}
use mathlib.Core.Path.{◌≡◌, refl}
use mathlib.Core.Bool.{Bool, true, false, not, ◌&&◌, ◌||◌, false≢true}
use mathlib.Core.Logic.{◌⊎◌, inl, inr, ⊎_elim, ◌↔◌}
use lib.Dec.{eqb, ltb, leb}
use borrow.Author.Tests.{ltb-true, lt-ltb, leb-true, le-leb, eqb-true, eq-eqb}

-- A test and the fact that it says
abbrev pub Says : Bool → Type 0 → Type 0
Says b P = (b ≡ true) ↔ P

pub says_less : (a b : ℕ) → Says (ltb a b) (a < b)
says_less a b = (ltb-true a b, lt-ltb a b)

pub says_most : (a b : ℕ) → Says (leb a b) (a ≤ b)
says_most a b = (leb-true a b, le-leb a b)

pub says_same : (a b : ℕ) → Says (eqb a b) (a ≡ b)
says_same a b = (eqb-true a b, eq-eqb a b)

module _ {P : Type 0} where
  -- the same fact in other words
  pub in_words : {Q : Type 0} (b : Bool) → Says b P → (P → Q) → (Q → P) → Says b Q
  in_words b s to from = (λ e. to (s.0 e), λ q. s.1 (from q))

  pub says_not : (b : Bool) → Says b P → Says (not b) (P → ⊥)
  says_not true s = (λ e. absurd (false≢true e), λ f. absurd (f (s.0 refl)))
  says_not false s = (λ e p. false≢true (s.1 p), λ f. refl)

  module _ {Q : Type 0} where
    pub says_both : (a b : Bool) → Says a P → Says b Q → Says (a && b) (P × Q)
    says_both true b s t = (λ e. (s.0 refl, t.0 e), λ k. t.1 k.1)
    says_both false b s t = (λ e. absurd (false≢true e), λ k. s.1 k.0)

    pub says_either : (a b : Bool) → Says a P → Says b Q → Says (a || b) (P ⊎ Q)
    says_either true b s t = (λ e. inl (s.0 refl), λ k. refl)
    says_either false b s t = (λ e. inr (t.0 e), ⊎_elim (λ p. absurd (false≢true (s.1 p))) (λ q. t.1 q))

    -- an implication, as a test has it
    pub says_then : (a b : Bool) → Says a P → Says b Q → Says (not a || b) (P → Q)
    says_then true b s t = (λ e p. t.0 e, λ f. t.1 (f (s.0 refl)))
    says_then false b s t = (λ e p. absurd (false≢true (s.1 p)), λ f. refl)
