-- The first place of a plan at fault, as a search through its marks finds it.
-- Assumes nothing.
use Prim.Native.Nat.{ℕ, suc, ◌+◌, ◌<◌}
use native.Mathlib.Nat.{add-zero, zero-add}
use native.Mathlib.Omega.{arith}
use mathlib.Core.Path.{◌≡◌, refl, ap, ◌∙◌}
use mathlib.Core.Bool.{Bool, true, false}
use mathlib.Core.List.{List, [], ◌∷◌}
use lib.ListN.{length, get_or}
use Rattle.std.specs.List.{position, position_from}
use Rattle.std.proofs.lemmas.Iterator.Adapters.{position_from-zero}
use Rattle.diagram.specs.Checks.{first_place}
use Rattle.steps.specs.Steps.{fault_of}

-- a search from index i on
place-from : (test fault : ℕ → Bool) (i : ℕ) (xs : List ℕ) → ((k : ℕ) → k < length xs → fault (i + k) ≡ test (get_or xs k 0)) → position_from test i xs ≡ fault_of (first_place fault i (length xs))
unfolding fault_of first_place
place-from test fault i [] same = refl
place-from test fault i (x ∷ xs) same =
    go (test x) refl (place-from test fault (i + 1) xs (λ k l. let on : i + 1 + k ≡ i + suc k = omega arith in rw on (same (suc k) (omega arith))))
  where
    here : fault i ≡ test x
    here = rw add-zero at (same 0 (omega arith))

    go : (b : Bool) → test x ≡ b → position_from test (i + 1) xs ≡ fault_of (first_place fault (i + 1) (length xs)) → position_from test i (x ∷ xs) ≡ fault_of (first_place fault i (suc (length xs)))
    go true e rest = rw (e, here, e, first_place) refl
    go false e rest =
        let on : suc i ≡ i + 1 = omega arith in
        rw (e, here, e, first_place, on) rest

pub place-position : (test : ℕ → Bool) (xs : List ℕ) → position test xs ≡ fault_of (first_place (λ i. test (get_or xs i 0)) 0 (length xs))
place-position test xs =
    position_from-zero test xs
    ∙ place-from test (λ i. test (get_or xs i 0)) 0 xs (λ k l. ap (λ (i : ℕ). test (get_or xs i 0)) (zero-add k))
