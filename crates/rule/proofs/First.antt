-- The plan that `best_plan` finds by a fold over all candidates is first in document 01's ranking: it is a candidate that finishes the plan given, and it
-- ranks before every other one. None is found only where there is none.
-- Assumes nothing.
use Prim.Native.Nat.{ℕ, zero, suc}
use mathlib.Core.Path.{◌≡◌, refl, sym, ◌∙◌}
use mathlib.Core.Logic.{◌⊎◌, inl, inr, ⊎_elim}
use mathlib.Core.Bool.{Bool, true, false, cond, false≢true}
use mathlib.Mathlib.Data.Bool.Basic.{eq-false_of_not-eq-true}
use mathlib.Core.List.Memᴰ
use mathlib.Core.List.{List, [], ◌∷◌, ◌++◌, map, foldl, append-nil, append_assoc, Memᴰ}
use mathlib.Core.Option.{Option, none, some}
use Rattle.diagram.specs.Table.{Table}
use Rattle.diagram.specs.Plans.{completions, Completes, complete, takes, leaves_open, keeps}
use Rattle.diagram.specs.Ranking.{ranks_before, better, first_ranked, is_candidate, select, best_plan}
use Rattle.rule.proofs.Order.{ranks_transitive, ranks_total}

-- An element of a list of plans
abbrev In : List ℕ → List (List ℕ) → Type 0
In c cs = Memᴰ c cs

-- ---------------------------------------------------------------------------
-- The elements of `completions` and of `select`

-- those made by putting one mark in front
in_front : (m : ℕ) (cs : List (List ℕ)) (P : List ℕ → Type 0) → ((c : List ℕ) → In c cs → P (m ∷ c)) → {c : List ℕ} → In c (map (λ c. m ∷ c) cs) → P c
in_front m cs P h i = let r = Memᴰ.of_map (λ c. m ∷ c) cs i in rw (← r.2) (h r.0 r.1)

-- every element of `completions` completes the plan, and every plan that does is an element
in_completes : (p : List ℕ) {c : List ℕ} → In c (completions p) → Completes p c
unfolding completions
in_completes [] i = rw (Memᴰ.eq_of_singleton i) complete
in_completes (zero ∷ p) i =
    ⊎_elim
    (in_front 1 (completions p) (Completes (0 ∷ p)) (λ c j. takes (in_completes p j)))
    (in_front 2 (completions p) (Completes (0 ∷ p)) (λ c j. leaves_open (in_completes p j)))
    (Memᴰ.append_cases (map (λ c. 1 ∷ c) (completions p)) i)
in_completes (suc m ∷ p) i = in_front (suc m) (completions p) (Completes (suc m ∷ p)) (λ c j. keeps (in_completes p j)) i

completes_in : {p c : List ℕ} → Completes p c → In c (completions p)
unfolding completions
completes_in complete = Memᴰ.head refl
completes_in (takes k) = Memᴰ.append_left _ (Memᴰ.map (λ c. 1 ∷ c) (completes_in k))
completes_in (leaves_open {p} k) = Memᴰ.append_right (map (λ c. 1 ∷ c) (completions p)) (Memᴰ.map (λ c. 2 ∷ c) (completes_in k))
completes_in (keeps {m} k) = Memᴰ.map (λ c. suc m ∷ c) (completes_in k)

module _ (test : List ℕ → Bool) where
  -- the elements of `select` are those of the list that the test holds of
  in_select : (cs : List (List ℕ)) {c : List ℕ} → In c (select test cs) → In c cs × (test c ≡ true)
  unfolding select
  in_select [] i = absurd (Memᴰ.not-nil i)
  in_select (x ∷ cs) {c} i = go (in_select cs) (test x) refl i
    where
      go : (In c (select test cs) → In c cs × (test c ≡ true)) → (b : Bool) → test x ≡ b → In c (cond b (x ∷ select test cs) (select test cs)) → In c (x ∷ cs) × (test c ≡ true)
      go below true e (Memᴰ.head q) = (Memᴰ.head q, rw q e)
      go below true e (Memᴰ.tail j) = (Memᴰ.tail (below j).0, (below j).1)
      go below false e j = (Memᴰ.tail (below j).0, (below j).1)

  select_in : {c : List ℕ} {cs : List (List ℕ)} → In c cs → test c ≡ true → In c (select test cs)
  unfolding select
  select_in (Memᴰ.head q) h = rw (rw q at h) (Memᴰ.head q)
  select_in (Memᴰ.tail {x} j) h = go (test x) (select_in j h)
    where
      go : (b : Bool) {c : List ℕ} {cs : List (List ℕ)} → In c cs → In c (cond b (x ∷ cs) cs)
      go true j = Memᴰ.tail j
      go false j = j

-- ---------------------------------------------------------------------------
-- The fold

-- What is held is first of a list: it is in the list and ranks before every other of it; if nothing is held, the list is empty
abbrev Leads : Table → List (List ℕ) → Option (List ℕ) → Type 0
Leads t cs none = (c : List ℕ) → In c cs → ⊥
Leads t cs (some b) = In b cs × ((c : List ℕ) → In c cs → (c ≡ b) ⊎ (ranks_before t b c ≡ true))

-- an element of a list with one more at its end
or_last : (cs : List (List ℕ)) {x c : List ℕ} → In c (cs ++ (x ∷ [])) → In c cs ⊎ (c ≡ x)
or_last cs i = ⊎_elim inl (λ j. inr (Memᴰ.eq_of_singleton j)) (Memᴰ.append_cases cs i)

module _ (t : Table) (p : List ℕ) where
  -- what is held after one plan more is first of the longer list
  leads-next : (held : Option (List ℕ)) (cs : List (List ℕ)) (x : List ℕ) → ((c : List ℕ) → In c (cs ++ (x ∷ [])) → Completes p c) → Leads t cs held → Leads t (cs ++ (x ∷ [])) (better t held x)
  unfolding better
  leads-next none cs x whole l =
      (Memᴰ.append_right cs (Memᴰ.head refl), λ c i. ⊎_elim (λ j. absurd (l c j)) inl (or_last cs i))
  leads-next (some b) cs x whole l = go (ranks_before t x b) refl
    where
      held_in : In b (cs ++ (x ∷ []))
      held_in = Memᴰ.append_left (x ∷ []) l.0

      new_in : In x (cs ++ (x ∷ []))
      new_in = Memᴰ.append_right cs (Memᴰ.head refl)

      go : (before : Bool) → ranks_before t x b ≡ before → Leads t (cs ++ (x ∷ [])) (some (cond before x b))
      go true e =
          (new_in, λ c i. ⊎_elim (λ j. inr (⊎_elim (λ q. rw q e) (ranks_transitive t x b c e) (l.1 c j))) inl (or_last cs i))
      go false e =
          let after = ⊎_elim (λ h. absurd (false≢true (sym e ∙ h))) (λ r. r) (ranks_total t (whole x new_in) (whole b held_in)) in
          (held_in, λ c i. ⊎_elim (l.1 c) (λ q. rw q after) (or_last cs i))

  -- and so after a second list
  leads-all : (held : Option (List ℕ)) (cs ds : List (List ℕ)) → ((c : List ℕ) → In c (cs ++ ds) → Completes p c) → Leads t cs held → Leads t (cs ++ ds) (foldl (better t) held ds)
  leads-all held cs [] whole l = rw append-nil l
  leads-all held cs (x ∷ ds) whole l =
      let next = leads-next held cs x (λ c i. whole c (rw append_assoc at (Memᴰ.append_left ds i))) l in
      rw append_assoc at (leads-all (better t held x) (cs ++ (x ∷ [])) ds (λ c i. whole c (rw append_assoc at i)) next)

-- ---------------------------------------------------------------------------
-- The best plan

module _ (t : Table) (budget percent : ℕ) (p : List ℕ) where
  -- what `best_plan` finds is first of all candidates that finish the plan
  best-leads : Leads t (select (is_candidate t budget percent) (completions p)) (best_plan t budget percent p)
  unfolding best_plan first_ranked
  best-leads =
      leads-all t p none [] _ (λ c i. in_completes p (in_select (is_candidate t budget percent) (completions p) i).0) (λ c. Memᴰ.not-nil)

  -- each of them is in the list of the fold
  candidate_in : {c : List ℕ} → Completes p c → is_candidate t budget percent c ≡ true → In c (select (is_candidate t budget percent) (completions p))
  candidate_in k h = select_in (is_candidate t budget percent) (completes_in k) h

  -- the best plan is a candidate that finishes the plan given, and ranks before every other one
  pub best-first : (b : List ℕ) → best_plan t budget percent p ≡ some b → Completes p b × (is_candidate t budget percent b ≡ true) × ((c : List ℕ) → Completes p c → is_candidate t budget percent c ≡ true → (c ≡ b) ⊎ (ranks_before t b c ≡ true))
  best-first b e =
      let l = rw e at best-leads in
      let r = in_select (is_candidate t budget percent) (completions p) l.0 in
      (in_completes p r.0, r.1, λ c k h. l.1 c (candidate_in k h))

  -- there is a best plan where there is a candidate
  pub best-some : (c : List ℕ) → Completes p c → is_candidate t budget percent c ≡ true → best_plan t budget percent p ≡ none → ⊥
  best-some c k h e = (rw e at best-leads) c (candidate_in k h)

  -- without a best plan there is no candidate
  pub best_none : best_plan t budget percent p ≡ none → (c : List ℕ) → Completes p c → is_candidate t budget percent c ≡ false
  best_none e c k = eq-false_of_not-eq-true (λ h. best-some c k h e)
