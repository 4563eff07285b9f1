-- A list of checks in parts: a part that refuses decides, a part that hands on a value has passed each of its checks, and leaves the rest to decide.
-- Assumes nothing.
use Prim.Native.Nat.{ℕ}
use native.Mathlib.Omega.{arith}
use mathlib.Core.Path.{◌≡◌, refl, ap, sym, ◌∙◌}
use mathlib.Core.Option.{Option, none, some}
use mathlib.Core.List.{List, [], ◌∷◌, ◌++◌}
use Rattle.std.specs.Prelude.{Result, Ok, Err}
use Rattle.std.specs.Prelude as code
use Rattle.diagram.specs.Checks.{Check, table_checks}
use Rattle.diagram.specs.Services.{Outcome, refused, answered, checked, Reading, read_outcome}
use Rattle.diagram.proofs.Checked.{Among, first, later, answered_not_refused, checked-passes, checked_stops, checked-append, checked-answered, checked_refused, read-answers}
use Rattle.terms.specs.declared.refusal.Refusal.{Refusal}
use Rattle.terms.specs.Numbers.{reason_number}
use Rattle.steps.specs.declared.numbered.Numbered.{Numbered}
use Rattle.steps.specs.Steps.{fault_of, bounded_by, outcome_by, finding, and_then, and_within, measured, finding_after, measuring_after}

-- ---------------------------------------------------------------------------
-- A check's answer

pub fault-none : (o : Option ℕ) {r : code.Option ℕ} → r ≡ fault_of o → r ≡ code.None → o ≡ none
unfolding fault_of
fault-none none e q = refl
fault-none (some i) e q =
    let z : ◌≡◌ {A = ℕ} 0 1 = cc in
    absurd (omega arith)

pub fault-some : (o : Option ℕ) {r : code.Option ℕ} (i : ℕ) → r ≡ fault_of o → r ≡ code.Some i → o ≡ some i
unfolding fault_of
fault-some none i e q =
    let z : ◌≡◌ {A = ℕ} 0 1 = cc in
    absurd (omega arith)
fault-some (some j) i e q = cc

-- a number that has a limit
pub bounded-none : (o : Option ℕ) (x : ℕ) {b : Result ℕ ℕ} (y : ℕ) → b ≡ bounded_by o x → b ≡ Ok y → (o ≡ none) × (y ≡ x)
unfolding bounded_by
bounded-none none x y e q = (refl, cc)
bounded-none (some i) x y e q =
    let z : ◌≡◌ {A = ℕ} 0 1 = cc in
    absurd (omega arith)

pub bounded-some : (o : Option ℕ) (x : ℕ) {b : Result ℕ ℕ} (i : ℕ) → b ≡ bounded_by o x → b ≡ Err i → o ≡ some i
unfolding bounded_by
bounded-some none x i e q =
    let z : ◌≡◌ {A = ℕ} 0 1 = cc in
    absurd (omega arith)
bounded-some (some j) x i e q = cc

-- what a check has found, by its answer
pub ruleset found = (fault-none, fault-some, bounded-none, bounded-some)

-- ---------------------------------------------------------------------------
-- Lists in two parts

-- a list that answers has passed its first check, and the rest answers
first_passes : {A : Type 0} (c : Check) (cs : List Check) (answer : List ℕ → Outcome A) (s : List ℕ) (a : A) → checked (c ∷ cs) answer s ≡ answered a → (c.fault s ≡ none) × (checked cs answer s ≡ answered a)
first_passes c cs answer s a e = go (c.fault s) refl
  where
    go : (o : Option ℕ) → c.fault s ≡ o → (c.fault s ≡ none) × (checked cs answer s ≡ answered a)
    go none q = (q, sym (checked-passes c cs answer s q) ∙ e)
    go (some i) q = absurd (answered_not_refused a c.number i (sym e ∙ checked_stops c cs answer s i q))

-- and so each of its checks
pub passes_each : {A : Type 0} (c : Check) {cs : List Check} (answer : List ℕ → Outcome A) (s : List ℕ) (a : A) → checked cs answer s ≡ answered a → Among c cs → c.fault s ≡ none
passes_each c answer s a e first = (first_passes _ _ answer s a e).0
passes_each c answer s a e (later h) = passes_each c answer s a (first_passes _ _ answer s a e).1 h

-- what a result stands for, in each case
module _ {T A : Type 0} (f : T → A) {o : Outcome A} {p : Result T Refusal} (promise : outcome_by f p ≡ o) where
  pub refused_as : (r : Refusal) → p ≡ Err r → o ≡ refused (reason_number r.reason) r.place
  unfolding outcome_by
  refused_as r e = sym promise ∙ rw e refl

  pub answered_as : (x : T) → p ≡ Ok x → o ≡ answered (f x)
  unfolding outcome_by
  answered_as x e = sym promise ∙ rw e refl

-- a part of a list, by a result that stands for what it finds
module _ {T A : Type 0} (f : T → A) (cs : List Check) (a : A) (s : List ℕ) {p : Result T Refusal} (promise : outcome_by f p ≡ checked cs (λ _. answered a) s) where
  -- the value that is handed on
  pub part-value : (x : T) → p ≡ Ok x → f x ≡ a
  part-value x e =
      let found = answered_as f promise x e in
      let q : answered (f x) ≡ answered a = sym found ∙ checked-answered s cs (λ _. a) (f x) (λ _. answered a) found in
      cc

  -- each check of the part has passed
  pub part_passes : (x : T) → p ≡ Ok x → (number : ℕ) (fault : List ℕ → Option ℕ) → Among (record { number = number; fault = fault }) cs → fault s ≡ none
  part_passes x e number fault h =
      passes_each (record { number = number; fault = fault }) _ s (f x) (answered_as f promise x e) h

  module _ {B : Type 0} (ds : List Check) (answer : List ℕ → Outcome B) where
    -- a part that refuses decides
    pub part_stops : (r : Refusal) → p ≡ Err r → refused (reason_number r.reason) r.place ≡ checked (cs ++ ds) answer s
    part_stops r e =
        sym (checked-append s cs ds answer ∙ checked_refused s cs (λ _. a) _ _ (checked ds answer) (refused_as f promise r e))

    -- and one that does not leaves the rest to decide
    pub part_leaves : (x : T) → p ≡ Ok x → checked ds answer s ≡ checked (cs ++ ds) answer s
    part_leaves x e =
        sym (checked-append s cs ds answer ∙ checked-answered s cs (λ _. a) _ (checked ds answer) (answered_as f promise x e))

-- ---------------------------------------------------------------------------
-- A list after those of a table

module _ {A : Type 0} (s : List ℕ) (cs : List Check) (answer : List ℕ → Outcome A) (a : Reading) (read : read_outcome s ≡ answered a) {p : Result Unit Refusal} (promise : outcome_by (λ _. tt) p ≡ finding cs s) where
  pub request_passes : (x : Unit) → p ≡ Ok x → checked (table_checks ++ cs) answer s ≡ answer s
  request_passes x e = read-answers s cs answer a read ∙ checked-answered s cs (λ _. tt) tt answer (answered_as (λ _. tt) promise x e)

  pub request_stops : (r : Refusal) → p ≡ Err r → checked (table_checks ++ cs) answer s ≡ refused (reason_number r.reason) r.place
  request_stops r e = read-answers s cs answer a read ∙ checked_refused s cs (λ _. tt) _ _ answer (refused_as (λ _. tt) promise r e)

-- ---------------------------------------------------------------------------
-- Checks by number: a finding stands, a list in two parts is two lists, and a list that finds nothing has passed each check

pub refused_not_passes : {T : Type 0} (r : Numbered) (u : T) → ◌≡◌ {A = Result T Numbered} (Err r) (Ok u) → ⊥
refused_not_passes r u e =
    let z : ◌≡◌ {A = ℕ} 0 1 = cc in
    omega arith

-- what has been found stands
pub refusal_stands : (r : Numbered) (cs : List Check) (s : List ℕ) → finding_after (Err r) cs s ≡ Err r
unfolding finding_after and_then
refusal_stands r [] s = refl
refusal_stands r (c ∷ cs) s = refusal_stands r cs s

pub finding-append : (v : Result Unit Numbered) (cs ds : List Check) (s : List ℕ) → finding_after v (cs ++ ds) s ≡ finding_after (finding_after v cs s) ds s
unfolding finding_after
finding-append v [] ds s = refl
finding-append v (c ∷ cs) ds s = finding-append (and_then v c.number (fault_of (c.fault s))) cs ds s

-- some checks, and some more
pub and_finding : (u : Result Unit Numbered) {v w : Result Unit Numbered} (cs ds : List Check) (s : List ℕ) → v ≡ finding_after u cs s → w ≡ finding_after v ds s → w ≡ finding_after u (cs ++ ds) s
and_finding u cs ds s e q = q ∙ rw e (sym (finding-append u cs ds s))

-- one check
pub one_check : (v : Result Unit Numbered) {w : Result Unit Numbered} (c : Check) (s : List ℕ) {n : ℕ} {f : code.Option ℕ} → w ≡ and_then v n f → n ≡ c.number → f ≡ fault_of (c.fault s) → w ≡ finding_after v (c ∷ []) s
unfolding finding_after
one_check v c s q n e = q ∙ rw (n, e) refl

pub refused-after : {v : Result Unit Numbered} (r : Numbered) (cs : List Check) (s : List ℕ) → v ≡ Err r → Err r ≡ finding_after v cs s
refused-after r cs s e = rw e (sym (refusal_stands r cs s))

-- after a refusal no number is wanted
pub measured-refused : {v : Result Unit Numbered} (r : Numbered) (cs : List Check) (s : List ℕ) (x : ℕ) → v ≡ Err r → Err r ≡ measuring_after v cs s x
unfolding measured
measured-refused r cs s x e = rw (e, refusal_stands r cs s) refl

-- a list finds nothing only where nothing was found before
pub passes-before : {v w : Result Unit Numbered} (cs : List Check) (s : List ℕ) (x : Unit) → w ≡ finding_after v cs s → w ≡ Ok x → v ≡ Ok x
passes-before {v} {w} cs s x e q = go v refl
  where
    go : (u : Result Unit Numbered) → v ≡ u → v ≡ Ok x
    go (Ok y) h = h
    go (Err r) h = absurd (refused_not_passes r x (sym (refusal_stands r cs s) ∙ rw h at (sym e ∙ q)))

-- a list that finds nothing has passed its first check, and the others
first_finds : (x : Unit) (c : Check) (cs : List Check) (s : List ℕ) → finding_after (Ok x) (c ∷ cs) s ≡ Ok x → (c.fault s ≡ none) × (finding_after (Ok x) cs s ≡ Ok x)
unfolding finding_after and_then fault_of
first_finds x c cs s e = go (c.fault s) refl
  where
    go : (o : Option ℕ) → c.fault s ≡ o → (c.fault s ≡ none) × (finding_after (Ok x) cs s ≡ Ok x)
    go none q = (q, rw q at e)
    go (some i) q = absurd (refused_not_passes _ x (sym (refusal_stands _ cs s) ∙ rw q at e))

-- and so each of its checks
finds_each : (x : Unit) (c : Check) {cs : List Check} (s : List ℕ) → finding_after (Ok x) cs s ≡ Ok x → Among c cs → c.fault s ≡ none
finds_each x c s e first = (first_finds x _ _ s e).0
finds_each x c s e (later h) = finds_each x c s (first_finds x _ _ s e).1 h

pub passes_among : (v : Result Unit Numbered) {w : Result Unit Numbered} {cs : List Check} (s : List ℕ) (x : Unit) → w ≡ finding_after v cs s → w ≡ Ok x → (number : ℕ) (fault : List ℕ → Option ℕ) → Among (record { number = number; fault = fault }) cs → fault s ≡ none
passes_among v {w} {cs} s x e q number fault h =
    finds_each x (record { number = number; fault = fault }) s (sym (rw (passes-before cs s x e q) at e) ∙ q) h

-- one check that finds nothing before others that find nothing
pub passes-next : (x : Unit) (c : Check) (cs : List Check) (s : List ℕ) → c.fault s ≡ none → finding_after (Ok x) cs s ≡ Ok x → finding_after (Ok x) (c ∷ cs) s ≡ Ok x
unfolding finding_after and_then fault_of
passes-next x c cs s e rest = rw e rest

-- a check of a number that has a limit
within-measured : (v : Result Unit Numbered) (n : ℕ) (o : Option ℕ) (x : ℕ) → and_within v n (bounded_by o x) ≡ measured (and_then v n (fault_of o)) x
unfolding measured and_then and_within bounded_by fault_of
within-measured (Ok u) n none x = refl
within-measured (Ok u) n (some i) x = refl
within-measured (Err r) n none x = refl
within-measured (Err r) n (some i) x = refl

pub one-measured : (v : Result Unit Numbered) {r : Result ℕ Numbered} (c : Check) (s : List ℕ) (x : ℕ) {n : ℕ} {b : Result ℕ ℕ} → r ≡ and_within v n b → n ≡ c.number → b ≡ bounded_by (c.fault s) x → r ≡ measuring_after v (c ∷ []) s x
unfolding finding_after
one-measured v c s x q n e = q ∙ rw (n, e) (within-measured v c.number (c.fault s) x)

-- and other checks before it
pub measured-after : (v : Result Unit Numbered) {w : Result Unit Numbered} {r : Result ℕ Numbered} (cs ds : List Check) (s : List ℕ) (x : ℕ) → w ≡ finding_after v cs s → r ≡ measuring_after w ds s x → r ≡ measuring_after v (cs ++ ds) s x
measured-after v cs ds s x e q = q ∙ rw e (ap (λ (u : Result Unit Numbered). measured u x) (sym (finding-append v cs ds s)))

-- what is found, and the number where nothing is
module _ (w : Result Unit Numbered) (x : ℕ) {r : Result ℕ Numbered} (e : r ≡ measured w x) where
  pub measured-found : (y : Numbered) → r ≡ Err y → w ≡ Err y
  unfolding measured
  measured-found y q = go w refl
    where
      go : (u : Result Unit Numbered) → w ≡ u → w ≡ Err y
      go (Ok v) h = absurd (refused_not_passes y x (sym q ∙ e ∙ rw h refl))
      go (Err z) h =
          let same : ◌≡◌ {A = Result ℕ Numbered} (Err z) (Err y) = sym (e ∙ rw h refl) ∙ q in
          let is : z ≡ y = cc in
          rw is at h

  -- and nothing, where a number is handed on
  pub measured-passes : (y : ℕ) → r ≡ Ok y → w ≡ Ok tt
  unfolding measured
  measured-passes y q = go w refl
    where
      go : (u : Result Unit Numbered) → w ≡ u → w ≡ Ok tt
      go (Ok v) h = h
      go (Err z) h = absurd (refused_not_passes z y (sym (e ∙ rw h refl) ∙ q))

  pub measured-value : (y : ℕ) → r ≡ Ok y → y ≡ x
  unfolding measured
  measured-value y q = go w refl
    where
      go : (u : Result Unit Numbered) → w ≡ u → y ≡ x
      go (Ok v) h =
          let same : ◌≡◌ {A = Result ℕ Numbered} (Ok x) (Ok y) = sym (e ∙ rw h refl) ∙ q in
          cc
      go (Err z) h = absurd (refused_not_passes z y (sym (e ∙ rw h refl) ∙ q))

-- A list decides by what it finds
unfoldable pub decided : {A : Type 0} → Result Unit Numbered → Outcome A → Outcome A
decided (Ok u) o = o
decided (Err r) o = refused r.number r.place

pub checked-finding : {A : Type 0} (cs : List Check) (answer : List ℕ → Outcome A) (s : List ℕ) (x : Unit) → checked cs answer s ≡ decided (finding_after (Ok x) cs s) (answer s)
unfolding checked decided finding_after and_then fault_of
checked-finding [] answer s x = refl
checked-finding (c ∷ cs) answer s x = go (c.fault s) refl (checked-finding cs answer s x)
  where
    go : (o : Option ℕ) → c.fault s ≡ o → checked cs answer s ≡ decided (finding_after (Ok x) cs s) (answer s) → checked (c ∷ cs) answer s ≡ decided (finding_after (Ok x) (c ∷ cs) s) (answer s)
    go none q rest = rw q rest
    go (some i) q rest =
        rw q (ap (λ (w : Result Unit Numbered). decided w (answer s)) (sym (refusal_stands (record { number = c.number; place = i }) cs s)))
