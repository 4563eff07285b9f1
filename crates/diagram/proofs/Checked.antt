-- How a list of checks decides a request: it stops at the first fault, a list in two parts is run one after the other, and a file that reading answers
-- has passed every check of a table.
-- Assumes nothing.
use Prim.Native.Nat.{ℕ}
use native.Mathlib.Omega.{arith}
use mathlib.Core.Path.{◌≡◌, refl, sym, ◌∙◌}
use mathlib.Core.Option.{Option, none, some}
use mathlib.Core.List.{List, [], ◌∷◌, ◌++◌}
use Rattle.diagram.specs.Checks.{Check, length_fault, heading_fault, count_fault, variable_fault, choice_fault, scale_fault, record_fault, root_fault, reward_fault, monotone_fault, table_checks}
use Rattle.diagram.specs.Services.{Outcome, refused, answered, checked, Reading, reading, read_outcome}

-- ---------------------------------------------------------------------------
-- One check

module _ {A : Type 0} (c : Check) (cs : List Check) (answer : List ℕ → Outcome A) (s : List ℕ) where
  pub checked-passes : c.fault s ≡ none → checked (c ∷ cs) answer s ≡ checked cs answer s
  unfolding checked
  checked-passes e = rw (e, checked) refl

  pub checked_stops : (i : ℕ) → c.fault s ≡ some i → checked (c ∷ cs) answer s ≡ refused c.number i
  unfolding checked
  checked_stops i e = rw (e, checked) refl

-- no check is left
pub checked_end : {A : Type 0} (answer : List ℕ → Outcome A) (s : List ℕ) → checked [] answer s ≡ answer s
unfolding checked
checked_end answer s = refl

-- ---------------------------------------------------------------------------
-- Lists of checks

-- an answer is no refusal
pub answered_not_refused : {A : Type 0} (a : A) (n i : ℕ) → answered a ≡ refused n i → ⊥
answered_not_refused a n i e =
    let z : ◌≡◌ {A = ℕ} 0 1 = cc in
    omega arith

-- a list in two parts
pub checked-append : {A : Type 0} (s : List ℕ) (cs ds : List Check) (answer : List ℕ → Outcome A) → checked (cs ++ ds) answer s ≡ checked cs (checked ds answer) s
unfolding checked
checked-append s [] ds answer = refl
checked-append s (c ∷ cs) ds answer = go (c.fault s) refl (checked-append s cs ds answer)
  where
    go : (o : Option ℕ) → c.fault s ≡ o → checked (cs ++ ds) answer s ≡ checked cs (checked ds answer) s → checked (c ∷ (cs ++ ds)) answer s ≡ checked (c ∷ cs) (checked ds answer) s
    go none e rest = checked-passes c (cs ++ ds) answer s e ∙ rest ∙ sym (checked-passes c cs (checked ds answer) s e)
    go (some i) e rest = checked_stops c (cs ++ ds) answer s i e ∙ sym (checked_stops c cs (checked ds answer) s i e)

module _ {A B : Type 0} (s : List ℕ) where
  -- where one answer is given, so is any other that the same checks let through
  pub checked-answered : (cs : List Check) (f : List ℕ → A) (a : A) (answer : List ℕ → Outcome B) → checked cs (λ file. answered (f file)) s ≡ answered a → checked cs answer s ≡ answer s
  unfolding checked
  checked-answered [] f a answer e = refl
  checked-answered (c ∷ cs) f a answer e = go (c.fault s) refl (checked-answered cs f a answer)
    where
      go : (o : Option ℕ) → c.fault s ≡ o → (checked cs (λ file. answered (f file)) s ≡ answered a → checked cs answer s ≡ answer s) → checked (c ∷ cs) answer s ≡ answer s
      go none q rest = checked-passes c cs answer s q ∙ rest (sym (checked-passes c cs (λ file. answered (f file)) s q) ∙ e)
      go (some i) q rest = absurd (answered_not_refused a c.number i (sym e ∙ checked_stops c cs (λ file. answered (f file)) s i q))

  -- where a file is refused, it is whatever it is wanted for
  pub checked_refused : (cs : List Check) (f : List ℕ → A) (n i : ℕ) (answer : List ℕ → Outcome B) → checked cs (λ file. answered (f file)) s ≡ refused n i → checked cs answer s ≡ refused n i
  unfolding checked
  checked_refused [] f n i answer e = absurd (answered_not_refused (f s) n i e)
  checked_refused (c ∷ cs) f n i answer e = go (c.fault s) refl (checked_refused cs f n i answer)
    where
      same_refusal : (m j : ℕ) → ◌≡◌ {A = Outcome A} (refused m j) (refused n i) → ◌≡◌ {A = Outcome B} (refused m j) (refused n i)
      same_refusal m j q =
          let a : m ≡ n = cc in
          let b : j ≡ i = cc in
          rw (a, b) refl

      go : (o : Option ℕ) → c.fault s ≡ o → (checked cs (λ file. answered (f file)) s ≡ refused n i → checked cs answer s ≡ refused n i) → checked (c ∷ cs) answer s ≡ refused n i
      go none q rest = checked-passes c cs answer s q ∙ rest (sym (checked-passes c cs (λ file. answered (f file)) s q) ∙ e)
      go (some j) q rest = checked_stops c cs answer s j q ∙ same_refusal c.number j (sym (checked_stops c cs (λ file. answered (f file)) s j q) ∙ e)

-- ---------------------------------------------------------------------------
-- The checks of a table

-- A file that no check of a table finds at fault
pub record Passed (s : List ℕ) : Type 0 where
  pub length : length_fault s ≡ none
  pub heading : heading_fault s ≡ none
  pub count : count_fault s ≡ none
  pub variables : variable_fault s ≡ none
  pub choices : choice_fault s ≡ none
  pub scale : scale_fault s ≡ none
  pub records : record_fault s ≡ none
  pub roots : root_fault s ≡ none
  pub reward : reward_fault s ≡ none
  pub monotone : monotone_fault s ≡ none

-- the first check of a list that answers has passed, and so has the rest
first_passed : (c : Check) (cs : List Check) (s : List ℕ) (r : Reading) → checked (c ∷ cs) (λ file. answered (reading file)) s ≡ answered r → (c.fault s ≡ none) × (checked cs (λ file. answered (reading file)) s ≡ answered r)
first_passed c cs s r e = go (c.fault s) refl
  where
    go : (o : Option ℕ) → c.fault s ≡ o → (c.fault s ≡ none) × (checked cs (λ file. answered (reading file)) s ≡ answered r)
    go none q = (q, sym (checked-passes c cs (λ file. answered (reading file)) s q) ∙ e)
    go (some i) q = absurd (answered_not_refused r c.number i (sym e ∙ checked_stops c cs (λ file. answered (reading file)) s i q))

-- A check is one of a list
pub data Among (c : Check) : List Check → Type 0 where
  first : {cs : List Check} → Among c (c ∷ cs)
  later : {b : Check} {cs : List Check} → Among c cs → Among c (b ∷ cs)

-- each check of a list that answers has passed
passed_one : (c : Check) {cs : List Check} (s : List ℕ) (r : Reading) → checked cs (λ file. answered (reading file)) s ≡ answered r → Among c cs → c.fault s ≡ none
passed_one c s r e first = (first_passed _ _ s r e).0
passed_one c s r e (later h) = passed_one c s r (first_passed _ _ s r e).1 h

pub passed_among : {cs : List Check} (s : List ℕ) (r : Reading) → checked cs (λ file. answered (reading file)) s ≡ answered r → (number : ℕ) (fault : List ℕ → Option ℕ) → Among (record { number = number; fault = fault }) cs → fault s ≡ none
passed_among s r e number fault h = passed_one (record { number = number; fault = fault }) s r e h

pub read_passed : (s : List ℕ) (r : Reading) → read_outcome s ≡ answered r → Passed s
unfolding read_outcome table_checks
read_passed s r e =
    record {
      length = passed_among s r e 11 length_fault first;
      heading = passed_among s r e 12 heading_fault (search (first, later) depth 20);
      count = passed_among s r e 13 count_fault (search (first, later) depth 20);
      variables = passed_among s r e 14 variable_fault (search (first, later) depth 20);
      choices = passed_among s r e 15 choice_fault (search (first, later) depth 20);
      scale = passed_among s r e 16 scale_fault (search (first, later) depth 20);
      records = passed_among s r e 17 record_fault (search (first, later) depth 20);
      roots = passed_among s r e 26 root_fault (search (first, later) depth 20);
      reward = passed_among s r e 27 reward_fault (search (first, later) depth 20);
      monotone = passed_among s r e 18 monotone_fault (search (first, later) depth 20);
    }

-- ---------------------------------------------------------------------------
-- A service's checks after those of a table

module _ {A : Type 0} (s : List ℕ) (cs : List Check) (answer : List ℕ → Outcome A) where
  -- a file that reading refuses is refused by every service
  pub read-refuses : (n i : ℕ) → read_outcome s ≡ refused n i → checked (table_checks ++ cs) answer s ≡ refused n i
  unfolding read_outcome
  read-refuses n i e = checked-append s table_checks cs answer ∙ checked_refused s table_checks reading n i (checked cs answer) e

  -- a file that reading answers goes on to the service's own checks
  pub read-answers : (r : Reading) → read_outcome s ≡ answered r → checked (table_checks ++ cs) answer s ≡ checked cs answer s
  unfolding read_outcome
  read-answers r e = checked-append s table_checks cs answer ∙ checked-answered s table_checks reading r (checked cs answer) e

-- what reading answers of an accepted file
pub read-reading : (s : List ℕ) (r : Reading) → read_outcome s ≡ answered r → r ≡ reading s
unfolding read_outcome
read-reading s r e =
    let q : answered r ≡ answered (reading s) = sym e ∙ checked-answered s table_checks reading r (λ file. answered (reading file)) e in
    cc
