-- Demand 2: what `score` and `search` promise is what the briefing demands of them.
-- Assumes nothing.
use Prim.Native.Nat.{ℕ, zero, suc, ◌*◌, ◌<◌}
use native.Mathlib.Nat.{zero-add}
use native.Mathlib.Omega.{arith}
use mathlib.Core.Path.{◌≡◌, refl, ap, sym, ◌∙◌}
use mathlib.Core.Bool.{true, false, ◌||◌, false≢true}
use mathlib.Core.Logic.{◌⊎◌, inl, inr, ⊎_elim}
use mathlib.Core.Option.{Option, none, some}
use mathlib.Core.List.{List, [], ◌∷◌, map}
use lib.ListN.{length, get_or}
use lib.Dec.{eqb, ltb, leb}
use borrow.Author.Tests.{leb-true, le-leb, eq-eqb}
use Rattle.diagram.specs.Table.{Root, table_of}
use Rattle.diagram.specs.Score.{sum, score, score_from, rewarded, total}
use Rattle.diagram.specs.Plans.{cost, passing, passes, Completes, complete, takes, leaves_open, keeps}
use Rattle.diagram.specs.Ranking.{takes_first, ranks_before, is_candidate, best_plan}
use Rattle.diagram.specs.Checks.{full_plan_fault, score_checks}
use Rattle.diagram.specs.Services.{Searching, answered, written, score_outcome, searching, search_buffer}
use Rattle.diagram.proofs.Every.{both, and_true_both}
use Rattle.diagram.proofs.Places.{no_place}
use Rattle.diagram.proofs.Checked.{checked-passes, checked_end, read-answers}
use Rattle.rule.proofs.Order.{Before, higher, fewer, first, ranks}
use Rattle.rule.proofs.First.{best-first, best-some}
use Rattle.theorems.proofs.Answers.{refusal_is, refuses_by, answers_by, ok_not_err}
use Rattle.theorems.proofs.Deciding.{accepted-read}
use Rattle.theorems.proofs.Completing.{completion_completes, completes_completion}
use Rattle.requesting.proofs.Requests.{search_answered}
use Rattle.theorems.proofs.Demanded3.{legal_request}
use Rattle.requesting.proofs.Requests.{length-fits}
use Rattle.std.specs.Prelude.{Result, Ok}
use Rattle.terms.specs.declared.refusal.Reason.TheVariants as reason
use Rattle.terms.specs.declared.refusal.Refusal.{Refusal}
use Rattle.terms.specs.Numbers.{reason_number}
use Rattle.search.specs.declared.answer.Finding.{Finding}
use Rattle.search.specs.Answer.{search_of}
use Rattle.theorems.specs.Plans.{FullPlan, Candidate}
use Rattle.theorems.specs.Reasons.{Accepted}
use Rattle.theorems.specs.Demand2.{weighted_count, TakesFirst, RanksBefore, FirstCandidate, refused_32, SearchHolds, Demand2}

-- ---------------------------------------------------------------------------
-- The ranking

-- with the same mark in front of both, the first line where two differ is one further on
further : (m : ℕ) {c d : List ℕ} → TakesFirst c d → TakesFirst (m ∷ c) (m ∷ d)
further m {c} {d} h =
    record {
      line = suc h.line;
      line-within = let l = h.line-within in omega arith;
      alike_before = alike;
      takes = h.takes;
      leaves = h.leaves;
    }
  where
    alike : (i : ℕ) → i < suc h.line → get_or (m ∷ c) i 0 ≡ get_or (m ∷ d) i 0
    alike zero l = refl
    alike (suc i) l = h.alike_before i (omega arith)

-- at the lowest choice number where two completions of a plan differ, the one that comes first takes and the other leaves
first-line : {p c d : List ℕ} → Completes p c → Completes p d → takes_first c d ≡ true → TakesFirst c d
unfolding takes_first
first-line complete complete h = absurd (false≢true h)
first-line (takes k) (takes l) h = further 1 (first-line k l h)
first-line (takes k) (leaves_open l) h =
    record { line = 0; line-within = omega arith; alike_before = λ i l. absurd (omega arith); takes = refl; leaves = refl }
first-line (leaves_open k) (takes l) h = absurd (false≢true h)
first-line (leaves_open k) (leaves_open l) h = further 2 (first-line k l h)
first-line (keeps {m} k) (keeps l) h = further (suc m) (first-line k l (rw (eq-eqb (suc m) (suc m) refl) at h))

-- one of two completions that ranks before the other does so in the demand's words
ranks_before_lem : (s : List ℕ) {p c d : List ℕ} → Completes p c → Completes p d → ranks_before (table_of s) c d ≡ true → RanksBefore s c d
ranks_before_lem s {p} {c} {d} k l h = go (ranks h)
  where
    go : Before (table_of s) c d → RanksBefore s c d
    go (higher x) = inl x
    go (fewer e x) = inr (e, inl x)
    go (first e f x) = inr (e, inr (f, first-line k l x))

-- ---------------------------------------------------------------------------
-- The search

module _ (s p : List ℕ) (budget percent : ℕ) where
  -- a candidate finishes the plan, and its test holds
  pub candidate_test : {c : List ℕ} → Candidate s p budget percent c → Completes p c × (is_candidate (table_of s) budget percent c ≡ true)
  unfolding is_candidate passing passes
  candidate_test {c} k =
      (completion_completes p c k.finishes, and_true_both _ _ (le-leb _ _ k.within) (le-leb _ _ k.passes))

  -- a plan that finishes the one given and whose test holds is a candidate
  test_candidate : {c : List ℕ} → Completes p c → is_candidate (table_of s) budget percent c ≡ true → Candidate s p budget percent c
  unfolding is_candidate passing passes
  test_candidate {c} k e =
      let r = both (leb (cost (table_of s) c) budget) e in
      record { finishes = completes_completion k; within = leb-true _ _ r.0; passes = leb-true _ _ r.1 }

  -- what is demanded where there is no best plan
  pub none-holds : best_plan (table_of s) budget percent p ≡ none → (held : List ℕ) → SearchHolds s p budget percent held refused_32 held
  none-holds e held =
      record {
        answers = inr refl;
        finds = λ f q. absurd (ok_not_err (sym q));
        refuses = (
          λ q c k. let r = candidate_test k in best-some (table_of s) budget percent p c r.0 r.1 e,
          λ n. refl,
        );
        untouched = λ q. refl;
      }

  -- the best plan is the first candidate
  pub best-candidate : (b : List ℕ) → best_plan (table_of s) budget percent p ≡ some b → FirstCandidate s p budget percent b
  best-candidate b e =
      let best = best-first (table_of s) budget percent p b e in
      record {
        candidate = test_candidate best.0 best.1;
        first = λ c k.
            let r = candidate_test k in
            ⊎_elim inl (λ h. inr (ranks_before_lem s best.0 r.0 h)) (best.2 c r.0 r.1);
      }

  -- what is demanded where there is one
  some_holds : (b : List ℕ) → best_plan (table_of s) budget percent p ≡ some b → (v : ℕ) (held : List ℕ) → SearchHolds s p budget percent held (Ok (record { score = score (table_of s) b; visits = v })) b
  some_holds b e v held =
      let best = best-candidate b e in
      record {
        answers = inl (_, refl);
        finds = λ f q. (best, cc);
        refuses = (λ q. absurd (ok_not_err q), λ n. absurd (n b best.candidate));
        untouched = λ q. absurd (ok_not_err q);
      }

  -- the search's answer and buffer, by whether there is one
  search_holds : (held plan : List ℕ) (answer : Result Finding Refusal) → search_of answer plan ≡ searching (table_of s) budget percent p → plan ≡ written (λ a. a.plan) (searching (table_of s) budget percent p) held → SearchHolds s p budget percent held answer plan
  unfolding searching written reason_number
  search_holds held plan answer e b = go (best_plan (table_of s) budget percent p) refl
    where
      go : (c : Option (List ℕ)) → best_plan (table_of s) budget percent p ≡ c → SearchHolds s p budget percent held answer plan
      go none q =
          let is = refusal_is reason.NoCandidate (refuses_by _ answer (rw (q, searching) at e)) in
          let same : plan ≡ held = rw (q, searching) at b in
          rw (is, same) (none-holds q held)
      go (some c) q =
          let is = answers_by _ answer (rw (q, searching) at e) in
          let found = ap {B = Finding} (λ (a : Searching). record { score = a.score; visits = a.visits }) is.2 in
          let same = ap (λ (a : Searching). a.plan) is.2 in
          rw (is.1, found, same) (some_holds c q _ held)

-- ---------------------------------------------------------------------------
-- The score

-- taken and left lines pass the score's check 22
full_marks : (p s : List ℕ) → ((i : ℕ) → i < length p → (get_or p i 0 ≡ 1) ⊎ (get_or p i 0 ≡ 2)) → full_plan_fault p s ≡ none
unfolding full_plan_fault
full_marks p s h = no_place (λ i. ltb 2 (get_or p i 0) || eqb (get_or p i 0) 0) 0 (length p) (λ k l. rw zero-add (settled (get_or p k 0) (h k l)))
  where
    settled : (m : ℕ) → (m ≡ 1) ⊎ (m ≡ 2) → (ltb 2 m || eqb m 0) ≡ false
    settled m (inl e) = rw e refl
    settled m (inr e) = rw e refl

-- the sum over the roots, as a sum over a list of numbers
rewarded-sum : (f : ℕ → ℕ) (rs : List Root) → rewarded f rs ≡ sum (map (λ (r : Root). r.reward * f r.node) rs)
unfolding rewarded sum
rewarded-sum f [] = refl
rewarded-sum f (r ∷ rs) = rw (rewarded-sum f rs) refl

-- a score is the weighted count
counted : (s p : List ℕ) → score (table_of s) p ≡ weighted_count s p
unfolding score score_from total
counted s p = rewarded-sum _ (table_of s).roots

module _ (s p : List ℕ) (read : Accepted s) (full : FullPlan s p) where
  -- what the score answers to a full plan of an accepted table
  scored : score_outcome s p ≡ answered (score (table_of s) p)
  unfolding score_outcome score_checks
  scored =
      read-answers s _ _ _ (accepted-read s read)
      ∙ checked-passes _ _ _ s (length-fits p s full.size)
      ∙ checked-passes _ _ _ s (full_marks p s full.marks)
      ∙ checked_end _ s

-- ---------------------------------------------------------------------------
-- Both

-- demand 2: the promises of `score` and `search` are turned into what is demanded
pub demand_2 : Demand2
unfolding Demand2 search_buffer
demand_2 s read = (
  counted s,
  λ p answer full e.
      let is = answers_by _ answer (e ∙ scored s p read full ∙ ap answered (counted s p)) in
      is.1 ∙ ap Ok is.2,
  λ p budget percent held plan answer legal kits h fits e b.
      let is = search_answered s p (length held) percent budget _ (legal_request s p read legal (length held) fits budget percent kits h) in
      search_holds s p budget percent held plan answer (e ∙ is) (b ∙ rw is refl),
)
