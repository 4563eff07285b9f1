-- What `search` answers and what it leaves in its buffer, from what the checks and the visits leave.
-- Assumes of a request that the checks let through that what is held and counted is the visit rule's (`explore`).
use Prim.Native.Nat.{ℕ, suc, ◌+◌, ◌-◌, ◌≤◌, ◌^◌}
use native.Mathlib.Omega.{arith}
use mathlib.Core.Path.{◌≡◌, refl, sym, ◌∙◌}
use mathlib.Core.List.{List}
use mathlib.Core.Option.{Option, none, some}
use lib.ListN.{length, take, replicate, length-append, length-replicate}
use lib.Pow.{pow_pos}
use lib.Seq.{take-append_seam}
use Rattle.diagram.specs.Table.{table_of}
use Rattle.diagram.specs.Plans.{open_count}
use Rattle.diagram.specs.Ranking.{best_plan}
use Rattle.diagram.specs.Visits as visits
use Rattle.diagram.specs.Services.{refused, answered, written, Reading, searching, search_outcome, search_buffer}
use Rattle.std.specs.Prelude.{Result, Ok, Err}
use Rattle.terms.specs.declared.refusal.Refusal.{Refusal}
use Rattle.terms.specs.declared.refusal.Reason.{Reason}
use Rattle.terms.specs.Numbers.{reason_number}
use Rattle.steps.specs.Steps.{outcome_by}
use Rattle.reading.proofs.Accepted.{passed_choices, passed_formed, passed_monotone}
use Rattle.rule.proofs.Visiting.{visited-first, visits-bounded}
use Rattle.requesting.specs.Request.{request_outcome}
use Rattle.requesting.proofs.Requests.{Proper, proper, search_refused, search_answered}
use Rattle.incumbent.specs.declared.Incumbent.{Incumbent}
use Rattle.search.specs.declared.answer.Finding.{Finding}
use Rattle.search.specs.Answer.{search_of, visits_of}
use Rattle.search.specs.Searched.{Searched}

module _ (s p held : List ℕ) (budget percent : ℕ) where
  -- What `search` promises of its answer and of its buffer
  abbrev Promised : Result Finding Refusal → (out : List ℕ) → Type 0
  Promised r out =
      (search_of r out ≡ search_outcome s p budget percent (length held))
      × ((out ≡ search_buffer s p budget percent held)
      × (visits_of r + 1 ≤ 2 ^ suc (open_count p)))

  -- a refusal leaves the buffer and answers no visits
  refuses : (x : Refusal) → search_outcome s p budget percent (length held) ≡ refused (reason_number x.reason) x.place → Promised (Err x) held
  unfolding outcome_by visits_of search_buffer written
  refuses x e = (sym e, (rw e refl, omega (arith, pow_pos (suc (open_count p)))))

  -- a request that a check turns away
  pub search_turned : (x : Refusal) → request_outcome s p budget percent (length held) ≡ refused (reason_number x.reason) x.place → Promised (Err x) held
  search_turned x e = refuses x (search_refused s p (length held) percent budget (reason_number x.reason) x.place e)

  module _ (r : Reading) (e : request_outcome s p budget percent (length held) ≡ answered r) {least : ℕ} {h : Incumbent} (searched : Searched (table_of s) percent budget least p h) where
    -- what the checks have found
    is_proper : Proper s p budget percent (length held)
    is_proper = proper s p budget percent (length held) r e

    -- the best plan is the one held
    best-held : best_plan (table_of s) budget percent p ≡ (visits.visited (table_of s) budget percent p).held
    best-held =
        sym (visited-first (table_of s) (passed_formed is_proper.passed) (passed_monotone is_proper.passed) budget percent p)

    -- the visits are those counted
    visits-counted : visits.visit_count (table_of s) budget percent p ≡ h.visits
    unfolding visits.visit_count
    visits-counted = sym searched.counts

    -- 32 where nothing is held
    pub search_32 : h.room ≡ 0 → (n : Reason) {i : ℕ} → reason_number n ≡ 32 → i ≡ 0 → Promised (Err (record { reason = n; place = i })) held
    unfolding searching
    search_32 f n {i} en ei = go (visits.visited (table_of s) budget percent p).held refl
      where
        go : (o : Option (List ℕ)) → (visits.visited (table_of s) budget percent p).held ≡ o → Promised (Err (record { reason = n; place = i })) held
        go none q =
            refuses
            (record { reason = n; place = i })
            (search_answered s p (length held) percent budget r e ∙ rw (best-held, q, en, ei, searching) refl)
        go (some b) q =
            let holding = searched.holds.something b q in
            absurd (omega (arith, f, holding.room, holding.within))

    -- the plan held has 20 marks, where one is held
    pub held-long : (h.room ≡ 0 → ⊥) → length h.marks ≡ 20
    held-long more = go (visits.visited (table_of s) budget percent p).held refl
      where
        go : (o : Option (List ℕ)) → (visits.visited (table_of s) budget percent p).held ≡ o → length h.marks ≡ 20
        go none q = absurd (more (searched.holds.nothing q).1)
        go (some b) q =
            let holding = searched.holds.something b q in
            rw (holding.plan, length-append, length-replicate) (omega (arith, holding.size, passed_choices is_proper.passed))

    -- else the plan held, with its score and the visits
    pub search_found : (h.room ≡ 0 → ⊥) → {out : List ℕ} → out ≡ take (length held) h.marks → {x v : ℕ} → x ≡ h.cutoff → v ≡ h.visits → Promised (Ok (record { score = x; visits = v })) out
    unfolding searching outcome_by visits_of search_buffer written
    search_found more {out} w {x} {v} ex ev = go (visits.visited (table_of s) budget percent p).held refl
      where
        go : (o : Option (List ℕ)) → (visits.visited (table_of s) budget percent p).held ≡ o → Promised (Ok (record { score = x; visits = v })) out
        go none q = absurd (more (searched.holds.nothing q).1)
        go (some b) q =
            let holding = searched.holds.something b q in
            let size : length held ≡ length b = is_proper.sized ∙ sym holding.size in
            let own : out ≡ b = w ∙ rw (size, holding.plan) (take-append_seam b (replicate (20 - length b) 0)) in
            let is_found : searching (table_of s) budget percent p ≡ answered (record { score = x; visits = v; plan = out }) = rw (best-held, q, visits-counted, ex, ev, holding.scored, own, searching) refl in
            let found = search_answered s p (length held) percent budget r e ∙ is_found in
            let few = visits-bounded (table_of s) (passed_formed is_proper.passed) (passed_monotone is_proper.passed) budget percent p in
            (sym found, (rw found refl, omega (arith, ev, visits-counted, few)))
