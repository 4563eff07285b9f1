-- `search` meets its contract: a refused request leaves the buffer, and so does one whose visits hold nothing; of any other the plan held is written, with its
-- score and the visits. Assumes nothing.
use native.Mathlib.Omega.{arith}
use mathlib.Core.Path.{◌≡◌, refl}
use mathlib.Core.List.{List}
use Prim.Native.Nat.{ℕ}
use lib.ListN.{length}
use Rattle.std.specs.Prelude.{Result, Ok}
use Rattle.std.proofs.lemmas.Result.{err_from_is_err_and}
use Rattle.diagram.specs.Table.{table_of}
use Rattle.diagram.specs.Plans.{LeastPassing}
use Rattle.terms.specs.declared.refusal.Refusal.{Refusal}
use Rattle.terms.specs.Numbers.{reason_number}
use Rattle.incumbent.specs.declared.Incumbent.{Incumbent}
use Rattle.reading.specs.Answer.{numbers_in, Reads}
use Rattle.reading.proofs.Accepted.{passed_scale, passed_choices}
use Rattle.requesting.specs.Request.{request_outcome}
use Rattle.requesting.proofs.Requests.{refused_request, accepted_request, accepted_proper, accepted-scale}
use Rattle.decoding.specs.declared.table.Decoded.{Decoded}
use Rattle.decoding.specs.Decoding.{table_in, pad_to}
use Rattle.decoding.proofs.Kits.{kits-first}
use Rattle.search.specs.Searched.{Searched, SearchedWithin}
use Rattle.search.proofs.Priced.{priced-own}
use Rattle.search.proofs.Answering.{search_turned, search_32, search_found}
use Rattle.search.proofs.search.Goals as goal

-- what the visits hold and have counted, of a request that the checks let through
searched : (s p : List ℕ) (budget percent size : ℕ) {r : Result Decoded Refusal} → Reads s (request_outcome s p budget percent size) r → (d : Decoded) → r ≡ Ok d → {least : ℕ} {h : Incumbent} → LeastPassing (table_of s) percent least → SearchedWithin (table_in d) p (record { kits = d.kits; budget = budget; least = least }) h → Searched (table_of s) percent budget least p h
searched s p budget percent size reads d e least within =
    let ok = accepted_proper s p budget percent size reads.outcome d e in
    let table = reads.accepted d e in
    let kits : d.kits ≡ pad_to 20 (table_of s).kits = rw table.0 at table.1.held.kits in
    rw (table.0, kits, kits-first _ _ ok.long, priced-own) at (within percent (rw table.0 least))

pub returns-in_err-table : goal.returns-in_err-table
returns-in_err-table c =
    let out = err_from_is_err_and c.from_residual.result c.from_residual.ensures.1 in
    let promised = search_turned _ _ _ _ _ _ (refused_request _ _ _ _ _ c.accept.ensures.outcome _ c.in_err-table.was) in
    rw (out.1, out.2) (record { answer = promised.0; buffer = promised.1.0; visits = promised.1.1 })

pub least_passing-requires : goal.least_passing-requires
least_passing-requires c =
    let ok = accepted_proper _ _ _ _ _ c.accept.ensures.outcome _ c.in_ok-table.was in
    let scaled = accepted-scale _ _ _ _ _ c.accept.ensures.outcome _ c.in_ok-table.was in
    (ok.percents, omega (arith, scaled, passed_scale ok.passed))

pub explore_plan-held-requires-clause-plan : goal.explore_plan-held-requires-clause-plan
explore_plan-held-requires-clause-plan c =
    let ok = accepted_proper _ _ _ _ _ c.accept.ensures.outcome _ c.in_ok-table.was in
    let table = c.accept.ensures.accepted _ c.in_ok-table.was in
    (rw table.0 ok.long, ok.legal)

pub explore_plan-held-requires-clause-least : goal.explore_plan-held-requires-clause-least
explore_plan-held-requires-clause-least c =
    let ok = accepted_proper _ _ _ _ _ c.accept.ensures.outcome _ c.in_ok-table.was in
    let scaled = accepted-scale _ _ _ _ _ c.accept.ensures.outcome _ c.in_ok-table.was in
    let least : LeastPassing (table_of c.args.file.now) c.args.percent c.least_passing.result = c.least_passing.ensures _ scaled in
    let table = c.accept.ensures.accepted _ c.in_ok-table.was in
    (ok.budgets, (c.args.percent, rw table.0 least))

pub returns-then-held-eq0 : goal.returns-then-held-eq0
unfolding reason_number
returns-then-held-eq0 c =
    let a = c.args in
    let accepted = accepted_request _ _ _ _ _ c.accept.ensures.outcome _ c.in_ok-table.was in
    let least = c.least_passing.ensures _ (accepted-scale _ _ _ _ _ c.accept.ensures.outcome _ c.in_ok-table.was) in
    let holds = searched a.file.now a.plan.now a.budget a.percent (length a.out.now) c.accept.ensures _ c.in_ok-table.was least c.explore_plan-held.ensures in
    let promised = search_32 a.file.now a.plan.now a.out.now a.budget a.percent (numbers_in c.in_ok-table.table) accepted holds c.if-held-eq0.true _ refl refl in
    record { answer = promised.0; buffer = promised.1.0; visits = promised.1.1 }

pub shared_ref_as_front-copy_from_slice : goal.shared_ref_as_front-copy_from_slice
shared_ref_as_front-copy_from_slice c =
    let ok = accepted_proper _ _ _ _ _ c.accept.ensures.outcome _ c.in_ok-table.was in
    omega (arith, ok.sized, passed_choices ok.passed)

pub returns : goal.returns
returns c =
    let a = c.args in
    let accepted = accepted_request _ _ _ _ _ c.accept.ensures.outcome _ c.in_ok-table.was in
    let least = c.least_passing.ensures _ (accepted-scale _ _ _ _ _ c.accept.ensures.outcome _ c.in_ok-table.was) in
    let holds = searched a.file.now a.plan.now a.budget a.percent (length a.out.now) c.accept.ensures _ c.in_ok-table.was least c.explore_plan-held.ensures in
    let promised = search_found a.file.now a.plan.now a.out.now a.budget a.percent (numbers_in c.in_ok-table.table) accepted holds c.if-held-eq0.false c.copy_from_slice.ensures.after refl refl in
    record { answer = promised.0; buffer = promised.1.0; visits = promised.1.1 }
