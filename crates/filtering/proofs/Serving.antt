-- What `filter` answers and what it leaves in its buffer, from what its callees answer.
-- Assumes nothing.
use Prim.Native.Nat.{ℕ}
use native.Mathlib.Omega.{arith}
use mathlib.Core.Path.{◌≡◌, refl, ◌∙◌}
use mathlib.Core.Bool.{true, false, not}
use mathlib.Core.List.{List}
use lib.ListN.{length, replicate}
use Rattle.std.specs.Prelude.{Result, Ok}
use Rattle.diagram.specs.Table.{table_of, scale}
use Rattle.diagram.specs.Plans.{completions, upper_bound, derivative, derivatives, passes, LeastPassing, none_of, passing, forced_plan, forced_count}
use Rattle.diagram.specs.Services.{refused, answered, Reading, filtering, filter_outcome, filter_buffer}
use Rattle.reading.proofs.Accepted.{passed_formed, passed_monotone, passed_choices}
use Rattle.arrays.specs.Arrays.{over}
use Rattle.arrays.proofs.Over.{over-sequence-at}
use Rattle.requesting.specs.Request.{request_outcome}
use Rattle.requesting.proofs.Requests.{Proper, filter-refused, filter-answered, accepted_request, accepted_proper, accepted-scale}
use Rattle.requesting.proofs.Serving.{kept, filled}
use Rattle.terms.specs.declared.refusal.Refusal.{Refusal}
use Rattle.decoding.specs.declared.table.Decoded.{Decoded}
use Rattle.decoding.specs.Decoding.{table_in, Sound}
use Rattle.reading.specs.Answer.{numbers_in, Reads}
use Rattle.filtering.specs.Forced.{Swept}
use Rattle.filtering.proofs.ForcedLines.{none_passes}

-- What the checks have shown of a request whose table is handed out
pub record Shown (s p : List ℕ) (percent size : ℕ) (d : Decoded) : Type 0 where
  pub answer : request_outcome s p 0 percent size ≡ answered (numbers_in d)
  pub proper : Proper s p 0 percent size
  pub scale : d.scale ≡ scale (table_of s)
  pub table : (table_in d ≡ table_of s) × Sound d
  pub none : none_of (passing (table_of s) percent) (completions p) ≡ not (passes (table_of s) percent (upper_bound (table_of s) p))

pub shown : {s p : List ℕ} {percent size : ℕ} {r : Result Decoded Refusal} → Reads s (request_outcome s p 0 percent size) r → (d : Decoded) → r ≡ Ok d → Shown s p percent size d
shown {s} {p} {percent} {size} reads d e =
    let ok = accepted_proper s p 0 percent size reads.outcome d e in
    record {
      answer = accepted_request s p 0 percent size reads.outcome d e;
      proper = ok;
      scale = accepted-scale s p 0 percent size reads.outcome d e;
      table = reads.accepted d e;
      none = none_passes _ (passed_formed ok.passed) (passed_monotone ok.passed) _ _;
    }

-- the top and the drops of a request that no check turns away
pub request_swept : {s p : List ℕ} {budget percent size : ℕ} → Proper s p budget percent size → {x y : ℕ} {numbers : List ℕ} → LeastPassing (table_of s) percent y → x ≡ upper_bound (table_of s) p → numbers ≡ over (derivatives (table_of s) p) (replicate 20 0) → Swept (table_of s) p percent y x numbers
unfolding derivatives
request_swept {s} {p} ok {x} {y} least ex en =
    record {
      formed = passed_formed ok.passed;
      monotone = passed_monotone ok.passed;
      passing = least;
      top = ex;
      few = omega (arith, passed_choices ok.passed);
      derivatives = λ i l. rw en (over-sequence-at (derivative (table_of s) p) (replicate 20 0) (length p) i l);
    }

module _ (s p held : List ℕ) (percent : ℕ) where
  pub filter_turned : (n i : ℕ) → request_outcome s p 0 percent (length held) ≡ refused n i → (refused n i ≡ filter_outcome s p percent (length held)) × (held ≡ filter_buffer s p percent held)
  unfolding filter_buffer
  filter_turned n i e = kept _ held n i (filter-refused s p (length held) percent n i e)

  module _ (r : Reading) (e : request_outcome s p 0 percent (length held) ≡ answered r) (none : none_of (passing (table_of s) percent) (completions p) ≡ not (passes (table_of s) percent (upper_bound (table_of s) p))) {x : ℕ} (top : x ≡ upper_bound (table_of s) p) where
    -- 31 where the top does not pass
    pub filter_31 : passes (table_of s) percent x ≡ false → (refused 31 0 ≡ filter_outcome s p percent (length held)) × (held ≡ filter_buffer s p percent held)
    unfolding filter_buffer filtering
    filter_31 fails =
        let none_true : none_of (passing (table_of s) percent) (completions p) ≡ true = none ∙ rw (← top, fails) refl in
        kept _ held 31 0 (filter-answered s p (length held) percent r e ∙ rw none_true refl)

    -- the forced lines where it does
    pub filter_done : passes (table_of s) percent x ≡ true → {n : ℕ} {q : List ℕ} → n ≡ forced_count (table_of s) percent p → q ≡ forced_plan (table_of s) percent p → (answered (record { forced = n; plan = q }) ≡ filter_outcome s p percent (length held)) × (q ≡ filter_buffer s p percent held)
    unfolding filter_buffer filtering
    filter_done passed en eq =
        let none_false : none_of (passing (table_of s) percent) (completions p) ≡ false = none ∙ rw (← top, passed) refl in
        rw (en, eq) (filled _ held _ (filter-answered s p (length held) percent r e ∙ rw none_false refl))
