-- What `sweep` answers and what it leaves in its buffer, from what its callees answer.
-- Assumes nothing.
use Prim.Native.Nat.{ℕ}
use mathlib.Core.Path.{◌≡◌, sym, ◌∙◌}
use mathlib.Core.List.{List}
use lib.ListN.{length, take, replicate}
use lib.Seq.{take_at}
use Rattle.diagram.specs.Table.{table_of}
use Rattle.diagram.specs.Plans.{upper_bound, derivative, derivatives}
use Rattle.diagram.specs.Services.{refused, answered, Reading, sweep_outcome, sweep_buffer}
use Rattle.diagram.proofs.Places.{sequence-length}
use Rattle.arrays.specs.Arrays.{over}
use Rattle.requesting.specs.Request.{request_outcome}
use Rattle.requesting.proofs.Serving.{kept, filled}
use Rattle.requesting.proofs.Requests.{proper, sweep_refused, sweep_answered}

-- the first numbers of what is written over the front of an array
front : (new old : List ℕ) (n : ℕ) → length new ≡ n → take n (over new old) ≡ new
unfolding over
front new old n e = take_at new _ n e

module _ (s p held : List ℕ) where
  pub sweep_turned : (n i : ℕ) → request_outcome s p 0 0 (length held) ≡ refused n i → (refused n i ≡ sweep_outcome s p (length held)) × (held ≡ sweep_buffer s p held)
  unfolding sweep_buffer
  sweep_turned n i e = kept _ held n i (sweep_refused s p (length held) n i e)

  pub sweep_done : (r : Reading) → request_outcome s p 0 0 (length held) ≡ answered r → {x : ℕ} {numbers ds : List ℕ} → x ≡ upper_bound (table_of s) p → numbers ≡ over (derivatives (table_of s) p) (replicate 20 0) → ds ≡ take (length held) numbers → (answered (record { upper_bound = x; derivatives = ds }) ≡ sweep_outcome s p (length held)) × (ds ≡ sweep_buffer s p held)
  unfolding sweep_buffer derivatives
  sweep_done r e {x} {numbers} {ds} ex en ed =
      let ok = proper s p 0 0 (length held) r e in
      let long : length (derivatives (table_of s) p) ≡ length held = sequence-length (derivative (table_of s) p) 0 (length p) ∙ ok.long ∙ sym ok.sized in
      let all : ds ≡ derivatives (table_of s) p = ed ∙ rw en (front (derivatives (table_of s) p) (replicate 20 0) (length held) long) in
      rw (ex, all) (filled _ held _ (sweep_answered s p (length held) r e))
