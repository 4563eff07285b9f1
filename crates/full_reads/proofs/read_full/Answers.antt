-- What a read has put stands after what was there. Assumes nothing.
use Rattle.std.proofs.Common.{◌≡◌, ℕ, ◌+◌, List, ◌++◌, take, ap, ◌∙◌, append_assoc, ◌≤◌, length, arith}
use Rattle.std.proofs.lemmas.List.{take_at, drop_at, take-append-le, length-take-le, length-append}
use Rattle.std.proofs.Math.Seq.{take-add}
use Rattle.std.specs.Prelude.{Option, None, Some}
use Rattle.std.specs.Io.KnownBytes.{Consumes}
use Rattle.full_reads.proofs.read_full.Goals as goal

-- bytes that left, and then more
consumes_both : (a b c : Option (List ℕ)) (xs ys : List ℕ) → Consumes a b xs → Consumes b c ys → Consumes a c (xs ++ ys)
consumes_both None b c xs ys p q = tt
consumes_both (Some all) None c xs ys p q = absurd p
consumes_both (Some all) (Some left) None xs ys p q = absurd q
consumes_both (Some all) (Some left) (Some end) xs ys p q = rw append_assoc (p ∙ ap (λ l. xs ++ l) q)

-- the front of a list whose part from d on is written anew
front : (d n : ℕ) (xs ys zs : List ℕ) → d ≤ length xs → n ≤ length ys → take (d + n) (take d xs ++ (ys ++ zs)) ≡ take d xs ++ take n ys
front d n xs ys zs h k =
    let e = length-take-le d xs h in
    rw (take-add d n (take d xs ++ (ys ++ zs)), take_at (take d xs) (ys ++ zs) d e, drop_at (take d xs) (ys ++ zs) d e, take-append-le n ys zs k)

-- and how long it is at least
long : (d n : ℕ) (xs ys zs : List ℕ) → d ≤ length xs → n ≤ length ys → d + n ≤ length (take d xs ++ (ys ++ zs))
long d n xs ys zs h k = rw (length-append, length-append) (omega (arith, length-take-le d xs h))

pub loop-done-preserved : goal.loop-done-preserved
loop-done-preserved g c =
    let room : c.loop-done.done ≤ length c.loop-done.buffer = c.loop-done.invariant.within in
    let came = c.in_ok-n.ensures in
    record {
      within = long c.loop-done.done c.in_ok-n.n c.loop-done.buffer c.read.new.buf _ room came.bound.0;
      bytes = rw (front c.loop-done.done c.in_ok-n.n c.loop-done.buffer c.read.new.buf _ room came.bound.0) (consumes_both _ _ _ _ _ c.loop-done.invariant.bytes came.bytes.0);
    }
