-- A table with other kits in place of its own: whatever does not read the kits is as before.
-- Assumes nothing.
use Prim.Native.Nat.{ℕ, zero, suc}
use mathlib.Core.Path.{◌≡◌, refl}
use mathlib.Core.List.{List}
use lib.ListN.{length}
use Rattle.diagram.specs.Table.{Table, scale}
use Rattle.diagram.specs.Score.{score_from, score}
use Rattle.diagram.specs.Plans.{upper_bound, passes, LeastPassing}
use Rattle.diagram.specs.Checks.{is_monotone_at}
use Rattle.diagram.specs.Validity.{Formed, Monotone}
use Rattle.weighing.specs.Value.{node_position, marks_from, value_from, value, gap, variable_at, high_arc, low_arc}
use Rattle.valuing.specs.Passes.{mark_of}
use Rattle.derivatives.specs.Down.{root_weight}
use Rattle.layers.specs.declared.arcs.LaidArcs.{LaidArcs}
use Rattle.layout.specs.Flows.{high_at, low_at, Layered, Line, at_sum}
use Rattle.search.specs.Searched.{priced}

module _ (k : List ℕ) (t : Table) where
  pub priced-formed : Formed (length t.variables) t.records → Formed (length (priced k t).variables) (priced k t).records
  unfolding priced
  priced-formed h = h

  pub priced-monotone : Monotone t → Monotone (priced k t)
  unfolding priced is_monotone_at
  priced-monotone h = h

  pub priced-bound : (p : List ℕ) → upper_bound (priced k t) p ≡ upper_bound t p
  unfolding priced upper_bound score score_from
  priced-bound p = refl

  pub priced-passing : (percent x : ℕ) → LeastPassing t percent x → LeastPassing (priced k t) percent x
  unfolding priced passes scale
  priced-passing percent x h = h

  -- what the roots bring
  priced-root-weight : (m i : ℕ) → root_weight (priced k t) m i ≡ root_weight t m i
  unfolding priced root_weight gap node_position
  priced-root-weight m zero = refl
  priced-root-weight m (suc i) = rw (priced-root-weight m i) refl

  pub priced-layered : {s order losses : List ℕ} {l : LaidArcs} → Layered t s order l losses → Layered (priced k t) s order l losses
  unfolding priced is_monotone_at scale high_at low_at high_arc low_arc variable_at mark_of marks_from node_position gap value value_from
  priced-layered h =
      record {
        formed = h.formed;
        shares = h.shares;
        monotone = h.monotone;
        bounded = h.bounded;
        scaled = h.scaled;
        rooted = h.rooted;
        some = h.some;
        plan = h.plan;
        legal = h.legal;
        sized = h.sized;
        nodes = h.nodes;
        inflows = λ cells one high low i less right. rw priced-root-weight (h.inflows cells one high low i less right);
        lost = h.lost;
      }

  priced-sum : (f : ℕ → ℕ) (x n : ℕ) → at_sum (priced k t) f x n ≡ at_sum t f x n
  unfolding priced at_sum
  priced-sum f x zero = refl
  priced-sum f x (suc n) = rw (priced-sum f x n) refl

  pub priced-line : {s order : List ℕ} {from own to d : ℕ} → Line t s order from own to d → Line (priced k t) s order from own to d
  unfolding priced mark_of marks_from node_position
  priced-line h =
      record {
        position = h.position;
        stand = record { within = h.stand.within; chosen = h.stand.chosen; number = h.stand.number };
        bounds = h.bounds;
        before = h.before;
        here = h.here;
        plain = h.plain;
        covers = λ f. rw priced-sum (h.covers f);
      }

-- with its own kits it is itself
pub priced-own : (t : Table) → priced t.kits t ≡ t
unfolding priced
priced-own t = refl
