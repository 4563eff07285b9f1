-- A visit of the search leaves what the visit rule leaves, in each of the four ways in which a visit goes, and gives what it calls what that asks for.
-- Assumes all that a visit is handed (`Visitable`), and that there are 512 cells.
use Prim.Native.Nat.{ℕ, suc, ◌+◌, ◌-◌, ◌≤◌, ◌<◌, ◌^◌}
use native.Mathlib.Nat.{pow-suc}
use native.Mathlib.Numerals.{add-one}
use native.Mathlib.Omega.{arith}
use mathlib.Core.Path.{◌≡◌, refl, sym, ap, ◌∙◌}
use mathlib.Core.Bool.{Bool, true, false, not, ◌||◌}
use mathlib.Core.List.{List, ◌∷◌}
use lib.ListN.{length, set, length-set}
use lib.Seq.{set-set}
use lib.Dec.{eqb, leb}
use lib.Pow.{pow_pos}
use Rattle.diagram.specs.Plans.{open_count, upper_bound}
use Rattle.diagram.specs.Visits as visits
use Rattle.diagram.specs.Visits.{lowest_open}
use Rattle.rule.specs.Rule.{Terms, terms, goes_back, worthwhile, rule}
use Rattle.rule.proofs.Ruling.{rule_back, rule_full, rule-taken, rule-both, rule-visits}
use Rattle.layers.specs.declared.arcs.LaidArcs.{LaidArcs}
use Rattle.layers.specs.Layers.{cross_nodes, own_nodes, layer_entered, layer_drop, LayerEnterable, line_left, LineLeavable}
use Rattle.layout.specs.Flows.{Same}
use Rattle.incumbent.specs.declared.Incumbent.{Incumbent}
use Rattle.incumbent.specs.Held.{visit_added, kept}
use Rattle.lines.specs.declared.lay.Line.{Line}
use Rattle.visiting.specs.Visit.{Holds, Scene, Visitable, ruled, Visited}
use Rattle.visiting.proofs.Tallying.{back_is, worth_is, counted-holds, kept-holds, kept-visits}
use Rattle.visiting.proofs.Branching as branching
use Rattle.visiting.proofs.Branching.{marked, marked-ground, same_up_to, same-line, same_refl}

-- ---------------------------------------------------------------------------
-- The visits that are left

-- a visit of the plan with a line taken finds room for its visits
room-first : (n x : ℕ) → x + 2 ^ suc (suc n) ≤ 2 ^ 63 → x + 1 + 2 ^ suc n ≤ 2 ^ 63
room-first n x h = omega (arith, pow-suc 2 (suc n), pow_pos (suc n))

-- and so does one of the plan with it left
room-second : (n x y : ℕ) → x + 2 ^ suc (suc n) ≤ 2 ^ 63 → y + 1 ≤ x + 1 + 2 ^ suc n → y + 2 ^ suc n ≤ 2 ^ 63
room-second n x y h k = omega (arith, pow-suc 2 (suc n))

-- ---------------------------------------------------------------------------
-- A visit

-- The parts of the rule for a scene
abbrev parts : Scene → Terms
parts g = terms g.table g.budget g.percent

-- What a visit asks for: the plan may be visited, and there is room for the visits
abbrev FittingAt : LaidArcs → (losses : List ℕ) → List Line → (cells marks : List ℕ) → Incumbent → (room bound : ℕ) → Type 0
FittingAt l losses lines cells marks held room bound =
    ((g : Scene) × Visitable g l losses lines cells marks held room bound) × (held.visits + 2 ^ suc (length lines) ≤ 2 ^ 63)

-- The same, and the arrays have their lengths
abbrev ReadyAt : LaidArcs → (losses : List ℕ) → List Line → (cells marks : List ℕ) → Incumbent → (room bound : ℕ) → Type 0
ReadyAt l losses lines cells marks held room bound =
    ((length cells ≡ 512) × (length marks ≡ 20)) × FittingAt l losses lines cells marks held room bound

-- What a visit leaves
abbrev pub LeavesAt : LaidArcs → (losses : List ℕ) → List Line → (cells marks : List ℕ) → Incumbent → (room bound : ℕ) → (cells' marks' : List ℕ) → Incumbent → Type 0
LeavesAt l losses lines cells marks held room bound cells' marks' held' =
    (g : Scene) → Visitable g l losses lines cells marks held room bound → Visited g lines held.visits cells marks cells' marks' held'

module _ {g : Scene} {l : LaidArcs} {losses : List ℕ} {lines : List Line} {cells marks : List ℕ} {held : Incumbent} {room bound : ℕ} (given : Visitable g l losses lines cells marks held room bound) (long : length cells ≡ 512) {held₁ : Incumbent} (now : held₁ ≡ visit_added held) where
  -- the visit is counted, and nothing else is held
  counted : Holds g.table g.budget g.least g.held held₁
  counted = counted-holds given.holds now

  counted-visits : held₁.visits ≡ suc held.visits
  counted-visits = rw (now, add-one) refl

  -- What the rule finds
  abbrev found : visits.Tally
  found = record { held = g.held; visits = held.visits }

  module _ {r : Bool} (test : r ≡ (eqb room 0 || not (leb held₁.cutoff bound))) where
    -- the first test is the rule's
    back_test : goes_back (parts g) g.plan g.held ≡ r
    back_test =
        back_is counted g.percent given.ground.passing g.plan given.stands.affords given.stands.bounded test

    -- a visit that goes back
    pub visit_back : r ≡ true → Visited g lines held.visits cells marks cells marks held₁
    visit_back back =
        let rules = rule_back (open_count g.plan) (parts g) g.plan found (back_test ∙ back) in
        record {
          long = long;
          holds = rw rules counted;
          counts = rw rules counted-visits;
          kept = refl;
          same = same_refl lines cells;
        }

    -- a visit with no line open
    pub visit_full : r ≡ false → length lines ≡ 0 → {held' : Incumbent} → held' ≡ kept bound room marks held₁ → Visited g lines held.visits cells marks cells marks held'
    unfolding terms
    visit_full stays none after =
        let stands = given.stands in
        let full = branching.plan_full given.ground stands none in
        let rules = rule_full (parts g) g.plan found (back_test ∙ stays) in
        record {
          long = long;
          holds = rw (full, rules) (kept-holds counted g.plan room bound marks after (branching.plan-length given.ground stands) given.ground.few full stands.marked stands.affords stands.bounded (sym test ∙ stays));
          counts = rw (full, rules) (kept-visits counted g.plan room bound marks after ∙ counted-visits);
          kept = refl;
          same = same_refl lines cells;
        }

  -- a visit of a plan that costs more than the budget
  pub visit-over : room ≡ 0 → Visited g lines held.visits cells marks cells marks held₁
  visit-over over = visit_back {r = true} (rw over refl) refl

-- ---------------------------------------------------------------------------
-- The lowest open line

module _ {g : Scene} {l : LaidArcs} {losses : List ℕ} {lines rest : List Line} {line : Line} (parts-are : lines ≡ line ∷ rest) {cells marks : List ℕ} {held : Incumbent} {room bound : ℕ} (handed : Visitable g l losses lines cells marks held room bound) (long : length cells ≡ 512) where
  given : Visitable g l losses (line ∷ rest) cells marks held room bound
  given = rw parts-are at handed

  -- its number, and where its layer, its own nodes, and what comes after them begin
  abbrev d : ℕ
  d = line.choice.0

  abbrev from : ℕ
  from = line.layer.first.0

  abbrev own : ℕ
  own = line.layer.own.0

  abbrev to : ℕ
  to = line.layer.next.0

  -- it is below 20
  pub line_few : d < 20
  line_few = branching.line-few given.ground given.stands

  -- its layer may be entered
  pub enter_ready : LayerEnterable l losses line.layer cells
  enter_ready = (length g.table.records, branching.enterable given.ground given.stands long)

  -- what leaving it loses is at most the bound
  pub drop_ready : {lost : ℕ} → lost ≡ layer_drop l losses line.layer cells → lost ≤ bound
  drop_ready loss = rw loss (branching.lost-bound given.ground given.stands long).0

  -- ---------------------------------------------------------------------------
  -- The line taken

  module _ {held₁ : Incumbent} (now : held₁ ≡ visit_added held) {cells₁ : List ℕ} (entered : cells₁ ≡ layer_entered l line.layer cells) where
    -- The scene of its visit
    abbrev first : Scene
    first = marked g d 1 g.held

    first_given : Visitable first l losses rest cells₁ (set marks d 1) held₁ (room - line.kits) bound
    first_given =
        record {
          ground = marked-ground given.ground d 1 g.held;
          stands = rw entered (branching.taken-stands given.ground given.stands long g.held);
          holds = counted given long now;
        }

    -- it may be visited
    pub first_fitting : held.visits + 2 ^ suc (length lines) ≤ 2 ^ 63 → FittingAt l losses rest cells₁ (set marks d 1) held₁ (room - line.kits) bound
    first_fitting fits =
        ((first, first_given), rw (counted-visits given long now, ← add-one) (room-first (length rest) held.visits (rw parts-are at fits)))

    -- and its arrays have their lengths
    pub first_ready : length marks ≡ 20 → held.visits + 2 ^ suc (length lines) ≤ 2 ^ 63 → ReadyAt l losses rest cells₁ (set marks d 1) held₁ (room - line.kits) bound
    first_ready twenty fits = ((rw entered (branching.entered-long given.ground given.stands long), rw (length-set marks d 1) twenty), first_fitting fits)

    module _ {cells₂ marks₂ : List ℕ} {held₂ : Incumbent} (visited : LeavesAt l losses rest cells₁ (set marks d 1) held₁ (room - line.kits) bound cells₂ marks₂ held₂) where
      -- what its visit leaves
      first-left : Visited first rest held₁.visits cells₁ (set marks d 1) cells₂ marks₂ held₂
      first-left = visited first first_given

      -- What the rule has then
      abbrev after : visits.Tally
      after = rule (length rest) (parts g) (set g.plan (lowest_open g.plan) 1) (record { held = g.held; visits = suc held.visits })

      after_first : ruled first held₁.visits ≡ after
      after_first =
          rw (branching.line_lowest given.ground given.stands, counted-visits given long now, (branching.marked-count given.ground given.stands 0).1) refl

      -- the cells are the same up to the end of the layer
      first-same : Same to (own_nodes l own (to - own) (cross_nodes l from (own - from) cells)) cells₂
      first-same = rw entered at (same_up_to rest (branching.rest-begins given.ground given.stands) first-left.same)

      -- the plan has one line more open
      open_more : open_count g.plan ≡ suc (length rest)
      open_more =
          let count = branching.marked-count given.ground given.stands 0 in
          count.0 ∙ ap suc count.1

      -- the line may be left
      pub leave_ready : LineLeavable line.layer
      leave_ready =
          let leaves = branching.leavable given.ground given.stands in
          (leaves.0, leaves.1)

      module _ {lost : ℕ} (loss : lost ≡ layer_drop l losses line.layer cells) where
        left-bound : bound - lost ≡ upper_bound g.table (set g.plan d 2)
        left-bound = rw loss (branching.lost-bound given.ground given.stands long).1

        module _ {r : Bool} (test : r ≡ (eqb room 0 || not (leb held₁.cutoff bound))) (stays : r ≡ false) {b : Bool} (beaten : b ≡ not (leb held₂.cutoff (bound - lost))) where
          -- the second test is the rule's
          worth_test : worthwhile (parts g) (set g.plan (lowest_open g.plan) 2) after.held ≡ not b
          worth_test =
              ap (λ (i : ℕ). worthwhile (parts g) (set g.plan i 2) after.held) (branching.line_lowest given.ground given.stands)
              ∙ worth_is (rw after_first at first-left.holds) g.percent given.ground.passing (set g.plan d 2) left-bound beaten

          -- a visit that ends after the plan with the line taken
          pub visit-taken : b ≡ true → Visited g lines held.visits cells marks cells₂ (set marks₂ d 0) held₂
          visit-taken is =
              let rules : ruled g held.visits ≡ after = rw open_more (rule-taken (length rest) (parts g) g.plan (found given long now) (back_test given long now test ∙ stays) (worth_test ∙ ap not is)) in
              rw parts-are (record {
                long = first-left.long;
                holds = rw (rules, ← after_first) first-left.holds;
                counts = rw (rules, ← after_first) first-left.counts;
                kept = rw first-left.kept (branching.marks_back given.ground given.stands 1);
                same = same-line line rest (branching.same-before given.ground given.stands long first-same);
              })

        -- ---------------------------------------------------------------------------
        -- The line left

        module _ {cells₃ : List ℕ} (leaves : cells₃ ≡ line_left line.layer cells₂) where
          -- The scene of its visit
          abbrev second : Scene
          second = marked g d 2 (ruled first held₁.visits).held

          second-marks : set marks₂ d 2 ≡ set marks d 2
          second-marks = rw first-left.kept (set-set marks d 1 2)

          second_given : Visitable second l losses rest cells₃ (set marks₂ d 2) held₂ room (bound - lost)
          second_given =
              record {
                ground = marked-ground given.ground d 2 _;
                stands = rw (leaves, second-marks, loss) (branching.left-stands given.ground given.stands long first-same first-left.long _);
                holds = first-left.holds;
              }

          -- it may be visited after the other
          pub second_fitting : held.visits + 2 ^ suc (length lines) ≤ 2 ^ 63 → FittingAt l losses rest cells₃ (set marks₂ d 2) held₂ room (bound - lost)
          second_fitting fits =
              let most = rule-visits (length rest) (parts g) (set g.plan (lowest_open g.plan) 1) (record { held = g.held; visits = suc held.visits }) in
              let counts : held₂.visits ≡ after.visits = rw after_first at first-left.counts in
              ((second, second_given), room-second (length rest) held.visits held₂.visits (rw parts-are at fits) (rw counts (omega (arith, most))))

          -- and its arrays have their lengths
          pub second_ready : length marks ≡ 20 → held.visits + 2 ^ suc (length lines) ≤ 2 ^ 63 → ReadyAt l losses rest cells₃ (set marks₂ d 2) held₂ room (bound - lost)
          second_ready twenty fits = ((rw leaves (branching.left-long given.ground given.stands long first-same first-left.long), rw (second-marks, length-set marks d 2) twenty), second_fitting fits)

          module _ {cells₄ marks₄ : List ℕ} {held₄ : Incumbent} (visited-too : LeavesAt l losses rest cells₃ (set marks₂ d 2) held₂ room (bound - lost) cells₄ marks₄ held₄) where
            -- what its visit leaves
            second-left : Visited second rest held₂.visits cells₃ (set marks₂ d 2) cells₄ marks₄ held₄
            second-left = visited-too second second_given

            -- what the rule has then
            after-second : ruled second held₂.visits ≡ rule (length rest) (parts g) (set g.plan (lowest_open g.plan) 2) after
            after-second =
                rw
                (first-left.counts, after_first, (branching.marked-count given.ground given.stands 1).1, branching.line_lowest given.ground given.stands)
                refl

            -- a visit that ends after both
            pub visit-both : {r : Bool} → r ≡ (eqb room 0 || not (leb held₁.cutoff bound)) → r ≡ false → {b : Bool} → b ≡ not (leb held₂.cutoff (bound - lost)) → b ≡ false → Visited g lines held.visits cells marks cells₄ (set marks₄ d 0) held₄
            visit-both test stays beaten is =
                let rules : ruled g held.visits ≡ rule (length rest) (parts g) (set g.plan (lowest_open g.plan) 2) after = rw open_more (rule-both (length rest) (parts g) g.plan (found given long now) (back_test given long now test ∙ stays) (worth_test test stays beaten ∙ ap not is)) in
                rw parts-are (record {
                  long = second-left.long;
                  holds = rw (rules, ← after-second) second-left.holds;
                  counts = rw (rules, ← after-second) second-left.counts;
                  kept = rw (second-left.kept, second-marks) (branching.marks_back given.ground given.stands 2);
                  same = same-line line rest (branching.same-before_too given.ground given.stands long first-same first-left.long (rw leaves at (same_up_to rest (branching.rest-begins given.ground given.stands) second-left.same)));
                })
