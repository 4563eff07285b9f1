-- The plan visited with its lowest open line taken, or left: what its visit is handed.
-- Assumes what does not change during a search (`Ground`) and what a visit is handed (`Stands`).
use Prim.Native.Nat.{ℕ, zero, suc, ◌-◌, ◌≤◌, ◌<◌}
use native.Mathlib.Omega.{arith}
use mathlib.Core.Path.{◌≡◌, refl, ap, sym, ◌∙◌}
use mathlib.Core.Bool.{true}
use mathlib.Core.List.{List, [], ◌∷◌}
use mathlib.Core.Option.{Option}
use lib.ListN.{length, get_or, set, replicate, length-set, get_or-append}
use lib.Seq.{get_or-set_other, set-append_left, set-get_or, set-set}
use borrow.Author.Tests.{eqb-true}
use Rattle.diagram.specs.Table.{Table, choice_count}
use Rattle.diagram.specs.Plans.{open_taken, open_count, cost, upper_bound, is_open}
use Rattle.diagram.specs.Visits.{lowest_open}
use Rattle.cost.proofs.Kits.{cost-taken, cost-left}
use Rattle.rule.proofs.Opening.{open_count-set}
use Rattle.layers.specs.declared.arcs.LaidArcs.{LaidArcs}
use Rattle.layers.specs.Layers.{cross_nodes, own_nodes, drop_sum, leave_nodes, Enterable}
use Rattle.layout.specs.Flows as layers
use Rattle.layout.specs.Flows.{Settles, Right, Same}
use Rattle.lines.specs.Open.{open_lines}
use Rattle.lines.proofs.Listed.{open_le}
use Rattle.lines.specs.Laid.{numbers_of}
use Rattle.lines.specs.declared.lay.Line.{Line}
use Rattle.visiting.specs.Visit.{padded, LineLaid, BeginsAt, AllLaid, RightBefore, SameBefore, Scene, Ground, Stands}
use Rattle.visiting.proofs.OpenLines.{lines_none, lines_lowest, lines-count, lines-within, lines_open, lines-marked, taken-same}
use Rattle.layout.proofs.Weights.{drop-top}
use Rattle.layout.proofs.Flows as flows
use Rattle.layout.proofs.Flows.{same_fewer, same_trans}

-- ---------------------------------------------------------------------------
-- Plans

-- the mark of an open line is 0
open_mark : (p : List ℕ) (d : ℕ) → is_open p d ≡ true → get_or p d 0 ≡ 0
unfolding is_open
open_mark [] d o = refl
open_mark (m ∷ p) zero o = eqb-true m 0 o
open_mark (m ∷ p) (suc d) o = open_mark p d o

-- with the lowest open line marked, the lowest open line comes later
lowest_later : (p : List ℕ) (m : ℕ) → lowest_open p < length p → lowest_open p < lowest_open (set p (lowest_open p) (suc m))
unfolding lowest_open
lowest_later [] m h = absurd (omega arith)
lowest_later (zero ∷ p) m h = omega arith
lowest_later (suc k ∷ p) m h = omega (arith, lowest_later p m (omega arith))

-- with the lowest open line marked, a plan still settles the lowest lines first
settles-next : {s p : List ℕ} → Settles s p → {d : ℕ} → lowest_open p ≡ d → is_open p d ≡ true → d < length p → (m : ℕ) → Settles s (set p d (suc m))
settles-next {s} {p} settles {d} lowest o within m =
    let unmarked : get_or s d 0 ≡ 0 = sym (settles.later d (omega (arith, lowest))) ∙ open_mark p d o in
    let later : d < lowest_open (set p d (suc m)) = rw lowest at (lowest_later p m (omega (arith, lowest, within))) in
    record {
      size = length-set p d (suc m) ∙ settles.size;
      kept = λ i closed. get_or-set_other p d i (suc m) 0 (λ e. closed (ap (λ (j : ℕ). get_or s j 0) e ∙ unmarked)) ∙ settles.kept i closed;
      later = λ i h. get_or-set_other p d i (suc m) 0 (omega arith) ∙ settles.later i (omega (arith, lowest));
    }

-- ---------------------------------------------------------------------------
-- The open lines

numbers-length : (lines : List Line) → length (numbers_of lines) ≡ length lines
unfolding numbers_of
numbers-length [] = refl
numbers-length (line ∷ rest) = ap suc (numbers-length rest)

numbers-none : (lines : List Line) → length lines ≡ 0 → numbers_of lines ≡ []
unfolding numbers_of
numbers-none [] e = refl
numbers-none (line ∷ rest) e = absurd (omega arith)

-- cells that are right up to the rank where some lines begin are right before them
right-before : {t : Table} {s u order cells : List ℕ} {i : ℕ} (lines : List Line) → BeginsAt i lines → Right t s u order i cells → RightBefore t s u order lines cells
unfolding BeginsAt RightBefore
right-before [] begins right = tt {0}
right-before (line ∷ rest) begins right = rw begins right

-- and cells that are the same before some lines are so up to the rank where these begin
pub same_up_to : {cells cells' : List ℕ} {i : ℕ} (lines : List Line) → BeginsAt i lines → SameBefore lines cells cells' → Same i cells cells'
unfolding BeginsAt SameBefore
same_up_to [] begins same = rw same (record { high = λ j h. refl; low = λ j h. refl; root = refl })
same_up_to (line ∷ rest) begins same = rw begins at same

pub same-line : (line : Line) (rest : List Line) {cells cells' : List ℕ} → Same line.layer.first.0 cells cells' → SameBefore (line ∷ rest) cells cells'
unfolding SameBefore
same-line line rest same = same

-- cells are the same as themselves
pub same_refl : (lines : List Line) (cells : List ℕ) → SameBefore lines cells cells
unfolding SameBefore
same_refl [] cells = refl
same_refl (line ∷ rest) cells = record { high = λ j h. refl; low = λ j h. refl; root = refl }

-- ---------------------------------------------------------------------------
-- Scenes

-- The scene with line d marked and another plan held
abbrev pub marked : Scene → (d m : ℕ) → Option (List ℕ) → Scene
marked g d m held =
    record {
      table = g.table;
      start = g.start;
      order = g.order;
      percent = g.percent;
      budget = g.budget;
      least = g.least;
      plan = set g.plan d m;
      held = held;
    }

module _ {g : Scene} {l : LaidArcs} {losses : List ℕ} (ground : Ground g l losses) where
  -- what does not change is the same for it
  pub marked-ground : (d m : ℕ) (held : Option (List ℕ)) → Ground (marked g d m held) l losses
  marked-ground d m held =
      record { passing = ground.passing; few = ground.few; layered = ground.layered }

  -- the plan has as many marks as the table has choices
  pub plan-length : {lines : List Line} {cells marks : List ℕ} {room bound : ℕ} → Stands g lines cells marks room bound → length g.plan ≡ choice_count g.table.variables
  plan-length stands = stands.settles.size ∙ ground.layered.plan

  -- with no open line it is full
  pub plan_full : {lines : List Line} {cells marks : List ℕ} {room bound : ℕ} → Stands g lines cells marks room bound → length lines ≡ 0 → open_count g.plan ≡ 0
  plan_full {lines} stands e = lines_none _ (stands.listed ∙ numbers-none lines e)

  -- ---------------------------------------------------------------------------
  -- The lowest open line

  module _ {line : Line} {rest : List Line} {cells marks : List ℕ} {room bound : ℕ} (stands : Stands g (line ∷ rest) cells marks room bound) where
    -- its number, and where its layer, its own nodes, and what comes after them begin
    abbrev d : ℕ
    d = line.choice.0

    abbrev from : ℕ
    from = line.layer.first.0

    abbrev own : ℕ
    own = line.layer.own.0

    abbrev to : ℕ
    to = line.layer.next.0

    -- the plan's open lines are this one and those after it
    lines_next : open_lines g.plan ≡ d ∷ numbers_of rest
    unfolding numbers_of
    lines_next = stands.listed

    pub line_lowest : lowest_open g.plan ≡ d
    line_lowest = lines_lowest _ d _ lines_next

    line_open : is_open g.plan d ≡ true
    line_open = lines_open _ d _ lines_next

    line-within : d < length g.plan
    line-within = lines-within _ d _ lines_next

    -- it is below 20
    pub line-few : d < 20
    line-few = omega (arith, line-within, plan-length stands, ground.few)

    -- it is laid out, and so are the others
    line-laid : LineLaid g.table g.start g.order line × (BeginsAt to rest × AllLaid g.table g.start g.order rest)
    unfolding AllLaid
    line-laid = stands.laid

    -- its layer
    pub line-layer : layers.Line g.table g.start g.order from own to d
    line-layer = line-laid.0.layer

    -- the others begin where it ends
    pub rest-begins : BeginsAt to rest
    rest-begins = line-laid.1.0

    -- the cells before its layer are right
    line-right : Right g.table g.start (open_taken g.plan) g.order from cells
    unfolding RightBefore
    line-right = stands.right

    -- its layer may be left
    pub leavable : (own ≤ to) × (to ≤ 254)
    leavable =
        let bounds = line-layer.bounds in
        (bounds.1, omega (arith, bounds.2, ground.layered.sized.few))

    -- with it marked, one line less is open
    pub marked-count : (m : ℕ) → (open_count g.plan ≡ suc (open_count (set g.plan d (suc m)))) × (open_count (set g.plan d (suc m)) ≡ length rest)
    marked-count m =
        let count = lines-count _ d _ lines_next in
        let less = rw line_lowest at (open_count-set g.plan (length (numbers_of rest)) m count) in
        (count ∙ ap suc (sym less), less ∙ numbers-length rest)

    -- the open lines are 1 to 20
    pub unsettled-few : (1 ≤ length (line ∷ rest)) × (length (line ∷ rest) ≤ 20)
    unsettled-few =
        (omega arith, omega (arith, marked-count 0, open_le g.plan, plan-length stands, ground.few))

    -- marking it in the array marks it in the plan
    marked-marks : (m : ℕ) → set marks d m ≡ padded (set g.plan d m)
    marked-marks m =
        rw (stands.marked, length-set g.plan d m) (set-append_left g.plan (replicate (20 - length g.plan) 0) d m line-within)

    -- once it is open again the marks are as before
    pub marks_back : (m : ℕ) → set (set marks d m) d 0 ≡ marks
    marks_back m =
        let unmarked : get_or marks d 0 ≡ 0 = rw stands.marked (get_or-append g.plan _ 0 d line-within ∙ open_mark g.plan d line_open) in
        set-set marks d m 0 ∙ rw unmarked at (set-get_or marks d 0)

    -- with it marked, the plan settles the lowest lines first, and the others are open
    settles-marked : (m : ℕ) → Settles g.start (set g.plan d (suc m))
    settles-marked m = settles-next stands.settles line_lowest line_open line-within m

    listed-marked : (m : ℕ) → open_lines (set g.plan d (suc m)) ≡ numbers_of rest
    listed-marked m = lines-marked _ d _ lines_next m

    -- ---------------------------------------------------------------------------
    -- The line taken

    module _ (long : length cells ≡ 512) where
      -- its layer may be entered
      pub enterable : Enterable l losses (length g.table.records) from own to cells
      enterable =
          flows.enterable ground.layered stands.settles line-layer line_lowest line_open cells long stands.rooted line-right

      -- the cells then, and what leaving it loses
      abbrev pub entered : List ℕ
      entered = own_nodes l own (to - own) (cross_nodes l from (own - from) cells)

      abbrev pub lost : ℕ
      lost = drop_sum l losses own (to - own) (cross_nodes l from (own - from) cells)

      entered-same : Same from cells entered
      entered-same =
          flows.entered-same ground.layered stands.settles line-layer line_lowest line_open cells long stands.rooted line-right

      pub entered-long : length entered ≡ 512
      entered-long =
          flows.entered-long ground.layered stands.settles line-layer line_lowest line_open cells long stands.rooted line-right

      -- it loses no more than the bound, and the bound then is that of the plan with the line left
      pub lost-bound : (lost ≤ bound) × (bound - lost ≡ upper_bound g.table (set g.plan d 2))
      lost-bound =
          let layered = ground.layered in
          let drop = flows.entered-drop layered stands.settles line-layer line_lowest line_open cells long stands.rooted line-right in
          let top = drop-top g.table layered.formed layered.shares layered.sized.few layered.rooted layered.monotone g.plan d line_open in
          (omega (arith, drop, top, stands.bounded), omega (arith, drop, top, stands.bounded))

      -- the plan with the line taken
      pub taken-stands : (held : Option (List ℕ)) → Stands (marked g d 1 held) rest entered (set marks d 1) (room - line.kits) bound
      unfolding upper_bound cost
      taken-stands held =
          let same = taken-same g.plan d line_open in
          record {
            settles = settles-marked 0;
            marked = marked-marks 1;
            listed = listed-marked 0;
            laid = line-laid.1.1;
            affords = omega (arith, stands.affords, cost-taken g.table.kits g.plan d line_open, line-laid.0.priced);
            bounded = rw same stands.bounded;
            right = right-before rest rest-begins (rw same (flows.entered-right ground.layered stands.settles line-layer line_lowest line_open cells long stands.rooted line-right));
            rooted = entered-same.root ∙ stands.rooted;
          }

      module _ {cells' : List ℕ} (same : Same to entered cells') where
        -- cells that are the same up to the end of the layer are the same before it
        pub same-before : Same from cells cells'
        same-before =
            let bounds = line-layer.bounds in
            same_trans entered-same (same_fewer (omega (arith, bounds.0, bounds.1)) same)

        -- ---------------------------------------------------------------------------
        -- The line left

        module _ (long' : length cells' ≡ 512) where
          -- the cells once its layer is left
          abbrev pub left_cells : List ℕ
          left_cells = leave_nodes own (to - own) cells'

          left-same : Same own cells' left_cells
          left-same =
              flows.left-same ground.layered stands.settles line-layer line_lowest line_open cells long stands.rooted line-right cells' long' same

          pub left-long : length left_cells ≡ 512
          left-long =
              flows.left-long ground.layered stands.settles line-layer line_lowest line_open cells long stands.rooted line-right cells' long' same

          -- the plan with the line left
          pub left-stands : (held : Option (List ℕ)) → Stands (marked g d 2 held) rest left_cells (set marks d 2) room (bound - lost)
          unfolding cost
          left-stands held =
              record {
                settles = settles-marked 1;
                marked = marked-marks 2;
                listed = listed-marked 1;
                laid = line-laid.1.1;
                affords = rw (cost-left g.table.kits g.plan d line_open) stands.affords;
                bounded = lost-bound.1;
                right = right-before rest rest-begins (flows.left-right ground.layered stands.settles line-layer line_lowest line_open cells long stands.rooted line-right cells' long' same);
                rooted = left-same.root ∙ same-before.root ∙ stands.rooted;
              }

          -- cells that are the same up to the end of the layer are the same before it
          pub same-before_too : {cells'' : List ℕ} → Same to left_cells cells'' → Same from cells cells''
          same-before_too too =
              let bounds = line-layer.bounds in
              same_trans
              (same_trans same-before (same_fewer bounds.0 left-same))
              (same_fewer (omega (arith, bounds.0, bounds.1)) too)
