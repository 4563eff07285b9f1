-- What a visit is handed and what it leaves: the plan visited, what is known of it, and the best plan so far with the visits.
use Rattle.std.specs.Prelude.{ℕ, suc, ◌+◌, ◌-◌, ◌≤◌, ◌^◌, ◌≡◌, List, [], ◌∷◌, ◌++◌, length, get_or, replicate}
use Rattle.std.proofs.Math.Option.{Option, none, some}
use Rattle.diagram.specs.Table.{Table, choice_count}
use Rattle.diagram.specs.Score as scores
use Rattle.diagram.specs.Plans.{open_taken, open_count, cost, upper_bound, LeastPassing}
use Rattle.diagram.specs.Visits as visits
use Rattle.rule.specs.Rule.{terms, rule}
use Rattle.incumbent.specs.declared.Incumbent.{Incumbent}
use Rattle.layers.specs.Cells.{root_cell}
use Rattle.layers.specs.declared.arcs.LaidArcs.{LaidArcs}
use Rattle.layout.specs.declared.Layout.{Layout}
use Rattle.layout.specs.Flows as flows
use Rattle.layout.specs.Flows.{Layered, Settles, Right, Same}
use Rattle.lines.specs.Open.{open_lines}
use Rattle.lines.specs.Laid.{numbers_of}
use Rattle.lines.specs.declared.lay.Line.{Line}
use Rattle.visiting.specs.declared.visits.State.{State}

-- ---------------------------------------------------------------------------
-- Plans

-- A plan as an array of 20 marks, of which those after the last choice are 0
abbrev pub padded : List ℕ → List ℕ
padded p = p ++ replicate (20 - length p) 0

-- ---------------------------------------------------------------------------
-- What is held

-- Plan q is held: the least bound that is worth a visit is its score, the room is its own, it is within the budget, and its score passes
pub record Holding (t : Table) (budget least : ℕ) (q : List ℕ) (h : Incumbent) : Type 0 where
  pub size : length q ≡ choice_count t.variables
  pub plan : h.marks ≡ padded q
  pub scored : h.cutoff ≡ scores.score t q
  pub room : h.room ≡ budget + 1 - cost t q
  pub within : cost t q ≤ budget
  pub passes : least ≤ scores.score t q

-- What is held of the best plan. Where there is none, the least bound that is worth a visit is the least score that passes, the room is 0, and the marks are
-- all 0.
pub record Holds (t : Table) (budget least : ℕ) (held : Option (List ℕ)) (h : Incumbent) : Type 0 where
  pub nothing : held ≡ none → (h.cutoff ≡ least) × (h.room ≡ 0) × (h.marks ≡ replicate 20 0)
  pub something : (q : List ℕ) → held ≡ some q → Holding t budget least q h

-- ---------------------------------------------------------------------------
-- Lines

-- An open line has the layer and the kits of its choice
pub record LineLaid (t : Table) (s order : List ℕ) (line : Line) : Type 0 where
  pub layer : flows.Line t s order line.layer.first.0 line.layer.own.0 line.layer.next.0 line.choice.0
  pub priced : line.kits ≡ get_or t.kits line.choice.0 0

-- The layer of the first of some lines, if there is one, begins at rank i
unfoldable pub BeginsAt : (i : ℕ) → List Line → Type 0
BeginsAt i [] = Unit {0}
BeginsAt i (line ∷ rest) = line.layer.first.0 ≡ i

-- Lines laid out one after the other: the layer of each begins where that of the line before it ends
unfoldable pub AllLaid : Table → (s order : List ℕ) → List Line → Type 0
AllLaid t s order [] = Unit {0}
AllLaid t s order (line ∷ rest) =
    LineLaid t s order line × (BeginsAt line.layer.next.0 rest × AllLaid t s order rest)

-- ---------------------------------------------------------------------------
-- Cells

-- The cells of the nodes before the first line's layer, if there is one, are right
unfoldable pub RightBefore : Table → (s u order : List ℕ) → List Line → (cells : List ℕ) → Type 0
RightBefore t s u order [] cells = Unit {0}
RightBefore t s u order (line ∷ rest) cells = Right t s u order line.layer.first.0 cells

-- and the same as others; with no line all cells are the same
unfoldable pub SameBefore : List Line → (cells cells' : List ℕ) → Type 0
SameBefore [] cells cells' = cells' ≡ cells
SameBefore (line ∷ rest) cells cells' = Same line.layer.first.0 cells cells'

-- ---------------------------------------------------------------------------
-- A visit

-- The table and the plan that a search starts from, the nodes in order of position, the percentage, the budget and the least score that passes, the plan
-- visited, and the best plan held
pub record Scene : Type 0 where
  pub table : Table
  pub start : List ℕ
  pub order : List ℕ
  pub percent : ℕ
  pub budget : ℕ
  pub least : ℕ
  pub plan : List ℕ
  pub held : Option (List ℕ)

-- What does not change during a search
pub record Ground (g : Scene) (l : LaidArcs) (losses : List ℕ) : Type 0 where
  pub passing : LeastPassing g.table g.percent g.least
  pub few : choice_count g.table.variables ≤ 20
  pub layered : Layered g.table g.start g.order l losses

-- What is handed to a visit: the plan's marks, its open lines, its room and its bound, and cells that are right before the lowest open line's layer
pub record Stands (g : Scene) (lines : List Line) (cells marks : List ℕ) (room bound : ℕ) : Type 0 where
  pub settles : Settles g.start g.plan
  pub marked : marks ≡ padded g.plan
  pub listed : open_lines g.plan ≡ numbers_of lines
  pub laid : AllLaid g.table g.start g.order lines
  pub affords : room ≡ g.budget + 1 - cost g.table g.plan
  pub bounded : bound ≡ upper_bound g.table g.plan
  pub right : RightBefore g.table g.start (open_taken g.plan) g.order lines cells
  pub rooted : get_or cells root_cell 0 ≡ 1

-- All that a visit is handed
pub record Visitable (g : Scene) (l : LaidArcs) (losses : List ℕ) (lines : List Line) (cells marks : List ℕ) (held : Incumbent) (room bound : ℕ) : Type 0 where
  pub ground : Ground g l losses
  pub stands : Stands g lines cells marks room bound
  pub holds : Holds g.table g.budget g.least g.held held

-- What the rule leaves of a visit that finds so many visits counted
abbrev pub ruled : Scene → (n : ℕ) → visits.Tally
ruled g n =
    rule (open_count g.plan) (terms g.table g.budget g.percent) g.plan (record { held = g.held; visits = n })

-- What a visit leaves: what the rule leaves, the marks as they were, and the cells before the first line's layer as they were. There are as many cells.
pub record Visited (g : Scene) (lines : List Line) (counted : ℕ) (cells marks cells' marks' : List ℕ) (held' : Incumbent) : Type 0 where
  pub long : length cells' ≡ 512
  pub holds : Holds g.table g.budget g.least (ruled g counted).held held'
  pub counts : held'.visits ≡ (ruled g counted).visits
  pub kept : marks' ≡ marks
  pub same : SameBefore lines cells cells'

-- A scene fits the layout, the lines, the state, the room and the bound
abbrev pub Fits : Scene → Layout → List Line → State → (room bound : ℕ) → Type 0
Fits g layout lines state room bound =
    Visitable g layout.arcs layout.losses lines state.cells state.marks state.held room bound

-- What a visit asks for: a scene fits, and there is room to count the visits
abbrev pub Fitting : Layout → List Line → State → (room bound : ℕ) → Type 0
Fitting layout lines state room bound =
    ((g : Scene) × Fits g layout lines state room bound) × (state.held.visits + 2 ^ suc (length lines) ≤ 2 ^ 63)

-- The same, and the arrays have their lengths
abbrev pub Ready : Layout → List Line → State → (room bound : ℕ) → Type 0
Ready layout lines state room bound =
    ((length state.cells ≡ 512) × (length state.marks ≡ 20)) × Fitting layout lines state room bound

-- What a visit leaves, whichever scene fits
abbrev pub Leaves : Layout → List Line → State → (room bound : ℕ) → State → Type 0
Leaves layout lines state room bound state' =
    (g : Scene) → Fits g layout lines state room bound →
    Visited g lines state.held.visits state.cells state.marks state'.cells state'.marks state'.held
