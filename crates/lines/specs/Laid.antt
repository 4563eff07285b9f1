-- The open lines as a search has them, the lowest first.
use Rattle.std.specs.Prelude.{ℕ, zero, suc, ◌+◌, ◌-◌, ◌<◌, List, [], ◌∷◌, ◌++◌, get_or, replicate}
use Rattle.terms.specs.declared.plan.Plan.{Plan}
use Rattle.decoding.specs.Decoding.{pad_to}
use Rattle.lines.specs.Open.{rows, open_lines}
use Rattle.lines.specs.declared.lay.Line.{Line}

-- The numbers of lines
unfoldable pub numbers_of : List Line → List ℕ
numbers_of [] = []
numbers_of (line ∷ lines) = line.choice.0 ∷ numbers_of lines

-- ---------------------------------------------------------------------------
-- The lines, as they are laid out

-- The numbers of open lines, by choice number the position and the kits, and by position how many nodes stand before it
pub record Listing : Type 0 where
  pub numbers : List ℕ
  pub positions : List ℕ
  pub ends : List ℕ
  pub kits : List ℕ

abbrev pub listing_of : (numbers positions ends kits : List ℕ) → Listing
listing_of numbers positions ends kits = record { numbers = numbers; positions = positions; ends = ends; kits = kits }

-- That of the open lines of a plan
abbrev pub listing_of_plan : Plan → (positions ends kits : List ℕ) → Listing
listing_of_plan plan = listing_of (pad_to 20 (open_lines (rows plan)))

-- Number i of the lines, and its position
abbrev pub number_at : Listing → (i : ℕ) → ℕ
number_at l i = get_or l.numbers i 0

abbrev pub position_at : Listing → (i : ℕ) → ℕ
position_at l i = get_or l.positions (number_at l i) 0

-- The first so many lines are choices, and their positions are a table's
abbrev pub Positioned : Listing → (count : ℕ) → Type 0
Positioned l count = (i : ℕ) → i < count → (number_at l i < 20) × (position_at l i < 64)

-- The rank where the layer of line i begins: 0, or where the nodes of the line before it end
unfoldable pub layer_start : Listing → (i : ℕ) → ℕ
layer_start l zero = 0
layer_start l (suc i) = get_or l.ends (position_at l i + 1) 0

-- Line i: the ranks where its layer begins and where its own nodes begin and end, its number and its kits
abbrev pub line_at : Listing → (i : ℕ) → Line
line_at l i =
    record {
      layer = record {
        first = record { 0 = layer_start l i };
        own = record { 0 = get_or l.ends (position_at l i) 0 };
        next = record { 0 = get_or l.ends (position_at l i + 1) 0 };
      };
      choice = record { 0 = number_at l i };
      kits = get_or l.kits (number_at l i) 0;
    }

-- n lines from line i on
unfoldable pub lines_from : Listing → (i n : ℕ) → List Line
lines_from l i zero = []
lines_from l i (suc n) = line_at l i ∷ lines_from l (suc i) n

-- What stands where no line does
abbrev pub no_line : Line
no_line =
    record {
      layer = record {
        first = record { 0 = 0 };
        own = record { 0 = 0 };
        next = record { 0 = 0 };
      };
      choice = record { 0 = 0 };
      kits = 0;
    }

-- The first `count` lines in an array of 20
abbrev pub lines_laid : Listing → (count : ℕ) → List Line
lines_laid l count = lines_from l 0 count ++ replicate (20 - count) no_line
