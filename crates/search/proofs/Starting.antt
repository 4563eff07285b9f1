-- What a search lays out once is what its first visit starts from.
-- Assumes of the decoded table that it is accepted (`Sound`), and for the first visit that the arrays hold it, laid out for a search from the plan
-- (`Arranged`).
use Prim.Native.Nat.{ℕ, zero, suc, ◌+◌, ◌-◌, ◌≤◌, ◌<◌, ◌^◌, min}
use native.Mathlib.Nat.{add-zero}
use native.Mathlib.Omega.{arith}
use native.Mathlib.Decide.{ℕ_discrete, dec_lt}
use mathlib.Core.Path.{◌≡◌, refl, ap, sym, ◌∙◌}
use mathlib.Core.Bool.{Bool, true, false, cond, false≢true}
use mathlib.Core.Logic.{by_cases}
use mathlib.Core.Option.{none, some-ne-none}
use mathlib.Core.List.{List, [], ◌∷◌, ◌++◌}
use lib.ListN.{length, get_or, take, drop, replicate, length-append, length-replicate, drop_of_length-le}
use lib.Pow.{pow_mono}
use lib.Seq.{take-length, take-append_seam, get_or-drop, get_or-take, drop-cons}
use Rattle.diagram.specs.Table.{Variable, choice, chance, Table, is_choice, choice_count}
use Rattle.diagram.specs.Plans.{open_count, cost_of, cost, LeastPassing}
use Rattle.diagram.specs.Visits as visits
use Rattle.terms.specs.declared.plan.Plan.{Plan}
use Rattle.cost.proofs.Kits.{cost-first}
use Rattle.decoding.specs.declared.table.Decoded.{Decoded}
use Rattle.decoding.specs.Decoding.{pad_to, table_in, Held, Valid, Sound}
use Rattle.decoding.proofs.Padding.{pad_at}
use Rattle.decoding.proofs.Standing.{choice-position_in}
use Rattle.rule.proofs.Visiting.{visited-rule}
use Rattle.weighing.specs.Value.{marks_from}
use Rattle.valuing.specs.Passes.{mark_of}
use Rattle.valuing.proofs.Forcing.{choices-before}
use Rattle.derivatives.proofs.Leaving.{choices-later}
use Rattle.incumbent.specs.declared.Incumbent.{Incumbent}
use Rattle.incumbent.specs.Held.{none_held}
use Rattle.layers.specs.declared.arcs.LaidArcs.{LaidArcs}
use Rattle.layout.specs.Flows as layers
use Rattle.layout.specs.Flows.{Stand}
use Rattle.layout.specs.Layout.{Ending, Arranged}
use Rattle.lines.specs.Open.{rows, open_from, open_lines}
use Rattle.lines.specs.Laid.{Listing, listing_of, listing_of_plan, layer_start, line_at, lines_from, numbers_of}
use Rattle.lines.specs.declared.lay.Line.{Line}
use Rattle.lines.proofs.Listed.{lines-length, lines-few}
use Rattle.lines.proofs.LaidLines.{laid-length}
use Rattle.visiting.specs.Visit.{padded, Holds, LineLaid, BeginsAt, AllLaid, RightBefore, Scene, Visitable, ruled, Visited}
use Rattle.search.specs.Searched.{priced, Searched}
use Rattle.search.proofs.Priced.{priced-formed, priced-monotone, priced-bound, priced-passing, priced-layered, priced-line}

-- ---------------------------------------------------------------------------
-- The positions of the choices

-- The position of choice number i
unfoldable pub choice_position : List Variable → (i : ℕ) → ℕ
choice_position [] i = 0
choice_position (choice ∷ vs) zero = 0
choice_position (choice ∷ vs) (suc i) = suc (choice_position vs i)
choice_position (chance a b ∷ vs) i = suc (choice_position vs i)

-- the position of a choice is within the variables, a choice's, and that of its number
choice-at : (vs : List Variable) (i : ℕ) → i < choice_count vs → (choice_position vs i < length vs) × (is_choice (get_or vs (choice_position vs i) (chance 0 1)) ≡ true) × (choice_count (take (choice_position vs i) vs) ≡ i)
unfolding choice_position choice_count is_choice
choice-at [] i l = absurd (omega arith)
choice-at (choice ∷ vs) zero l = (omega arith, refl, refl)
choice-at (choice ∷ vs) (suc i) l =
    let at = choice-at vs i (omega arith) in
    (omega arith, at.1, ap suc at.2)
choice-at (chance a b ∷ vs) i l =
    let at = choice-at vs i l in
    (omega arith, at.1, at.2)

-- every choice has a position
choice-stands : (t : Table) (i : ℕ) → i < choice_count t.variables → Stand t i (choice_position t.variables i)
choice-stands t i l =
    let at = choice-at t.variables i l in
    record { within = at.0; chosen = at.1; number = at.2 }

-- the choices stand in order of their numbers
stand-later : {t : Table} {i j x y : ℕ} → Stand t i x → Stand t j y → i < j → x < y
stand-later {t} {i} {j} {x} {y} a b l =
    by_cases (dec_lt x y) (λ h. h) (λ f. by_cases (ℕ_discrete x y)
    (λ e. absurd (omega (arith, a.number, b.number, ap (λ (z : ℕ). choice_count (take z t.variables)) e)))
    (λ g. absurd (omega (arith, a.number, b.number, choices-later t.variables y x (omega arith) b.chosen))))

-- a choice's position is that of its number
position-own : (vs : List Variable) (x : ℕ) → x < length vs → is_choice (get_or vs x (chance 0 1)) ≡ true → choice_position vs (choice_count (take x vs)) ≡ x
unfolding choice_position choice_count is_choice
position-own [] x h e = absurd (omega arith)
position-own (choice ∷ vs) zero h e = refl
position-own (choice ∷ vs) (suc x) h e = ap suc (position-own vs x (omega arith) e)
position-own (chance a b ∷ vs) zero h e = absurd (false≢true e)
position-own (chance a b ∷ vs) (suc x) h e = ap suc (position-own vs x (omega arith) e)

-- a decoded table has the positions of its choices
pub choice-positions-own : {d : Decoded} → Held d → (i : ℕ) → i < choice_count (table_in d).variables → get_or d.choice_positions i 0 ≡ choice_position (table_in d).variables i
choice-positions-own {d} h i l =
    let at = choice-position_in h i (omega (arith, h.choices)) in
    sym (position-own (table_in d).variables _ at.within at.is) ∙ ap (choice_position (table_in d).variables) at.number

-- ---------------------------------------------------------------------------
-- The open lines

-- number k of the open lines is open, and k lines before it are
open_at : (i : ℕ) (p : List ℕ) (k : ℕ) → k < open_count p → ((d : ℕ) × (get_or (open_from i p) k 0 ≡ i + d) × (d < length p) × (open_count (take d p) ≡ k) × (get_or p d 0 ≡ 0))
unfolding open_from open_count
open_at i [] k l = absurd (omega arith)
open_at i (zero ∷ p) zero l = (0, omega arith, omega arith, refl, refl)
open_at i (zero ∷ p) (suc k) l =
    let at = open_at (suc i) p k (omega arith) in
    (suc at.0, omega (arith, at.1), omega (arith, at.2), ap suc at.3, at.4)
open_at i (suc m ∷ p) k l =
    let at = open_at (suc i) p k l in
    (suc at.0, omega (arith, at.1), omega (arith, at.2), at.3, at.4)

-- the lines open before an open line are fewer than those before any later line
open_later : (p : List ℕ) (e d : ℕ) → e < d → e < length p → get_or p e 0 ≡ 0 → open_count (take e p) < open_count (take d p)
unfolding open_count
open_later p e zero h l o = absurd (omega arith)
open_later [] e (suc d) h l o = absurd (omega arith)
open_later (zero ∷ p) zero (suc d) h l o = omega arith
open_later (suc m ∷ p) zero (suc d) h l o = absurd (omega (arith, o))
open_later (zero ∷ p) (suc e) (suc d) h l o = omega (arith, open_later p e d (omega arith) (omega arith) o)
open_later (suc m ∷ p) (suc e) (suc d) h l o = open_later p e d (omega arith) (omega arith) o

-- A line that is open in plan s, with its number among the open lines and its position
record Opened (t : Table) (s : List ℕ) (k d x : ℕ) : Type 0 where
  stand : Stand t d x
  count : open_count (take d s) ≡ k
  within : d < length s
  mark : get_or s d 0 ≡ 0

module _ (t : Table) (s : List ℕ) (long : length s ≡ choice_count t.variables) where
  -- number k of the open lines
  opened : (k : ℕ) → k < open_count s → Opened t s k (get_or (open_lines s) k 0) (choice_position t.variables (get_or (open_lines s) k 0))
  unfolding open_lines
  opened k l =
      let at = open_at 0 s k l in
      let number : get_or (open_from 0 s) k 0 ≡ at.0 = omega (arith, at.1) in
      rw number (record {
        stand = choice-stands t at.0 (omega (arith, at.2, long));
        count = at.3;
        within = at.2;
        mark = at.4;
      })

  -- they stand in order
  opened_later : {j k d e x y : ℕ} → Opened t s j d x → Opened t s k e y → j < k → x < y
  opened_later {j} {k} {d} {e} a b l =
      stand-later a.stand b.stand
      (by_cases (dec_lt d e) (λ h. h) (λ f. by_cases (ℕ_discrete d e)
      (λ q. absurd (omega (arith, a.count, b.count, ap (λ (z : ℕ). open_count (take z s)) q)))
      (λ g. absurd (omega (arith, a.count, b.count, open_later s e d (omega arith) b.within b.mark)))))

  -- a mark 0 is an open line's
  mark_opened : (y : ℕ) → y < length t.variables → mark_of t.variables s y ≡ 0 → Opened t s (open_count (take (choice_count (take y t.variables)) s)) (choice_count (take y t.variables)) y
  unfolding mark_of marks_from
  mark_opened y h e = go (is_choice (get_or t.variables y (chance 0 1))) refl (rw (get_or-drop, add-zero) at e)
    where
      go : (b : Bool) → is_choice (get_or t.variables y (chance 0 1)) ≡ b → cond b (get_or s (choice_count (take y t.variables)) 0) 3 ≡ 0 → Opened t s (open_count (take (choice_count (take y t.variables)) s)) (choice_count (take y t.variables)) y
      go true c e =
          record {
            stand = record { within = h; chosen = c; number = refl };
            count = refl;
            within = omega (arith, long, choices-before t.variables y h c);
            mark = e;
          }
      go false c e = absurd (omega (arith, e))

  -- between two neighbours of the list, and before its first line, no line is open
  before-first : {d x y : ℕ} → Opened t s 0 d x → y < length t.variables → y < x → mark_of t.variables s y ≡ 0 → ⊥
  before-first {d} {x} {y} a h l e =
      let o = mark_opened y h e in
      omega (arith, a.count, open_later s (choice_count (take y t.variables)) d (omega (arith, choices-later t.variables y x l o.stand.chosen, a.stand.number)) o.within o.mark)

  between : {k d e x z y : ℕ} → Opened t s k d x → Opened t s (suc k) e z → y < length t.variables → x < y → y < z → mark_of t.variables s y ≡ 0 → ⊥
  between {k} {d} {e} {x} {z} {y} a b h l g q =
      let o = mark_opened y h q in
      let i = choice_count (take y t.variables) in
      let after = open_later s d i (omega (arith, a.stand.number, choices-later t.variables x y l a.stand.chosen)) a.within a.mark in
      let before = open_later s i e (omega (arith, b.stand.number, choices-later t.variables y z g o.stand.chosen)) o.within o.mark in
      omega (arith, a.count, b.count, after, before)

  -- ---------------------------------------------------------------------------
  -- The layers of the open lines

  module _ {order ends : List ℕ} (ending : Ending t order ends) where
    -- the layer of the first open line
    first-line : {d x : ℕ} → Opened t s 0 d x → layers.Line t s order 0 (get_or ends x 0) (get_or ends (x + 1) 0) d
    first-line {d} {x} a =
        let within = a.stand.within in
        record {
          position = x;
          stand = a.stand;
          bounds = (omega arith, ending.rising x (x + 1) (omega arith) (omega arith), ending.within (x + 1) (omega arith));
          before = λ j h. ending.before x j (omega arith) h;
          here = λ j h g. ending.here x j within h g;
          plain = λ j h g e.
              let less = ending.before x j (omega arith) g in
              before-first a (omega (arith, less)) less e;
          covers = λ f. ending.sums x within f;
        }

    -- the layer of an open line after another
    next-line : {k c d w x : ℕ} → Opened t s k c w → Opened t s (suc k) d x → layers.Line t s order (get_or ends (w + 1) 0) (get_or ends x 0) (get_or ends (x + 1) 0) d
    next-line {k} {c} {d} {w} {x} b a =
        let within = a.stand.within in
        let later = opened_later b a (omega arith) in
        record {
          position = x;
          stand = a.stand;
          bounds = (ending.rising (w + 1) x (omega (arith, later)) (omega arith), ending.rising x (x + 1) (omega arith) (omega arith), ending.within (x + 1) (omega arith));
          before = λ j h. ending.before x j (omega arith) h;
          here = λ j h g. ending.here x j within h g;
          plain = λ j h g e.
              let less = ending.before x j (omega arith) g in
              let more = ending.after (w + 1) j (omega (arith, later)) h (omega (arith, ending.within x (omega arith))) in
              between b a (omega (arith, less)) (omega (arith, more)) less e;
          covers = λ f. ending.sums x within f;
        }

  -- ---------------------------------------------------------------------------
  -- The lines as `Lines::of_plan` lays them out

  module _ (count : ℕ) (numbers positions : List ℕ) (listed : numbers ≡ pad_to 20 (open_lines s)) (counted : count ≡ length (open_lines s)) (chosen : (i : ℕ) → i < choice_count t.variables → get_or positions i 0 ≡ choice_position t.variables i) where
    -- all open lines are listed
    pub open_counted : count ≡ open_count s
    unfolding open_lines
    open_counted = counted ∙ lines-length 0 s

    number_at : (i : ℕ) → i < count → get_or numbers i 0 ≡ get_or (open_lines s) i 0
    number_at i h = rw listed (pad_at 20 (open_lines s) i (omega (arith, counted)))

    opened_at : (i : ℕ) → i < count → Opened t s i (get_or (open_lines s) i 0) (choice_position t.variables (get_or (open_lines s) i 0))
    opened_at i h = opened i (omega (arith, open_counted))

    position_at_lem : (i : ℕ) → i < count → get_or positions (get_or numbers i 0) 0 ≡ choice_position t.variables (get_or (open_lines s) i 0)
    position_at_lem i h =
        let few = (opened_at i h).within in
        rw (number_at i h) (chosen (get_or (open_lines s) i 0) (omega (arith, few, long)))

    -- what `Lines::of_plan` asks for
    pub numbers-few : choice_count t.variables ≤ 20 → length t.variables < 64 → (i : ℕ) → i < count → (get_or numbers i 0 < 20) × (get_or positions (get_or numbers i 0) 0 < 64)
    numbers-few few short i h =
        let at = opened_at i h in
        (rw (number_at i h) (omega (arith, at.within, long)), rw (position_at_lem i h) (omega (arith, at.stand.within)))

    module _ {order ends : List ℕ} (kits : List ℕ) (ending : Ending t order ends) where
      -- The table with these kits, and what the lines are laid out from
      abbrev own_kits : Table
      own_kits = priced (take (length s) kits) t

      abbrev listing : Listing
      listing = listing_of numbers positions ends kits

      -- each open line has the layer and the kits of its choice
      line-laid : (i : ℕ) → i < count → LineLaid own_kits s order (line_at listing i)
      unfolding priced layer_start
      line-laid i h =
          record {
            layer = priced-line _ t (rw (position_at_lem i h, number_at i h) (go i h));
            priced = rw (number_at i h) (sym (get_or-take (length s) kits (get_or (open_lines s) i 0) 0 (opened_at i h).within));
          }
        where
          go : (i : ℕ) → i < count → layers.Line t s order (layer_start listing i) (get_or ends (choice_position t.variables (get_or (open_lines s) i 0)) 0) (get_or ends (choice_position t.variables (get_or (open_lines s) i 0) + 1) 0) (get_or (open_lines s) i 0)
          go zero h = first-line ending (opened_at 0 h)
          go (suc i) h = rw (position_at_lem i (omega arith)) (next-line ending (opened_at i (omega arith)) (opened_at (suc i) h))

      line-begins : (i n : ℕ) → BeginsAt (get_or ends (get_or positions (get_or numbers i 0) 0 + 1) 0) (lines_from listing (suc i) n)
      unfolding BeginsAt lines_from layer_start
      line-begins i zero = tt {0}
      line-begins i (suc n) = refl

      all-laid : (i n : ℕ) → i + n ≡ count → AllLaid own_kits s order (lines_from listing i n)
      unfolding AllLaid lines_from
      all-laid i zero e = tt {0}
      all-laid i (suc n) e = (line-laid i (omega arith), (line-begins i n, all-laid (suc i) n (omega arith)))

      -- the numbers of the open lines
      numbers_laid : (i n : ℕ) → i + n ≡ count → numbers_of (lines_from listing i n) ≡ drop i (open_lines s)
      unfolding numbers_of lines_from open_lines
      numbers_laid i zero e =
          sym (drop_of_length-le (open_lines s) {i = i} (omega (arith, open_counted, lines-length 0 s)))
      numbers_laid i (suc n) e =
          rw (number_at i (omega arith), numbers_laid (suc i) n (omega arith)) (sym (drop-cons (open_lines s) i 0 (omega (arith, open_counted, lines-length 0 s))))

      -- all lines are laid out, and none is before the first
      pub lines_laid : AllLaid own_kits s order (lines_from listing 0 count)
      lines_laid = all-laid 0 count (omega arith)

      pub lines_listed : open_lines s ≡ numbers_of (lines_from listing 0 count)
      lines_listed = sym (numbers_laid 0 count (omega arith))

      pub first-right : (u cells : List ℕ) → RightBefore own_kits s u order (lines_from listing 0 count) cells
      unfolding RightBefore lines_from layer_start
      first-right u cells = go count
        where
          go : (n : ℕ) → RightBefore own_kits s u order (lines_from listing 0 n) cells
          go zero = tt {0}
          go (suc n) = record { high = λ j k h e. absurd (omega arith); low = λ j k h e. absurd (omega arith) }

-- ---------------------------------------------------------------------------
-- The first visit

-- the plan that a list of at most 20 marks hands in
pub handed_in : (p : List ℕ) (start : Plan) → length p ≤ 20 → start.marks ≡ take (min (length p) 20) p ++ replicate (20 - min (length p) 20) 0 → start.count ≡ min (length p) 20 → (rows start ≡ p) × (start.marks ≡ padded p) × (length start.marks ≡ 20)
handed_in p start few marks count =
    let all : min (length p) 20 ≡ length p = omega arith in
    let own : take (length p) p ≡ p = take-length p in (
      rw (marks, count, all, own) (take-append_seam p (replicate (20 - length p) 0)),
      rw (marks, all, own) refl,
      rw (marks, all, own, length-append, length-replicate) (omega arith),
    )

-- What is visited first, where the lines take these kits
abbrev pub first_scene : (kits : List ℕ) → Table → (p order : List ℕ) → (percent budget least : ℕ) → Scene
first_scene kits t p order percent budget least =
    record {
      table = priced (take (length p) kits) t;
      start = p;
      order = order;
      percent = percent;
      budget = budget;
      least = least;
      plan = p;
      held = none;
    }

-- nothing is held, and no visit counted
pub nothing-held : (t : Table) (budget least : ℕ) {h : Incumbent} → h ≡ none_held least → Holds t budget least none h × (h.visits ≡ 0)
nothing-held t budget least e =
    rw e (record { nothing = λ q. (refl, refl, refl); something = λ q h. absurd (some-ne-none q (sym h)) }, refl)

-- The plan by value is the one handed in
pub record Ready (p : List ℕ) (start : Plan) : Type 0 where
  pub handed : (rows start ≡ p) × (start.marks ≡ padded p) × (length start.marks ≡ 20)

pub made_ready : {d : Decoded} {p : List ℕ} {start : Plan} → Sound d → length p ≡ choice_count (table_in d).variables → start.marks ≡ take (min (length p) 20) p ++ replicate (20 - min (length p) 20) 0 → start.count ≡ min (length p) 20 → Ready p start
made_ready sound long marks count =
    record { handed = handed_in _ _ (omega (arith, long, sound.valid.choices)) marks count }

-- How many lines of a plan are open, and their numbers
abbrev first_open : Plan → ℕ
first_open start = length (open_lines (rows start))

abbrev first_numbers : Plan → List ℕ
first_numbers start = pad_to 20 (open_lines (rows start))

module _ {d : Decoded} {p : List ℕ} (sound : Sound d) (long : length p ≡ choice_count (table_in d).variables) {start : Plan} (ready : Ready p start) where
  lists : first_numbers start ≡ pad_to 20 (open_lines p)
  lists = rw ready.handed.0 refl

  room : first_open start ≡ length (open_lines p)
  room = rw ready.handed.0 refl

  -- there are at most 20
  pub first_count : first_open start ≤ 20
  first_count = omega (arith, room, lines-few p, long, sound.valid.choices)

  -- what `Lines::of_plan` asks for
  pub first-few : (i : ℕ) → i < first_open start → (get_or (first_numbers start) i 0 < 20) × (get_or d.choice_positions (get_or (first_numbers start) i 0) 0 < 64)
  first-few =
      numbers-few (table_in d) p long (first_open start) (first_numbers start) d.choice_positions lists room (choice-positions-own sound.held) sound.valid.choices (omega (arith, sound.valid.variables))

  -- all that the first visit is handed
  pub first_visitable : (kits : List ℕ) → {percent budget least bound left : ℕ} {ends order losses cells marks : List ℕ} {lines : List Line} {h : Incumbent} {l : LaidArcs} → Arranged (table_in d) p bound ends order l losses → lines ≡ lines_from (listing_of_plan start d.choice_positions ends kits) 0 (first_open start) → get_or cells 1 0 ≡ 1 → marks ≡ start.marks → left ≡ budget + 1 - cost_of kits p → LeastPassing (table_in d) percent least → Holds (priced (take (length p) kits) (table_in d)) budget least none h → Visitable (first_scene kits (table_in d) p order percent budget least) l losses lines cells marks h left bound
  unfolding cost priced
  first_visitable kits {lines = lines} arranged laid heavy same affords passing holds =
      let list = take (length p) kits in
      let chosen = choice-positions-own sound.held in
      record {
        ground = record {
          passing = priced-passing list (table_in d) _ _ passing;
          few = sound.valid.choices;
          layered = priced-layered list (table_in d) arranged.layered;
        };
        stands = record {
          settles = record { size = refl; kept = λ i f. refl; later = λ i h. refl };
          marked = same ∙ ready.handed.1;
          listed = rw laid (lines_listed (table_in d) p long (first_open start) (first_numbers start) d.choice_positions lists room chosen kits arranged.ending);
          laid = rw laid (lines_laid (table_in d) p long (first_open start) (first_numbers start) d.choice_positions lists room chosen kits arranged.ending);
          affords = rw (cost-first kits p) affords;
          bounded = arranged.bounded ∙ sym (priced-bound list (table_in d) p);
          right = rw laid (first-right (table_in d) p long (first_open start) (first_numbers start) d.choice_positions lists room chosen kits arranged.ending _ _);
          rooted = heavy;
        };
        holds = holds;
      }

  -- the visits fit
  pub first-room : {n : ℕ} {lines : List Line} (l : Listing) → n ≡ 0 → lines ≡ lines_from l 0 (first_open start) → n + 2 ^ suc (length lines) ≤ 2 ^ 63
  first-room {lines = lines} l e laid =
      let all : length lines ≡ first_open start = rw laid (laid-length l 0 (first_open start)) in
      omega (arith, e, pow_mono {i = suc (length lines)} {j = 21} (omega (arith, all, first_count)))

-- what the first visit leaves is what document 01's search does
pub first_explored : {t : Table} {p : List ℕ} → Valid t → (kits : List ℕ) → {percent budget least counted : ℕ} {order cells marks cells' marks' : List ℕ} {lines : List Line} {h : Incumbent} → counted ≡ 0 → Visited (first_scene kits t p order percent budget least) lines counted cells marks cells' marks' h → Searched (priced (take (length p) kits) t) percent budget least p h
first_explored {t} {p} valid kits {percent} {budget} {least} {counted} {order} e v =
    let list = take (length p) kits in
    let u = priced list t in
    let formed = priced-formed list t valid.formed in
    let monotone = priced-monotone list t valid.monotone in
    let done : ruled (first_scene kits t p order percent budget least) counted ≡ visits.visited u budget percent p = rw e (sym (visited-rule u formed monotone budget percent p)) in
    record { holds = rw done at v.holds; counts = v.counts ∙ ap (λ (w : visits.Tally). w.visits) done }
