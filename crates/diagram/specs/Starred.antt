-- Document 01, "Tried at the counter": the twelve starred cases, five of which have another answer since paper 1 of document 02, what else that paper says
-- of certain events, of the printed job and of the filter at every percentage, lines of several kits (paper 2), and several roots (paper 3).
use Rattle.std.specs.Prelude.{ℕ, zero, suc, ◌+◌, ◌*◌, ◌/◌, ◌%◌, ◌≡◌, List, [], ◌∷◌, ◌++◌, map, length, take, drop, replicate}
use Rattle.diagram.specs.Table.{scale}
use Rattle.diagram.specs.Score.{score}
use Rattle.diagram.specs.Services.{Outcome, refused, answered}
use Rattle.diagram.specs.Services.{read_outcome, score_outcome, sweep_outcome, filter_outcome, search_outcome}
use Rattle.diagram.specs.Printout.{printout}

-- "Table A, (line 0 and event 1) or (line 1 and event 3), events 1/2 and 6/10"
unfoldable pub table_a : List ℕ
table_a =
    0x11 ∷ 0x00 ∷ 0x20 ∷ 0x00
    ∷ 0x20 ∷ 0x00 ∷ 0x00 ∷ 0x00
    ∷ 0x30 ∷ 0x40 ∷ 0x08 ∷ 0x02
    ∷ 0x20 ∷ 0x80 ∷ 0x00 ∷ 0x00
    ∷ 0x30 ∷ 0xC0 ∷ 0x30 ∷ 0x0A
    ∷ 0x40 ∷ 0xC0 ∷ 0x08 ∷ 0x00
    ∷ 0x40 ∷ 0x80 ∷ 0x10 ∷ 0x00
    ∷ 0x40 ∷ 0x40 ∷ 0x08 ∷ 0x03
    ∷ 0x40 ∷ 0x00 ∷ 0x20 ∷ 0x03
    ∷ []

-- Table A with certain events: words 2 and 4 are those of 2/2 and 10/10
unfoldable pub certain_a : List ℕ
certain_a = take 8 table_a ++ 0x30 ∷ 0x40 ∷ 0x10 ∷ 0x02 ∷ take 4 (drop 12 table_a) ++ 0x30 ∷ 0xC0 ∷ 0x50 ∷ 0x0A ∷ drop 20 table_a

-- "Table B is 10801000 20000000 3040380A 40400800 40001000: one line, one event of 7/10." Its last word is given apart.
unfoldable pub table_b : List ℕ → List ℕ
table_b last =
    0x10 ∷ 0x80 ∷ 0x10 ∷ 0x00
    ∷ 0x20 ∷ 0x00 ∷ 0x00 ∷ 0x00
    ∷ 0x30 ∷ 0x40 ∷ 0x38 ∷ 0x0A
    ∷ 0x40 ∷ 0x40 ∷ 0x08 ∷ 0x00
    ∷ last

-- Table A with a river span for line 0: R, its kits less one, is 256 and a byte that is given apart
unfoldable pub river0 : (byte : ℕ) → List ℕ
river0 byte = take 4 table_a ++ 0x20 ∷ 0x00 ∷ 0x01 ∷ byte ∷ drop 8 table_a

-- Table A with a river span for line 1, in the same way
unfoldable pub river1 : (byte : ℕ) → List ℕ
river1 byte = take 12 table_a ++ 0x20 ∷ 0x80 ∷ 0x01 ∷ byte ∷ drop 16 table_a

-- Line 0, or lines 1 and 2 together, and no event. R of line 0, its kits less one, is given apart; the others take one kit each.
unfoldable pub two_ways : (less : ℕ) → List ℕ
two_ways less =
    0x10 ∷ 0xC0 ∷ 0x18 ∷ 0x00
    ∷ 0x20 ∷ 0x00 ∷ 0x00 ∷ less
    ∷ 0x20 ∷ 0x40 ∷ 0x00 ∷ 0x00
    ∷ 0x20 ∷ 0x80 ∷ 0x00 ∷ 0x00
    ∷ 0x40 ∷ 0x80 ∷ 0x08 ∷ 0x00
    ∷ 0x40 ∷ 0x40 ∷ 0x10 ∷ 0x00
    ∷ 0x40 ∷ 0x00 ∷ 0x08 ∷ 0x03
    ∷ []

-- A root word of kind 6 with P 0 and R below 256
unfoldable pub root_word : (reward node : ℕ) → List ℕ
root_word reward node = 0x60 ∷ reward / 32 ∷ 8 * (reward % 32) ∷ node ∷ []

-- Table A with some root words, of which the heading says that they are so many
unfoldable pub rooted_a : (count : ℕ) → List ℕ → List ℕ
rooted_a count words = 0x11 ∷ 0x00 ∷ 0x20 ∷ count ∷ drop 4 table_a ++ words

-- Table A with two roots: its own, node 5, with reward 3, and node 3, which is line 1 and event 3, with reward 1
unfoldable pub two_roots : List ℕ
two_roots = rooted_a 2 (root_word 3 5 ++ root_word 1 3)

-- So many times the same bytes
unfoldable pub repeated : ℕ → List ℕ → List ℕ
repeated zero bytes = []
repeated (suc n) bytes = bytes ++ repeated n bytes

-- 15 root words of reward 64 for node 5, then one of reward 1 for node 3
unfoldable pub sixteen : List ℕ
sixteen = repeated 15 (root_word 64 5) ++ root_word 1 3

-- One line and seven events of 0/256, so that the product of b is 2^56, with one record, of the line, and some root words, of which the heading says that they
-- are so many
unfoldable pub widest : (only : List ℕ) → (count : ℕ) → List ℕ → List ℕ
widest only count words =
    0x12 ∷ 0x00 ∷ 0x08 ∷ count
    ∷ 0x20 ∷ 0x00 ∷ 0x00 ∷ 0x00
    ∷ 0x30 ∷ 0x40 ∷ 0x01 ∷ 0x00
    ∷ 0x30 ∷ 0x80 ∷ 0x01 ∷ 0x00
    ∷ 0x30 ∷ 0xC0 ∷ 0x01 ∷ 0x00
    ∷ 0x31 ∷ 0x00 ∷ 0x01 ∷ 0x00
    ∷ 0x31 ∷ 0x40 ∷ 0x01 ∷ 0x00
    ∷ 0x31 ∷ 0x80 ∷ 0x01 ∷ 0x00
    ∷ 0x31 ∷ 0xC0 ∷ 0x01 ∷ 0x00
    ∷ only ++ words

-- A record of the line that is true where it is taken
unfoldable pub rises : List ℕ
rises = 0x40 ∷ 0x00 ∷ 0x08 ∷ 0x00 ∷ []

-- One that is true where the line is left, which is not monotone
unfoldable pub falls : List ℕ
falls = 0x40 ∷ 0x00 ∷ 0x00 ∷ 0x01 ∷ []

-- One that is its own child, node 2
unfoldable pub own_child : List ℕ
own_child = 0x40 ∷ 0x00 ∷ 0x10 ∷ 0x00 ∷ []

-- One line and events whose product of b is 2^52, the last of them 0/16, and 16 root words, of reward 1 but for the last
unfoldable pub narrower : (last : ℕ) → List ℕ
narrower last =
    let table = widest rises 16 (repeated 15 (root_word 1 2) ++ root_word last 2) in
    take 34 table ++ 0x00 ∷ 0x10 ∷ drop 36 table

-- A request to a service, with a buffer of the plan's size; `printed` is the program on its input
pub data Request : Type 0 where
  read : (file : List ℕ) → Request
  scored : (file plan : List ℕ) → Request
  swept : (file plan : List ℕ) → Request
  filtered : (file plan : List ℕ) → (percent : ℕ) → Request
  searched : (file plan : List ℕ) → (budget percent : ℕ) → Request
  printed : (input : List ℕ) → Request

-- The numbers that a service returns, but for the visits, which `printed` shows, then what it writes
unfoldable pub numbers : {A : Type 0} → (A → List ℕ) → Outcome A → Outcome (List ℕ)
numbers of (refused number place) = refused number place
numbers of (answered a) = answered (of a)

-- What the meaning answers to a request
unfoldable pub answer_to : Request → Outcome (List ℕ)
unfolding numbers
answer_to (read s) = numbers (λ a. a.variables ∷ a.records ∷ a.choices ∷ a.scale ∷ []) (read_outcome s)
answer_to (scored s p) = numbers (λ a. a ∷ []) (score_outcome s p)
answer_to (swept s p) = numbers (λ a. a.upper_bound ∷ a.derivatives) (sweep_outcome s p (length p))
answer_to (filtered s p percent) = numbers (λ a. a.forced ∷ a.plan) (filter_outcome s p percent (length p))
answer_to (searched s p budget percent) = numbers (λ a. a.score ∷ a.plan) (search_outcome s p budget percent (length p))
answer_to (printed input) = answered (printout input)

-- A case: requests, and the answers that the documents give
pub record Case : Type 0 where
  pub requests : List Request
  pub answers : List (Outcome (List ℕ))

-- The fully open plan of table A
unfoldable pub all_open : List ℕ
all_open = 0 ∷ 0 ∷ []

-- The starred cases, in document 01's order
unfoldable pub starred : List Case
starred =
    -- A: scores 0 (none), 10 (line 0), 12 (line 1), 16 (both)
    record {
      requests = scored table_a (2 ∷ 2 ∷ []) ∷ scored table_a (1 ∷ 2 ∷ []) ∷ scored table_a (2 ∷ 1 ∷ []) ∷ scored table_a (1 ∷ 1 ∷ []) ∷ [];
      answers = answered (0 ∷ []) ∷ answered (10 ∷ []) ∷ answered (12 ∷ []) ∷ answered (16 ∷ []) ∷ [];
    }
    -- A, all open: top 16, drops 4 and 6
    ∷ record { requests = swept table_a all_open ∷ []; answers = answered (16 ∷ 4 ∷ 6 ∷ []) ∷ [] }
    -- A, all open, 50: paper 1, "50 forces nothing"
    ∷ record { requests = filtered table_a all_open 50 ∷ []; answers = answered (0 ∷ 0 ∷ 0 ∷ []) ∷ [] }
    -- A, 60: paper 1, "60 forces line 1 only"
    ∷ record { requests = filtered table_a all_open 60 ∷ []; answers = answered (1 ∷ 0 ∷ 1 ∷ []) ∷ [] }
    -- A, 79: both forced
    ∷ record { requests = filtered table_a all_open 79 ∷ []; answers = answered (2 ∷ 1 ∷ 1 ∷ []) ∷ [] }
    -- A, 80: paper 1, "80 forces both"
    ∷ record { requests = filtered table_a all_open 80 ∷ []; answers = answered (2 ∷ 1 ∷ 1 ∷ []) ∷ [] }
    -- A, kits 2, percent 60: both, 16
    ∷ record { requests = searched table_a all_open 2 60 ∷ []; answers = answered (16 ∷ 1 ∷ 1 ∷ []) ∷ [] }
    -- A, kits 1, percent 60: paper 1, "kits 1 with 60 gives line 1"
    ∷ record { requests = searched table_a all_open 1 60 ∷ []; answers = answered (12 ∷ 2 ∷ 1 ∷ []) ∷ [] }
    -- A, kits 0, percent 0: paper 1, "the empty plan, score 0", which leaves both lines
    ∷ record { requests = searched table_a all_open 0 0 ∷ []; answers = answered (0 ∷ 2 ∷ 2 ∷ []) ∷ [] }
    -- B: 7 taken, 0 left
    ∷ record {
      requests = scored (table_b (0x40 ∷ 0x00 ∷ 0x10 ∷ 0x00 ∷ [])) (1 ∷ []) ∷ scored (table_b (0x40 ∷ 0x00 ∷ 0x10 ∷ 0x00 ∷ [])) (2 ∷ []) ∷ [];
      answers = answered (7 ∷ []) ∷ answered (0 ∷ []) ∷ [];
    }
    -- B with last word 40000002: 18, place 4
    ∷ record { requests = read (table_b (0x40 ∷ 0x00 ∷ 0x00 ∷ 0x02 ∷ [])) ∷ []; answers = refused 18 4 ∷ [] }
    -- Empty table: 11; the program, lacking its job word, prints `refused 10 0`
    ∷ record {
      requests = read [] ∷ printed [] ∷ [];
      answers = refused 11 0 ∷ answered (114 ∷ 101 ∷ 102 ∷ 117 ∷ 115 ∷ 101 ∷ 100 ∷ 32 ∷ 49 ∷ 48 ∷ 32 ∷ 48 ∷ 10 ∷ []) ∷ [];
    }
    ∷ []

-- What the program prints of table A where one kit takes line 1, with the digits of B and of the score and the visits, a digit, given apart: choices 2
-- scale .., kits 1 score .. visits .., 0 left, 1 take
unfoldable pub line_one_of : (scale score : List ℕ) → (visits : ℕ) → List ℕ
line_one_of scale score visits =
    99 ∷ 104 ∷ 111 ∷ 105 ∷ 99 ∷ 101 ∷ 115 ∷ 32 ∷ 50 ∷ 32 ∷ 115 ∷ 99 ∷ 97 ∷ 108 ∷ 101 ∷ 32 ∷ scale
    ++ 10 ∷ 107 ∷ 105 ∷ 116 ∷ 115 ∷ 32 ∷ 49 ∷ 32 ∷ 115 ∷ 99 ∷ 111 ∷ 114 ∷ 101 ∷ 32 ∷ score
    ++ 32 ∷ 118 ∷ 105 ∷ 115 ∷ 105 ∷ 116 ∷ 115 ∷ 32 ∷ (48 + visits) ∷ 10
    ∷ 48 ∷ 32 ∷ 108 ∷ 101 ∷ 102 ∷ 116 ∷ 10
    ∷ 49 ∷ 32 ∷ 116 ∷ 97 ∷ 107 ∷ 101 ∷ 10
    ∷ []

-- The same with table A's own B, and line 1's score
unfoldable pub line_one : (visits : ℕ) → List ℕ
line_one visits = line_one_of (50 ∷ 48 ∷ []) (49 ∷ 50 ∷ []) visits

-- Paper 1 of document 02
unfoldable pub paper1 : List Case
paper1 =
    -- "100 percent on a link made of certain events": the filter forces nothing, since either line will do, and one kit is enough
    record {
      requests = filtered certain_a all_open 100 ∷ searched certain_a all_open 1 100 ∷ [];
      answers = answered (0 ∷ 0 ∷ 0 ∷ []) ∷ answered (20 ∷ 1 ∷ 2 ∷ []) ∷ [];
    }
    -- "The printed job keeps its plan and shows 6 visits"
    ∷ record { requests = printed (0x50 ∷ 0x40 ∷ 0x00 ∷ 0x32 ∷ table_a) ∷ []; answers = answered (line_one 6) ∷ [] }
    -- "kits 1 with 60 gives line 1"; the visits, - -, T -, T T, L - and L T, are counted by hand. The top of the fourth is 12, the least score that passes
    ∷ record { requests = printed (0x50 ∷ 0x40 ∷ 0x00 ∷ 0x3C ∷ table_a) ∷ []; answers = answered (line_one 5) ∷ [] }
    ∷ []

-- What the program prints of table A where both lines are taken in the visits - -, T - and T T, with the digits of the kits given apart: choices 2 scale 20,
-- kits .. score 16 visits 3, 0 take, 1 take
unfoldable pub both_lines : (kits : List ℕ) → List ℕ
both_lines kits =
    99 ∷ 104 ∷ 111 ∷ 105 ∷ 99 ∷ 101 ∷ 115 ∷ 32 ∷ 50 ∷ 32 ∷ 115 ∷ 99 ∷ 97 ∷ 108 ∷ 101 ∷ 32 ∷ 50 ∷ 48 ∷ 10
    ∷ 107 ∷ 105 ∷ 116 ∷ 115 ∷ 32 ∷ kits
    ++ 32 ∷ 115 ∷ 99 ∷ 111 ∷ 114 ∷ 101 ∷ 32 ∷ 49 ∷ 54 ∷ 32 ∷ 118 ∷ 105 ∷ 115 ∷ 105 ∷ 116 ∷ 115 ∷ 32 ∷ 51 ∷ 10
    ∷ 48 ∷ 32 ∷ 116 ∷ 97 ∷ 107 ∷ 101 ∷ 10
    ∷ 49 ∷ 32 ∷ 116 ∷ 97 ∷ 107 ∷ 101 ∷ 10
    ∷ []

-- refused 24 0
unfoldable pub too_many_kits : List ℕ
too_many_kits = 114 ∷ 101 ∷ 102 ∷ 117 ∷ 115 ∷ 101 ∷ 100 ∷ 32 ∷ 50 ∷ 52 ∷ 32 ∷ 48 ∷ 10 ∷ []

-- Paper 2 of document 02
unfoldable pub paper2 : List Case
paper2 =
    -- R 500 is 501 kits: where the other line is left, there is no candidate with 500, and one with 501
    record {
      requests = searched (river0 0xF4) (0 ∷ 2 ∷ []) 500 50 ∷ searched (river0 0xF4) (0 ∷ 2 ∷ []) 501 50 ∷ [];
      answers = refused 32 0 ∷ answered (10 ∷ 1 ∷ 2 ∷ []) ∷ [];
    }
    ∷ record {
      requests = searched (river1 0xF4) (2 ∷ 0 ∷ []) 500 50 ∷ searched (river1 0xF4) (2 ∷ 0 ∷ []) 501 50 ∷ [];
      answers = refused 32 0 ∷ answered (12 ∷ 2 ∷ 1 ∷ []) ∷ [];
    }
    -- "14 comes for R above 500", at the line's word; and for a Q that is not 0, as before
    ∷ record {
      requests = read (river0 0xF5) ∷ read (river1 0xF5) ∷ read (take 4 table_a ++ 0x20 ∷ 0x00 ∷ 0x08 ∷ 0x00 ∷ drop 8 table_a) ∷ [];
      answers = refused 14 1 ∷ refused 14 3 ∷ refused 14 1 ∷ [];
    }
    -- "24 for kits above 10,020"
    ∷ record {
      requests = searched table_a all_open 10020 50 ∷ searched table_a all_open 10021 50 ∷ [];
      answers = answered (16 ∷ 1 ∷ 1 ∷ []) ∷ refused 24 0 ∷ [];
    }
    -- of two plans of one score, the one of the smaller sum, though it takes more lines; where the sums are equal, the one that takes line 0
    ∷ record {
      requests = searched (two_ways 2) (0 ∷ 0 ∷ 0 ∷ []) 3 100 ∷ searched (two_ways 1) (0 ∷ 0 ∷ 0 ∷ []) 3 100 ∷ [];
      answers = answered (1 ∷ 2 ∷ 1 ∷ 1 ∷ []) ∷ answered (1 ∷ 1 ∷ 2 ∷ 2 ∷ []) ∷ [];
    }
    -- the visit rule: with 500 kits, P 52 and Q 7, a river span of 501 is a visit that goes back, - -, T -, L - and L T. The printed kits are the plan's.
    ∷ record { requests = printed (0x5D ∷ 0x00 ∷ 0x38 ∷ 0x32 ∷ river0 0xF4) ∷ []; answers = answered (line_one 4) ∷ [] }
    -- "P plus 64 times Q": 64 kits are Q 1, 502 are P 54 and Q 7, 10,020 are P 36 and Q 156
    ∷ record { requests = printed (0x50 ∷ 0x00 ∷ 0x08 ∷ 0x32 ∷ table_a) ∷ []; answers = answered (both_lines (50 ∷ [])) ∷ [] }
    ∷ record { requests = printed (0x5D ∷ 0x80 ∷ 0x38 ∷ 0x32 ∷ river0 0xF4) ∷ []; answers = answered (both_lines (53 ∷ 48 ∷ 50 ∷ [])) ∷ [] }
    ∷ record { requests = printed (0x59 ∷ 0x04 ∷ 0xE0 ∷ 0x32 ∷ river1 0xF4) ∷ []; answers = answered (both_lines (53 ∷ 48 ∷ 50 ∷ [])) ∷ [] }
    -- "Refusal 10 no longer looks at Q": 10,021 kits, 16,384, which are Q 256, and 131,071, all of P and Q
    ∷ record {
      requests = printed (0x59 ∷ 0x44 ∷ 0xE0 ∷ 0x32 ∷ table_a) ∷ printed (0x50 ∷ 0x08 ∷ 0x00 ∷ 0x32 ∷ table_a) ∷ printed (0x5F ∷ 0xFF ∷ 0xF8 ∷ 0x32 ∷ table_a) ∷ [];
      answers = answered too_many_kits ∷ answered too_many_kits ∷ answered too_many_kits ∷ [];
    }
    ∷ []

-- refused 11 0 or refused 12 0, with the second digit of the number given apart
unfoldable pub refused_one : (digit : ℕ) → List ℕ
refused_one digit = 114 ∷ 101 ∷ 102 ∷ 117 ∷ 115 ∷ 101 ∷ 100 ∷ 32 ∷ 49 ∷ digit ∷ 32 ∷ 48 ∷ 10 ∷ []

-- Paper 3 of document 02
unfoldable pub paper3 : List Case
paper3 =
    -- "The score is the sum of reward times that root's score": node 3 scores 12 of 20 where line 1 is taken and 0 where it is left, node 5 as in table A
    record {
      requests = scored two_roots (2 ∷ 2 ∷ []) ∷ scored two_roots (1 ∷ 2 ∷ []) ∷ scored two_roots (2 ∷ 1 ∷ []) ∷ scored two_roots (1 ∷ 1 ∷ []) ∷ [];
      answers = answered (0 ∷ []) ∷ answered (30 ∷ []) ∷ answered (48 ∷ []) ∷ answered (60 ∷ []) ∷ [];
    }
    -- "B is multiplied by the total reward": 4 times 20. Top and drops "speak of the sum"
    ∷ record { requests = read two_roots ∷ swept two_roots all_open ∷ []; answers = answered (4 ∷ 4 ∷ 2 ∷ 80 ∷ []) ∷ answered (60 ∷ 12 ∷ 30 ∷ []) ∷ [] }
    -- so do forced lines: 37 percent of 80 are 29.6, 38 are 30.4, 60 are 48, 61 are 48.8, 75 are 60
    ∷ record {
      requests = filtered two_roots all_open 37 ∷ filtered two_roots all_open 38 ∷ filtered two_roots all_open 60 ∷ [];
      answers = answered (0 ∷ 0 ∷ 0 ∷ []) ∷ answered (1 ∷ 0 ∷ 1 ∷ []) ∷ answered (1 ∷ 0 ∷ 1 ∷ []) ∷ [];
    }
    ∷ record {
      requests = filtered two_roots all_open 61 ∷ filtered two_roots all_open 75 ∷ filtered two_roots all_open 76 ∷ [];
      answers = answered (2 ∷ 1 ∷ 1 ∷ []) ∷ answered (2 ∷ 1 ∷ 1 ∷ []) ∷ refused 31 0 ∷ [];
    }
    -- and the best plan
    ∷ record {
      requests = searched two_roots all_open 2 50 ∷ searched two_roots all_open 1 50 ∷ searched two_roots all_open 1 61 ∷ [];
      answers = answered (60 ∷ 1 ∷ 1 ∷ []) ∷ answered (48 ∷ 2 ∷ 1 ∷ []) ∷ refused 32 0 ∷ [];
    }
    -- the printed B is this B; the visits, - -, T -, T T, L - and L T, are counted by hand
    ∷ record { requests = printed (0x50 ∷ 0x40 ∷ 0x00 ∷ 0x32 ∷ two_roots) ∷ []; answers = answered (line_one_of (56 ∷ 48 ∷ []) (52 ∷ 56 ∷ []) 5) ∷ [] }
    -- "a node named twice counts twice"; the order of the words does not matter
    ∷ record {
      requests = read (rooted_a 3 (root_word 1 5 ++ root_word 1 3 ++ root_word 2 5)) ∷ swept (rooted_a 3 (root_word 1 5 ++ root_word 1 3 ++ root_word 2 5)) all_open ∷ [];
      answers = answered (4 ∷ 4 ∷ 2 ∷ 80 ∷ []) ∷ answered (60 ∷ 12 ∷ 30 ∷ []) ∷ [];
    }
    -- "With no root words the last record is the root with reward 1"
    ∷ record {
      requests = read (rooted_a 1 (root_word 1 5)) ∷ swept (rooted_a 1 (root_word 1 5)) all_open ∷ [];
      answers = answered (4 ∷ 4 ∷ 2 ∷ 20 ∷ []) ∷ answered (16 ∷ 4 ∷ 6 ∷ []) ∷ [];
    }
    -- roots below lines: node 2 is event 3 alone, and node 4 is event 1, or line 1 and event 3; 64 times 20 are 1,280
    ∷ record {
      requests = swept (rooted_a 1 (root_word 1 2)) all_open ∷ read (rooted_a 1 (root_word 64 4)) ∷ swept (rooted_a 1 (root_word 64 4)) all_open ∷ [];
      answers = answered (12 ∷ 0 ∷ 0 ∷ []) ∷ answered (4 ∷ 4 ∷ 2 ∷ 1280 ∷ []) ∷ answered (1024 ∷ 0 ∷ 384 ∷ []) ∷ [];
    }
    -- 16 root words, of which every one counts: 961 times 20 are 19,220
    ∷ record { requests = read (rooted_a 16 sixteen) ∷ []; answers = answered (4 ∷ 4 ∷ 2 ∷ 19220 ∷ []) ∷ [] }
    ∷ record { requests = swept (rooted_a 16 sixteen) all_open ∷ []; answers = answered (15372 ∷ 3840 ∷ 5772 ∷ []) ∷ [] }
    -- printed too: line 1 scores 11,532, line 0 alone 9,600, which is less than half, so that T L is no visit
    ∷ record {
      requests = printed (0x50 ∷ 0x40 ∷ 0x00 ∷ 0x32 ∷ rooted_a 16 sixteen) ∷ [];
      answers = answered (line_one_of (49 ∷ 57 ∷ 50 ∷ 50 ∷ 48 ∷ []) (49 ∷ 49 ∷ 53 ∷ 51 ∷ 50 ∷ []) 5) ∷ [];
    }
    -- "the program reads 1,329": with the job word, 1,324 bytes of table and one more
    ∷ record {
      requests = printed (0x50 ∷ 0x40 ∷ 0x00 ∷ 0x32 ∷ replicate 1324 0) ∷ printed (0x50 ∷ 0x40 ∷ 0x00 ∷ 0x32 ∷ replicate 1325 0) ∷ [];
      answers = answered (refused_one 50) ∷ answered (refused_one 49) ∷ [];
    }
    -- "Refusal 11 allows 1,324 bytes", "12 comes for R above 16, 13 counts root words"
    ∷ record { requests = read (replicate 1328 0) ∷ read (replicate 1324 0) ∷ []; answers = refused 11 0 ∷ refused 12 0 ∷ [] }
    ∷ record {
      requests = read (rooted_a 17 []) ∷ read (rooted_a 16 []) ∷ read (rooted_a 1 []) ∷ read (rooted_a 1 (root_word 1 5 ++ root_word 1 5)) ∷ [];
      answers = refused 12 0 ∷ refused 13 0 ∷ refused 13 0 ∷ refused 13 0 ∷ [];
    }
    -- "26 is the first wrong root word (its place)": its kind, P, reward and node
    ∷ record {
      requests = read (rooted_a 1 (0x50 ∷ 0x00 ∷ 0x08 ∷ 0x05 ∷ [])) ∷ read (rooted_a 1 (0x70 ∷ 0x00 ∷ 0x08 ∷ 0x05 ∷ [])) ∷ read (rooted_a 1 (0x60 ∷ 0x40 ∷ 0x08 ∷ 0x05 ∷ [])) ∷ read (rooted_a 1 (root_word 0 5)) ∷ read (rooted_a 1 (root_word 65 5)) ∷ [];
      answers = refused 26 9 ∷ refused 26 9 ∷ refused 26 9 ∷ refused 26 9 ∷ refused 26 9 ∷ [];
    }
    ∷ record {
      requests = read (rooted_a 1 (root_word 1 0)) ∷ read (rooted_a 1 (root_word 1 1)) ∷ read (rooted_a 1 (root_word 1 6)) ∷ read (rooted_a 3 (root_word 1 5 ++ root_word 0 5 ++ root_word 1 6)) ∷ [];
      answers = refused 26 9 ∷ refused 26 9 ∷ refused 26 9 ∷ refused 26 10 ∷ [];
    }
    -- the last of 16
    ∷ record { requests = read (rooted_a 16 (take 60 sixteen ++ root_word 0 5)) ∷ []; answers = refused 26 24 ∷ [] }
    -- "27 means B times the total reward is above 2^56 (place 0)"
    ∷ record {
      requests = read (widest rises 1 (root_word 1 2)) ∷ read (widest rises 1 (root_word 2 2)) ∷ read (widest rises 2 (root_word 1 2 ++ root_word 1 2)) ∷ [];
      answers = answered (8 ∷ 1 ∷ 1 ∷ 72057594037927936 ∷ []) ∷ refused 27 0 ∷ refused 27 0 ∷ [];
    }
    -- the total of 16
    ∷ record {
      requests = read (narrower 1) ∷ read (narrower 2) ∷ [];
      answers = answered (8 ∷ 1 ∷ 1 ∷ 72057594037927936 ∷ []) ∷ refused 27 0 ∷ [];
    }
    -- "the two checked after 17 and before 18"
    ∷ record {
      requests = read (widest own_child 1 (root_word 65 2)) ∷ read (widest falls 1 (root_word 65 2)) ∷ read (widest falls 1 (root_word 64 2)) ∷ read (widest falls 1 (root_word 1 2)) ∷ [];
      answers = refused 17 9 ∷ refused 26 10 ∷ refused 27 0 ∷ refused 18 9 ∷ [];
    }
    ∷ []

-- Every request of every case has the answer that is given
unfoldable pub AllHold : List Case → Type 0
AllHold [] = Unit {0}
AllHold (c ∷ cs) = (map answer_to c.requests ≡ c.answers) × AllHold cs

-- What the filter answers for table A at 0, 1 .. 100 percent. Paper 1: "50 forces nothing; 60 forces line 1 only; 80 forces both; 31 first comes at 81"
unfoldable pub every_percentage : List (Outcome (List ℕ))
every_percentage =
    replicate 51 (answered (0 ∷ 0 ∷ 0 ∷ []))
    ++ replicate 10 (answered (1 ∷ 0 ∷ 1 ∷ []))
    ++ replicate 20 (answered (2 ∷ 1 ∷ 1 ∷ []))
    ++ replicate 20 (refused 31 0)
