-- The lines of the printout from their numbers.
use Rattle.std.specs.Prelude.{ℕ, cond, List, ◌++◌}
use Rattle.diagram.specs.Score.{is_taken}
use Rattle.diagram.specs.Printout.{decimal, choices_word, scale_word, kits_word, score_word, visits_word, take_word, left_word, line, mark_lines}

-- The line of the table's numbers
unfoldable pub table_text : (choices scale : ℕ) → List ℕ
table_text choices scale = line (choices_word ++ decimal choices ++ scale_word ++ decimal scale)

-- The line of the plan's cost, its score and the visits
unfoldable pub found_text : (cost score visits : ℕ) → List ℕ
found_text c score visits = line (kits_word ++ decimal c ++ score_word ++ decimal score ++ visits_word ++ decimal visits)

-- The line of choice i with mark m
unfoldable pub mark_text : (i m : ℕ) → List ℕ
mark_text i m = line (decimal i ++ cond (is_taken m) take_word left_word)

-- The whole printout of a plan
unfoldable pub full_text : (choices scale cost score visits : ℕ) → List ℕ → List ℕ
full_text choices scale c score visits p =
    table_text choices scale ++ found_text c score visits ++ mark_lines 0 p
