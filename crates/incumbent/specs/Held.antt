-- What a search holds, before and after a visit is counted and a finished plan compared with the one held.
use Rattle.std.specs.Prelude.{ℕ, ◌+◌, Bool, cond, List, replicate}
use Rattle.incumbent.specs.declared.Incumbent.{Incumbent}
use Rattle.incumbent.specs.Ranks.{ranks_over}

-- No plan is held, and no visit counted; the least bound that is worth a visit is the least score that passes
abbrev pub none_held : (least : ℕ) → Incumbent
none_held least = record { cutoff = least; room = 0; marks = replicate 20 0; visits = 0 }

-- One visit more
abbrev pub visit_added : Incumbent → Incumbent
visit_added held = record { cutoff = held.cutoff; room = held.room; marks = held.marks; visits = held.visits + 1 }

-- A plan of such a score, room and marks held
abbrev pub plan_held : (score room : ℕ) → (marks : List ℕ) → Incumbent → Incumbent
plan_held score room marks held = record { cutoff = score; room = room; marks = marks; visits = held.visits }

-- A plan's score, room and marks rank before those of the plan held
abbrev pub ranks_over_held : (score room : ℕ) → (marks : List ℕ) → Incumbent → Bool
ranks_over_held score room marks held = ranks_over score room marks held.cutoff held.room held.marks

-- What is held once a plan is finished: the plan where it ranks before the plan held
abbrev pub kept : (score room : ℕ) → (marks : List ℕ) → Incumbent → Incumbent
kept score room marks held = cond (ranks_over_held score room marks held) (plan_held score room marks held) held
