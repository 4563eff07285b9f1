-- `ranks_after` meets its contract: scores that differ decide, then rooms that differ, then the lines. Assumes nothing.
use mathlib.Core.Path.{refl}
use Rattle.incumbent.proofs.Keeping.{ranks_score, ranks_room, ranks_lines}
use Rattle.incumbent.proofs.Incumbent.ranks_after.Goals as goal

pub returns-then-bound-self : goal.returns-then-bound-self
returns-then-bound-self c =
    let a = c.args in
    let held = a.self.now in
    ranks_score a.bound a.room a.marks.now held.cutoff held.room held.marks c.if-bound-self.true refl

pub returns-then-room-self : goal.returns-then-room-self
returns-then-room-self c =
    let a = c.args in
    let held = a.self.now in
    ranks_room a.bound a.room a.marks.now held.cutoff held.room held.marks c.if-bound-self.false c.if-room-self.true refl

pub returns : goal.returns
returns c =
    let a = c.args in
    let held = a.self.now in
    ranks_lines a.bound a.room a.marks.now held.cutoff held.room held.marks c.if-bound-self.false c.if-room-self.false c.takes_first.ensures
