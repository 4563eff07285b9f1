-- `visit` meets its contract: it leaves what the visit rule leaves (`VisitSteps`), by recursion over the open lines. Assumes nothing.
use Prim.Native.Nat.{◌-◌}
use native.Mathlib.Omega.{arith}
use mathlib.Core.Path.{◌≡◌}
use lib.ListN.{length, set}
use borrow.Author.Rules.{rules}
use Rattle.visiting.proofs.VisitSteps.{LeavesAt, visit_back, visit_full, visit-over, line_few, enter_ready, drop_ready, first_fitting, leave_ready, second_fitting, visit-taken, visit-both}
use Rattle.visiting.proofs.visits.+visit.Goals as goal
use Rattle.visiting.proofs.visits.+visit.Goals.{then-room-line, else-room-line, then-not-is_beaten, else-not-is_beaten}

pub returns-then-goes_back : goal.returns-then-goes_back
returns-then-goes_back t c =
    let long : length c.args.state.now.cells ≡ 512 = search rules in
    λ g given. visit_back given long c.count.ensures c.goes_back.ensures c.if-goes_back.true

pub returns-in_default : goal.returns-in_default
returns-in_default t c =
    let long : length c.args.state.now.cells ≡ 512 = search rules in
    λ g given. visit_full given long c.count.ensures c.goes_back.ensures c.if-goes_back.false c.in_default.ensures.cases c.keep.ensures

pub enter_layer-drop-requires : goal.enter_layer-drop-requires
enter_layer-drop-requires t c =
    let long : length c.args.state.now.cells ≡ 512 = search rules in
    record { layer_enterable = enter_ready c.in-Some.ensures.cases.0 c.requires.0.1 long }

pub mark_line-requires : goal.mark_line-requires
mark_line-requires t c =
    let long : length c.args.state.now.cells ≡ 512 = search rules in
    line_few c.in-Some.ensures.cases.0 c.requires.0.1 long

pub visit-requires : goal.visit-requires
visit-requires t c =
    let long : length c.args.state.now.cells ≡ 512 = search rules in
    (omega (arith, c.decreases, c.in-Some.ensures.cases.1), rw c.mark_line.ensures (first_fitting c.in-Some.ensures.cases.0 c.requires.0.1 long c.count.ensures c.enter_layer-drop.ensures.cells c.requires.1))

pub overflow_sub-bound : goal.overflow_sub-bound
overflow_sub-bound t c =
    let long : length c.args.state.now.cells ≡ 512 = search rules in
    drop_ready c.in-Some.ensures.cases.0 c.requires.0.1 long c.enter_layer-drop.ensures.drop

pub leave_line-requires : goal.leave_line-requires
leave_line-requires t c =
    let long : length c.args.state.now.cells ≡ 512 = search rules in
    let st = c.if-room-line.state in
    let line = c.in-Some.line.now in
    let visited : LeavesAt c.args.layout.now.arcs c.args.layout.now.losses c.in-Some.rest.now c.enter_layer-drop.new.cells (set c.args.state.now.marks line.choice.0 1) c.count.new.self (c.args.room - line.kits) c.args.bound st.cells st.marks st.held = elim c.if-room-line.branch [
      | then-room-line w ↦ λ g given. rw (w.state-is, c.mark_line.ensures) (visit-over given c.enter_layer-drop.array_long.0 w.count-then-room-line.ensures (omega (arith, w.if-room-line.true)))
      | else-room-line w ↦ rw w.state-is (rw c.mark_line.ensures at w.visit.ensures)
    ] in
    leave_ready c.in-Some.ensures.cases.0 c.requires.0.1 long c.count.ensures c.enter_layer-drop.ensures.cells visited

pub mark_line-requires-then-not-is_beaten : goal.mark_line-requires-then-not-is_beaten
mark_line-requires-then-not-is_beaten t c =
    let long : length c.args.state.now.cells ≡ 512 = search rules in
    line_few c.in-Some.ensures.cases.0 c.requires.0.1 long

pub overflow_sub-bound-then-not-is_beaten : goal.overflow_sub-bound-then-not-is_beaten
overflow_sub-bound-then-not-is_beaten t c =
    let long : length c.args.state.now.cells ≡ 512 = search rules in
    drop_ready c.in-Some.ensures.cases.0 c.requires.0.1 long c.enter_layer-drop.ensures.drop

pub visit-requires-then-not-is_beaten : goal.visit-requires-then-not-is_beaten
visit-requires-then-not-is_beaten t c =
    let long : length c.args.state.now.cells ≡ 512 = search rules in
    let st = c.if-room-line.state in
    let line = c.in-Some.line.now in
    let visited : LeavesAt c.args.layout.now.arcs c.args.layout.now.losses c.in-Some.rest.now c.enter_layer-drop.new.cells (set c.args.state.now.marks line.choice.0 1) c.count.new.self (c.args.room - line.kits) c.args.bound st.cells st.marks st.held = elim c.if-room-line.branch [
      | then-room-line w ↦ λ g given. rw (w.state-is, c.mark_line.ensures) (visit-over given c.enter_layer-drop.array_long.0 w.count-then-room-line.ensures (omega (arith, w.if-room-line.true)))
      | else-room-line w ↦ rw w.state-is (rw c.mark_line.ensures at w.visit.ensures)
    ] in
    (omega (arith, c.decreases, c.in-Some.ensures.cases.1), rw c.mark_line-then-not-is_beaten.ensures (second_fitting c.in-Some.ensures.cases.0 c.requires.0.1 long c.count.ensures c.enter_layer-drop.ensures.cells visited c.enter_layer-drop.ensures.drop c.leave_line.ensures c.requires.1))

pub mark_line-requires-2 : goal.mark_line-requires-2
mark_line-requires-2 t c =
    let long : length c.args.state.now.cells ≡ 512 = search rules in
    line_few c.in-Some.ensures.cases.0 c.requires.0.1 long

pub returns : goal.returns
returns t c g given =
    let long : length c.args.state.now.cells ≡ 512 = search rules in
    let st = c.if-room-line.state in
    let line = c.in-Some.line.now in
    let visited : LeavesAt c.args.layout.now.arcs c.args.layout.now.losses c.in-Some.rest.now c.enter_layer-drop.new.cells (set c.args.state.now.marks line.choice.0 1) c.count.new.self (c.args.room - line.kits) c.args.bound st.cells st.marks st.held = elim c.if-room-line.branch [
      | then-room-line w ↦ λ g given. rw (w.state-is, c.mark_line.ensures) (visit-over given c.enter_layer-drop.array_long.0 w.count-then-room-line.ensures (omega (arith, w.if-room-line.true)))
      | else-room-line w ↦ rw w.state-is (rw c.mark_line.ensures at w.visit.ensures)
    ] in
    elim c.if-not-is_beaten.branch [
      | then-not-is_beaten w ↦ rw (c.mark_line-2.ensures, w.state-is) (visit-both c.in-Some.ensures.cases.0 given long c.count.ensures c.enter_layer-drop.ensures.cells visited c.enter_layer-drop.ensures.drop w.leave_line.ensures (rw w.mark_line-then-not-is_beaten.ensures at w.visit-then-not-is_beaten.ensures) c.goes_back.ensures c.if-goes_back.false c.is_beaten.ensures w.if-not-is_beaten.true)
      | else-not-is_beaten w ↦ rw (c.mark_line-2.ensures, w.state-is) (visit-taken c.in-Some.ensures.cases.0 given long c.count.ensures c.enter_layer-drop.ensures.cells visited c.enter_layer-drop.ensures.drop c.goes_back.ensures c.if-goes_back.false c.is_beaten.ensures w.if-not-is_beaten.false)
    ]
