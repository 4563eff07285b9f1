use Prim.Native.Nat.{◌+◌, ◌<◌}
use native.Mathlib.Omega.{arith}
use mathlib.Core.Path.{◌≡◌, refl, ◌∙◌}
use Rattle.diagram.specs.Words.{word_at}
use Rattle.diagram.specs.Table.{variable_of, is_choice}
use Rattle.decoding.proofs.Kits.{kits-length}
use Rattle.decoding.proofs.Finding.{found_none, found-next, found-same, found-room, found_all, kits-start, kits_end, kits-choice, kits-chance, choice-positions-start, choice-positions_end, choice-positions-length, choice-positions-choice, choice-positions-chance}
use Rattle.decoding.proofs.choices.choices_of.Goals as goal
use Rattle.decoding.proofs.choices.choices_of.Goals.{then-is_choice, else-is_choice}

pub loop-p-init : goal.loop-p-init
loop-p-init c = (found_none _ _ (choice-positions-start _), found_none _ _ (kits-start _))

pub bounds-positions-count : goal.bounds-positions-count
bounds-positions-count c =
    let tested : is_choice (variable_of (word_at c.args.file.now (1 + c.loop-p.p))) ≡ c.is_choice.result = rw (c.is_choice.ensures, c.new-at.ensures) in
    let room : c.loop-p.count < 20 = found-room c.loop-p.invariant.0 (omega (arith, choice-positions-length c.args.file.now, c.requires)) _ _ (choice-positions-choice _ _ (omega arith) (tested ∙ c.if-is_choice.true)) in
    room

pub offset_bounds-kits-count : goal.offset_bounds-kits-count
offset_bounds-kits-count c =
    let tested : is_choice (variable_of (word_at c.args.file.now (1 + c.loop-p.p))) ≡ c.is_choice.result = rw (c.is_choice.ensures, c.new-at.ensures) in
    let room : c.loop-p.count < 20 = found-room c.loop-p.invariant.0 (omega (arith, choice-positions-length c.args.file.now, c.requires)) _ _ (choice-positions-choice _ _ (omega arith) (tested ∙ c.if-is_choice.true)) in
    omega (arith, room)

pub bounds-kits-count : goal.bounds-kits-count
bounds-kits-count c =
    let tested : is_choice (variable_of (word_at c.args.file.now (1 + c.loop-p.p))) ≡ c.is_choice.result = rw (c.is_choice.ensures, c.new-at.ensures) in
    let room : c.loop-p.count < 20 = found-room c.loop-p.invariant.0 (omega (arith, choice-positions-length c.args.file.now, c.requires)) _ _ (choice-positions-choice _ _ (omega arith) (tested ∙ c.if-is_choice.true)) in
    room

pub overflow_add-count : goal.overflow_add-count
overflow_add-count c =
    let tested : is_choice (variable_of (word_at c.args.file.now (1 + c.loop-p.p))) ≡ c.is_choice.result = rw (c.is_choice.ensures, c.new-at.ensures) in
    let room : c.loop-p.count < 20 = found-room c.loop-p.invariant.0 (omega (arith, choice-positions-length c.args.file.now, c.requires)) _ _ (choice-positions-choice _ _ (omega arith) (tested ∙ c.if-is_choice.true)) in
    omega (arith, room)

pub loop-p-preserved : goal.loop-p-preserved
loop-p-preserved c =
    let tested : is_choice (variable_of (word_at c.args.file.now (1 + c.loop-p.p))) ≡ c.is_choice.result = rw (c.is_choice.ensures, c.new-at.ensures) in
    let s = c.args.file.now in
    let most = c.requires in
    elim c.if-is_choice.branch [
      | then-is_choice w ↦
          let choice = tested ∙ w.if-is_choice.true in (
            found-next c.loop-p.invariant.0 (omega (arith, choice-positions-length s, most)) _ _ (choice-positions-choice s _ (omega arith) choice) refl w.positions-is w.count-is,
            found-next c.loop-p.invariant.1 (omega (arith, kits-length s, most)) _ _ (kits-choice s _ (omega arith) choice) (w.kits_at.ensures ∙ rw c.new-at.ensures refl) w.kits-is w.count-is,
          )
      | else-is_choice w ↦
          let chance = tested ∙ w.if-is_choice.false in
          rw (w.positions-is, w.kits-is, w.count-is) (found-same c.loop-p.invariant.0 (choice-positions-chance s _ (omega arith) chance), found-same c.loop-p.invariant.1 (kits-chance s _ (omega arith) chance))
    ]

pub returns : goal.returns
returns c =
    let inv = c.loop-p.invariant in
    let cells = found_all inv.0 (choice-positions_end _ _ (omega arith)) in
    record {
      count = cells.1 ∙ choice-positions-length _;
      positions = cells.0;
      kits = (found_all inv.1 (kits_end _ _ (omega arith))).0;
    }
