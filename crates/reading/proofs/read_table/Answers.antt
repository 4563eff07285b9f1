-- `read_table` meets its contract: a file that a check before 18 refuses is turned away, any other is decoded, and check 18 decides.
-- Assumes nothing.
use mathlib.Core.Path.{ap, sym, ◌∙◌}
use Rattle.std.proofs.lemmas.Result.{err_from_is_err_and}
use Rattle.diagram.specs.Services.{answered}
use Rattle.diagram.proofs.Checked.{read_passed}
use Rattle.terms.specs.Numbers.{reason_number}
use Rattle.implication.proofs.Pairing.{fault_of-table}
use Rattle.reading.proofs.Accepted.{choices-within, passed_valid}
use Rattle.steps.proofs.Stepping.{fault-none, fault-some}
use Rattle.reading.proofs.Outcomes.{shape_refuses, shape-scale, shape_shown, stops_18, past_18, reads-refused, reads-accepted, numbers_decoded, shown_checkable}
use Rattle.reading.proofs.read_table.Goals as goal

pub returns-in_err-scale : goal.returns-in_err-scale
returns-in_err-scale c =
    let out = err_from_is_err_and c.from_residual.result c.from_residual.ensures.1 in
    rw (out.1, out.2) (reads-refused _ _ (shape_refuses _ c.read_shape.ensures _ c.in_err-scale.was))

pub decode-table-requires : goal.decode-table-requires
decode-table-requires c =
    let s = c.args.file.now in
    let shown = shape_shown s c.read_shape.ensures _ c.in_ok-scale.was in
    record { shaped = (record { heading = shown.heading; records = shown.records }, shown.roots, choices-within s shown.heading shown.choices); scale = shape-scale s c.read_shape.ensures _ c.in_ok-scale.was }

pub monotone_fault-requires : goal.monotone_fault-requires
monotone_fault-requires c =
    shown_checkable _ _ c.decode-table.ensures.table c.decode-table.ensures.held (shape_shown _ c.read_shape.ensures _ c.in_ok-scale.was)

pub returns-in_err-refuse_at : goal.returns-in_err-refuse_at
unfolding reason_number
returns-in_err-refuse_at c =
    let s = c.args.file.now in
    let found = rw (c.decode-table.ensures.table, fault_of-table s) at c.monotone_fault.ensures in
    let refused = c.in_err-refuse_at.ensures in
    let out = err_from_is_err_and c.from_residual-in_err-refuse_at.result c.from_residual-in_err-refuse_at.ensures.1 in
    rw (out.1, out.2) (reads-refused s _ (rw refused.1 (stops_18 s c.read_shape.ensures _ c.in_ok-scale.was _ (fault-some _ _ found refused.0))))

pub returns : goal.returns
returns c =
    let s = c.args.file.now in
    let decoded = c.decode-table.ensures in
    let found = rw (decoded.table, fault_of-table s) at c.monotone_fault.ensures in
    let read = past_18 s c.read_shape.ensures _ c.in_ok-scale.was (fault-none _ found c.in_ok-refuse_at.ensures) in
    reads-accepted s _ decoded.table (record { held = decoded.held; valid = rw decoded.table (passed_valid (read_passed s _ (sym read))) }) (ap answered (numbers_decoded s _ decoded.table decoded.held) ∙ read)
