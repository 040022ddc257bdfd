use Rattle.std.proofs.Common.{sym, ap, ◌∙◌}
use Rattle.std.specs.List.{flat_map}
use Rattle.record.proofs.Writing.{entry_there, entry_not, entries_end}
use Rattle.record.proofs.Putting.{left_room, left_on, left_as, left_end}
use Rattle.record.proofs.entries.Entries.put_each.Goals as goal
use Rattle.record.proofs.entries.Entries.put_each.Goals.{in-Some, in_default}

pub put-requires : goal.put-requires
put-requires g c =
    let stands = ap g.C.Cell.held (sym c.cell-item.is) ∙ sym c.entry.ensures ∙ c.in-Some.is in
    let next = entry_there g.C.Cell.held _ _ _ _ c.loop-step-test.true stands in
    rw c.entry_bytes.ensures (left_room _ _ (left_as (ap (flat_map g.C.Cell.entry_bytes) next) c.loop-step.invariant))

pub loop-step-preserved : goal.loop-step-preserved
loop-step-preserved g c =
    let held = ap g.C.Cell.held (sym c.cell-item.is) ∙ sym c.entry.ensures in
    let put = flat_map g.C.Cell.entry_bytes in
    elim c.match-entry.branch [
      | in-Some w ↦ rw w.writer-is (left_on _ _ (left_as (ap put (entry_there g.C.Cell.held _ _ _ _ c.loop-step-test.true (held ∙ w.in-Some.is))) c.loop-step.invariant) (rw w.entry_bytes.ensures at w.put.ensures))
      | in_default w ↦ rw w.writer-is (left_as (ap put (entry_not g.C.Cell.held _ _ _ c.loop-step-test.true (held ∙ w.in_default.is))) c.loop-step.invariant)
    ]

pub returns : goal.returns
returns g c = left_end (left_as (ap (flat_map g.C.Cell.entry_bytes) (entries_end g.C.Cell.held _ _ c.loop-step-test.false)) c.loop-step.invariant)
