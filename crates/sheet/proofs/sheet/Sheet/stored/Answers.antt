use Rattle.std.proofs.Common.{sym, ◌∙◌, arith}
use Rattle.sheet.proofs.Promised.{tested_none, place_within}
use Rattle.sheet.proofs.sheet.Sheet.stored.Goals as goal

pub overflow_add-at : goal.overflow_add-at
overflow_add-at g c =
    let long = tested_none _ (sym c.check_rows.ensures ∙ c.in_ok-check_rows.was) in
    let w = place_within (g.L.Lattice.lawful c.args.self.now.lattice) c.args.values.now c.args.marks.now c.args.t c.args.j long (omega arith) in
    omega (arith, w.small)

pub entry_at-requires : goal.entry_at-requires
entry_at-requires g c =
    let long = tested_none _ (sym c.check_rows.ensures ∙ c.in_ok-check_rows.was) in
    let w = place_within (g.L.Lattice.lawful c.args.self.now.lattice) c.args.values.now c.args.marks.now c.args.t c.args.j long (omega arith) in
    record { values = omega (arith, w.in_values); marks = omega (arith, w.in_marks) }
