use Rattle.std.proofs.Common.{Err, sym, refl, ap, ◌∙◌}
use Rattle.std.proofs.lemmas.Result.{err_from_is_err_and}
use Rattle.game.specs.Working.{back_values, back_marks}
use Rattle.sheet.proofs.Validity.{Valid}
use Rattle.sheet.proofs.Valued.{of_parts}
use Rattle.sheet.proofs.Promised.{tested_none, back_refused, back_made}
use Rattle.sheet.proofs.sheet.Sheet.work.Goals as goal

pub returns-in_err-check_rows : goal.returns-in_err-check_rows
returns-in_err-check_rows g c =
    let s = c.args.self.now in
    let p = err_from_is_err_and c.from_residual.result c.from_residual.ensures.1 in
    record {
      worked = back_refused (g.L.Lattice.model s.lattice) (g.L.Lattice.lawful s.lattice) (g.K.ClashRule.settled s.clash) (g.K.ClashRule.fair s.clash) c.args.n s.state c.args.values.now c.args.marks.now c.in_err-check_rows.field-0.0 c.from_residual.result (p.1 ∙ ap Err p.2) c.in_err-check_rows.ensures;
      same = (refl, refl);
    }

pub returns : goal.returns
returns g c =
    let s = c.args.self.now in
    let m = g.L.Lattice.model s.lattice in
    let σ = g.K.ClashRule.settled s.clash in
    let k = c.min-n.result in
    let w = s.state.first in
    let v = c.args.values.now in
    let z = c.args.marks.now in
    let is = c.valuation-valuation.ensures in
    let values = c.work_back.ensures.values ∙ of_parts (λ l i b s. back_values (g.L.Lattice.model l) (g.K.ClashRule.settled i) b s w k v) is.lattice is.clash is.terms is.spread in
    let marks = c.work_back.ensures.marks ∙ of_parts (λ l i b s. back_marks (g.L.Lattice.model l) (g.K.ClashRule.settled i) b s w k v z) is.lattice is.clash is.terms is.spread in
    let valid : Valid s.state = record { early = s.early; narrow = s.narrow; redeemable = s.redeemable; payable = s.payable; priced = s.priced } in
    let long = tested_none _ (sym c.check_rows.ensures ∙ c.in_ok-check_rows.was) in
    record {
      worked = back_made m (g.L.Lattice.lawful s.lattice) σ (g.K.ClashRule.fair s.clash) c.args.n s.state v z valid long k c.work_back.new.values c.work_back.new.marks c.min-n.ensures values marks;
      same = (refl, refl);
    }
