use Rattle.std.proofs.Common.{◌≡◌, Err, sym, refl, ap, ◌∙◌, subst, arith}
use Rattle.std.proofs.lemmas.Result.{err_from_is_err_and}
use Rattle.sheet.specs.Edits.{edit_fault, edited}
use Rattle.sheet.specs.Faults.{unless}
use Rattle.sheet.proofs.Validity.{Valid, edited_valid}
use Rattle.sheet.proofs.Promised.{tested_none, unless_keeps, edit_made, edit_refused}
use Rattle.sheet.proofs.sheet.Sheet.amend.Goals as goal

pub invariant_of-self : goal.invariant_of-self
invariant_of-self g c =
    let s = c.args.self.now in
    let few = (g.L.Lattice.lawful s.lattice).few_steps in
    let n = c.steps-last.result in
    let e = c.args.edit in
    let valid : Valid s.state = record { early = s.early; narrow = s.narrow; redeemable = s.redeemable; payable = s.payable; priced = s.priced } in
    let is : c.amend.new.self ≡ unless (edit_fault n s.state e) (edited n s.state e) s.state = c.amend.ensures.leaves in
    let v = subst Valid (sym is) (unless_keeps Valid _ _ _ (λ none. edited_valid n s.state e (omega arith) none valid) valid) in
    record { early = v.early; narrow = v.narrow; redeemable = v.redeemable; payable = v.payable; priced = v.priced }

pub returns-in_err-amend : goal.returns-in_err-amend
returns-in_err-amend g c =
    let s = c.args.self.now in
    let p = err_from_is_err_and c.from_residual.result c.from_residual.ensures.1 in
    record {
      edited = edit_refused (g.L.Lattice.model s.lattice) (g.K.ClashRule.settled s.clash) c.args.edit s.state c.amend.new.self c.steps-last.result c.in_err-amend.field-0.0 c.from_residual.result c.steps-last.ensures (p.1 ∙ ap Err p.2) c.in_err-amend.ensures.answers c.amend.ensures.leaves;
      same = (refl, refl);
    }

pub returns : goal.returns
returns g c =
    let s = c.args.self.now in
    let m = g.L.Lattice.model s.lattice in
    let σ = g.K.ClashRule.settled s.clash in
    let none = tested_none _ (sym c.amend.ensures.answers ∙ c.in_ok-amend.was) in
    let is = c.amend.ensures.leaves ∙ ap (λ o. unless o (edited c.steps-last.result s.state c.args.edit) s.state) none in
    record { edited = edit_made m σ c.args.edit s.state c.amend.new.self c.steps-last.result c.first_worked.result c.steps-last.ensures none is c.first_worked.ensures; same = (refl, refl) }
