use Rattle.std.proofs.Common.{◌≡◌, sym, refl, ap, ◌∙◌, subst, arith}
use Rattle.sheet.specs.Edits.{opened}
use Rattle.sheet.specs.Admits.{Admitted}
use Rattle.sheet.specs.Shared.{Standing}
use Rattle.sheet.proofs.Admitting.{opened_admitted}
use Rattle.sheet.proofs.Validity.{Valid, opened_valid}
use Rattle.sheet.proofs.Standing.{opened_stands}
use Rattle.sheet.proofs.sheet.Sheet.fresh.Goals as goal

pub invariant_of-result : goal.invariant_of-result
invariant_of-result g c =
    let few = (g.L.Lattice.lawful c.args.lattice).few_steps in
    let v = subst Valid (sym c.opened-state.ensures) (opened_valid c.steps.result (omega (arith, few, c.steps.ensures))) in
    record { early = v.early; narrow = v.narrow; redeemable = v.redeemable; payable = v.payable; priced = v.priced }

pub returns : goal.returns
returns g c =
    let m = g.L.Lattice.model c.args.lattice in
    let σ = g.K.ClashRule.settled c.args.clash in
    let is : c.opened-state.result ≡ opened c.steps.result = c.opened-state.ensures in
    let all = is ∙ ap opened c.steps.ensures in
    record {
      state = all;
      stands = λ values marks. subst (λ s. Standing m σ s values marks) (sym is) (opened_stands m σ c.steps.result c.steps.ensures values marks);
      admitted = subst (λ s. Admitted m.steps s.terms s.spread) (sym all) (opened_admitted m.steps);
      same = (refl, refl);
    }
