use Rattle.std.proofs.Common.{◌≡◌, sym, ap, subst, arith}
use Rattle.sheet.specs.Edits.{opened}
use Rattle.sheet.specs.Admits.{Admitted}
use Rattle.sheet.proofs.Admitting.{opened_admitted, none_clear}
use Rattle.sheet.proofs.sheet.Sheet.blank.Goals as goal

pub invariant_of-result : goal.invariant_of-result
invariant_of-result g c =
    let n = c.steps-steps.result in
    let is : c.opened.result ≡ opened n = c.opened.ensures in
    let a = subst (λ s. Admitted n s.terms s.spread) (sym is) (opened_admitted n) in
    let few = (g.L.Lattice.lawful c.args.self.now.lattice).few_steps in
    record {
      few = omega (arith, few, c.steps-steps.ensures);
      unworked = ap (λ s. s.first) is;
      redeemable = none_clear _ a.redemption;
      narrow = none_clear _ a.spread;
      payable = λ t. none_clear _ (a.coupons t);
      priced = λ kind t. none_clear _ (a.rights kind t);
    }
