use Rattle.std.proofs.Common.{◌≡◌, ◌+◌, sym, subst}
use Rattle.sheet.specs.Edits.{edit_fault, edited}
use Rattle.sheet.specs.Faults.{unless}
use Rattle.sheet.specs.declared.state.State.{State}
use Rattle.sheet.specs.Admits.{Admitted}
use Rattle.sheet.proofs.Admitting.{edit_admits, edit_unworked, cleared, none_clear}
use Rattle.sheet.proofs.Promised.{unless_keeps}
use Rattle.sheet.proofs.draft.Draft.edit.Goals as goal

pub invariant_of-self : goal.invariant_of-self
invariant_of-self c =
    let d = c.args.self.now in
    let n = d.steps in
    let e = c.args.edit in
    let is : c.amend.new.self ≡ unless (edit_fault n d.state e) (edited n d.state e) d.state = c.amend.ensures.leaves in
    let before : Admitted n d.state.terms d.state.spread = cleared n d.state.terms d.state.spread d.redeemable d.narrow d.payable d.priced in
    let a = subst (λ s. Admitted n s.terms s.spread) (sym is) (unless_keeps (λ (s : State). Admitted n s.terms s.spread) _ _ _ (λ none. edit_admits n d.state e none before) before) in
    let unworked = subst (λ s. s.first ≡ n + 1) (sym is) (unless_keeps (λ (s : State). s.first ≡ n + 1) _ _ _ (λ none. edit_unworked n d.state e none d.unworked) d.unworked) in
    record {
      few = d.few;
      unworked = unworked;
      redeemable = none_clear _ a.redemption;
      narrow = none_clear _ a.spread;
      payable = λ t. none_clear _ (a.coupons t);
      priced = λ kind t. none_clear _ (a.rights kind t);
    }
