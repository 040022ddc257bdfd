-- An edit that passes its tests leaves terms that the edits accept. Assumes nothing.
use Rattle.std.proofs.Common.{◌≡◌, ℕ, ◌+◌, ◌≤◌, true, eqb, leb, Some, None, Option, refl, ap, arith}
use Rattle.std.proofs.lemmas.Bool.{false≢true, cond-true, cond_both, le-leb}
use Rattle.game.specs.declared.terms.Right.{Right}
use Rattle.game.specs.declared.terms.Terms.{Terms}
use Rattle.game.specs.declared.terms.Kind.{Kind}
use Rattle.game.specs.declared.terms.Kind.TheVariants.{Call, Put}
use Rattle.game.specs.Game.{coupon, right}
use Rattle.game.proofs.Comparing.{all_same}
use Rattle.sheet.specs.declared.state.State.{State}
use Rattle.sheet.specs.declared.edit.Edit.{Edit}
use Rattle.sheet.specs.declared.edit.Edit.TheVariants.{Coupon, Enter, Cancel, Redeem, Spread as Respread}
use Rattle.sheet.specs.declared.fault.SheetFault.{SheetFault}
use Rattle.sheet.specs.declared.fault.SheetFault.TheVariants.{Spread}
use Rattle.sheet.specs.Edits.{opened, set_right, edited, edit_fault, amount_fault, coupon_fault, spread_fault}
use Rattle.sheet.specs.Admits.{coupon_entry_fault, right_entry_fault, Admitted, clear, CouponsClear, RightsClear}
use Rattle.sheet.proofs.Validity.{coupon_passed, right_passed, cancel_passed, kept_by_set}

-- the redemption, the coupons and the other rights are as they were
module _ (n : ℕ) (b : Terms) (s t : ℕ) (r : Option Right) where
  set_admitted : (kind : Kind) → right_entry_fault n t r ≡ None → Admitted n b s → Admitted n (set_right kind b t r) s
  set_admitted Call fits a = record { redemption = a.redemption; spread = a.spread; coupons = a.coupons; rights = rights }
    where
      rights : (kind : Kind) (u : ℕ) → right_entry_fault n u (right (set_right Call b t r) kind u) ≡ None
      rights Call u = kept_by_set (λ v o. right_entry_fault n v o ≡ None) b.calls t r None fits (a.rights Call) u
      rights Put u = a.rights Put u
  set_admitted Put fits a = record { redemption = a.redemption; spread = a.spread; coupons = a.coupons; rights = rights }
    where
      rights : (kind : Kind) (u : ℕ) → right_entry_fault n u (right (set_right Put b t r) kind u) ≡ None
      rights Call u = a.rights Call u
      rights Put u = kept_by_set (λ v o. right_entry_fault n v o ≡ None) b.puts t r None fits (a.rights Put) u

pub edit_admits : (n : ℕ) (s : State) (e : Edit) → edit_fault n s e ≡ None → Admitted n s.terms s.spread → Admitted n (edited n s e).terms (edited n s e).spread
edit_admits n s (Coupon t amount) none a = record { redemption = a.redemption; spread = a.spread; coupons = coupons; rights = rights }
  where
    coupons : (u : ℕ) → coupon_entry_fault n u (coupon (edited n s (Coupon t amount)).terms u) ≡ None
    coupons = kept_by_set (λ v x. coupon_entry_fault n v x ≡ None) s.terms.coupons t amount 0 (cond_both (eqb amount 0) None (coupon_fault n t amount) (λ o. o ≡ None) (λ _. refl) (λ _. none)) a.coupons

    rights : (kind : Kind) (u : ℕ) → right_entry_fault n u (right (edited n s (Coupon t amount)).terms kind u) ≡ None
    rights Call u = a.rights Call u
    rights Put u = a.rights Put u
edit_admits n s (Enter kind t price notice) none a = set_admitted n s.terms s.spread t (Some (record { price = price; notice = notice })) kind none a
edit_admits n s (Cancel kind t) none a = set_admitted n s.terms s.spread t None kind refl a
edit_admits n s (Redeem amount) none a = record { redemption = none; spread = a.spread; coupons = a.coupons; rights = rights }
  where
    rights : (kind : Kind) (u : ℕ) → right_entry_fault n u (right (edited n s (Redeem amount)).terms kind u) ≡ None
    rights Call u = a.rights Call u
    rights Put u = a.rights Put u
edit_admits n s (Respread spread) none a = record { redemption = a.redemption; spread = none; coupons = a.coupons; rights = a.rights }

pub opened_admitted : (n : ℕ) → Admitted n (opened n).terms 0
opened_admitted n = record { redemption = refl; spread = refl; coupons = λ t. ap (coupon_entry_fault n t) (all_same {X = ℕ} 65 0 t); rights = rights }
  where
    rights : (kind : Kind) (t : ℕ) → right_entry_fault n t (right (opened n).terms kind t) ≡ None
    rights Call t = ap (right_entry_fault n t) (all_same 64 None t)
    rights Put t = ap (right_entry_fault n t) (all_same 64 None t)

-- another spread that is accepted
pub spread_admitted : (n : ℕ) (b : Terms) (s r : ℕ) → r ≤ 200000 → Admitted n b s → Admitted n b r
spread_admitted n b s r h a = record { redemption = a.redemption; spread = cond-true (leb r 200000) None (Some Spread) (le-leb r 200000 h); coupons = a.coupons; rights = a.rights }

-- the facts that a draft keeps
pub clear_none : (o : Option SheetFault) → clear o ≡ true → o ≡ None
clear_none None e = refl
clear_none (Some f) e = absurd (false≢true e)

pub none_clear : (o : Option SheetFault) → o ≡ None → clear o ≡ true
none_clear o e = ap clear e

pub cleared : (n : ℕ) (b : Terms) (s : ℕ) → clear (amount_fault 0 b.redemption) ≡ true → clear (spread_fault s) ≡ true → CouponsClear n b → RightsClear n b → Admitted n b s
cleared n b s redeemable narrow payable priced = record {
  redemption = clear_none _ redeemable;
  spread = clear_none _ narrow;
  coupons = λ t. clear_none _ (payable t);
  rights = λ kind t. clear_none _ (priced kind t);
}

-- an edit of a state of which nothing is worked leaves one
pub edit_unworked : (n : ℕ) (s : State) (e : Edit) → edit_fault n s e ≡ None → s.first ≡ n + 1 → (edited n s e).first ≡ n + 1
edit_unworked n s (Coupon t amount) none h = let within = (coupon_passed n t amount none).within in omega arith
edit_unworked n s (Enter kind t price notice) none h = let within = (right_passed n t price notice none).within in omega arith
edit_unworked n s (Cancel kind t) none h = let within = cancel_passed n t s.terms kind none in omega arith
edit_unworked n s (Redeem amount) none h = refl
edit_unworked n s (Respread spread) none h = omega arith
