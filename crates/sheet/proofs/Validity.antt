-- An edit that passes its tests leaves terms within their limits. Assumes nothing.
use Rattle.std.proofs.Common.{◌≡◌, ℕ, zero, suc, ◌+◌, ◌-◌, ◌<◌, ◌≤◌, Bool, true, false, cond, ◌&&◌, ltb, leb, List, [], ◌∷◌, get_or, set, Some, None, Option, sym, refl, ap, ◌∙◌, ⊎_elim, arith}
use Rattle.std.proofs.lemmas.Bool.{cases_Bool, cond-true, cond-false, leb-true, ltb-true, le-leb, and_parts, and_from}
use Rattle.game.specs.declared.terms.Right.{Right}
use Rattle.game.specs.declared.terms.Terms.{Terms}
use Rattle.game.specs.declared.terms.Kind.{Kind}
use Rattle.game.specs.declared.terms.Kind.TheVariants.{Call, Put}
use Rattle.game.specs.Game.{right}
use Rattle.game.specs.Limits.{right_fits, Priced, Payable}
use Rattle.game.proofs.Comparing.{all_same}
use Rattle.sheet.specs.declared.state.State.{State}
use Rattle.sheet.specs.declared.edit.Edit.{Edit}
use Rattle.sheet.specs.declared.edit.Edit.TheVariants.{Coupon, Enter, Cancel, Redeem, Spread as Respread}
use Rattle.sheet.specs.declared.fault.SheetFault.{SheetFault}
use Rattle.sheet.specs.declared.fault.SheetFault.TheVariants.{Step, Notice, Amount, Spread}
use Rattle.sheet.specs.Edits.{opened, set_right, edited, edit_fault, amount_fault, coupon_fault, notice_fault, right_fault, cancel_fault, spread_fault, else_fault, missing}

-- what holds of the state of every sheet
pub record Valid (s : State) : Type 0 where
  pub early : s.first ≤ 65
  pub narrow : s.spread ≤ 200000
  pub redeemable : s.terms.redemption ≤ 10000000
  pub payable : Payable s.terms
  pub priced : Priced s.terms

-- a test that found no fault was passed
module _ (b : Bool) (next : Option SheetFault) (f : SheetFault) where
  pub passed : cond b next (Some f) ≡ None → (b ≡ true) × (next ≡ None)
  passed e = ⊎_elim (λ (t : b ≡ true). (t, sym (cond-true b next (Some f) t) ∙ e)) (λ (h : b ≡ false). let q : Some f ≡ None = sym (cond-false b next (Some f) h) ∙ e in let z : ◌≡◌ {A = ℕ} 0 1 = cc in absurd (omega arith)) (cases_Bool b)

amount_passed : (place amount : ℕ) → amount_fault place amount ≡ None → amount ≤ 10000000
amount_passed place amount e = leb-true amount 10000000 (passed (leb amount 10000000) None (Amount place) e).0

pub record CouponFits (n t amount : ℕ) : Type 0 where
  pub some : 1 ≤ t
  pub within : t ≤ n
  pub small : amount ≤ 10000000

pub coupon_passed : (n t amount : ℕ) → coupon_fault n t amount ≡ None → CouponFits n t amount
coupon_passed n t amount e =
    let p = passed (leb 1 t && leb t n) (amount_fault t amount) (Step t) e in
    let q = and_parts (leb 1 t) (leb t n) p.0 in
    record { some = leb-true 1 t q.0; within = leb-true t n q.1; small = amount_passed t amount p.1 }

pub record RightFits (n t price notice : ℕ) : Type 0 where
  pub within : t < n
  pub paid : notice ≤ n - t
  pub small : price ≤ 10000000

else_passed : (o next : Option SheetFault) → else_fault o next ≡ None → (o ≡ None) × (next ≡ None)
else_passed None next e = (refl, e)
else_passed (Some f) next e = absurd (let z : ◌≡◌ {A = ℕ} 0 1 = cc in omega arith)

pub right_passed : (n t price notice : ℕ) → right_fault n t price notice ≡ None → RightFits n t price notice
right_passed n t price notice e =
    let p = else_passed (notice_fault n t notice) (amount_fault t price) e in
    let q = passed (ltb t n) (cond (leb notice (n - t)) None (Some (Notice t))) (Step t) p.0 in
    record { within = ltb-true t n q.0; paid = leb-true notice (n - t) (passed (leb notice (n - t)) None (Notice t) q.1).0; small = amount_passed t price p.1 }

pub cancel_passed : (n t : ℕ) (b : Terms) (kind : Kind) → cancel_fault n b kind t ≡ None → t < n
cancel_passed n t b kind e = ltb-true t n (passed (ltb t n) (missing t (right b kind t)) (Step t) e).0

spread_passed : (spread : ℕ) → spread_fault spread ≡ None → spread ≤ 200000
spread_passed spread e = leb-true spread 200000 (passed (leb spread 200000) None Spread e).0

-- what holds of each place still holds after a write of what may stand there
pub kept_by_set : {X : Type 0} (P : ℕ → X → Type 0) (xs : List X) (i : ℕ) (y d : X) → P i y → ((t : ℕ) → P t (get_or xs t d)) → (t : ℕ) → P t (get_or (set xs i y) t d)
kept_by_set P [] i y d p h t = h t
kept_by_set P (x ∷ xs) zero y d p h zero = p
kept_by_set P (x ∷ xs) zero y d p h (suc t) = h (suc t)
kept_by_set P (x ∷ xs) (suc i) y d p h zero = h zero
kept_by_set P (x ∷ xs) (suc i) y d p h (suc t) = kept_by_set (λ k. P (suc k)) xs i y d p (λ k. h (suc k)) t

set_priced : (kind : Kind) (b : Terms) (t : ℕ) (r : Option Right) → right_fits t r ≡ true → Priced b → Priced (set_right kind b t r)
set_priced Call b t r h p Call u = kept_by_set (λ v o. right_fits v o ≡ true) b.calls t r None h (p Call) u
set_priced Call b t r h p Put u = p Put u
set_priced Put b t r h p Call u = p Call u
set_priced Put b t r h p Put u = kept_by_set (λ v o. right_fits v o ≡ true) b.puts t r None h (p Put) u

set_payable : (kind : Kind) (b : Terms) (t : ℕ) (r : Option Right) → Payable b → Payable (set_right kind b t r)
set_payable Call b t r p = p
set_payable Put b t r p = p

set_redeemable : (kind : Kind) (b : Terms) (t : ℕ) (r : Option Right) → b.redemption ≤ 10000000 → (set_right kind b t r).redemption ≤ 10000000
set_redeemable Call b t r p = p
set_redeemable Put b t r p = p

pub edited_valid : (n : ℕ) (s : State) (e : Edit) → n ≤ 64 → edit_fault n s e ≡ None → Valid s → Valid (edited n s e)
edited_valid n s (Coupon t amount) few none v =
    let fits = coupon_passed n t amount none in
    let early = v.early in
    record { early = omega arith; narrow = v.narrow; redeemable = v.redeemable; payable = kept_by_set (λ _ x. x ≤ 10000000) s.terms.coupons t amount 0 fits.small v.payable; priced = priced }
  where
    priced : Priced (edited n s (Coupon t amount)).terms
    priced Call u = v.priced Call u
    priced Put u = v.priced Put u
edited_valid n s (Enter kind t price notice) few none v =
    let fits = right_passed n t price notice none in
    let within = fits.within in
    let paid = fits.paid in
    let early = v.early in
    let last : t + notice ≤ 64 = omega arith in
    let r : Option Right = Some (record { price = price; notice = notice }) in
    record {
      early = omega arith;
      narrow = v.narrow;
      redeemable = set_redeemable kind s.terms t r v.redeemable;
      payable = set_payable kind s.terms t r v.payable;
      priced = set_priced kind s.terms t r (and_from (leb price 10000000) (leb (t + notice) 64) (le-leb price 10000000 fits.small) (le-leb (t + notice) 64 last)) v.priced;
    }
edited_valid n s (Cancel kind t) few none v =
    let within = cancel_passed n t s.terms kind none in
    let early = v.early in
    record {
      early = omega arith;
      narrow = v.narrow;
      redeemable = set_redeemable kind s.terms t None v.redeemable;
      payable = set_payable kind s.terms t None v.payable;
      priced = set_priced kind s.terms t None refl v.priced;
    }
edited_valid n s (Redeem amount) few none v =
    record { early = omega arith; narrow = v.narrow; redeemable = amount_passed 0 amount none; payable = v.payable; priced = priced }
  where
    priced : Priced (edited n s (Redeem amount)).terms
    priced Call u = v.priced Call u
    priced Put u = v.priced Put u
edited_valid n s (Respread spread) few none v =
    let early = v.early in
    record { early = omega arith; narrow = spread_passed spread none; redeemable = v.redeemable; payable = v.payable; priced = v.priced }

pub opened_valid : (n : ℕ) → n ≤ 64 → Valid (opened n)
opened_valid n few = record {
  early = omega arith;
  narrow = omega arith;
  redeemable = omega arith;
  payable = λ t. omega (arith, all_same {X = ℕ} 65 0 t);
  priced = priced;
}
  where
    priced : Priced (opened n).terms
    priced Call t = ap (right_fits t) (all_same 64 None t)
    priced Put t = ap (right_fits t) (all_same 64 None t)
