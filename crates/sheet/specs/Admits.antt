-- Terms and a spread that the edits accept on n steps.
--   coupon_entry_fault   what the edits say of the coupon that stands at a step; 0 is none
--   right_entry_fault    what they say of the right that stands there, if any
--   Admitted             they find no fault in the redemption, the spread, any coupon or any right
--   clear                there is no fault
-- Assumes nothing.
use Rattle.std.specs.Prelude.{◌≡◌, ℕ, Bool, true, false, cond, Some, None, Option, ◌==◌}
use Rattle.game.specs.declared.terms.Right.{Right}
use Rattle.game.specs.declared.terms.Terms.{Terms}
use Rattle.game.specs.declared.terms.Kind.{Kind}
use Rattle.game.specs.Game.{coupon, right}
use Rattle.sheet.specs.declared.fault.SheetFault.{SheetFault}
use Rattle.sheet.specs.Edits.{amount_fault, coupon_fault, right_fault, spread_fault}

abbrev pub coupon_entry_fault : ℕ → ℕ → ℕ → Option SheetFault
coupon_entry_fault n t amount = cond (amount == 0) None (coupon_fault n t amount)

abbrev pub right_entry_fault : ℕ → ℕ → Option Right → Option SheetFault
right_entry_fault n t None = None
right_entry_fault n t (Some r) = right_fault n t r.price r.notice

pub record Admitted (n : ℕ) (b : Terms) (s : ℕ) : Type 0 where
  pub redemption : amount_fault 0 b.redemption ≡ None
  pub spread : spread_fault s ≡ None
  pub coupons : (t : ℕ) → coupon_entry_fault n t (coupon b t) ≡ None
  pub rights : (kind : Kind) (t : ℕ) → right_entry_fault n t (right b kind t) ≡ None

-- the same as facts that a struct can keep
abbrev pub clear : Option SheetFault → Bool
clear None = true
clear (Some f) = false

abbrev pub CouponsClear : ℕ → Terms → Type 0
CouponsClear n b = (t : ℕ) → clear (coupon_entry_fault n t (coupon b t)) ≡ true

abbrev pub RightsClear : ℕ → Terms → Type 0
RightsClear n b = (kind : Kind) (t : ℕ) → clear (right_entry_fault n t (right b kind t)) ≡ true
