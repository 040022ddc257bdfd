-- Edits of a sheet: when each is turned down, and the state that it leaves. n is the number of steps.
--   opened        the state of a sheet just opened
--   edited        the state that an edit leaves: one thing set, and the first worked step by the rule of that edit
--   edit_fault    the first ground on which it is turned down, in the order of the numbers
-- Assumes nothing.
use Rattle.std.specs.Prelude.{ℕ, ◌+◌, ◌-◌, max, cond, ◌&&◌, replicate, Some, None, Option, nat_le, nat_lt, slice_set}
use Rattle.game.specs.declared.terms.Right.{Right}
use Rattle.game.specs.declared.terms.Terms.{Terms}
use Rattle.game.specs.declared.terms.Kind.{Kind}
use Rattle.game.specs.declared.terms.Kind.TheVariants.{Call, Put}
use Rattle.game.specs.Game.{right}
use Rattle.sheet.specs.declared.state.State.{State}
use Rattle.sheet.specs.declared.edit.Edit.{Edit}
use Rattle.sheet.specs.declared.edit.Edit.TheVariants.{Coupon, Enter, Cancel, Redeem, Spread as Respread}
use Rattle.sheet.specs.declared.fault.SheetFault.{SheetFault}
use Rattle.sheet.specs.declared.fault.SheetFault.TheVariants.{Step, Notice, Amount, Spread, NoRight}

abbrev pub opened : ℕ → State
opened n = record {
  terms = record { redemption = 1000000; coupons = replicate 65 0; calls = replicate 64 None; puts = replicate 64 None };
  spread = 0;
  first = n + 1;
}

-- a right entered, or none in its place
abbrev pub set_right : Kind → Terms → ℕ → Option Right → Terms
set_right Call b t r = record { redemption = b.redemption; coupons = b.coupons; calls = slice_set b.calls t r; puts = b.puts }
set_right Put b t r = record { redemption = b.redemption; coupons = b.coupons; calls = b.calls; puts = slice_set b.puts t r }

-- what each edit leaves
abbrev pub edited : ℕ → State → Edit → State
edited n s (Coupon t amount) = record {
  terms = record { redemption = s.terms.redemption; coupons = slice_set s.terms.coupons t amount; calls = s.terms.calls; puts = s.terms.puts };
  spread = s.spread;
  first = max s.first t;
}
edited n s (Enter kind t price notice) = record {
  terms = set_right kind s.terms t (Some (record { price = price; notice = notice }));
  spread = s.spread;
  first = max s.first (t + 1);
}
edited n s (Cancel kind t) = record { terms = set_right kind s.terms t None; spread = s.spread; first = max s.first (t + 1) }
edited n s (Redeem amount) = record {
  terms = record { redemption = amount; coupons = s.terms.coupons; calls = s.terms.calls; puts = s.terms.puts };
  spread = s.spread;
  first = n + 1;
}
edited n s (Respread spread) = record { terms = s.terms; spread = spread; first = max s.first n }

-- an amount, or the price of a right, at a place
abbrev pub amount_fault : ℕ → ℕ → Option SheetFault
amount_fault place amount = cond (nat_le amount 10000000) None (Some (Amount place))

abbrev pub coupon_fault : ℕ → ℕ → ℕ → Option SheetFault
coupon_fault n t amount = cond (nat_le 1 t && nat_le t n) (amount_fault t amount) (Some (Step t))

-- where a right stands, and its notice
abbrev pub notice_fault : ℕ → ℕ → ℕ → Option SheetFault
notice_fault n t notice = cond (nat_lt t n) (cond (nat_le notice (n - t)) None (Some (Notice t))) (Some (Step t))

abbrev pub else_fault : Option SheetFault → Option SheetFault → Option SheetFault
else_fault None next = next
else_fault (Some f) next = Some f

abbrev pub right_fault : ℕ → ℕ → ℕ → ℕ → Option SheetFault
right_fault n t price notice = else_fault (notice_fault n t notice) (amount_fault t price)

abbrev pub missing : ℕ → Option Right → Option SheetFault
missing t None = Some (NoRight t)
missing t (Some r) = None

abbrev pub cancel_fault : ℕ → Terms → Kind → ℕ → Option SheetFault
cancel_fault n b kind t = cond (nat_lt t n) (missing t (right b kind t)) (Some (Step t))

abbrev pub spread_fault : ℕ → Option SheetFault
spread_fault spread = cond (nat_le spread 200000) None (Some Spread)

-- when each edit is turned down
abbrev pub edit_fault : ℕ → State → Edit → Option SheetFault
edit_fault n s (Coupon t amount) = coupon_fault n t amount
edit_fault n s (Enter kind t price notice) = right_fault n t price notice
edit_fault n s (Cancel kind t) = cancel_fault n s.terms kind t
edit_fault n s (Redeem amount) = amount_fault 0 amount
edit_fault n s (Respread spread) = spread_fault spread
