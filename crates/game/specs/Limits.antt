-- What the terms of every sheet keep to.
--   right_fits   a right that may stand at step t: its price, and the step of its payment
--   Priced       every right fits its step
--   Payable      every coupon is at most 10,000,000
-- Assumes nothing.
use Rattle.std.specs.Prelude.{◌≡◌, ℕ, ◌+◌, ◌≤◌, Bool, true, ◌&&◌, Some, None, Option, nat_le}
use Rattle.game.specs.declared.terms.Right.{Right}
use Rattle.game.specs.declared.terms.Terms.{Terms}
use Rattle.game.specs.declared.terms.Kind.{Kind}
use Rattle.game.specs.Game.{coupon, right}

abbrev pub right_fits : ℕ → Option Right → Bool
right_fits t None = true
right_fits t (Some r) = nat_le r.price 10000000 && nat_le (t + r.notice) 64

abbrev pub Priced : Terms → Type 0
Priced b = (kind : Kind) (t : ℕ) → right_fits t (right b kind t) ≡ true

abbrev pub Payable : Terms → Type 0
Payable b = (t : ℕ) → coupon b t ≤ 10000000
