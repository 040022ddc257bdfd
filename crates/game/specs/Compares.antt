-- Two term sheets, the one never worth more than the other.
--   CallUnder    of one step's calls: where the second has one, the first has one of the same notice at no
--                higher price
--   PutUnder     of one step's puts: where the first has one, the second has one of the same notice at no
--                lower price
--   WorthLess    a greater or equal spread, no higher redemption, coupons and puts, and calls that cost the
--                holder no less
-- Assumes nothing.
use Rattle.std.specs.Prelude.{◌≡◌, ℕ, ◌≤◌, Some, None, Option}
use Rattle.game.specs.declared.terms.Right.{Right}
use Rattle.game.specs.declared.terms.Terms.{Terms}
use Rattle.game.specs.declared.terms.Kind.TheVariants.{Call, Put}
use Rattle.game.specs.Game.{coupon, right}

abbrev pub Cheaper : Right → Right → Type 0
Cheaper r r' = (r.notice ≡ r'.notice) × (r.price ≤ r'.price)

abbrev pub CallUnder : Option Right → Option Right → Type 0
CallUnder r None = Unit {0}
CallUnder None (Some r') = ⊥
CallUnder (Some r) (Some r') = Cheaper r r'

abbrev pub PutUnder : Option Right → Option Right → Type 0
PutUnder None r' = Unit {0}
PutUnder (Some r) None = ⊥
PutUnder (Some r) (Some r') = Cheaper r r'

-- b at the spread s is never worth more than b' at the spread s'
pub record WorthLess (b : Terms) (s : ℕ) (b' : Terms) (s' : ℕ) : Type 0 where
  pub spread : s' ≤ s
  pub redemption : b.redemption ≤ b'.redemption
  pub coupons : (t : ℕ) → coupon b t ≤ coupon b' t
  pub calls : (t : ℕ) → CallUnder (right b Call t) (right b' Call t)
  pub puts : (t : ℕ) → PutUnder (right b Put t) (right b' Put t)
