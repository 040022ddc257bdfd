-- The fits of a worked bond: a root figure that is too low stays too low at every greater spread. Assumes nothing.
use Rattle.std.proofs.Common.{◌≡◌, ℕ, ◌+◌, ◌<◌, ◌≤◌, [], ◌∷◌, arith, lit≤}
use Rattle.rates.specs.Model.{Lawful}
use Rattle.rates.specs.declared.kind.Kind.TheVariants.{Binomial}
use Rattle.rates.proofs.Laws.{supplied_lawful}
use Rattle.game.specs.Clash.{put_prevails, put_fair}
use Rattle.game.specs.Game.{root}
use Rattle.game.proofs.Comparing.{falls_with_spread}
use Rattle.sheet.specs.Fits.{Greatest}
use Rattle.sheet.proofs.Fitting.{greatest_is}
use Rattle.bonds.specs.Bonds.{H, h_both, fit}

lawful : Lawful H
lawful = supplied_lawful Binomial 2 (50000 ∷ 40000 ∷ 60000 ∷ []) (lit≤ tt) (lit≤ tt)

at : ℕ → ℕ
at s = root H put_prevails h_both.terms s

falls : (s s' : ℕ) → s ≤ s' → root H put_prevails h_both.terms s' ≤ root H put_prevails h_both.terms s
falls = falls_with_spread H lawful put_prevails put_fair h_both.terms

-- a spread that reaches the price, the next one not
module _ (want spread : ℕ) (allowed : spread ≤ 200000) (enough : want ≤ root H put_prevails h_both.terms spread) (too_low : spread < 200000 → root H put_prevails h_both.terms (spread + 1) < want) where
  fits : Greatest H put_prevails h_both.terms want spread
  fits = record {
    allowed = allowed;
    enough = enough;
    none_greater = λ s l h. let f = falls (spread + 1) s (omega arith) in let t = too_low (omega arith) in omega arith;
  }

pub fitted : (fit 997619 ≡ 0) × (fit 997618 ≡ 1) × (fit 0 ≡ 200000)
fitted = (
  greatest_is H put_prevails h_both.terms 997619 0 (fits 997619 0 (lit≤ tt) (lit≤ tt) (λ _. lit≤ tt)),
  greatest_is H put_prevails h_both.terms 997618 1 (fits 997618 1 (lit≤ tt) (lit≤ tt) (λ _. lit≤ tt)),
  greatest_is H put_prevails h_both.terms 0 200000 (fits 0 200000 (lit≤ tt) (omega arith) (λ l. absurd (omega arith))),
)
