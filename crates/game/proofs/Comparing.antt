-- A term sheet that is worth less has no higher figure anywhere. Assumes nothing.
use Rattle.std.proofs.Common.{◌≡◌, ℕ, zero, suc, ◌+◌, ◌-◌, ◌≤◌, get_or, replicate, Some, None, Option, sym, refl, subst, le_refl}
use Rattle.rates.specs.Model.{Model, Lawful}
use Rattle.game.specs.declared.terms.Right.{Right}
use Rattle.game.specs.declared.terms.Terms.{Terms}
use Rattle.game.specs.declared.terms.Kind.TheVariants.{Call, Put}
use Rattle.game.specs.Clash.{Fair}
use Rattle.game.specs.Game.{right, stream, pays, amount, figure_from, figure, redeemed, root, without}
use Rattle.game.specs.Compares.{CallUnder, PutUnder, WorthLess}
use Rattle.game.proofs.OneNode.{HigherCall, HigherPut, rises}
use Rattle.game.proofs.Rolls.{roll_under}

-- a table of one value has that value at each place, and past its end
pub all_same : {X : Type 0} (n : ℕ) (x : X) (t : ℕ) → get_or (replicate n x) t x ≡ x
all_same zero x t = refl
all_same (suc n) x zero = refl
all_same (suc n) x (suc t) = all_same n x t

call_self : (r : Option Right) → CallUnder r r
call_self None = tt
call_self (Some r) = (refl, le_refl _)

put_self : (r : Option Right) → PutUnder r r
put_self None = tt
put_self (Some r) = (refl, le_refl _)

module _ (m : Model) (laws : Lawful m) (b b' : Terms) (s s' : ℕ) (less : WorthLess b s b' s') where
  stream_under : (x x' k t j : ℕ) → x ≤ x' → stream m b s x k t j ≤ stream m b' s' x' k t j
  stream_under x x' zero t j h = h
  stream_under x x' (suc k) t j h = roll_under m laws b b' s s' t j _ _ less.spread (less.coupons (t + 1)) (λ i _. stream_under x x' k (t + 1) i h)

  streams : (r r' : Right) (t j : ℕ) → r.notice ≡ r'.notice → r.price ≤ r'.price → stream m b s r.price r.notice t j ≤ stream m b' s' r'.price r'.notice t j
  streams r r' t j e h = subst (λ (k : ℕ). stream m b s r.price r.notice t j ≤ stream m b' s' r'.price k t j) e (stream_under r.price r'.price r.notice t j h)

  calls_under : (t j : ℕ) (r r' : Option Right) → CallUnder r r' → HigherCall (pays m b s t j r) (pays m b' s' t j r')
  calls_under t j None None h = tt
  calls_under t j (Some r) None h = tt
  calls_under t j None (Some r') h = absurd h
  calls_under t j (Some r) (Some r') h = streams r r' t j h.0 h.1

  puts_under : (t j : ℕ) (r r' : Option Right) → PutUnder r r' → HigherPut (pays m b s t j r) (pays m b' s' t j r')
  puts_under t j None None h = tt
  puts_under t j None (Some r') h = tt
  puts_under t j (Some r) None h = absurd h
  puts_under t j (Some r) (Some r') h = streams r r' t j h.0 h.1

  module _ (σ : ℕ → ℕ → ℕ) (fair : Fair σ) where
    pub figure_from_under : (g g' : ℕ → ℕ) → ((j : ℕ) → g j ≤ g' j) → (d t j : ℕ) → figure_from m σ b s g d t j ≤ figure_from m σ b' s' g' d t j
    figure_from_under g g' h zero t j = h j
    figure_from_under g g' h (suc d) t j =
        rises σ fair (amount m b s Put t j) (amount m b' s' Put t j) (amount m b s Call t j) (amount m b' s' Call t j) _ _
        (puts_under t j (right b Put t) (right b' Put t) (less.puts t))
        (calls_under t j (right b Call t) (right b' Call t) (less.calls t))
        (roll_under m laws b b' s s' t j _ _ less.spread (less.coupons (t + 1)) (λ i _. figure_from_under g g' h d (t + 1) i))

    pub figure_under : (t j : ℕ) → figure m σ b s t j ≤ figure m σ b' s' t j
    figure_under t j = figure_from_under (redeemed b) (redeemed b') (λ _. less.redemption) (m.steps - t) t j

-- the same terms at a greater spread
pub at_spreads : (b : Terms) (s s' : ℕ) → s ≤ s' → WorthLess b s' b s
at_spreads b s s' h = record {
  spread = h;
  redemption = le_refl _;
  coupons = λ t. le_refl _;
  calls = λ t. call_self (right b Call t);
  puts = λ t. put_self (right b Put t);
}

without_calls : (b : Terms) (s : ℕ) → WorthLess b s (without Call b) s
without_calls b s = record {
  spread = le_refl _;
  redemption = le_refl _;
  coupons = λ t. le_refl _;
  calls = λ t. subst (CallUnder (right b Call t)) (sym (all_same 64 None t)) (none (right b Call t));
  puts = λ t. put_self (right b Put t);
}
  where
    none : (r : Option Right) → CallUnder r None
    none None = tt
    none (Some r) = tt

without_puts : (b : Terms) (s : ℕ) → WorthLess (without Put b) s b s
without_puts b s = record {
  spread = le_refl _;
  redemption = le_refl _;
  coupons = λ t. le_refl _;
  calls = λ t. call_self (right b Call t);
  puts = λ t. subst (λ (r : Option Right). PutUnder r (right b Put t)) (sym (all_same 64 None t)) tt;
}

module _ (m : Model) (laws : Lawful m) (σ : ℕ → ℕ → ℕ) (fair : Fair σ) (b : Terms) where
  pub falls_with_spread : (s s' : ℕ) → s ≤ s' → root m σ b s' ≤ root m σ b s
  falls_with_spread s s' h = figure_under m laws b b s' s (at_spreads b s s' h) σ fair 0 0

  pub calls_cost : (s : ℕ) → root m σ b s ≤ root m σ (without Call b) s
  calls_cost s = figure_under m laws b (without Call b) s s (without_calls b s) σ fair 0 0

  pub puts_worth : (s : ℕ) → root m σ (without Put b) s ≤ root m σ b s
  puts_worth s = figure_under m laws (without Put b) b s s (without_puts b s) σ fair 0 0
