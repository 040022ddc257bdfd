-- What the laws of a lattice ask of the entries of a row, and of figures that are 0 where something does not fit: for our
-- lattices and a maker's. Assumes nothing.
use Rattle.std.proofs.Common.{◌≡◌, ℕ, zero, suc, ◌<◌, ◌≤◌, Bool, true, false, cond, ◌&&◌, leb, List, [], ◌∷◌, map, length, get_or, refl, le_refl, arith}
use Rattle.std.proofs.lemmas.Bool.Decides.{nat_tests}
use Rattle.std.proofs.lemmas.Bool.{false≢true}
use Rattle.rates.specs.Formulas.{entry_at}
use Rattle.rates.specs.Model.{capped}

pub capped_at : (xs : List ℕ) (k : ℕ) → entry_at xs k ≡ entry_at (map capped xs) k
capped_at [] k = refl
capped_at (x ∷ xs) zero = omega arith
capped_at (x ∷ xs) (suc k) = capped_at xs k

pub within_at : (xs : List ℕ) (most : ℕ) → ((k : ℕ) → k < length xs → get_or xs k 0 ≤ most) → (k : ℕ) → entry_at xs k ≤ most
within_at [] most h k = omega arith
within_at (x ∷ xs) most h zero = omega (arith, h 0 (omega arith))
within_at (x ∷ xs) most h (suc k) = within_at xs most (λ i w. h (suc i) (omega arith)) k

pub under_at : (xs ys : List ℕ) → length xs ≡ length ys → ((k : ℕ) → k < length xs → get_or xs k 0 ≤ get_or ys k 0) → (k : ℕ) → entry_at xs k ≤ entry_at ys k
under_at [] ys e h k = omega arith
under_at (x ∷ xs) [] e h k = absurd (let z : suc (length xs) ≡ 0 = e in omega arith)
under_at (x ∷ xs) (y ∷ ys) e h zero = omega (arith, h 0 (omega arith))
under_at (x ∷ xs) (y ∷ ys) e h (suc k) = under_at xs ys (omega (arith, e)) (λ i w. h (suc i) (omega arith)) k

pub cond_under : (b c : Bool) (x y : ℕ) → b ≡ c → x ≤ y → cond b x 0 ≤ cond c y 0
cond_under b c x y e h = grind arith

pub cond_less : (b c e : Bool) (x y : ℕ) → (b ≡ true → c ≡ true) → x ≤ y → cond (b && e) x 0 ≤ cond (c && e) y 0
cond_less true true e x y i h = cond_under e e x y refl h
cond_less true false e x y i h = absurd (false≢true (i refl))
cond_less false c e x y i h = omega arith

pub cond_spread : (a b e : Bool) (s r x y : ℕ) → s ≤ r → x ≤ y → cond (a && (b && (leb r 200000 && e))) x 0 ≤ cond (a && (b && (leb s 200000 && e))) y 0
cond_spread true true e s r x y h k = cond_less (leb r 200000) (leb s 200000) e x y (λ p. grind (arith, nat_tests)) k
cond_spread true false e s r x y h k = le_refl _
cond_spread false b e s r x y h k = le_refl _

pub cond_within : (b : Bool) (x y : ℕ) → x ≤ y → cond b x 0 ≤ y
cond_within true x y h = h
cond_within false x y h = omega arith
