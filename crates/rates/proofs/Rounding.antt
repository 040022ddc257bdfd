-- What the laws need of the rounded quotient. Assumes nothing.
use Rattle.std.proofs.Common.{ℕ, ◌*◌, ◌/◌, ◌<◌, ◌≤◌, le_trans, mul-le-mul_left, div-mul-le_self}
use native.Mathlib.Nat.{div-le_of_le-mul}
use Rattle.std.proofs.lemmas.Nat.{le-div}
use Rattle.rates.specs.Formulas.{rounded}

pub rounded_rises : (x y c d : ℕ) → x ≤ y → 0 < d → d ≤ c → rounded x c ≤ rounded y d
rounded_rises x y c d h p k =
    le-div (x / c) y d p (le_trans (mul-le-mul_left (x / c) k) (le_trans (div-mul-le_self x c) h))

pub rounded_within : (x d most : ℕ) → 0 < d → x ≤ d * most → rounded x d ≤ most
rounded_within x d most p h = div-le_of_le-mul d h
