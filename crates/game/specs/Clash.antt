-- Clash rules: the amount that is paid where both sides exercise at one node.
--   Fair            what every rule owes: an amount between the two, that never falls as either rises
--   put_prevails    the put amount
--   call_prevails   the call amount
--   halfway         halfway between the two, rounded down
-- Assumes nothing.
use Rattle.std.specs.Prelude.{ℕ, ◌+◌, ◌/◌, ◌≤◌, min, max}
use Rattle.std.proofs.Common.{arith}

-- L is the put amount, U the call amount
pub record Fair (settled : ℕ → ℕ → ℕ) : Type 0 where
  pub at_least : (L U : ℕ) → min L U ≤ settled L U
  pub at_most : (L U : ℕ) → settled L U ≤ max L U
  pub rises : (L L' U U' : ℕ) → L ≤ L' → U ≤ U' → settled L U ≤ settled L' U'

abbrev pub put_prevails : ℕ → ℕ → ℕ
put_prevails L U = L

abbrev pub call_prevails : ℕ → ℕ → ℕ
call_prevails L U = U

abbrev pub halfway : ℕ → ℕ → ℕ
halfway L U = (L + U) / 2

pub put_fair : Fair put_prevails
put_fair = record { at_least = λ L U. omega arith; at_most = λ L U. omega arith; rises = λ L L' U U' l u. l }

pub call_fair : Fair call_prevails
call_fair = record { at_least = λ L U. omega arith; at_most = λ L U. omega arith; rises = λ L L' U U' l u. u }

pub halfway_fair : Fair halfway
halfway_fair = record { at_least = λ L U. omega arith; at_most = λ L U. omega arith; rises = λ L L' U U' l u. omega arith }
