-- A clash rule: where both sides exercise, a fixed split between them.
--   split   three parts of the put amount and one part of the call amount, rounded down
-- Assumes nothing.
use Rattle.std.specs.Prelude.{ℕ, ◌+◌, ◌*◌, ◌/◌}
use Rattle.std.proofs.Common.{arith}
use Rattle.game.specs.Clash.{Fair}

abbrev pub split : ℕ → ℕ → ℕ
split L U = (3 * L + U) / 4

pub split_fair : Fair split
split_fair = record { at_least = λ L U. omega arith; at_most = λ L U. omega arith; rises = λ L L' U U' l u. omega arith }
