use Rattle.std.proofs.Common.{◌≡◌, ℕ, ◌^◌, ◌*◌, ◌+◌, ◌<◌, ◌≤◌, false, Ok, Err, Result, sym, ◌∙◌, arith}
use Rattle.std.specs.Result.{OkIff, is_ok}
use Rattle.script.proofs.Digits.{too_large}
use Rattle.script.proofs.numbers.number.Goals as goal

unfit : {E : Type 0} (r : Result ℕ E) (n : ℕ) → OkIff r (n < 2 ^ 32) n → false ≡ is_ok r → 2 ^ 32 ≤ n
unfit (Ok x) n h e = absurd (cc)
unfit (Err x) n h e = omega (arith, h)

pub returns-in_err-value : goal.returns-in_err-value
returns-in_err-value c =
    let over : 2 ^ 32 ≤ c.loop-byte.value * 10 + c.in_ok-digit.digit = omega (arith, unfit c.try_from.result _ c.try_from.ensures c.in_err-value.ensures.variant, c.from.ensures, c.from-in-loop-byte.ensures) in
    c.from_residual-in_err-value.ensures
    ∙ too_large c.args.word.now c.loop-byte.byte-index c.loop-byte.value c.loop-byte.invariant c.loop-byte-test.true c.in_ok-digit.digit (sym c.digit.ensures ∙ c.in_ok-digit.was) over
