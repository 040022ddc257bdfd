use Rattle.script.proofs.Digits.{Valued}
use Rattle.script.proofs.numbers.number.Given as goal

abbrev pub invariant-loop-byte : goal.invariant-loop-byte
invariant-loop-byte l = Valued l.word l.byte-index l.value
