use Rattle.std.proofs.Common.{vec_items}
use Rattle.script.proofs.Digits.{Numbered}
use Rattle.script.proofs.calls.numbers_of.Given as goal

abbrev pub invariant-loop-word : goal.invariant-loop-word
invariant-loop-word l = Numbered l.words l.word-index (vec_items l.found)
