use Rattle.std.proofs.Common.{◌≡◌, ℕ, ◌<◌, ◌≤◌, get_or, option_copied}
use Rattle.game.specs.Rule.{figure_of, mark_of, mark_number}
use Rattle.sheet.specs.Steps.{paid}
use Rattle.sheet.proofs.valuation.Valuation.decide.Given as goal

-- the nodes so far are decided, the others still have their values of going on
abbrev pub invariant-loop-j : goal.invariant-loop-j
invariant-loop-j g l = record {
  figures : (k : ℕ) → k < l.j → get_or l.figure-items k 0 ≡ figure_of (g.K.ClashRule.settled l.self.clash.now) (paid (option_copied l.puts) k) (paid (option_copied l.calls) k) (get_or l.initial.figure-items k 0);
  marks : (k : ℕ) → k < l.j → get_or l.marks k 0 ≡ mark_number (mark_of (paid (option_copied l.puts) k) (paid (option_copied l.calls) k) (get_or l.initial.figure-items k 0));
  others : (k : ℕ) → l.j ≤ k → get_or l.figure-items k 0 ≡ get_or l.initial.figure-items k 0;
}
