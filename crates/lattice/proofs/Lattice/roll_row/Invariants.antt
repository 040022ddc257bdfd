use Rattle.std.proofs.Common.{◌≡◌, ℕ, ◌<◌, get_or}
use Rattle.lattice.proofs.Lattice.roll_row.Given as goal

abbrev pub invariant-loop-j : goal.invariant-loop-j
invariant-loop-j g l = (k : ℕ) → k < l.j → get_or l.out k 0 ≡ (g.Self.Lattice.model l.self).rolled l.t k l.spread l.row
