use Rattle.std.proofs.Common.{◌≡◌, ℕ, ◌≤◌, map, take, drop, Some}
use Rattle.session.specs.Answers.{heard_in}
use Rattle.session.specs.Held.{held, Kept}
use Rattle.session.specs.Runs.{Shared, run, answers}
use Rattle.session.proofs.Running.{Stands, Accepted}
use Rattle.session.proofs.perform.Lent.perform_all.Given as goal

-- the calls before the i-th are performed, every state so far stands, and the edits accept its terms and spread
abbrev pub invariant-loop-i : goal.invariant-loop-i
invariant-loop-i g l =
    let was = l.initial in
    let m = g.L.Lattice.model was.sheet.lattice in
    let σ = g.K.ClashRule.settled was.sheet.clash in
    let z = held was.sheet.state was.self in
    let after : ℕ → Shared = λ k. run m σ (take k l.call-items) z in
    record {
      left : held l.sheet.state l.self ≡ after l.i;
      said : map heard_in (take l.i l.answers) ≡ map Some (answers m σ (take l.i l.call-items) z);
      rest : drop l.i l.answers ≡ drop l.i was.answers;
      same : (l.sheet.lattice ≡ was.sheet.lattice) × (l.sheet.clash ≡ was.sheet.clash);
      kept : Kept was.self l.self;
      stands : (k : ℕ) → k ≤ l.i → Stands m σ (after k);
      accepted : Accepted m σ (after l.i);
    }
