use Rattle.std.proofs.Common.{◌≡◌, ◌-◌, ◌==◌, refl, sym, ◌∙◌, rules, arith}
use Rattle.record.specs.Decode.{checked, entries_from, list_at}
use Rattle.record.proofs.Cutting.{exit, entry_on, entry_off}
use Rattle.record.proofs.Accepting.{filled_more}
use Rattle.record.proofs.filling.Filling.list.Goals as goal

pub returns-then-not-present-clause-got : goal.returns-then-not-present-clause-got
unfolding list_at
returns-then-not-present-clause-got g c = rw c.if-not-present.true

pub returns-in_err-count-clause-got : goal.returns-in_err-count-clause-got
unfolding list_at
returns-in_err-count-clause-got g c =
    let count = c.in_err-count.ensures.got (λ b. b == 0) (λ x b h p. search rules) in
    rw c.if-not-present.false (exit _ _ c.from_residual.ensures.1 (rw (← count)))

pub loop-init : goal.loop-init
unfolding list_at
loop-init g c =
    let count = c.in_ok-count.ensures.got (λ b. b == 0) (λ x b h p. search rules) in
    let z : c.in_ok-count.count - 0 ≡ c.in_ok-count.count = omega arith in
    record {
      filled = record { kept = c.byte_unless.ensures.kept; steps = refl; leaves = sym ((g.L.Listed.table c.args.list).same c.args.self.now.draft.state) };
      rest = rw (z, c.if-not-present.false, ← count);
    }

pub returns-in_err-floor-clause-got : goal.returns-in_err-floor-clause-got
returns-in_err-floor-clause-got g c =
    let t = g.L.Listed in
    let i = c.loop.invariant in
    exit _ _ c.from_residual-in_err-floor.ensures.1 (sym i.rest ∙ entry_off _ (λ n floor. checked (t.fault n) (t.form floor)) t.cell i.filled.steps i.filled.kept _ _ c.loop-test.true _ _ _ c.in_err-floor.ensures.got)

pub loop-preserved : goal.loop-preserved
loop-preserved g c =
    let t = g.L.Listed in
    let i = c.loop.invariant in
    record {
      filled = filled_more i.filled c.entry.ensures.filled;
      rest = entry_on _ (λ n floor. checked (t.fault n) (t.form floor)) t.cell i.filled.steps i.filled.kept _ _ c.loop-test.true _ _ _ c.in_ok-floor.ensures.got ∙ i.rest;
    }

pub returns-clause-got : goal.returns-clause-got
unfolding entries_from
returns-clause-got g c =
    let z : c.in_ok-count.count - c.loop.counter ≡ 0 = omega arith in
    rw z at c.loop.invariant.rest
