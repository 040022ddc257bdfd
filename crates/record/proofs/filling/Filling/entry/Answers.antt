use Rattle.std.proofs.Common.{◌≡◌, ℕ, ◌+◌, Ok, Result, refl, sym, ap, ◌∙◌, set}
use Rattle.record.specs.declared.fault.RecordFault.{RecordFault}
use Rattle.record.specs.Decode.{under, checked}
use Rattle.record.proofs.Cutting.{part_short, part_formless, part_checked, entry_not, entry_made, exit}
use Rattle.record.proofs.Accepting.{Tried, tried}
use Rattle.record.proofs.filling.Filling.entry.Goals as goal
use Rattle.record.proofs.filling.Filling.entry.Goals.{After-edit-2}

pub returns-in_err-part-clause-got : goal.returns-in_err-part-clause-got
returns-in_err-part-clause-got g c =
    let t = g.L.Listed in
    let n = c.args.self.now.draft.steps in
    exit _ _ c.from_residual.ensures.1 (entry_not _ (λ floor. checked (t.fault n) (t.form floor)) t.cell _ _ _ _ (part_short _ (checked (t.fault n) (t.form c.args.floor)) _ _ c.in_err-part.ensures.got))

pub returns-in_err-step-clause-got : goal.returns-in_err-step-clause-got
returns-in_err-step-clause-got g c =
    let t = g.L.Listed in
    let n = c.args.self.now.draft.steps in
    exit _ _ c.from_residual-in_err-step.ensures.1 (entry_not _ (λ floor. checked (t.fault n) (t.form floor)) t.cell _ _ _ _ (part_formless _ (t.fault n) (t.form c.args.floor) _ _ c.in_ok-part.ensures.got (sym c.in_err-step.ensures)))

-- the edit was tried, and what the sheet answered is kept under the place of the part
made : (g : _) (c : After-edit-2 g) {r : Result (Unit {0}) RecordFault} → r ≡ under c.in_ok-part.part.place c.edit-2.result → Tried (g.L.Listed.table c.args.list) c.in_ok-part.part.place (g.L.Listed.fault c.args.self.now.draft.steps (c.in_ok-step.step, c.in_ok-step.entry)) (set ((g.L.Listed.table c.args.list).of c.args.self.now.draft.state) c.in_ok-step.step (g.L.Listed.cell c.in_ok-step.entry)) c.args.self.now.draft.state c.edit-2.new.self.state r
made g c placed =
    let t = g.L.Listed in
    let l = t.table c.args.list in
    let d = c.args.self.now.draft in
    let e : ℕ × g.row.L-Entry.Denot = (c.in_ok-step.step, c.in_ok-step.entry) in
    let laws = g.met.L.Listed in
    tried l (set (l.of d.state) e.0 (t.cell e.1)) d.steps d.state c.edit.ensures (laws.tests c.args.list d.steps d.state e) (laws.enters c.args.list d.steps d.state e d.unworked) c.edit-2.ensures.answers c.edit-2.ensures.leaves placed

pub returns-in_err-at_place : goal.returns-in_err-at_place
returns-in_err-at_place g c =
    let t = g.L.Listed in
    let d = c.args.self.now.draft in
    let done = made g (goal.at.returns-in_err-at_place g c).After-edit-2 c.in_err-at_place.ensures in
    record {
      filled = record { kept = c.part.ensures.kept; steps = c.edit-2.ensures.same; leaves = done.leaves };
      got = exit _ _ c.from_residual-in_err-at_place.ensures.1 (entry_not _ (λ floor. checked (t.fault d.steps) (t.form floor)) t.cell _ _ _ _ (sym (part_checked _ (t.fault d.steps) (t.form c.args.floor) _ _ _ c.in_ok-part.ensures.got (sym c.in_ok-step.ensures) done.told)));
    }

pub returns : goal.returns
returns g c =
    let t = g.L.Listed in
    let d = c.args.self.now.draft in
    let done = made g (goal.at.returns g c).After-edit-2 c.in_ok-at_place.ensures in
    record {
      filled = record { kept = c.part.ensures.kept; steps = c.edit-2.ensures.same; leaves = done.leaves };
      got =
          ap (λ k. Ok (k + 1, ((t.table c.args.list).of c.edit-2.new.self.state, c.part.new.self.at))) c.from.ensures
          ∙ entry_made _ (λ floor. checked (t.fault d.steps) (t.form floor)) t.cell _ _ _ _
          (part_checked _ (t.fault d.steps) (t.form c.args.floor) _ _ _ c.in_ok-part.ensures.got (sym c.in_ok-step.ensures) done.told)
          (done.put refl);
    }
