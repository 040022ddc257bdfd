-- What an edit leaves of the state of a draft.
use Rattle.std.proofs.Common.{◌≡◌, ℕ, Some, None, Ok, Err, Option, Result, sym, refl, ap, ◌∙◌}
use Rattle.sheet.specs.declared.state.State.{State}
use Rattle.sheet.specs.declared.fault.SheetFault.{SheetFault}
use Rattle.sheet.specs.declared.edit.Edit.{Edit}
use Rattle.sheet.specs.Faults.{tested, unless}
use Rattle.sheet.specs.Edits.{edit_fault, edited}
use Rattle.record.specs.declared.fault.RecordFault.{RecordFault}
use Rattle.record.specs.Decode.{yields, under}
use Rattle.record.specs.declared.filling.Filling.{Filling}
use Rattle.record.specs.Filled.{Filled}
use Rattle.record.specs.Fills.{Lens}

-- an edit that was tried, what the sheet answered and what it left: the field has the new value if it was accepted,
-- and nothing else has changed
pub record Tried {X : Type 0} (f : Lens X) (place : ℕ) (fault : Option SheetFault) (x : X) (s after : State) (r : Result (Unit {0}) RecordFault) : Type 0 where
  pub told : r ≡ under place (tested fault)
  pub leaves : after ≡ f.with s (f.of after)
  pub put : r ≡ Ok tt → f.of after ≡ x

module _ {X : Type 0} (f : Lens X) (x : X) (n : ℕ) (s : State) where
  leaves_in : (o : Option SheetFault) {new after : State} → (o ≡ None → new ≡ f.with s x) → after ≡ unless o new s → after ≡ f.with s (f.of after)
  leaves_in None e a = let w = a ∙ e refl in w ∙ ap (f.with s) (sym (ap f.of w ∙ f.held s x))
  leaves_in (Some d) e a = a ∙ sym (f.same s) ∙ ap (λ t. f.with s (f.of t)) (sym a)

  puts_in : (place : ℕ) (o : Option SheetFault) {new after : State} → (o ≡ None → new ≡ f.with s x) → after ≡ unless o new s → Ok tt ≡ under place (tested o) → f.of after ≡ x
  puts_in place None e a z = ap f.of (a ∙ e refl) ∙ f.held s x
  puts_in place (Some d) e a z = absurd cc

  pub tried : {edit e : Edit} {place : ℕ} {fault : Option SheetFault} {after : State} {q : Result (Unit {0}) SheetFault} {r : Result (Unit {0}) RecordFault} → e ≡ edit → edit_fault n s edit ≡ fault → (fault ≡ None → edited n s edit ≡ f.with s x) → q ≡ tested (edit_fault n s e) → after ≡ unless (edit_fault n s e) (edited n s e) s → r ≡ under place q → Tried f place fault x s after r
  tried {place = place} {fault} is tests enters answers leaves placed =
      let same = ap (edit_fault n s) is ∙ tests in
      let told = placed ∙ ap (under place) (answers ∙ ap tested same) in
      let left = leaves ∙ (λ i. unless (same i) (edited n s (is i)) s) in
      record { told = told; leaves = leaves_in fault enters left; put = λ z. puts_in place fault enters left (sym z ∙ told) }

pub yields_as : {Y : Type 0} (r : Result (Unit {0}) RecordFault) (u v : Y) → (r ≡ Ok tt → u ≡ v) → yields r u ≡ yields r v
yields_as (Ok t) u v e = ap (λ y. Ok y) (e refl)
yields_as (Err d) u v e = refl

-- reads of one field, one after another
pub filled_more : {X : Type 0} {f : Lens X} {a b d : Filling} → Filled f a b → Filled f b d → Filled f a d
filled_more {f = f} {a} {b} {d} p q = record {
  kept = q.kept ∙ p.kept;
  steps = q.steps ∙ p.steps;
  leaves = q.leaves ∙ ap (λ s. f.with s (f.of d.draft.state)) p.leaves ∙ f.twice a.draft.state (f.of b.draft.state) (f.of d.draft.state);
}
