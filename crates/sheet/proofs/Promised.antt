-- What is done where the tests pass, and what is left alone where they do not, is what the calls promise. Assumes nothing.
use Rattle.std.proofs.Common.{◌≡◌, ℕ, ◌+◌, ◌-◌, ◌<◌, ◌≤◌, ◌&&◌, leb, List, length, Some, None, Ok, Err, Option, Result, sym, refl, ap, ◌∙◌, subst, arith}
use Rattle.std.proofs.lemmas.Bool.{and_parts, leb-true}
use Rattle.rates.specs.Model.{Model, Lawful}
use Rattle.rates.specs.Refusals.{accepted, told}
use Rattle.game.specs.Clash.{Fair}
use Rattle.game.specs.Stored.{offset, all_nodes, Worked}
use Rattle.game.specs.Working.{back_figure, back_values, back_marks, too_large}
use Rattle.game.proofs.Rows.{offset_top, offset_small}
use Rattle.game.proofs.Backward.{back_keeps, back_small, none_too_large}
use Rattle.sheet.specs.declared.state.State.{State}
use Rattle.sheet.specs.declared.edit.Edit.{Edit}
use Rattle.sheet.specs.declared.fault.SheetFault.{SheetFault}
use Rattle.sheet.specs.declared.fault.SheetFault.TheVariants.{Rows}
use Rattle.sheet.specs.Faults.{sheet_refusal, tested, answer, unless}
use Rattle.sheet.specs.Edits.{edited, edit_fault, else_fault}
use Rattle.sheet.specs.Admits.{Admitted}
use Rattle.sheet.specs.Calls.{rows_fault, large_fault, steps_back, back_fault, worked_back, values_after, marks_after}
use Rattle.sheet.specs.Shared.{Standing}
use Rattle.sheet.specs.Promises.{Edited, WorkedBack}
use Rattle.sheet.proofs.Validity.{Valid, passed}
use Rattle.sheet.proofs.Admitting.{edit_admits}
use Rattle.sheet.proofs.Standing.{edit_stands, best_stored}

pub tested_none : (o : Option SheetFault) → tested o ≡ Ok tt → o ≡ None
tested_none None e = refl
tested_none (Some f) e = absurd (let z : ◌≡◌ {A = ℕ} 0 1 = cc in omega arith)

pub tested_some : (o : Option SheetFault) (f : SheetFault) → Err f ≡ tested o → o ≡ Some f
tested_some None f e = absurd (let z : ◌≡◌ {A = ℕ} 0 1 = cc in omega arith)
tested_some (Some x) f e = cc

pub edit_made : (m : Model) (σ : ℕ → ℕ → ℕ) (e : Edit) (s s' : State) (n w : ℕ) → n ≡ m.steps → edit_fault n s e ≡ None → s' ≡ edited n s e → w ≡ s'.first → Edited m σ e s (Ok w) s'
edit_made m σ e s s' n w last none is first =
    let none' : edit_fault m.steps s e ≡ None = ap (λ k. edit_fault k s e) (sym last) ∙ none in
    let is' : s' ≡ edited m.steps s e = is ∙ ap (λ k. edited k s e) last in
    record {
      answers = ap accepted (first ∙ ap (λ (x : State). x.first) is') ∙ ap (λ o. answer o (edited m.steps s e).first) (sym none');
      leaves = is' ∙ ap (λ o. unless o (edited m.steps s e) s) (sym none');
      keeps = λ values marks st. subst (λ x. Standing m σ x values marks) (sym is') (edit_stands m σ s values marks e none' st);
      admits = λ a. subst (λ x. Admitted m.steps x.terms x.spread) (sym is') (edit_admits m.steps s e none' a);
    }

-- a refused edit
pub edit_refused : (m : Model) (σ : ℕ → ℕ → ℕ) (e : Edit) (s s' : State) (n : ℕ) (f : SheetFault) (r : Result ℕ SheetFault) → n ≡ m.steps → r ≡ Err f → Err f ≡ tested (edit_fault n s e) → s' ≡ unless (edit_fault n s e) (edited n s e) s → Edited m σ e s r s'
edit_refused m σ e s s' n f r last is why left =
    let some : edit_fault n s e ≡ Some f = tested_some (edit_fault n s e) f why in
    let some' : edit_fault m.steps s e ≡ Some f = ap (λ k. edit_fault k s e) (sym last) ∙ some in
    let same : s' ≡ s = left ∙ ap (λ o. unless o (edited n s e) s) some in
    record {
      answers = ap (told sheet_refusal) is ∙ ap (λ o. answer o (edited m.steps s e).first) (sym some');
      leaves = same ∙ ap (λ o. unless o (edited m.steps s e) s) (sym some');
      keeps = λ values marks st. subst (λ x. Standing m σ x values marks) (sym same) st;
      admits = λ a. subst (λ x. Admitted m.steps x.terms x.spread) (sym same) a;
    }

-- rows that pass are long enough
pub rows_long : (m : Model) (values marks : List ℕ) → rows_fault m values marks ≡ None → (all_nodes m ≤ length values) × (all_nodes m ≤ length marks)
rows_long m values marks long =
    let p = passed (leb (all_nodes m) (length values) && leb (all_nodes m) (length marks)) None (Rows (all_nodes m)) long in
    let q = and_parts (leb (all_nodes m) (length values)) (leb (all_nodes m) (length marks)) p.0 in
    (leb-true _ _ q.0, leb-true _ _ q.1)

-- the place of a node lies within them
pub record Within (values marks : List ℕ) (place : ℕ) : Type 0 where
  pub small : place < 8386
  pub in_values : place < length values
  pub in_marks : place < length marks

pub place_within : {m : Model} → Lawful m → (values marks : List ℕ) (t j : ℕ) → rows_fault m values marks ≡ None → j < m.count t → Within values marks (offset m t + j)
place_within {m} laws values marks t j long h =
    let room = rows_long m values marks long in
    let top = offset_top laws t in
    let few = offset_small laws (m.steps + 1) in
    let short = laws.few_steps in
    record { small = omega arith; in_values = omega (arith, room.0); in_marks = omega (arith, room.1) }

-- what holds of a state holds of it after an edit, made or refused
pub unless_keeps : {X : Type 0} (P : X → Type 0) (o : Option SheetFault) (new old : X) → (o ≡ None → P new) → P old → P (unless o new old)
unless_keeps P None new old f p = f refl
unless_keeps P (Some x) new old f p = p

module _ (m : Model) (laws : Lawful m) (σ : ℕ → ℕ → ℕ) (fair : Fair σ) (n : ℕ) (s : State) (values marks : List ℕ) where
  -- short rows: nothing is done
  pub back_refused : (f : SheetFault) (r : Result ℕ SheetFault) → r ≡ Err f → Err f ≡ tested (rows_fault m values marks) → WorkedBack m σ n s values marks r s values marks
  back_refused f r is e =
      let short = tested_some (rows_fault m values marks) f e in
      let late = large_fault (too_large m (back_figure m σ s.terms s.spread s.first values) s.first (steps_back s n)) in
      let why : back_fault m σ s n values marks ≡ Some f = ap (λ o. else_fault o late) short in
      record {
        answers = ap (told sheet_refusal) is ∙ ap (λ o. answer o (s.first - n)) (sym why);
        leaves = ap (λ o. unless o (worked_back s n) s) (sym why);
        values_are = ap (λ o. unless o (values_after m σ s n values) values) (sym why);
        marks_are = ap (λ o. unless o (marks_after m σ s n values marks) marks) (sym why);
        keeps = λ st. st;
        best = best_stored m σ s values marks laws fair;
      }

  module _ (valid : Valid s) (long : rows_fault m values marks ≡ None) where
    few : steps_back s n ≤ s.first
    few = omega arith

    none : back_fault m σ s n values marks ≡ None
    none =
        ap (λ o. else_fault o (large_fault (too_large m (back_figure m σ s.terms s.spread s.first values) s.first (steps_back s n)))) long
        ∙ ap large_fault (none_too_large m (back_figure m σ s.terms s.spread s.first values) (steps_back s n) s.first few (λ t j l. back_small m laws σ fair s.terms s.spread valid.priced s.first values t j valid.redeemable l))

    -- rows that are long enough: the steps are worked
    pub back_made : (k : ℕ) (values' marks' : List ℕ) → k ≡ steps_back s n →
        values' ≡ back_values m σ s.terms s.spread s.first k values →
        marks' ≡ back_marks m σ s.terms s.spread s.first k values marks →
        WorkedBack m σ n s values marks (Ok (s.first - k)) (record { terms = s.terms; spread = s.spread; first = s.first - k }) values' marks'
    back_made k values' marks' ek ev em =
        let low : s.first - k ≡ s.first - n = omega arith in
        let v : values' ≡ values_after m σ s n values = ev ∙ ap (λ i. back_values m σ s.terms s.spread s.first i values) ek in
        let w : marks' ≡ marks_after m σ s n values marks = em ∙ ap (λ i. back_marks m σ s.terms s.spread s.first i values marks) ek in
        let top = offset_top laws s.first in
        let room = rows_long m values marks long in
        let stands : Standing m σ s values marks → Standing m σ (record { terms = s.terms; spread = s.spread; first = s.first - k }) values' marks' =
        λ st.
        let early = st.early in
        record {
          early = omega arith;
          worked = subst (λ x. Worked m σ s.terms s.spread (s.first - k) x marks') (sym ev) (subst (λ y. Worked m σ s.terms s.spread (s.first - k) (back_values m σ s.terms s.spread s.first k values) y) (sym em) (back_keeps m σ s.terms s.spread s.first values marks st.worked k (omega arith) (omega (arith, room.0)) (omega (arith, room.1))));
        } in
        record {
          answers = ap accepted low ∙ ap (λ o. answer o (s.first - n)) (sym none);
          leaves = ap (λ i. record { terms = s.terms; spread = s.spread; first = i }) low ∙ ap (λ o. unless o (worked_back s n) s) (sym none);
          values_are = v ∙ ap (λ o. unless o (values_after m σ s n values) values) (sym none);
          marks_are = w ∙ ap (λ o. unless o (marks_after m σ s n values marks) marks) (sym none);
          keeps = stands;
          best = λ st. best_stored m σ _ values' marks' laws fair (stands st);
        }
