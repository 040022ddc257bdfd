-- An edit that passes its tests keeps the worked entries, and worked entries are best play. Assumes nothing.
use Rattle.std.proofs.Common.{◌≡◌, ℕ, ◌+◌, ◌<◌, ◌≤◌, max, ◌≢◌, List, Some, None, Option, sym, refl, arith, get_or-set_other}
use Rattle.rates.specs.Model.{Model, Lawful}
use Rattle.game.specs.declared.terms.Right.{Right}
use Rattle.game.specs.declared.terms.Terms.{Terms}
use Rattle.game.specs.declared.terms.Kind.{Kind}
use Rattle.game.specs.declared.terms.Kind.TheVariants.{Call, Put}
use Rattle.game.specs.Clash.{Fair}
use Rattle.game.specs.Game.{right}
use Rattle.game.specs.Stored.{stored}
use Rattle.game.proofs.Alike.{Alike, edit_keeps, respread_keeps, none_worked}
use Rattle.game.proofs.Best.{best_play}
use Rattle.sheet.specs.declared.state.State.{State}
use Rattle.sheet.specs.declared.edit.Edit.{Edit}
use Rattle.sheet.specs.declared.edit.Edit.TheVariants.{Coupon, Enter, Cancel, Redeem, Spread as Respread}
use Rattle.sheet.specs.Edits.{opened, set_right, edited, edit_fault}
use Rattle.sheet.specs.Shared.{Standing, BestStored}
use Rattle.sheet.proofs.Validity.{coupon_passed, right_passed, cancel_passed}

-- terms that differ in a right of step t are alike from the next step on
right_alike : (kind : Kind) (b : Terms) (t w : ℕ) (r : Option Right) → t < w → Alike w b (set_right kind b t r)
right_alike Call b t w r h = record { redemption = refl; coupons = λ u l. refl; rights = rights }
  where
    rights : (kind : Kind) (u : ℕ) → w ≤ u → right b kind u ≡ right (set_right Call b t r) kind u
    rights Call u l = let ne : u ≢ t = omega arith in sym (rw get_or-set_other)
    rights Put u l = refl
right_alike Put b t w r h = record { redemption = refl; coupons = λ u l. refl; rights = rights }
  where
    rights : (kind : Kind) (u : ℕ) → w ≤ u → right b kind u ≡ right (set_right Put b t r) kind u
    rights Call u l = refl
    rights Put u l = let ne : u ≢ t = omega arith in sym (rw get_or-set_other)

module _ (m : Model) (σ : ℕ → ℕ → ℕ) (s : State) (values marks : List ℕ) where
  pub edit_stands : (e : Edit) → edit_fault m.steps s e ≡ None → Standing m σ s values marks → Standing m σ (edited m.steps s e) values marks
  edit_stands (Coupon t amount) none st =
      let within = (coupon_passed m.steps t amount none).within in
      let early = st.early in
      record { early = omega arith; worked = edit_keeps m σ s.spread s.first (max s.first t) s.terms _ values marks (omega arith) alike st.worked }
    where
      alike : Alike (max s.first t) s.terms (edited m.steps s (Coupon t amount)).terms
      alike = record { redemption = refl; coupons = λ u l. let ne : u ≢ t = omega arith in sym (rw get_or-set_other); rights = rights }
        where
          rights : (kind : Kind) (u : ℕ) → max s.first t ≤ u → right s.terms kind u ≡ right (edited m.steps s (Coupon t amount)).terms kind u
          rights Call u l = refl
          rights Put u l = refl
  edit_stands (Enter kind t price notice) none st =
      let within = (right_passed m.steps t price notice none).within in
      let early = st.early in
      record { early = omega arith; worked = edit_keeps m σ s.spread s.first (max s.first (t + 1)) s.terms _ values marks (omega arith) (right_alike kind s.terms t (max s.first (t + 1)) (Some (record { price = price; notice = notice })) (omega arith)) st.worked }
  edit_stands (Cancel kind t) none st =
      let within = cancel_passed m.steps t s.terms kind none in
      let early = st.early in
      record { early = omega arith; worked = edit_keeps m σ s.spread s.first (max s.first (t + 1)) s.terms _ values marks (omega arith) (right_alike kind s.terms t (max s.first (t + 1)) None (omega arith)) st.worked }
  edit_stands (Redeem amount) none st = record { early = omega arith; worked = none_worked m σ (edited m.steps s (Redeem amount)).terms s.spread (m.steps + 1) values marks (omega arith) }
  edit_stands (Respread spread) none st =
      let early = st.early in
      record { early = omega arith; worked = respread_keeps m σ s.spread spread s.first (max s.first m.steps) s.terms values marks (omega arith) (omega arith) st.worked }

  -- the stored figures and marks of worked nodes are best play
  pub best_stored : Lawful m → Fair σ → Standing m σ s values marks → BestStored m σ s values marks
  best_stored laws fair st = best_play m laws σ fair s.terms s.spread s.first (stored m values) (stored m marks) st.worked.figures_are st.worked.marks_are

pub opened_stands : (m : Model) (σ : ℕ → ℕ → ℕ) (n : ℕ) → n ≡ m.steps → (values marks : List ℕ) → Standing m σ (opened n) values marks
opened_stands m σ n e values marks = record { early = omega arith; worked = none_worked m σ (opened n).terms 0 (n + 1) values marks (omega arith) }
