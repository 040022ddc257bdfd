-- A state with one field of a record in it, and all else as it was.
--   with_redemption .. with_rights  the state with that field
--   rights_of                       the table of a kind of rights
--   Lens                            a field: what stands in it, and the state with another value in it
--   word_absent .. word_edit        a word's field: what its absence means, when the sheet turns it down, its edit
-- Assumes nothing.
use Rattle.std.specs.Prelude.{◌≡◌, ℕ, List, Option, refl}
use Rattle.game.specs.declared.terms.Right.{Right}
use Rattle.game.specs.declared.terms.Terms.{Terms}
use Rattle.game.specs.declared.terms.Kind.{Kind}
use Rattle.game.specs.declared.terms.Kind.TheVariants.{Call, Put}
use Rattle.sheet.specs.declared.state.State.{State}
use Rattle.sheet.specs.declared.edit.Edit.{Edit}
use Rattle.sheet.specs.declared.edit.Edit.TheVariants.{Redeem, Spread as Respread}
use Rattle.sheet.specs.declared.fault.SheetFault.{SheetFault}
use Rattle.sheet.specs.Edits.{amount_fault, spread_fault}
use Rattle.record.specs.declared.word.Word.{Word}
use Rattle.record.specs.declared.word.Word.TheVariants.{Redemption, Spread}

abbrev pub with_terms : State → Terms → State
with_terms s b = record { terms = b; spread = s.spread; first = s.first }

abbrev pub with_redemption : State → ℕ → State
with_redemption s r = with_terms s (record { redemption = r; coupons = s.terms.coupons; calls = s.terms.calls; puts = s.terms.puts })

abbrev pub with_spread : State → ℕ → State
with_spread s x = record { terms = s.terms; spread = x; first = s.first }

abbrev pub with_coupons : State → List ℕ → State
with_coupons s c = with_terms s (record { redemption = s.terms.redemption; coupons = c; calls = s.terms.calls; puts = s.terms.puts })

abbrev pub rights_of : Kind → State → List (Option Right)
rights_of Call s = s.terms.calls
rights_of Put s = s.terms.puts

abbrev pub with_rights : Kind → State → List (Option Right) → State
with_rights Call s k = with_terms s (record { redemption = s.terms.redemption; coupons = s.terms.coupons; calls = k; puts = s.terms.puts })
with_rights Put s p = with_terms s (record { redemption = s.terms.redemption; coupons = s.terms.coupons; calls = s.terms.calls; puts = p })

pub record Lens (X : Type 0) : Type 0 where
  pub of : State → X
  pub with : State → X → State
  pub held : (s : State) (x : X) → of (with s x) ≡ x
  pub same : (s : State) → with s (of s) ≡ s
  pub twice : (s : State) (x y : X) → with (with s x) y ≡ with s y

abbrev pub redemption_lens : Lens ℕ
redemption_lens = record { of = λ s. s.terms.redemption; with = with_redemption; held = λ s x. refl; same = λ s. refl; twice = λ s x y. refl }

abbrev pub spread_lens : Lens ℕ
spread_lens = record { of = λ s. s.spread; with = with_spread; held = λ s x. refl; same = λ s. refl; twice = λ s x y. refl }

abbrev pub coupons_lens : Lens (List ℕ)
coupons_lens = record { of = λ s. s.terms.coupons; with = with_coupons; held = λ s x. refl; same = λ s. refl; twice = λ s x y. refl }

abbrev pub rights_lens : Kind → Lens (List (Option Right))
rights_lens Call = record { of = rights_of Call; with = with_rights Call; held = λ s x. refl; same = λ s. refl; twice = λ s x y. refl }
rights_lens Put = record { of = rights_of Put; with = with_rights Put; held = λ s x. refl; same = λ s. refl; twice = λ s x y. refl }

abbrev pub word_absent : Word → ℕ
word_absent Redemption = 1000000
word_absent Spread = 0

abbrev pub word_lens : Word → Lens ℕ
word_lens Redemption = redemption_lens
word_lens Spread = spread_lens

abbrev pub word_fault : Word → ℕ → Option SheetFault
word_fault Redemption = amount_fault 0
word_fault Spread = spread_fault

abbrev pub word_edit : Word → ℕ → Edit
word_edit Redemption x = Redeem x
word_edit Spread x = Respread x
