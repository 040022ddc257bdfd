-- What an accepted edit makes of the state of a draft, of which nothing is worked: one field of a record is new.
--   coupon_low, right_low    how low the numbers of an accepted entry are
--   word_tests, word_enters  the edit of a word: when the sheet turns it down, and the state that it leaves
--   coupon_enters            the state that a coupon's edit leaves
--   right_enters             the state that a right's edit leaves
-- Assumes nothing.
use Rattle.std.proofs.Common.{◌≡◌, ℕ, ◌+◌, ◌<◌, ◌≤◌, max, set, Some, None, sym, refl, ap, arith}
use Rattle.std.proofs.lemmas.Bool.Decides.{nat_tests}
use Rattle.game.specs.declared.terms.Right.{Right}
use Rattle.game.specs.declared.terms.Kind.{Kind}
use Rattle.game.specs.declared.terms.Kind.TheVariants.{Call, Put}
use Rattle.sheet.specs.declared.state.State.{State}
use Rattle.sheet.specs.declared.edit.Edit.TheVariants.{Coupon, Enter}
use Rattle.sheet.specs.Edits.{edited, edit_fault, coupon_fault, right_fault}
use Rattle.record.specs.declared.word.Word.{Word}
use Rattle.record.specs.declared.word.Word.TheVariants.{Redemption, Spread}
use Rattle.record.specs.Fills.{with_redemption, with_spread, with_coupons, with_rights, rights_lens, word_lens, word_fault, word_edit}

pub coupon_low : (n t a : ℕ) → coupon_fault n t a ≡ None → (t ≤ n) × (a ≤ 10000000)
coupon_low n t a e = (grind (arith, nat_tests), grind (arith, nat_tests))

pub right_low : (n t p k : ℕ) → right_fault n t p k ≡ None → (t < n) × (p ≤ 10000000)
right_low n t p k e = (grind (arith, nat_tests), grind (arith, nat_tests))

abbrev at_first : State → ℕ → State
at_first t first = record { terms = t.terms; spread = t.spread; first = first }

pub word_tests : (w : Word) (n : ℕ) (s : State) (x : ℕ) → edit_fault n s (word_edit w x) ≡ word_fault w x
word_tests Redemption n s x = refl
word_tests Spread n s x = refl

pub word_enters : (w : Word) (n : ℕ) (s : State) (x : ℕ) → s.first ≡ n + 1 → edited n s (word_edit w x) ≡ (word_lens w).with s x
word_enters Redemption n s x unworked = ap (at_first (with_redemption s x)) (sym unworked)
word_enters Spread n s x unworked = let z : max s.first n ≡ s.first = omega arith in ap (at_first (with_spread s x)) z

pub coupon_enters : (n : ℕ) (s : State) (t a : ℕ) → s.first ≡ n + 1 → coupon_fault n t a ≡ None → edited n s (Coupon t a) ≡ with_coupons s (set s.terms.coupons t a)
coupon_enters n s t a unworked h = let l = coupon_low n t a h in let z : max s.first t ≡ s.first = omega arith in ap (at_first (with_coupons s (set s.terms.coupons t a))) z

pub right_enters : (n : ℕ) (s : State) (kind : Kind) (t : ℕ) (r : Right) → s.first ≡ n + 1 → right_fault n t r.price r.notice ≡ None → edited n s (Enter kind t r.price r.notice) ≡ (rights_lens kind).with s (set ((rights_lens kind).of s) t (Some r))
right_enters n s kind t r unworked h = let l = right_low n t r.price r.notice h in let z : max s.first (t + 1) ≡ s.first = omega arith in way kind z
  where
    way : (kind : Kind) → max s.first (t + 1) ≡ s.first → edited n s (Enter kind t r.price r.notice) ≡ (rights_lens kind).with s (set ((rights_lens kind).of s) t (Some r))
    way Call z = ap (at_first (with_rights Call s (set s.terms.calls t (Some r)))) z
    way Put z = ap (at_first (with_rights Put s (set s.terms.puts t (Some r)))) z
