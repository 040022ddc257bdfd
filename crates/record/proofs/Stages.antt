-- A record that is read field by field: what is left to read, from the state that was reached.
use Rattle.std.proofs.Common.{◌≡◌, ℕ, ◌/◌, ◌%◌, Bool, eqb, List, Ok, Err, Result, sym, refl, ap, ◌∙◌}
use Rattle.game.specs.declared.terms.Terms.{Terms}
use Rattle.game.specs.declared.terms.Kind.TheVariants.{Call, Put}
use Rattle.sheet.specs.declared.state.State.{State}
use Rattle.sheet.specs.Edits.{opened}
use Rattle.record.specs.declared.fault.RecordFault.{RecordFault}
use Rattle.record.specs.declared.filling.Filling.{Filling}
use Rattle.record.specs.Decode.{then, yields, part_at, map_form, redemption_at, spread_at, coupons_at, rights_at, end_at, odd, decode}
use Rattle.record.specs.Fills.{Lens, with_redemption, with_spread, with_coupons, with_rights}
use Rattle.record.specs.Filled.{Filled}
use Rattle.record.proofs.Cutting.{went_on, stopped}

module _ (n : ℕ) (src : List ℕ) where
  abbrev pub Stage : Type 0
  Stage = State → ℕ → Result (Terms × ℕ) RecordFault

  abbrev pub from_end : Stage
  from_end s at = then (end_at src at) (λ _. Ok (s.terms, s.spread))

  abbrev pub from_puts : ℕ → Stage
  from_puts m s at = then (rights_at n s.terms.puts (odd (m / 16)) src at) (λ x. from_end (with_rights Put s x.0) x.1)

  abbrev pub from_calls : ℕ → Stage
  from_calls m s at = then (rights_at n s.terms.calls (odd (m / 8)) src at) (λ x. from_puts m (with_rights Call s x.0) x.1)

  abbrev pub from_coupons : ℕ → Stage
  from_coupons m s at = then (coupons_at n s.terms.coupons (odd (m / 4)) src at) (λ x. from_calls m (with_coupons s x.0) x.1)

  abbrev pub from_spread : ℕ → Stage
  from_spread m s at = then (spread_at s.spread (odd (m / 2)) src at) (λ x. from_coupons m (with_spread s x.0) x.1)

  abbrev pub from_redemption : ℕ → Stage
  from_redemption m s at = then (redemption_at s.terms.redemption (odd m) src at) (λ x. from_spread m (with_redemption s x.0) x.1)

  pub decode_staged : decode n src ≡ then (part_at 1 map_form src 0) (λ m. from_redemption m.0 (opened n) m.1)
  unfolding decode
  decode_staged = refl

  -- what is left gives what the whole record gives
  pub record Reached (stage : Stage) (f : Filling) : Type 0 where
    pub kept : f.reader.src.now ≡ src
    pub steps : f.draft.steps ≡ n
    pub left : decode n src ≡ stage f.draft.state f.reader.at

  -- a field that was read
  pub record Passed (next : Stage) (r : Result (Unit {0}) RecordFault) (f : Filling) : Type 0 where
    pub on : r ≡ Ok tt → Reached next f
    pub off : {e : RecordFault} → r ≡ Err e → decode n src ≡ Err e

  module _ {X : Type 0} (field : Lens X) (read : ℕ → X → Bool → List ℕ → ℕ → Result (X × ℕ) RecordFault) (bit : Bool) (next : Stage) {a : Filling} (at : Reached (λ s p. then (read n (field.of s) bit src p) (λ x. next (field.with s x.0) x.1)) a) where
    meant : {found : Bool} {q : Result (X × ℕ) RecordFault} → found ≡ bit → q ≡ read a.draft.steps (field.of a.draft.state) found a.reader.src.now a.reader.at → decode n src ≡ then q (λ x. next (field.with a.draft.state x.0) x.1)
    meant same got = at.left ∙ ap (λ q. then q (λ x. next (field.with a.draft.state x.0) x.1)) (sym (got ∙ (λ i. read (at.steps i) (field.of a.draft.state) (same i) (at.kept i) a.reader.at)))

    pub passed : {b : Filling} {found : Bool} {r : Result (Unit {0}) RecordFault} → found ≡ bit → Filled field a b → yields r (field.of b.draft.state, b.reader.at) ≡ read a.draft.steps (field.of a.draft.state) found a.reader.src.now a.reader.at → Passed next r b
    passed {b} same filled got = record {
      on = λ z. record {
        kept = filled.kept ∙ at.kept;
        steps = filled.steps ∙ at.steps;
        left = meant same (sym (went_on z refl) ∙ got) ∙ ap (λ s. next s b.reader.at) (sym filled.leaves);
      };
      off = λ z. meant same (sym (stopped (field.of b.draft.state, b.reader.at) z refl) ∙ got);
    }

  pub ended : {f : Filling} {r : Result (Unit {0}) RecordFault} → Reached from_end f → r ≡ end_at f.reader.src.now f.reader.at → yields r (f.draft.state.terms, f.draft.state.spread) ≡ decode n src
  ended {f} at e = ap (λ q. yields q (f.draft.state.terms, f.draft.state.spread)) (e ∙ ap (λ l. end_at l f.reader.at) at.kept) ∙ sym at.left

pub same_bit : (a b : ℕ) → a % 2 ≡ b % 2 → odd a ≡ odd b
same_bit a b e = ap (λ x. eqb x 1) e
