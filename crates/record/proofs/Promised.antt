-- What load and save promise, from what their parts do.
use Rattle.std.proofs.Common.{◌≡◌, ℕ, ◌+◌, ◌<◌, ◌≤◌, true, false, cond, ltb, List, ◌++◌, length, drop, Some, None, Ok, Err, Result, sym, ap, ◌∙◌, zero-add}
use Rattle.std.proofs.lemmas.Bool.{lt-ltb, le-ltb, eq-eqb}
use Rattle.rates.specs.Model.{Model}
use Rattle.rates.specs.Refusals.{accepted, told}
use Rattle.sheet.specs.declared.state.State.{State}
use Rattle.sheet.specs.declared.fault.SheetFault.{SheetFault}
use Rattle.sheet.specs.declared.fault.SheetFault.TheVariants.{Step}
use Rattle.sheet.specs.Faults.{sheet_refusal, answer, unless}
use Rattle.sheet.specs.Calls.{adopt_fault}
use Rattle.sheet.specs.Admits.{Admitted}
use Rattle.sheet.specs.Promises.{Adopted}
use Rattle.record.specs.declared.fault.RecordFault.{RecordFault}
use Rattle.record.specs.declared.fault.RecordFault.TheVariants.{Output}
use Rattle.record.specs.declared.writer.Writer.{Writer}
use Rattle.record.specs.Cuts.{written}
use Rattle.record.specs.Puts.{Put}
use Rattle.record.specs.Faults.{record_refusal}
use Rattle.record.specs.Encode.{encode}
use Rattle.record.specs.Decode.{then, under, decode}
use Rattle.record.specs.Promises.{Loaded, put_in_force, Saved}
use Rattle.record.proofs.Listing.{Bytes}
use Rattle.record.proofs.Whole.{decode_encode, encode_decode}

module _ (s : State) (out : List ℕ) (tables : (length s.terms.coupons ≡ 65) × (length s.terms.calls ≡ 64) × (length s.terms.puts ≡ 64)) (n : ℕ) where
  abbrev bytes : List ℕ
  bytes = encode s.terms s.spread

  loads_back : Admitted n s.terms s.spread → decode n bytes ≡ Ok (s.terms, s.spread)
  loads_back ok = decode_encode n s.terms s.spread ok tables.0 tables.1 tables.2

  pub saved_not : {needed : ℕ} → needed ≡ length bytes → length out < needed → Saved n s out (Err (Output needed)) out
  saved_not e h =
      let short : ltb (length out) (length bytes) ≡ true = ap (ltb (length out)) (sym e) ∙ lt-ltb _ _ h in
      record {
        answers = ap (λ k. told {X = ℕ} record_refusal (Err (Output k))) e ∙ ap (λ b. told record_refusal (cond b (Err (Output (length bytes))) (Ok (length bytes)))) (sym short);
        bytes = ap (λ b. cond b out (bytes ++ drop (length bytes) out)) (sym short);
        loads_back = loads_back;
      }

  -- by a writer from the front of the output, which is what the writer leaves then
  pub saved_whole : {needed : ℕ} {all after : List ℕ} {v w : Writer} → needed ≡ length all → all ≡ bytes → needed ≤ length out → v.out.now ≡ out → v.at ≡ 0 → Put all v w → after ≡ w.out.now → Saved n s out (Ok needed) after
  saved_whole {v = v} e b h same front p left =
      let k = e ∙ ap length b in
      let room : ltb (length out) (length bytes) ≡ false = ap (ltb (length out)) (sym k) ∙ le-ltb _ _ h in
      let is = left ∙ p.wrote.all ∙ (λ i. written (front i) (b i) (same i)) in
      record {
        answers = ap (λ k. told record_refusal (Ok k)) k ∙ ap (λ b. told record_refusal (cond b (Err (Output (length bytes))) (Ok (length bytes)))) (sym room);
        bytes = is ∙ ap (λ k. bytes ++ drop k out) (zero-add (length bytes)) ∙ ap (λ b. cond b out (bytes ++ drop (length bytes) out)) (sym room);
        loads_back = loads_back;
      }

-- a draft of as many steps, filled from a record and put in force
module _ (m : Model) (σ : ℕ → ℕ → ℕ) (src : List ℕ) (before s : State) where
  told_ok : (q : Result ℕ SheetFault) (w : ℕ) → told sheet_refusal q ≡ accepted w → q ≡ Ok w
  told_ok (Ok x) w e = let z : x ≡ w = cc in ap (λ y. Ok y) z
  told_ok (Err f) w e = absurd cc

  pub loaded_whole : {k : ℕ} (q : Result ℕ SheetFault) {r : Result ℕ RecordFault} {after : State} → m.steps ≤ 64 → Bytes src → k ≡ m.steps → s.first ≡ k + 1 → decode m.steps src ≡ Ok (s.terms, s.spread) → Adopted m σ k s before q after → r ≡ under 0 q → Loaded m σ src before r after
  loaded_whole {k} q {r} {after} few bytes n unworked dec a placed =
      let first : s.first ≡ m.steps + 1 = unworked ∙ ap (λ x. x + 1) n in
      let none : adopt_fault m k ≡ None = ap (λ b. cond b None (Some (Step k))) (eq-eqb k m.steps n) in
      let ok = told_ok q s.first (a.answers ∙ ap (λ o. answer o s.first) none) in
      let is = a.leaves ∙ ap (λ o. unless o s before) none in
      record {
        answers = ap (told record_refusal) (placed ∙ ap (under 0) ok) ∙ ap (λ w. told {F = RecordFault} record_refusal (Ok w)) first ∙ ap (λ d. told record_refusal (then d (λ _. Ok (m.steps + 1)))) (sym dec);
        leaves = is ∙ ap (λ f. record { terms = s.terms; spread = s.spread; first = f }) first ∙ ap (λ d. put_in_force m.steps d before) (sym dec);
        keeps = a.keeps;
        accepted = λ _ _. a.accepted none;
        admits = a.admits;
        saves_back = λ w e. ap (λ t. encode t.terms t.spread) is ∙ encode_decode m.steps few src bytes (s.terms, s.spread) dec;
      }
