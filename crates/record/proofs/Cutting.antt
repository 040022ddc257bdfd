-- A part that was cut out of a record, and what is read from it.
use Rattle.std.proofs.Common.{◌≡◌, ℕ, suc, ◌+◌, ◌-◌, ◌<◌, ◌≤◌, List, length, take, drop, set, IsErrAnd, Ok, Err, Option, Result, sym, refl, ap, ◌∙◌, arith, le-ltb, lt-ltb}
use Rattle.std.proofs.lemmas.Result.{err_from_is_err_and}
use Rattle.sheet.specs.declared.fault.SheetFault.{SheetFault}
use Rattle.sheet.specs.Faults.{tested}
use Rattle.record.specs.declared.fault.RecordFault.{RecordFault}
use Rattle.record.specs.declared.fault.RecordFault.TheVariants.{Short}
use Rattle.record.specs.Cuts.{Cut}
use Rattle.record.specs.Decode.{then, reads, yields, under, checked, part_at, entry_at, entries_from}

-- what the exit of a `?` hands on
pub exit : {X Y : Type 0} (r : Result X RecordFault) {e : RecordFault} {q : Result Y RecordFault} (f : X → Result Y RecordFault) → IsErrAnd r (λ y. y ≡ e) → q ≡ Err e → then r f ≡ q
exit r f b q = let p = err_from_is_err_and r b in rw (p.1, p.2, q)

-- what a call yields, by what it answered
pub went_on : {Y : Type 0} {r : Result (Unit {0}) RecordFault} {y : Y} {q : Result Y RecordFault} → r ≡ Ok tt → yields r y ≡ q → q ≡ Ok y
went_on {y = y} z e = sym e ∙ ap (λ r. yields r y) z

pub stopped : {Y : Type 0} {r : Result (Unit {0}) RecordFault} {q : Result Y RecordFault} {d : RecordFault} (y : Y) → r ≡ Err d → yields r y ≡ q → q ≡ Err d
stopped y z e = sym e ∙ ap (λ r. yields r y) z

module _ {X : Type 0} (k : ℕ) (says : ℕ → List ℕ → Result X RecordFault) (src : List ℕ) (at : ℕ) where
  pub part_short : {e : RecordFault} → (e ≡ Short (length src)) × (length src < at + k) → part_at k says src at ≡ Err e
  unfolding part_at
  part_short h = rw (lt-ltb (length src) (at + k) h.1, h.0)

  pub part_whole : at + k ≤ length src → part_at k says src at ≡ reads (says at (take k (drop at src))) (at + k)
  unfolding part_at
  part_whole h = rw (le-ltb (length src) (at + k) h)

  pub part_cut : {next : ℕ} {bytes : List ℕ} {place : ℕ} {r : Result X RecordFault} → Cut k src at next bytes place → r ≡ says place bytes → reads r next ≡ part_at k says src at
  part_cut c e = rw (e, c.here, c.after, c.is, part_whole c.whole)

-- a part whose form is read first, and which the sheet then tests
module _ {X : Type 0} (k : ℕ) (fault : X → Option SheetFault) (form : ℕ → List ℕ → Result X RecordFault) (src : List ℕ) (at : ℕ) where
  pub part_formless : {next : ℕ} {bytes : List ℕ} {place : ℕ} {e : RecordFault} → Cut k src at next bytes place → form place bytes ≡ Err e → part_at k (checked fault form) src at ≡ Err e
  part_formless {e = e} c h = sym (part_cut k (checked fault form) src at {r = Err e} c (rw h))

  pub part_checked : {next : ℕ} {bytes : List ℕ} {place : ℕ} {x : X} (q : Result (Unit {0}) RecordFault) → Cut k src at next bytes place → form place bytes ≡ Ok x → q ≡ under place (tested (fault x)) → yields q (x, next) ≡ part_at k (checked fault form) src at
  part_checked {next} {bytes} {place} {x} q c h e = regroup q ∙ part_cut k (checked fault form) src at {r = yields q x} c (rw (h, e))
    where
      regroup : (q : Result (Unit {0}) RecordFault) → yields q (x, next) ≡ reads (yields q x) next
      regroup (Ok u) = refl
      regroup (Err d) = refl

-- one entry, from its part
module _ {E A : Type 0} (k : ℕ) (says : ℕ → ℕ → List ℕ → Result (ℕ × E) RecordFault) (cell : E → A) (src : List ℕ) (floor : ℕ) (table : List A) (at : ℕ) where
  pub entry_not : {e : RecordFault} → part_at k (says floor) src at ≡ Err e → entry_at k says cell src floor table at ≡ Err e
  entry_not e = rw e

  pub entry_made : {step : ℕ} {x : E} {next : ℕ} {after : List A} → Ok ((step, x), next) ≡ part_at k (says floor) src at → after ≡ set table step (cell x) → Ok (step + 1, (after, next)) ≡ entry_at k says cell src floor table at
  entry_made e a = rw (← e, a)

-- the entries of a list, one after another
module _ {E A : Type 0} (k : ℕ) (says_of : ℕ → ℕ → ℕ → List ℕ → Result (ℕ × E) RecordFault) (cell : E → A) {n n0 : ℕ} (steps : n ≡ n0) {src src0 : List ℕ} (same : src ≡ src0) (count i : ℕ) (h : i < count) (floor at : ℕ) (table : List A) where
  abbrev says : ℕ → ℕ → List ℕ → Result (ℕ × E) RecordFault
  says = says_of n0

  abbrev on : ℕ × (List A × ℕ) → Result (List A × ℕ) RecordFault
  on x = entries_from k says cell src0 (count - (i + 1)) x.0 x.1.0 x.1.1

  entry_step : entries_from k says cell src0 (count - i) floor table at ≡ then (entry_at k says cell src0 floor table at) on
  unfolding entries_from
  entry_step = let e : count - i ≡ suc (count - (i + 1)) = omega arith in rw e (regroup (part_at k (says floor) src0 at))
    where
      regroup : (q : Result ((ℕ × E) × ℕ) RecordFault) → then q (λ e. on (e.0.0 + 1, (set table e.0.0 (cell e.0.1), e.1))) ≡ then (then {Y = ℕ × (List A × ℕ)} q (λ e. Ok (e.0.0 + 1, (set table e.0.0 (cell e.0.1), e.1)))) on
      regroup (Ok e) = refl
      regroup (Err d) = refl

  pub entry_on : {next : ℕ} {after : List A} {last : ℕ} → Ok (next, (after, last)) ≡ entry_at k (says_of n) cell src floor table at → entries_from k says cell src0 (count - (i + 1)) next after last ≡ entries_from k says cell src0 (count - i) floor table at
  entry_on e = let f = e ∙ (λ i. entry_at k (says_of (steps i)) cell (same i) floor table at) in rw (entry_step, ← f)

  pub entry_off : {e : RecordFault} → Err e ≡ entry_at k (says_of n) cell src floor table at → entries_from k says cell src0 (count - i) floor table at ≡ Err e
  entry_off e = let f = e ∙ (λ i. entry_at k (says_of (steps i)) cell (same i) floor table at) in rw (entry_step, ← f)
