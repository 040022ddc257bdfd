-- What the bytes of a record mean. n is the number of steps, src the record, at a place in it, bs the bytes of a part,
-- floor the least step that the next entry of a list may have.
--   word                    four bytes as a number, the highest first
--   then                    going on with what was read, or stopping at the first fault
--   reads, yields           what a call read, with what it left; what it left alone
--   under                   a result of the sheet, whose fault is kept whole and gets the place of the part
--   byte_form .. right_form  what the bytes of a part say, unless they break the form
--   checked                 a part of good form, unless the sheet turns it down
--   part_at                 the part of k bytes at a place, and the place after it
--   entry_at                one entry entered in a table: the next floor, the table and the place after it
--   entries_from            j entries of a list, one after another
--   word_at, list_at        a field, by whether the map has it
--   odd                     whether the lowest bit stands
--   decode                  the terms and the spread that a record gives, or the first fault
-- Assumes nothing.
use Rattle.std.specs.Prelude.{ℕ, zero, suc, ◌+◌, ◌*◌, ◌/◌, ◌%◌, Bool, true, false, cond, ◌||◌, List, length, take, drop, replicate, Some, None, Ok, Err, Option, Result, ◌==◌, nat_le, nat_lt, slice_index, slice_set}
use Rattle.game.specs.declared.terms.Right.{Right}
use Rattle.game.specs.declared.terms.Terms.{Terms}
use Rattle.sheet.specs.declared.fault.SheetFault.{SheetFault}
use Rattle.sheet.specs.Faults.{tested}
use Rattle.sheet.specs.Edits.{amount_fault, spread_fault, coupon_fault, right_fault}
use Rattle.record.specs.declared.fault.RecordFault.{RecordFault}
use Rattle.record.specs.declared.fault.RecordFault.TheVariants.{Short, Form, Extra, Term}

abbrev pub word : ℕ → List ℕ → ℕ
word k bs = slice_index bs k * 16777216 + slice_index bs (k + 1) * 65536 + slice_index bs (k + 2) * 256 + slice_index bs (k + 3)

abbrev pub then : {X Y : Type 0} → Result X RecordFault → (X → Result Y RecordFault) → Result Y RecordFault
then (Ok x) f = f x
then (Err e) f = Err e

abbrev pub reads : {X Y : Type 0} → Result X RecordFault → Y → Result (X × Y) RecordFault
reads {X} {Y} r y = then {Y = X × Y} r (λ x. Ok (x, y))

abbrev pub yields : {Y : Type 0} → Result (Unit {0}) RecordFault → Y → Result Y RecordFault
yields r y = then r (λ _. Ok y)

abbrev pub under : {X : Type 0} → ℕ → Result X SheetFault → Result X RecordFault
under place (Ok x) = Ok x
under place (Err f) = Err (Term place f)

-- what a part says, from its place and its bytes
abbrev pub byte_form : (ℕ → Bool) → ℕ → List ℕ → Result ℕ RecordFault
byte_form bad place bs = cond (bad (slice_index bs 0)) (Err (Form place)) (Ok (slice_index bs 0))

abbrev pub map_form : ℕ → List ℕ → Result ℕ RecordFault
map_form = byte_form (nat_le 32)

-- what an absent field means is never written
abbrev pub word_form : ℕ → ℕ → List ℕ → Result ℕ RecordFault
word_form absent place bs = cond (word 0 bs == absent) (Err (Form place)) (Ok (word 0 bs))

abbrev pub count_form : ℕ → List ℕ → Result ℕ RecordFault
count_form = byte_form (λ b. b == 0)

-- an entry: its step and what stands there
abbrev pub coupon_form : ℕ → ℕ → List ℕ → Result (ℕ × ℕ) RecordFault
coupon_form floor place bs = cond (nat_lt (slice_index bs 0) floor || word 1 bs == 0) (Err (Form place)) (Ok (slice_index bs 0, word 1 bs))

abbrev pub granted : ℕ → ℕ → Right
granted notice price = record { price = price; notice = notice }

abbrev pub right_form : ℕ → ℕ → List ℕ → Result (ℕ × Right) RecordFault
right_form floor place bs = cond (nat_lt (slice_index bs 0) floor) (Err (Form place)) (Ok (slice_index bs 0, granted (slice_index bs 1) (word 2 bs)))

-- the form first, then the sheet
abbrev pub checked : {X : Type 0} → (X → Option SheetFault) → (ℕ → List ℕ → Result X RecordFault) → ℕ → List ℕ → Result X RecordFault
checked fault form place bs = then (form place bs) (λ x. yields (under place (tested (fault x))) x)

abbrev pub redemption_of : ℕ → List ℕ → Result ℕ RecordFault
redemption_of = checked (amount_fault 0) (word_form 1000000)

abbrev pub spread_of : ℕ → List ℕ → Result ℕ RecordFault
spread_of = checked spread_fault (word_form 0)

abbrev pub coupon_of : ℕ → ℕ → ℕ → List ℕ → Result (ℕ × ℕ) RecordFault
coupon_of n floor = checked (λ e. coupon_fault n e.0 e.1) (coupon_form floor)

abbrev pub right_of : ℕ → ℕ → ℕ → List ℕ → Result (ℕ × Right) RecordFault
right_of n floor = checked (λ e. right_fault n e.0 e.1.price e.1.notice) (right_form floor)

unfoldable pub part_at : {X : Type 0} → ℕ → (ℕ → List ℕ → Result X RecordFault) → List ℕ → ℕ → Result (X × ℕ) RecordFault
part_at k says src at =
    cond (nat_lt (length src) (at + k)) (Err (Short (length src))) (reads (says at (take k (drop at src))) (at + k))

abbrev pub entry_at : {E A : Type 0} → ℕ → (ℕ → ℕ → List ℕ → Result (ℕ × E) RecordFault) → (E → A) → List ℕ → ℕ → List A → ℕ → Result (ℕ × (List A × ℕ)) RecordFault
entry_at k says cell src floor table at =
    then (part_at k (says floor) src at) (λ e. Ok (e.0.0 + 1, (slice_set table e.0.0 (cell e.0.1), e.1)))

unfoldable pub entries_from : {E A : Type 0} → ℕ → (ℕ → ℕ → List ℕ → Result (ℕ × E) RecordFault) → (E → A) → List ℕ → ℕ → ℕ → List A → ℕ → Result (List A × ℕ) RecordFault
entries_from k says cell src zero floor table at = Ok (table, at)
entries_from k says cell src (suc j) floor table at =
    then (part_at k (says floor) src at) (λ e. entries_from k says cell src j (e.0.0 + 1) (slice_set table e.0.0 (cell e.0.1)) e.1)

-- a field of four bytes
unfoldable pub word_at : (ℕ → List ℕ → Result ℕ RecordFault) → ℕ → Bool → List ℕ → ℕ → Result (ℕ × ℕ) RecordFault
word_at says absent false src at = Ok (absent, at)
word_at says absent true src at = part_at 4 says src at

-- a list: its count, then its entries
unfoldable pub list_at : {E A : Type 0} → ℕ → (ℕ → ℕ → List ℕ → Result (ℕ × E) RecordFault) → (E → A) → List A → Bool → List ℕ → ℕ → Result (List A × ℕ) RecordFault
list_at k says cell absent false src at = Ok (absent, at)
list_at k says cell absent true src at = then (part_at 1 count_form src at) (λ c. entries_from k says cell src c.0 0 absent c.1)

-- each field over what stands where it is absent
abbrev pub redemption_at : ℕ → Bool → List ℕ → ℕ → Result (ℕ × ℕ) RecordFault
redemption_at = word_at redemption_of

abbrev pub spread_at : ℕ → Bool → List ℕ → ℕ → Result (ℕ × ℕ) RecordFault
spread_at = word_at spread_of

abbrev pub coupons_at : ℕ → List ℕ → Bool → List ℕ → ℕ → Result (List ℕ × ℕ) RecordFault
coupons_at n = list_at 5 (coupon_of n) (λ a. a)

abbrev pub rights_at : ℕ → List (Option Right) → Bool → List ℕ → ℕ → Result (List (Option Right) × ℕ) RecordFault
rights_at n = list_at 6 (right_of n) Some

abbrev pub end_at : List ℕ → ℕ → Result (Unit {0}) RecordFault
end_at src at = cond (nat_lt at (length src)) (Err (Extra at)) (Ok tt)

abbrev pub odd : ℕ → Bool
odd m = m % 2 == 1

abbrev pub terms_of : ℕ → List ℕ → List (Option Right) → List (Option Right) → Terms
terms_of r c k p = record { redemption = r; coupons = c; calls = k; puts = p }

unfoldable pub decode : ℕ → List ℕ → Result (Terms × ℕ) RecordFault
decode n src =
    then (part_at 1 map_form src 0) (λ m.
    then (redemption_at 1000000 (odd m.0) src m.1) (λ r.
    then (spread_at 0 (odd (m.0 / 2)) src r.1) (λ s.
    then (coupons_at n (replicate 65 0) (odd (m.0 / 4)) src s.1) (λ c.
    then (rights_at n (replicate 64 None) (odd (m.0 / 8)) src c.1) (λ k.
    then (rights_at n (replicate 64 None) (odd (m.0 / 16)) src k.1) (λ p.
    then (end_at src p.1) (λ _.
    Ok (terms_of r.0 c.0 k.0 p.0, s.0))))))))
