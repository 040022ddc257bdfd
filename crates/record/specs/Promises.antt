-- What load and save promise. m is the lattice, σ the clash rule, n its steps, src a record, out an output.
--   load_answer  what load answers: one past the last step, as nothing is worked then; or the fault
--   load_leaves  the state that it leaves: the record's terms and spread, or the one before
--   Loaded       a load: its answer, the state that it leaves, that worked entries stay worked, that the terms and the
--                spread are then such as the edits accept, and that the record is what a save would write
--   save_answer  what save answers: how many bytes it wrote, or the fault
--   save_leaves  the output that it leaves: the record in front and all other bytes as they were, or the one before
--   Saved        a save: its answer, the output that it leaves, and that a load of the record gives the same terms
-- Assumes nothing.
use Rattle.std.specs.Prelude.{◌≡◌, ℕ, ◌+◌, cond, List, ◌++◌, length, drop, Ok, Err, Result, nat_lt}
use Rattle.rates.specs.Model.{Model}
use Rattle.rates.specs.Refusals.{told}
use Rattle.game.specs.declared.terms.Terms.{Terms}
use Rattle.sheet.specs.declared.state.State.{State}
use Rattle.sheet.specs.Admits.{Admitted}
use Rattle.sheet.specs.Shared.{Standing}
use Rattle.record.specs.declared.fault.RecordFault.{RecordFault}
use Rattle.record.specs.declared.fault.RecordFault.TheVariants.{Output}
use Rattle.record.specs.Faults.{record_refusal}
use Rattle.record.specs.Decode.{then, decode}
use Rattle.record.specs.Encode.{encode}

abbrev pub load_answer : ℕ → List ℕ → Result ℕ RecordFault
load_answer n src = then (decode n src) (λ _. Ok (n + 1))

abbrev pub put_in_force : ℕ → Result (Terms × ℕ) RecordFault → State → State
put_in_force n (Ok x) before = record { terms = x.0; spread = x.1; first = n + 1 }
put_in_force n (Err f) before = before

abbrev pub load_leaves : ℕ → List ℕ → State → State
load_leaves n src before = put_in_force n (decode n src) before

pub record Loaded (m : Model) (σ : ℕ → ℕ → ℕ) (src : List ℕ) (before : State) (r : Result ℕ RecordFault) (after : State) : Type 0 where
  pub answers : told record_refusal r ≡ told record_refusal (load_answer m.steps src)
  pub leaves : after ≡ load_leaves m.steps src before
  pub keeps : (values marks : List ℕ) → Standing m σ before values marks → Standing m σ after values marks
  pub accepted : (w : ℕ) → r ≡ Ok w → Admitted m.steps after.terms after.spread
  pub admits : Admitted m.steps before.terms before.spread → Admitted m.steps after.terms after.spread
  pub saves_back : (w : ℕ) → r ≡ Ok w → encode after.terms after.spread ≡ src

abbrev pub save_answer : Terms → ℕ → List ℕ → Result ℕ RecordFault
save_answer b s out = cond (nat_lt (length out) (length (encode b s))) (Err (Output (length (encode b s)))) (Ok (length (encode b s)))

abbrev pub save_leaves : Terms → ℕ → List ℕ → List ℕ
save_leaves b s out = cond (nat_lt (length out) (length (encode b s))) out (encode b s ++ drop (length (encode b s)) out)

pub record Saved (n : ℕ) (s : State) (out : List ℕ) (r : Result ℕ RecordFault) (out' : List ℕ) : Type 0 where
  pub answers : told record_refusal r ≡ told record_refusal (save_answer s.terms s.spread out)
  pub bytes : out' ≡ save_leaves s.terms s.spread out
  pub loads_back : Admitted n s.terms s.spread → decode n (encode s.terms s.spread) ≡ Ok (s.terms, s.spread)
