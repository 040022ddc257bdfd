-- What a run of any list of calls promises, whatever the calls are and whatever the rows held.
--   StrikesAreRoots     each price that was struck is the root figure of the terms and the spread in force at its
--                       striking, and that spread
--   Performed           each call is answered as the definitions say: refused where they give a ground, and nowhere else;
--                       and the sheet, its rows and the output are left as they say
--   BestPlayAfterAnyRun
--     performed              the calls were performed as the definitions say
--     terms_are_accepted     the terms and the spread in force are such as the edits accept
--     stored_are_defined     every worked node stores its figure and its mark for the terms and the spread in force
--     marks_are_best_play    at every worked node, with the stored figure and the stored marks: the issuer's marks played
--                            against the holder's give the figure; no call plan lowers it against the holder's marks; no
--                            put plan raises it against the issuer's
--     strikes_are_roots      each struck price is a root figure and its spread
-- Assumes nothing.
use Rattle.std.specs.Prelude.{◌≡◌, ℕ, ◌<◌, List, map, length, take, drop, Some, None, Ok, Option, Result, slice_index_or}
use Rattle.rates.specs.Model.{Model}
use Rattle.game.specs.Game.{root}
use Rattle.game.specs.Stored.{Worked}
use Rattle.sheet.specs.declared.price.Struck.{Struck}
use Rattle.sheet.specs.declared.state.State.{State}
use Rattle.sheet.specs.Admits.{Admitted}
use Rattle.sheet.specs.Shared.{BestStored}
use Rattle.session.specs.declared.call.Call.{Call}
use Rattle.session.specs.declared.call.Fault.{Fault}
use Rattle.session.specs.declared.call.Reply.{Reply}
use Rattle.session.specs.declared.call.Reply.TheVariants as reply
use Rattle.session.specs.Answers.{heard_in}
use Rattle.session.specs.Runs.{Shared, run, answers}

-- the price of the terms and the spread in force: the root figure and the spread
abbrev pub price : Model → (ℕ → ℕ → ℕ) → State → Struck
price m σ s = record { figure = root m σ s.terms s.spread; spread = s.spread }

abbrev pub StrikesAreRoots : Model → (ℕ → ℕ → ℕ) → List Call → Shared → List (Option (Result Reply Fault)) → Type 0
StrikesAreRoots m σ calls z given =
    (i : ℕ) (p : Struck) → i < length calls → slice_index_or given i None ≡ Some (Ok (reply.Struck p)) → p ≡ price m σ (run m σ (take i calls) z).state

-- the calls were made on z; `room` is what stood where the answers are `given` now
pub record Performed (m : Model) (σ : ℕ → ℕ → ℕ) (calls : List Call) (z : Shared) (room given : List (Option (Result Reply Fault))) (state : State) (values marks output : List ℕ) : Type 0 where
  pub answers_are : map heard_in (take (length calls) given) ≡ map Some (answers m σ calls z)
  pub rest_is : drop (length calls) given ≡ drop (length calls) room
  pub state_is : state ≡ (run m σ calls z).state
  pub values_are : values ≡ (run m σ calls z).values
  pub marks_are : marks ≡ (run m σ calls z).marks
  pub output_is : output ≡ (run m σ calls z).output

pub record BestPlayAfterAnyRun (m : Model) (σ : ℕ → ℕ → ℕ) (calls : List Call) (z : Shared) (room given : List (Option (Result Reply Fault))) (state : State) (values marks output : List ℕ) : Type 0 where
  pub performed : Performed m σ calls z room given state values marks output
  pub terms_are_accepted : Admitted m.steps state.terms state.spread
  pub stored_are_defined : Worked m σ state.terms state.spread state.first values marks
  pub marks_are_best_play : BestStored m σ state values marks
  pub strikes_are_roots : StrikesAreRoots m σ calls z given
