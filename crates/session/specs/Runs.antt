-- Runs: what a list of calls answers, and what it leaves of a sheet and its rows. m is the lattice, σ the clash rule.
--   Shared     what the users of a sheet share: its state, the value row, the mark row and the output, of which so many
--              bytes were given to saves
--   save_end   where the bytes end that a save of n bytes is given: the next n of the output, or all that are left
--   save_part  these bytes
--   answered   what one call answers
--   after      what it leaves
--   run        what a list of calls leaves, each made where the one before it finished
--   answers    what they answer
--   fresh      a sheet just opened, on rows and an output that hold anything
-- Assumes nothing.
use Rattle.std.specs.Prelude.{ℕ, ◌+◌, ◌-◌, min, List, [], ◌∷◌, ◌++◌, length, take, drop}
use Rattle.rates.specs.Model.{Model}
use Rattle.rates.specs.Refusals.{Told, accepted, told, seen}
use Rattle.sheet.specs.declared.state.State.{State}
use Rattle.sheet.specs.Faults.{answer, unless}
use Rattle.sheet.specs.Edits.{opened, edited, edit_fault}
use Rattle.sheet.specs.Calls.{back_fault, worked_back, values_after, marks_after, read_fault, entry, costs}
use Rattle.sheet.specs.Fits.{greatest, fit_fault, fitted}
use Rattle.sheet.specs.Prices.{strike_fault, struck}
use Rattle.record.specs.Faults.{record_refusal}
use Rattle.record.specs.Promises.{load_answer, load_leaves, save_answer, save_leaves}
use Rattle.session.specs.declared.call.Call.{Call}
use Rattle.session.specs.declared.call.Call.TheVariants.{Edit, Load, Save, Back, Read, Cost, Fit, Strike}
use Rattle.session.specs.declared.call.Reply.{Reply}
use Rattle.session.specs.declared.call.Reply.TheVariants as reply

pub record Shared : Type 0 where
  pub state : State
  pub values : List ℕ
  pub marks : List ℕ
  pub output : List ℕ
  pub used : ℕ

abbrev pub shared : State → List ℕ → List ℕ → List ℕ → ℕ → Shared
shared s values marks output used = record { state = s; values = values; marks = marks; output = output; used = used }

abbrev pub save_end : ℕ → List ℕ → ℕ → ℕ
save_end used output n = used + min n (length output - used)

abbrev pub save_part : Shared → ℕ → List ℕ
save_part z n = take (save_end z.used z.output n - z.used) (drop z.used z.output)

abbrev pub answered : Model → (ℕ → ℕ → ℕ) → Call → Shared → Told Reply
answered m σ (Edit e) z = seen reply.First (answer (edit_fault m.steps z.state e) (edited m.steps z.state e).first)
answered m σ (Load bytes) z = seen reply.First (told record_refusal (load_answer m.steps bytes.now))
answered m σ (Save n) z = seen (reply.Saved z.used) (told record_refusal (save_answer z.state.terms z.state.spread (save_part z n)))
answered m σ (Back n) z = seen reply.First (answer (back_fault m σ z.state n z.values z.marks) (z.state.first - n))
answered m σ (Read t j) z = seen reply.Read (answer (read_fault m z.state z.values z.marks t j) (entry m z.values z.marks t j))
answered m σ Cost z = accepted (reply.Costs (costs m σ z.state))
answered m σ (Fit want) z = seen reply.Fitted (answer (fit_fault m σ z.state want) (greatest m σ z.state.terms want 200000))
answered m σ Strike z = seen reply.Struck (answer (strike_fault m z.state z.values) (struck m z.state z.values))

-- another state, and all else as it was
abbrev pub with_state : Shared → State → Shared
with_state z s = shared s z.values z.marks z.output z.used

abbrev pub after : Model → (ℕ → ℕ → ℕ) → Call → Shared → Shared
after m σ (Edit e) z = with_state z (unless (edit_fault m.steps z.state e) (edited m.steps z.state e) z.state)
after m σ (Load bytes) z = with_state z (load_leaves m.steps bytes.now z.state)
after m σ (Save n) z =
    shared z.state z.values z.marks
    (take z.used z.output ++ (save_leaves z.state.terms z.state.spread (save_part z n) ++ drop (save_end z.used z.output n) z.output))
    (save_end z.used z.output n)
after m σ (Back n) z =
    shared
    (unless (back_fault m σ z.state n z.values z.marks) (worked_back z.state n) z.state)
    (unless (back_fault m σ z.state n z.values z.marks) (values_after m σ z.state n z.values) z.values)
    (unless (back_fault m σ z.state n z.values z.marks) (marks_after m σ z.state n z.values z.marks) z.marks)
    z.output z.used
after m σ (Read t j) z = z
after m σ Cost z = z
after m σ (Fit want) z = with_state z (unless (fit_fault m σ z.state want) (fitted m σ z.state want) z.state)
after m σ Strike z = z

abbrev pub run : Model → (ℕ → ℕ → ℕ) → List Call → Shared → Shared
run m σ [] z = z
run m σ (c ∷ calls) z = run m σ calls (after m σ c z)

abbrev pub answers : Model → (ℕ → ℕ → ℕ) → List Call → Shared → List (Told Reply)
answers m σ [] z = []
answers m σ (c ∷ calls) z = answered m σ c z ∷ answers m σ calls (after m σ c z)

abbrev pub fresh : Model → List ℕ → List ℕ → List ℕ → Shared
fresh m values marks output = shared (opened m.steps) values marks output 0
