use Rattle.std.proofs.Common.{◌≡◌, ℕ, List, rules, Option, Result}
use Rattle.rates.specs.Model.{Model}
use Rattle.sheet.specs.declared.state.State.{State}
use Rattle.session.specs.declared.call.Call.{Call}
use Rattle.session.specs.declared.call.Fault.{Fault}
use Rattle.session.specs.declared.call.Reply.{Reply}
use Rattle.session.specs.Runs.{Shared}
use Rattle.session.specs.Promises.{BestPlayAfterAnyRun}
use Rattle.session.proofs.runs.open_and_perform.Goals as goal

-- the rows and the output are left as the calls leave them
left : {m : Model} {σ : ℕ → ℕ → ℕ} {calls : List Call} {z : Shared} {room given : List (Option (Result Reply Fault))} {s : State} {v v' k k' o o' : List ℕ} →
    BestPlayAfterAnyRun m σ calls z room given s v k o → v' ≡ v → k' ≡ k → o' ≡ o → BestPlayAfterAnyRun m σ calls z room given s v' k' o'
left law a b c = rw (a, b, c) law

pub returns-clause-law : goal.returns-clause-law
returns-clause-law g c =
    let e = c.open-sheet.ensures in
    let end = c.perform_all.new.self in
    rw (← e.state, ← e.same.0, ← e.same.1) (left {v = end.values.now} {k = end.marks.now} {o = end.output.now} c.perform_all.ensures.law (search rules) (search rules) (search rules))
