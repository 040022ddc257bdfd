use Rattle.std.proofs.Common.{◌≡◌, ◌+◌, Ok, Err, arith, rules, tests, of_calls, [], ◌∷◌, map, length, refl, ap, ◌∙◌}
use Rattle.std.specs.List.{slice_split, enumerate_from}
use Rattle.std.proofs.lemmas.List.{map_push}
use Rattle.std.proofs.lemmas.List.FromFn.{length-enumerate_from}
use Rattle.std.proofs.lemmas.Slice.{pushed}
use Rattle.std.proofs.lemmas.Iterator.{YieldsList}
use Rattle.std.proofs.lemmas.Iterator.Consumers.{YieldsList-at, YieldsList-from_enumerate, YieldsList-turn, YieldsList-end}
use Rattle.std.proofs.lemmas.Iterator.Splits.{YieldsList-from_slice_split}
use Rattle.script.specs.Commands.{meant}
use Rattle.std.specs.Option.{option_map}
use Rattle.std.proofs.lemmas.Result.{err_from_is_err_and}
use Rattle.script.specs.Script.{line_of}
use Rattle.script.specs.Cuts.{cuts}
use Rattle.script.specs.declared.cuts.Mark.TheVariants.{LineEnd}
use Rattle.script.proofs.Reading.{Turn, at_turn, pushed_line, all_lines, Placed, read_at, fault_at, line_fault, line_none, line_call, lines_all}
use Rattle.script.proofs.script.read_lines.Goals as goal
use Rattle.script.proofs.script.read_lines.Goals.{After-next, After-read_line, After-map_err}
use Rattle.script.proofs.script.read_lines.Given as given

-- the lines, each with its place
road : (c : After-next) → YieldsList (given.iterator-loop-above).next_gives (λ p. (p.0, p.1.now)) c.into_iter-above-iterator.result (enumerate_from 0 (slice_split (cuts LineEnd) c.args.text.now))
road c =
    YieldsList-at c.into_iter-above-iterator.ensures.into_iter_gives
    (YieldsList-from_enumerate
    (YieldsList-at c.enumerate-above-items.ensures.source
    (YieldsList-from_slice_split _ (cuts LineEnd) c.args.text.now c.split.ensures.rest c.split.ensures.done c.split.ensures.closure (λ x r q k. search (rules, tests))))
    c.enumerate-above-items.ensures.count)

turn : (c : After-read_line) → YieldsList (given.iterator-loop-above).next_gives (λ p. (p.0, p.1.now)) c.into_iter-above-iterator.result (enumerate_from 0 (slice_split (cuts LineEnd) c.args.text.now)) → Turn (slice_split (cuts LineEnd) c.args.text.now) (length c.loop-above.yielded) c.in-Some.above c.in-Some.line.now
turn c r =
    let t = YieldsList-turn r c.loop-above.yielded c.loop-above.above-iterator c.loop-above.yielded_by c.next.result c.next.new.self (c.in-Some.above, c.in-Some.line) c.in-Some.is c.next.ensures.steps in
    at_turn _ _ _ _ t.0 t.1

-- the line's answer, with a fault at its place
placed : (c : After-map_err) → Placed c.read_line.result (c.in-Some.above + 1) c.map_err.result
placed c = record { at = search (rules, c.map_err.ensures.cases) }

pub loop-above-init : goal.loop-above-init
loop-above-init c = (search of_calls, tt, all_lines c.args.«open» c.args.text.now (ap (map meant) c.new-commands.ensures.items))

pub returns-in_err-found : goal.returns-in_err-found
returns-in_err-found c =
    let at = goal.at.returns-in_err-found c in
    let p = err_from_is_err_and c.from_residual.result c.from_residual.ensures.1 in
    let was : c.map_err.result ≡ Err c.in_err-found.field-0.0 = c.in_err-found.was in
    rw (p.1, p.2) (fault_at (placed at.After-map_err) (line_of c.loop-above.«open» c.in-Some.line.now) c.read_line.ensures was (line_fault c.loop-above.invariant.2 (turn at.After-read_line (road at.After-next)) (option_map meant)))

pub loop-above-preserved : goal.loop-above-preserved
loop-above-preserved c =
    let at = goal.at.loop-above-preserved c in
    let was : c.map_err.result ≡ Ok c.in_ok-found.found = c.in_ok-found.was in
    let read = read_at (placed at.After-map_err) (line_of c.loop-above.«open» c.in-Some.line.now) c.read_line.ensures was in
    (search of_calls, tt, pushed_line c.loop-above.yielded _ (line_none c.loop-above.invariant.2 (turn at.After-read_line (road at.After-next)) read c.in_default.is))

-- this goal has no name but one of the toolchain's own
pub loop-above-preserved-in-Continue-branch-2 : goal.loop-above-preserved-in-Continue-branch-2
loop-above-preserved-in-Continue-branch-2 c =
    let at = goal.at.loop-above-preserved-in-Continue-branch-2 c in
    let was : c.map_err.result ≡ Ok c.in_ok-found.found = c.in_ok-found.was in
    let read = read_at (placed at.After-map_err) (line_of c.loop-above.«open» c.in-Some.line.now) c.read_line.ensures was in
    let put = pushed (c.in-Some-found.command ∷ []) refl c.in_ok-push.was c.push.ensures.items in
    (search of_calls, tt, pushed_line c.loop-above.yielded _ (line_call c.loop-above.invariant.2 (turn at.After-read_line (road at.After-next)) read c.in-Some-found.is c.opens_sheet-open.ensures (ap (map meant) put ∙ map_push meant _ _)))

pub returns : goal.returns
returns c =
    let end = YieldsList-end (road (goal.at.returns c).After-next) c.loop-above.yielded c.loop-above.above-iterator c.loop-above.yielded_by c.next.result c.next.new.self c.in-None.is c.next.ensures.steps in
    lines_all c.loop-above.invariant.2 (omega (arith, end.1, length-enumerate_from 0 (slice_split (cuts LineEnd) c.args.text.now)))
