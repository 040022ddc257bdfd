use Rattle.std.proofs.Common.{ℕ, length, drop, vec_items, Vec, ap, ◌∙◌, arith}
use Rattle.std.proofs.lemmas.Result.{err_from_is_err_and}
use Rattle.std.specs.declared.alloc.Global.{Global}
use Rattle.script.specs.Commands.{meant}
use Rattle.script.specs.Cuts.{texts}
use Rattle.script.proofs.Meant.{Begun, no_numbers, enough}
use Rattle.script.proofs.calls.command_from.Goals as goal
use Rattle.script.proofs.calls.command_from.Goals.{After-words_from-rest}

named : (c : After-words_from-rest) → Begun (texts c.args.words.now) c.in_ok-form.form c.words_from-rest.result.now
named c =
    record { form = c.in_ok-form.ensures; rest = c.words_from-rest.ensures ∙ ap (λ (n : ℕ). drop n (texts c.args.words.now)) c.name_length.ensures }

pub returns-in_err-numbers : goal.returns-in_err-numbers
returns-in_err-numbers c =
    let p = err_from_is_err_and c.from_residual-in_err-numbers.result c.from_residual-in_err-numbers.ensures.1 in
    rw (p.1, p.2)
    (no_numbers (named (goal.at.returns-in_err-numbers c).After-words_from-rest) c.if-not-takes.ensures (λ (v : Vec ℕ Global). vec_items v) meant _ c.in_err-numbers.ensures)

pub command_of-requires : goal.command_of-requires
command_of-requires c =
    omega (arith, enough (named (goal.at.command_of-requires c).After-words_from-rest) c.if-not-takes.ensures c.in_ok-numbers.ensures, ap length c.deref.ensures.value)
