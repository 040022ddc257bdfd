-- The script that a text is.
--   line_of b line      what a line says, where b tells whether a sheet is open: nothing where it has no words, a call, or
--                       what was expected. Whether a sheet is open is asked last, of what is a call otherwise
--   script_from b n ls  what the lines ls say, the first of which has the number n: all calls in order, or the first fault
--   script_of text      what the whole text says: its lines are numbered from 1, and no sheet is open before them
--   Reads want r        the answer r is want, unless memory ran out
-- Assumes nothing.
use Rattle.std.specs.Prelude.{ℕ, ◌+◌, Bool, false, cond, not, ◌&&◌, ◌||◌, List, [], ◌∷◌, map, Some, None, Ok, Err, vec_items, Option, Result, Vec}
use Rattle.std.specs.declared.alloc.Global.{Global}
use Rattle.script.specs.declared.command.Command.{Command}
use Rattle.script.specs.declared.fault.Expected.{Expected}
use Rattle.script.specs.declared.fault.Expected.TheVariants.{OpenSheet}
use Rattle.script.specs.declared.fault.ScriptFault.{ScriptFault}
use Rattle.script.specs.Calls.{call_of}
use Rattle.script.specs.Commands.{Meaning, meant, needs_sheet, opens_sheet}
use Rattle.script.specs.Cuts.{lines_of, words_of}
use Rattle.script.specs.Faults.{ReadError, Gives}

-- a call, where it may stand
abbrev pub permitted : Bool → Result Meaning Expected → Result (Option Meaning) Expected
permitted b (Err e) = Err e
permitted b (Ok m) = cond (needs_sheet m && not b) (Err OpenSheet) (Ok (Some m))

abbrev pub line_from : Bool → List (List ℕ) → Result (Option Meaning) Expected
line_from b [] = Ok None
line_from b (w ∷ ws) = permitted b (call_of (w ∷ ws))

abbrev pub line_of : Bool → List ℕ → Result (Option Meaning) Expected
line_of b line = line_from b (words_of line)

abbrev pub Script : Type 0
Script = Result (List Meaning) ScriptFault

-- a call in front of those that follow
abbrev pub first : Meaning → Script → Script
first m (Err f) = Err f
first m (Ok ms) = Ok (m ∷ ms)

-- a line's call, and then what follows, which is told whether a sheet is open
abbrev pub onward : Bool → ℕ → Result (Option Meaning) Expected → (Bool → Script) → Script
onward b n (Err e) next = Err (record { line = n; expected = e })
onward b n (Ok None) next = next b
onward b n (Ok (Some m)) next = first m (next (b || opens_sheet m))

abbrev pub script_from : Bool → ℕ → List (List ℕ) → Script
script_from b n [] = Ok []
script_from b n (l ∷ ls) = onward b n (line_of b l) (λ c. script_from c (n + 1) ls)

abbrev pub script_of : List ℕ → Script
script_of text = script_from false 1 (lines_of text)

abbrev pub Reads : Script → Result (Vec Command Global) ReadError → Type 0
Reads want r = Gives (λ v. map meant (vec_items v)) want r
