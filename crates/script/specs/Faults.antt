-- What is answered where a line is not read.
--   LineError, ReadError  what stands in place of a line's call, or of a script's calls: what is at fault, or that memory ran out
--   Gives f want r  a reader's answer r is want, seen through f, unless memory ran out
--   at_line n e     the error e of the line that has the number n, as the script's error
-- Assumes nothing.
use Rattle.std.specs.Prelude.{◌≡◌, ℕ, Ok, Err, Result}
use Rattle.script.specs.declared.fault.Expected.{Expected}
use Rattle.script.specs.declared.fault.ScriptFault.{ScriptFault}
use Rattle.script.specs.declared.fault.Unread.{Unread}
use Rattle.script.specs.declared.fault.Unread.TheVariants.{Fault, Memory}

abbrev pub LineError : Type 0
LineError = Unread Expected

abbrev pub ReadError : Type 0
ReadError = Unread ScriptFault

abbrev pub Gives : {X Y F : Type 0} → (X → Y) → Result Y F → Result X (Unread F) → Type 0
Gives f want (Ok x) = want ≡ Ok (f x)
Gives f want (Err (Fault e)) = want ≡ Err e
Gives f want (Err Memory) = Unit {0}

abbrev pub at_line : ℕ → LineError → ReadError
at_line n (Fault e) = Fault (record { line = n; expected = e })
at_line n Memory = Memory
