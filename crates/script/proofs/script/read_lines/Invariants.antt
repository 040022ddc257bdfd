use Rattle.std.proofs.Common.{map, length, vec_items}
use Rattle.std.specs.List.{slice_split}
use Rattle.script.specs.Commands.{meant}
use Rattle.script.specs.Cuts.{cuts, lines_of}
use Rattle.script.specs.Script.{script_from}
use Rattle.script.specs.declared.cuts.Mark.TheVariants.{LineEnd}
use Rattle.script.proofs.Reading.{Sofar}
use Rattle.script.proofs.script.read_lines.Given as goal

abbrev pub invariant-loop-above : goal.invariant-loop-above
invariant-loop-above l =
    (goal.iterator-loop-above).can_next l.above-iterator
    × (goal.iterator-loop-above).is_finite l.above-iterator
    × Sofar (slice_split (cuts LineEnd) l.text) l.«open» (length l.yielded) (map meant (vec_items l.commands)) (script_from l.initial.«open» 1 (lines_of l.text))
