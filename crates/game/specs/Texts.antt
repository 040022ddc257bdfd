-- What a game has in print.
--   side_text    the side that a right belongs to
--   clash_text   a clash rule
--   mark_text    a mark, as a table shows it
-- Assumes nothing.
use Rattle.std.specs.Prelude.{ℕ, List, codes}
use Rattle.game.specs.declared.terms.Kind.{Kind}
use Rattle.game.specs.declared.terms.Kind.TheVariants as side
use Rattle.game.specs.declared.clash.AnyClash.{AnyClash}
use Rattle.game.specs.declared.clash.AnyClash.TheVariants.{PutPrevails, CallPrevails, Halfway}
use Rattle.game.specs.declared.mark.Mark.{Mark}
use Rattle.game.specs.declared.mark.Mark.TheVariants.{Neither, Call, Put, Both}

abbrev pub side_text : Kind → List ℕ
side_text side.Call = codes "call"
side_text side.Put = codes "put"

abbrev pub clash_text : AnyClash → List ℕ
clash_text PutPrevails = codes "put"
clash_text CallPrevails = codes "call"
clash_text Halfway = codes "halfway"

abbrev pub mark_text : Mark → List ℕ
mark_text Neither = codes "-"
mark_text Call = codes "call"
mark_text Put = codes "put"
mark_text Both = codes "both"
