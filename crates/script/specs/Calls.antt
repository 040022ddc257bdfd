-- The call that the words of a line are.
--   form_of ws      the form that the first word names, or the first two, or what was expected in their place
--   meaning f ns    what a call of the form f says with the numbers ns
--   call_of ws      the call that the words are, or what was expected: asked in this order are the first word, the second
--                   where the name has two, the number of words, and whether all others are numbers
-- Assumes nothing.
use Rattle.std.specs.Prelude.{ℕ, ◌+◌, cond, List, [], length, drop, Some, None, Ok, Err, Option, Result, slice_index, slice_index_or}
use Rattle.rates.specs.declared.kind.Kind.{Kind}
use Rattle.rates.specs.declared.kind.Kind.TheVariants as kind
use Rattle.rates.specs.declared.weights.Triple.{Triple}
use Rattle.sheet.specs.declared.edit.Edit.TheVariants as edit
use Rattle.script.specs.declared.command.SheetCall.{SheetCall}
use Rattle.script.specs.declared.command.SheetCall.TheVariants as call
use Rattle.script.specs.declared.fault.Expected.{Expected}
use Rattle.script.specs.declared.fault.Expected.TheVariants as expected
use Rattle.script.specs.declared.forms.Form.{Form}
use Rattle.script.specs.declared.forms.Form.TheVariants.{Lattice, Clash, Open, Sheet}
use Rattle.script.specs.declared.forms.LatticeKind.{LatticeKind}
use Rattle.script.specs.declared.forms.LatticeKind.TheVariants.{Binomial, Trinomial, Worst}
use Rattle.script.specs.declared.forms.SheetForm.{SheetForm}
use Rattle.script.specs.declared.forms.SheetForm.TheVariants.{Coupon, Enter, Cancel, Redeem, Spread, Back, Read, Cost, Fit, Strike, Table}
use Rattle.script.specs.declared.names.Opening.{Opening}
use Rattle.script.specs.declared.names.Opening.TheVariants as opening
use Rattle.script.specs.Commands.{Meaning, lattice, clash, opened, sheet}
use Rattle.script.specs.Forms.{name_length, lattice_count, takes}
use Rattle.script.specs.Names.{named, opening_names, lattice_names, clash_names, right_names}
use Rattle.script.specs.Numbers.{numbers_of}

-- the form that a second word completes, where it names x
abbrev pub completed : {X : Type 0} → (X → Form) → Expected → Option X → Result Form Expected
completed f e None = Err e
completed f e (Some x) = Ok (f x)

abbrev pub form_from : Option Opening → List ℕ → Result Form Expected
form_from None w = Err expected.Call
form_from (Some (opening.Whole f)) w = Ok f
form_from (Some opening.Lattice) w = completed Lattice expected.LatticeKind (named lattice_names w)
form_from (Some opening.Clash) w = completed Clash expected.ClashRule (named clash_names w)
form_from (Some opening.Cancel) w = completed (λ r. Sheet (Cancel r)) expected.Right (named right_names w)

-- a word that is not there counts as empty, which is no name
abbrev pub form_of : List (List ℕ) → Result Form Expected
form_of ws = form_from (named opening_names (slice_index_or ws 0 [])) (slice_index_or ws 1 [])

abbrev pub weights_at : List ℕ → ℕ → Triple
weights_at ns i = record { low = slice_index ns i; level = slice_index ns (i + 1); high = slice_index ns (i + 2) }

abbrev pub kind_of : LatticeKind → List ℕ → Kind Triple
kind_of Binomial ns = kind.Binomial
kind_of Trinomial ns = kind.Trinomial (weights_at ns 1)
kind_of Worst ns = kind.WorstCase (weights_at ns 1) (weights_at ns 4)

abbrev pub sheet_call : SheetForm → List ℕ → SheetCall
sheet_call Coupon ns = call.Edit (edit.Coupon (slice_index ns 0) (slice_index ns 1))
sheet_call (Enter r) ns = call.Edit (edit.Enter r (slice_index ns 0) (slice_index ns 1) (slice_index ns 2))
sheet_call (Cancel r) ns = call.Edit (edit.Cancel r (slice_index ns 0))
sheet_call Redeem ns = call.Edit (edit.Redeem (slice_index ns 0))
sheet_call Spread ns = call.Edit (edit.Spread (slice_index ns 0))
sheet_call Back ns = call.Back (slice_index ns 0)
sheet_call Read ns = call.Read (slice_index ns 0) (slice_index ns 1)
sheet_call Cost ns = call.Cost
sheet_call Fit ns = call.Fit (slice_index ns 0)
sheet_call Strike ns = call.Strike
sheet_call Table ns = call.Table

-- what a form says with its numbers
abbrev pub meaning : Form → List ℕ → Meaning
meaning (Lattice k) ns = lattice (kind_of k ns) (slice_index ns 0) (drop (lattice_count k) ns)
meaning (Clash r) ns = clash r
meaning Open ns = opened
meaning (Sheet s) ns = sheet (sheet_call s ns)

abbrev pub with_numbers : Form → Option (List ℕ) → Result Meaning Expected
with_numbers f None = Err (expected.Number f)
with_numbers f (Some ns) = Ok (meaning f ns)

-- the call of the form f, whose numbers are the words ws
abbrev pub with_words : Form → List (List ℕ) → Result Meaning Expected
with_words f ws = cond (takes f (length ws)) (with_numbers f (numbers_of ws)) (Err (expected.Words f))

abbrev pub with_form : Result Form Expected → List (List ℕ) → Result Meaning Expected
with_form (Err e) ws = Err e
with_form (Ok f) ws = with_words f (drop (name_length f) ws)

abbrev pub call_of : List (List ℕ) → Result Meaning Expected
call_of ws = with_form (form_of ws) ws
