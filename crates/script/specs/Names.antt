-- The names of calls, word by word.
--   Names X         words, each with the X that it names
--   named names w   what the word w names; none where it is not among the names
--   spelled es      the names that the code's list es has
--   opening_names   the first words of calls: a whole name, or the beginning of one that has two words
--   lattice_names, clash_names, right_names  the second words behind `lattice`, `clash` and `cancel`
-- Assumes nothing.
use Rattle.std.specs.Prelude.{ℕ, cond, List, [], ◌∷◌, Some, None, codes, Option}
use Rattle.std.specs.Borrow.{Bor}
use Rattle.std.specs.Str.{bytes_eq}
use Rattle.game.specs.declared.clash.AnyClash.{AnyClash}
use Rattle.game.specs.declared.clash.AnyClash.TheVariants as clash
use Rattle.game.specs.declared.terms.Kind.{Kind}
use Rattle.game.specs.declared.terms.Kind.TheVariants as right
use Rattle.script.specs.declared.forms.LatticeKind.{LatticeKind}
use Rattle.script.specs.declared.forms.LatticeKind.TheVariants as kind
use Rattle.script.specs.declared.forms.Form.TheVariants as form
use Rattle.script.specs.declared.forms.SheetForm.TheVariants as sheet
use Rattle.script.specs.declared.names.Opening.{Opening}
use Rattle.script.specs.declared.names.Opening.TheVariants as opening

abbrev pub Names : Type 0 → Type 0
Names X = List (List ℕ × X)

abbrev pub named : {X : Type 0} → Names X → List ℕ → Option X
named [] w = None
named (n ∷ ns) w = cond (bytes_eq w n.0) (Some n.1) (named ns w)

abbrev pub spelled : {X : Type 0} → List (Bor (List ℕ) × X) → Names X
spelled [] = []
spelled (e ∷ es) = (e.0.now, e.1) ∷ spelled es

abbrev pub lattice_names : Names LatticeKind
lattice_names = (codes "binomial", kind.Binomial) ∷ (codes "trinomial", kind.Trinomial) ∷ (codes "worst", kind.Worst) ∷ []

abbrev pub clash_names : Names AnyClash
clash_names = (codes "put", clash.PutPrevails) ∷ (codes "call", clash.CallPrevails) ∷ (codes "halfway", clash.Halfway) ∷ []

abbrev pub right_names : Names Kind
right_names = (codes "call", right.Call) ∷ (codes "put", right.Put) ∷ []

abbrev pub opening_names : Names Opening
opening_names =
    (codes "lattice", opening.Lattice)
    ∷ (codes "clash", opening.Clash)
    ∷ (codes "cancel", opening.Cancel)
    ∷ (codes "open", opening.Whole form.Open)
    ∷ (codes "coupon", opening.Whole (form.Sheet sheet.Coupon))
    ∷ (codes "call", opening.Whole (form.Sheet (sheet.Enter right.Call)))
    ∷ (codes "put", opening.Whole (form.Sheet (sheet.Enter right.Put)))
    ∷ (codes "redeem", opening.Whole (form.Sheet sheet.Redeem))
    ∷ (codes "spread", opening.Whole (form.Sheet sheet.Spread))
    ∷ (codes "back", opening.Whole (form.Sheet sheet.Back))
    ∷ (codes "read", opening.Whole (form.Sheet sheet.Read))
    ∷ (codes "cost", opening.Whole (form.Sheet sheet.Cost))
    ∷ (codes "fit", opening.Whole (form.Sheet sheet.Fit))
    ∷ (codes "strike", opening.Whole (form.Sheet sheet.Strike))
    ∷ (codes "table", opening.Whole (form.Sheet sheet.Table))
    ∷ []
