-- How a call is written, as a message shows it.
--   sheet_form_text   a call of the open sheet
--   form_text         any call
-- Assumes nothing.
use Rattle.std.specs.Prelude.{ℕ, List, ◌++◌, codes}
use Rattle.game.specs.Texts.{side_text, clash_text}
use Rattle.script.specs.declared.forms.Form.{Form}
use Rattle.script.specs.declared.forms.Form.TheVariants.{Lattice, Clash, Open, Sheet}
use Rattle.script.specs.declared.forms.LatticeKind.TheVariants.{Binomial, Trinomial, Worst}
use Rattle.script.specs.declared.forms.SheetForm.{SheetForm}
use Rattle.script.specs.declared.forms.SheetForm.TheVariants.{Coupon, Enter, Cancel, Redeem, Spread, Back, Read, Cost, Fit, Strike, Table}

abbrev pub sheet_form_text : SheetForm → List ℕ
sheet_form_text Coupon = codes "coupon STEP AMOUNT"
sheet_form_text (Enter side) = side_text side ++ codes " STEP PRICE NOTICE"
sheet_form_text (Cancel side) = codes "cancel " ++ (side_text side ++ codes " STEP")
sheet_form_text Redeem = codes "redeem AMOUNT"
sheet_form_text Spread = codes "spread SPREAD"
sheet_form_text Back = codes "back STEPS"
sheet_form_text Read = codes "read STEP NODE"
sheet_form_text Cost = codes "cost"
sheet_form_text Fit = codes "fit PRICE"
sheet_form_text Strike = codes "strike"
sheet_form_text Table = codes "table"

abbrev pub form_text : Form → List ℕ
form_text (Lattice Binomial) = codes "lattice binomial STEPS RATE.."
form_text (Lattice Trinomial) = codes "lattice trinomial STEPS P Q U RATE.."
form_text (Lattice Worst) = codes "lattice worst STEPS P Q U P Q U RATE.."
form_text (Clash rule) = codes "clash " ++ clash_text rule
form_text Open = codes "open"
form_text (Sheet form) = sheet_form_text form
