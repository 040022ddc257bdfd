-- The forms of calls.
--   name_length f   how many words the name of the form f is
--   count_of f      how many numbers follow the name, not counting a lattice's rates
--   takes f n       whether n numbers may follow the name: as many as the form counts, and any more after a lattice
-- Assumes nothing.
use Rattle.std.specs.Prelude.{ℕ, Bool, ◌==◌, nat_le}
use Rattle.script.specs.declared.forms.Form.{Form}
use Rattle.script.specs.declared.forms.Form.TheVariants.{Lattice, Clash, Open, Sheet}
use Rattle.script.specs.declared.forms.LatticeKind.{LatticeKind}
use Rattle.script.specs.declared.forms.LatticeKind.TheVariants.{Binomial, Trinomial, Worst}
use Rattle.script.specs.declared.forms.SheetForm.{SheetForm}
use Rattle.script.specs.declared.forms.SheetForm.TheVariants.{Coupon, Enter, Cancel, Redeem, Spread, Back, Read, Cost, Fit, Strike, Table}

abbrev pub sheet_name_length : SheetForm → ℕ
sheet_name_length (Cancel r) = 2
sheet_name_length Coupon = 1
sheet_name_length (Enter r) = 1
sheet_name_length Redeem = 1
sheet_name_length Spread = 1
sheet_name_length Back = 1
sheet_name_length Read = 1
sheet_name_length Cost = 1
sheet_name_length Fit = 1
sheet_name_length Strike = 1
sheet_name_length Table = 1

abbrev pub name_length : Form → ℕ
name_length (Lattice k) = 2
name_length (Clash r) = 2
name_length Open = 1
name_length (Sheet s) = sheet_name_length s

abbrev pub lattice_count : LatticeKind → ℕ
lattice_count Binomial = 1
lattice_count Trinomial = 4
lattice_count Worst = 7

abbrev pub sheet_count : SheetForm → ℕ
sheet_count Coupon = 2
sheet_count (Enter r) = 3
sheet_count (Cancel r) = 1
sheet_count Redeem = 1
sheet_count Spread = 1
sheet_count Back = 1
sheet_count Read = 2
sheet_count Cost = 0
sheet_count Fit = 1
sheet_count Strike = 0
sheet_count Table = 0

abbrev pub count_of : Form → ℕ
count_of (Lattice k) = lattice_count k
count_of (Clash r) = 0
count_of Open = 0
count_of (Sheet s) = sheet_count s

abbrev pub takes : Form → ℕ → Bool
takes (Lattice k) n = nat_le (lattice_count k) n
takes (Clash r) n = n == 0
takes Open n = n == 0
takes (Sheet s) n = n == sheet_count s
