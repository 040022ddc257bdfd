-- Worked bonds, over the definitions that the calls of a sheet promise. Amounts are ticks of 0.0001. Every bond is on a
-- binomial lattice of two steps, redeems 1,000,000, and has a spread of 0.
--   Z, H           the lattices: rates of 0; a rate of 50,000, and then of 40,000 or 60,000
--   after          the state that edits leave, one after the other
--   z_called       callable at step 1 at 980,000; z_clashing also putable there at 990,000
--   h_plain        coupons of 50,000 at steps 1 and 2
--   h_called       that bond, callable at step 1 at 1,000,000; h_both also putable there at 995,000
--   h_reopened     h_both, worked back to the root, and then given a coupon of 60,000 at step 1
--   h_noticed      the bond with coupons, callable at step 0 at 1,000,000, paid so many steps later
--   node           the figure and the mark of a node; shows is what they are; node 0 of step 0 is the root
--   root_of        the root figure
--   going_on       the value of going on at the root
--   call_amount    what the call pays at the root
--   both_costs     what the call of h_both costs, and what its put is worth
--   fit            the spread that a wanted price is fitted to
--   worked_once    the value row once h_both is worked back to the root; marked_once the mark row
--   worked_again   the value row once h_reopened is worked one step more
--   low_first      weights of 200, 500 and 300; high_first of 500, 200 and 300
--   rolled_row     what a lattice of one step rolls from the entries 100, 200 and 400
--   WorkedBonds    what each of them shows
-- Assumes nothing.
use Rattle.std.specs.Prelude.{◌≡◌, ℕ, List, [], ◌∷◌, Some, None, Option}
use Rattle.rates.specs.Model.{Model}
use Rattle.rates.specs.Formulas.{binomial, trinomial, worst_case}
use Rattle.rates.specs.declared.weights.Triple.{Triple}
use Rattle.game.specs.Clash.{put_prevails, call_prevails, halfway}
use Rattle.game.specs.Game.{figure, mark, amount, root, rolled_on}
use Rattle.game.specs.declared.terms.Kind.TheVariants.{Call, Put}
use Rattle.sheet.specs.Calls.{costs, worked_back, values_after, marks_after}
use Rattle.sheet.specs.Edits.{opened, edited}
use Rattle.sheet.specs.Fits.{greatest, fit_fault}
use Rattle.sheet.specs.declared.answer.Costs.{Costs}
use Rattle.sheet.specs.declared.answer.Entry.{Entry}
use Rattle.sheet.specs.declared.edit.Edit.{Edit}
use Rattle.sheet.specs.declared.fault.SheetFault.TheVariants.{Wanted}
use Rattle.sheet.specs.declared.edit.Edit.TheVariants.{Coupon, Enter}
use Rattle.sheet.specs.declared.state.State.{State}

abbrev pub Z : Model
Z = binomial 2 (0 ∷ 0 ∷ 0 ∷ [])

abbrev pub H : Model
H = binomial 2 (50000 ∷ 40000 ∷ 60000 ∷ [])

abbrev pub after : State → List Edit → State
after s [] = s
after s (e ∷ es) = after (edited 2 s e) es

abbrev pub z_called : State
z_called = after (opened 2) (Enter Call 1 980000 0 ∷ [])

abbrev pub z_clashing : State
z_clashing = after z_called (Enter Put 1 990000 0 ∷ [])

abbrev pub h_plain : State
h_plain = after (opened 2) (Coupon 1 50000 ∷ Coupon 2 50000 ∷ [])

abbrev pub h_called : State
h_called = after h_plain (Enter Call 1 1000000 0 ∷ [])

abbrev pub h_both : State
h_both = after h_called (Enter Put 1 995000 0 ∷ [])

abbrev pub h_reopened : State
h_reopened = after (worked_back h_both 3) (Coupon 1 60000 ∷ [])

abbrev pub h_noticed : ℕ → State
h_noticed notice = after h_plain (Enter Call 0 1000000 notice ∷ [])

abbrev pub node : Model → (ℕ → ℕ → ℕ) → State → ℕ → ℕ → Entry
node m σ s t j = record { figure = figure m σ s.terms s.spread t j; mark = mark m σ s.terms s.spread t j }

abbrev pub shows : ℕ → ℕ → Entry
shows f k = record { figure = f; mark = k }

abbrev pub root_of : Model → (ℕ → ℕ → ℕ) → State → ℕ
root_of m σ s = root m σ s.terms s.spread

abbrev pub going_on : Model → (ℕ → ℕ → ℕ) → State → ℕ
going_on m σ s = rolled_on m s.terms s.spread 0 0 (figure m σ s.terms s.spread 1)

abbrev pub call_amount : Model → State → Option ℕ
call_amount m s = amount m s.terms s.spread Call 0 0

abbrev pub both_costs : Costs
both_costs = record { call = 4578; put = 2112 }

abbrev pub fit : ℕ → ℕ
fit want = greatest H put_prevails h_both.terms want 200000

abbrev pub worked_once : List ℕ → List ℕ
worked_once row = values_after H put_prevails h_both 3 row

abbrev pub marked_once : List ℕ → List ℕ → List ℕ
marked_once row marks = marks_after H put_prevails h_both 3 row marks

abbrev pub worked_again : List ℕ → List ℕ
worked_again row = values_after H put_prevails h_reopened 1 (worked_once row)

abbrev pub low_first : Triple
low_first = record { low = 200; level = 500; high = 300 }

abbrev pub high_first : Triple
high_first = record { low = 500; level = 200; high = 300 }

abbrev pub rolled_row : (ℕ → List ℕ → Model) → ℕ → ℕ
rolled_row lattice rate = (lattice 1 (rate ∷ [])).rolled 0 0 0 (100 ∷ 200 ∷ 400 ∷ [])

pub record WorkedBonds : Type 0 where
  -- Z, called at both nodes of step 1
  pub z_called_step_1 : (node Z put_prevails z_called 1 0 ≡ shows 980000 1) × (node Z put_prevails z_called 1 1 ≡ shows 980000 1)
  pub z_called_root : root_of Z put_prevails z_called ≡ 980000
  pub z_call_cost : (costs Z put_prevails z_called).call ≡ 20000
  -- H with coupons, then with a call, then with a put too
  pub h_plain_step_1 : (node H put_prevails h_plain 1 0 ≡ shows 1009615 0) × (node H put_prevails h_plain 1 1 ≡ shows 990566 0)
  pub h_plain_root : root_of H put_prevails h_plain ≡ 1000086
  pub h_called_root : root_of H put_prevails h_called ≡ 995507
  pub h_both_root : root_of H put_prevails h_both ≡ 997619
  pub h_both_costs : costs H put_prevails h_both ≡ both_costs
  -- the same bond fitted to a price
  pub h_fitted : (fit 997619 ≡ 0) × (fit 997618 ≡ 1) × (fit 0 ≡ 200000)
  pub h_fit_taken : (fit_fault H put_prevails h_both 997619 ≡ None) × (fit_fault H put_prevails h_both 997618 ≡ None) × (fit_fault H put_prevails h_both 0 ≡ None)
  pub h_fit_refused : fit_fault H put_prevails h_both 997620 ≡ Some Wanted
  -- worked to step 0, a coupon at step 1 leaves step 1 the first worked step, and one step back renews the root alone
  pub h_reopened_first : h_reopened.first ≡ 1
  pub h_worked_once : (a b c d e f : ℕ) → worked_once (a ∷ b ∷ c ∷ d ∷ e ∷ f ∷ []) ≡ 997619 ∷ 1000000 ∷ 995000 ∷ 1000000 ∷ 1000000 ∷ 1000000 ∷ []
  pub h_marked_once : (a b c d e f : ℕ) → marked_once (a ∷ b ∷ c ∷ d ∷ e ∷ f ∷ []) (0 ∷ 0 ∷ 0 ∷ 0 ∷ 0 ∷ 0 ∷ []) ≡ 0 ∷ 1 ∷ 2 ∷ 0 ∷ 0 ∷ 0 ∷ []
  pub h_worked_again : (a b c d e f : ℕ) → worked_again (a ∷ b ∷ c ∷ d ∷ e ∷ f ∷ []) ≡ 1007142 ∷ 1000000 ∷ 995000 ∷ 1000000 ∷ 1000000 ∷ 1000000 ∷ []
  pub h_reopened_root : root_of H put_prevails h_reopened ≡ 1007142
  -- a call at step 0: paid a step later it is exercised; paid two steps later it is worth as much as going on, and is not
  pub h_notice_1 : (call_amount H (h_noticed 1) ≡ Some 1000000) × (node H put_prevails (h_noticed 1) 0 0 ≡ shows 1000000 1)
  pub h_notice_2 : (call_amount H (h_noticed 2) ≡ Some 1000086) × (going_on H put_prevails (h_noticed 2) ≡ 1000086) × (node H put_prevails (h_noticed 2) 0 0 ≡ shows 1000086 0)
  -- both sides exercise at step 1 of Z
  pub z_clash_put : (node Z put_prevails z_clashing 1 0 ≡ shows 990000 3) × (node Z put_prevails z_clashing 1 1 ≡ shows 990000 3) × (root_of Z put_prevails z_clashing ≡ 990000)
  pub z_clash_call : (node Z call_prevails z_clashing 1 0 ≡ shows 980000 3) × (node Z call_prevails z_clashing 1 1 ≡ shows 980000 3) × (root_of Z call_prevails z_clashing ≡ 980000)
  pub z_clash_halfway : (node Z halfway z_clashing 1 0 ≡ shows 985000 3) × (node Z halfway z_clashing 1 1 ≡ shows 985000 3) × (root_of Z halfway z_clashing ≡ 985000)
  -- three branches, one step
  pub trinomial_at_0 : rolled_row (trinomial low_first) 0 ≡ 240
  pub trinomial_at_50000 : rolled_row (trinomial low_first) 50000 ≡ 228
  pub worst_case_at_0 : rolled_row (worst_case low_first high_first) 0 ≡ 210
