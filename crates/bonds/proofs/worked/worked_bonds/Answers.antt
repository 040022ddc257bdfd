use Rattle.std.proofs.Common.{refl}
use Rattle.bonds.proofs.Fitted.{fitted}
use Rattle.bonds.proofs.worked.worked_bonds.Goals as goal

pub returns : goal.returns
returns c = record {
  z_called_step_1 = (refl, refl);
  z_called_root = refl;
  z_call_cost = refl;
  h_plain_step_1 = (refl, refl);
  h_plain_root = refl;
  h_called_root = refl;
  h_both_root = refl;
  h_both_costs = refl;
  h_fitted = fitted;
  h_fit_taken = (refl, refl, refl);
  h_fit_refused = refl;
  h_reopened_first = refl;
  h_worked_once = λ a b c d e f. refl;
  h_marked_once = λ a b c d e f. refl;
  h_worked_again = λ a b c d e f. refl;
  h_reopened_root = refl;
  h_notice_1 = (refl, refl);
  h_notice_2 = (refl, refl, refl);
  z_clash_put = (refl, refl, refl);
  z_clash_call = (refl, refl, refl);
  z_clash_halfway = (refl, refl, refl);
  trinomial_at_0 = refl;
  trinomial_at_50000 = refl;
  worst_case_at_0 = refl;
}
