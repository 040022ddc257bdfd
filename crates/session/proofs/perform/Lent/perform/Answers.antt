use Rattle.session.proofs.Running.{left_admitted}
use Rattle.session.proofs.perform.Lent.perform.Goals as goal

pub returns-in_err-back-in-Back-clause-admits : goal.returns-in_err-back-in-Back-clause-admits
returns-in_err-back-in-Back-clause-admits g c a = left_admitted _ _ _ c.args.sheet.now.state c.back.ensures.worked.leaves a

pub returns-in_ok-back-in-Back-clause-admits : goal.returns-in_ok-back-in-Back-clause-admits
returns-in_ok-back-in-Back-clause-admits g c a = left_admitted _ _ _ c.args.sheet.now.state c.back.ensures.worked.leaves a
