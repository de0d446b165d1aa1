use native.Mathlib.Omega.{arith}
use Rattle.rules.proofs.Laws.{all_done}
use Rattle.rules.proofs.roles.users_keep.Goals as goal

pub returns : goal.returns
returns c = all_done _ _ _ c.loop-u.invariant (omega arith) (omega arith)
