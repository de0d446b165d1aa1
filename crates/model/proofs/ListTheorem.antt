-- The third demand, proved: `Theorem.antt` has the statement.
use Prim.Native.Nat.{ℕ}
use Rattle.model.specs.declared.Origin.{Origin}
use Rattle.model.specs.declared.Register.{Register}
use Rattle.model.specs.Lists.{run, derived_from}
use Rattle.model.specs.Theorem.{Guarantee, ListTheorem}
use Rattle.model.proofs.Kept.{Kept}
use Rattle.model.proofs.Rules.{kept→, kept←}
use Rattle.model.proofs.Running.{run_keeps}
use Rattle.model.proofs.History.{Shows, derived_shown}
use Rattle.model.proofs.Checks.{reaches_one, containment_holds, bounded_holds, exact_check_holds}
use Rattle.model.proofs.Revokes.{exact_revoke_holds}

guarantee : (r : Register) (derived : ℕ → Origin) → Kept r → Shows r derived → Guarantee r derived
guarantee r derived k shows =
    record {
      formed = kept← r k;
      containment = containment_holds r derived k shows;
      bounded = bounded_holds r derived k shows;
      one_end = λ n j i. reaches_one;
      exact_check = exact_check_holds r derived k shows;
      exact_revoke = exact_revoke_holds r derived k shows;
    }

-- for every list, from any register that keeps the shelf rules
pub list_theorem : ListTheorem
list_theorem start events h =
    guarantee (run start events) (derived_from start events) (run_keeps start events (kept→ start h)) (derived_shown start events (kept→ start h))
