use mathlib.Core.Path.{refl, sym, ◌∙◌}
use mathlib.Core.Bool.{false}
use Rattle.model.proofs.Settling.{settle_same}
use Rattle.slots.proofs.GuardLaws.{yes_number}
use Rattle.sessions.specs.Sessions.{check_answer}
use Rattle.sessions.proofs.decide_check.Goals as goal

pub returns : goal.returns
unfolding check_answer
returns c =
    c.settle.ensures _ _ c.args.v tt (c.check_guards-guards.ensures false)
    (λ g. (c.from.ensures ∙ yes_number _ ∙ rw c.permitted-yes.ensures, refl))
    ∙ sym (settle_same c.args.v _ _)
