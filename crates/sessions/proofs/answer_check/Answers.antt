use mathlib.Core.Path.{refl, ap, ◌∙◌}
use mathlib.Core.Bool.{false}
use Rattle.std.proofs.Common.{rules, ◌≡◌, Err}
use Rattle.model.specs.Requests.{outcome_of}
use Rattle.model.specs.Rulings.{value}
use Rattle.sessions.specs.Sessions.{check_answer}
use Rattle.slots.proofs.GuardLaws.{verdict_refused, verdict_passed, yes_number}
use Rattle.sessions.proofs.answer_check.Goals as goal

pub returns-in_err-check_guards : goal.returns-in_err-check_guards
unfolding check_answer
returns-in_err-check_guards c =
    let why = c.in_err-check_guards.field-0.0 in
    let e : c.from_residual.result ≡ Err why = search rules in
    ap outcome_of e ∙ verdict_refused _ _ (Err why) (c.in_err-check_guards.ensures false) refl

pub returns : goal.returns
unfolding check_answer
returns c = ap value (c.from.ensures ∙ yes_number _ ∙ rw c.permitted-yes.ensures) ∙ verdict_passed _ _ _ tt (c.in_ok-check_guards.ensures false) refl
