use mathlib.Core.Path.{◌≡◌, ap, ◌∙◌}
use lib.ListN.{length}
use borrow.Author.Rules.{rules}
use Rattle.std.specs.Prelude.{Err}
use Rattle.model.specs.Requests.{outcome_of, call_of}
use Rattle.fellunqa.proofs.Laws.{leaves_by, after_formed, by_refusal}
use Rattle.fellunqa.proofs.perform.Goals as goal

pub invariant_of-after : goal.invariant_of-after
invariant_of-after c = record {
  kept = after_formed (length c.args.area.now) c.args.formed.register (call_of c.args.q) c.apply_trusted-reply.result.answer _ (search) (search);
}

pub returns-in_err-v : goal.returns-in_err-v
returns-in_err-v c =
    let a = c.args in
    let why = c.in_err-v.field-0.0 in
    let e : c.from_residual.result ≡ Err why = search rules in
    let f : c.apply_trusted-reply.result.answer ≡ Err why = first_of (search rules, cc) in
    let same = leaves_by a.area.now _ _ (by_refusal (length a.area.now) a.formed.register (call_of a.q) _ _ (search) c.apply_trusted-reply.ensures why f) in
    (ap outcome_of e ∙ same.0, same.1)
