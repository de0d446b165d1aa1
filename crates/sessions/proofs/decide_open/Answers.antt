use mathlib.Core.Path.{refl}
use Rattle.model.specs.Requests.{named_origin}
use Rattle.model.proofs.Settling.{passed}
use Rattle.origins.proofs.Laws.{named_exact}
use Rattle.slots.specs.Slots.{with_session_slots}
use Rattle.slots.specs.Terms.{used_in}
use Rattle.slots.proofs.CountLaws.{used-below}
use Rattle.sessions.specs.Sessions.{opening_on, open_decision}
use Rattle.sessions.proofs.Commits.{session_ranged}
use Rattle.sessions.proofs.decide_open.Goals as goal

pub returns : goal.returns
unfolding open_decision
returns c =
    let x = c.args in
    let v = x.v in
    let o = named_origin x.on in
    let q = opening_on v o x.session x.user x.at in
    c.settle.ensures q.guards 0 (with_session_slots v (used_in o v.capability) q.after) tt
    (c.open_guards.ensures.ruled c.origin_named-o.ensures)
    (λ g.
    let f = passed 2 q.guards g in (
      refl,
      rw (
        c.new_session.ensures,
        c.used_in.ensures,
        c.origin_named-o.ensures,
        named_exact x.on f.1.1.0,
        used-below o v.role v.capability (passed 10 q.guards g).0,
        session_ranged x.user x.at o f.1.0 f.1.1.1.0,
      ),
    ))
