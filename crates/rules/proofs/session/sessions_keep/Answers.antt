use mathlib.Core.Bool.{◌&&◌}
use mathlib.Core.Path.{ap, ◌∙◌}
use native.Mathlib.Omega.{arith}
use Rattle.model.specs.State.{session_at}
use Rattle.rules.proofs.Laws.{all_more, all_done}
use Rattle.rules.proofs.Agreement.{session_agrees}
use Rattle.rules.proofs.session.sessions_keep.Goals as goal

pub loop-s-preserved : goal.loop-s-preserved
loop-s-preserved c =
    let r = c.args.r.now in
    let l = c.loop-s in
    all_more l.s-index _ l.invariant
    (ap (λ t. l.ok && t)
    (c.session_keeps-ok.ensures ∙ session_agrees r l.s-index 0 0 (session_at r.sessions l.s-index) _ _ _ c.party_at-party.ensures c.present.ensures c.allows.ensures))

pub returns : goal.returns
returns c = all_done _ _ _ c.loop-s.invariant (omega arith) (omega arith)
