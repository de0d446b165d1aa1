use mathlib.Core.Path.{◌∙◌}
use Rattle.rules.proofs.Agreement.{place_agrees}
use Rattle.rules.proofs.capability.place_keeps.Goals as goal

pub returns : goal.returns
returns c column known made =
    let a = c.args in
    c.keeps_place.ensures
    ∙ place_agrees a.r.now a.k a.n a.made a.columns.now _ _ _ c.party_at-party.ensures known column c.present-there.ensures c.allows_by-u.ensures made
