use mathlib.Core.Path.{◌∙◌}
use Rattle.measured.proofs.Laws.{not_played, is_played}
use Rattle.measured.proofs.measured_play.Goals as goal

pub returns-in_default : goal.returns-in_default
returns-in_default c =
    let a = c.args in
    let load = c.load-loaded in
    not_played a.image.now a.lines.now a.out.now _ load.result load.ensures _ c.in_default.is

pub returns : goal.returns
returns c =
    let a = c.args in
    let load = c.load-loaded in
    let journal = c.journal in
    let same = is_played a.image.now a.lines.now a.out.now _ load.result load.ensures _ c.in-Ok.is in
    (journal.ensures.0 ∙ same.0, journal.ensures.1 ∙ same.1)
