use borrow.Author.Rules.{rules}
use mathlib.Core.Path.{refl}
use lib.ListN.{length}
use Rattle.fellunqa.proofs.Laws.{leaves_by, no_image, no_line}
use Rattle.fellunqa.proofs.enter.Goals as goal

pub returns-then-not-read : goal.returns-then-not-read
returns-then-not-read c =
    let a = c.args in
    let load = c.read_checked-read in
    leaves_by a.area.now _ _ (no_image a.image.now a.line.now (length a.area.now) load.result load.ensures (search rules))

pub returns-in_default : goal.returns-in_default
returns-in_default c =
    let a = c.args in
    let load = c.read_checked-read in
    leaves_by a.area.now _ _ (no_line a.image.now a.line.now (length a.area.now) load.result load.ensures (search rules) _ c.in_default.ensures refl)
