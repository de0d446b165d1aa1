use mathlib.Core.Path.{◌≡◌, refl}
use mathlib.Core.Bool.{and-true}
use mathlib.Core.List.{zip_with}
use lib.Dec.{eqb}
use Rattle.masks.specs.Tests.{each}
use Rattle.tree.specs.Orders.{numbers_of}
use Rattle.tree.proofs.SameLaws.{same_passed}
use Rattle.tree.proofs.comparing.same_order.Goals as goal

pub returns : goal.returns
unfolding zip_with
returns c =
    let a = c.args in
    let x = c.compared_of-x in
    let y = c.compared_of-y in
    let equal : c.eq.result ≡ each (zip_with eqb (numbers_of x.result) (numbers_of y.result)) = simp and-true c.eq.ensures in
    same_passed a.r.now a.m a.n _ (c.in_ok-same_guards.ensures) refl (numbers_of x.result) (numbers_of y.result) _ _ x.ensures y.ensures equal c.from.ensures
