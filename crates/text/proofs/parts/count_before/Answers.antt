use Rattle.std.proofs.Common.{◌≡◌, length, cond, Some, None, rules, tests, arith}
use lib.Dec.{eqb, ltb}
use Rattle.std.specs.List.{position_or_len}
use Rattle.std.proofs.lemmas.Iterator.{YieldsList-from_slice}
use Rattle.std.proofs.lemmas.Iterator.Search.{position_from_yields_List}
use Rattle.std.proofs.lemmas.Bool.Decides.{nat_tests}
use Rattle.text.proofs.PartLaws.{length_before, length_before-position}
use Rattle.text.proofs.parts.count_before.Goals as goal

pub returns : goal.returns
returns c =
    let found : c.position.result ≡ cond (ltb (position_or_len (λ x. eqb x c.args.b) c.args.s.now) (length c.args.s.now)) (Some (position_or_len (λ x. eqb x c.args.b) c.args.s.now)) None =
    position_from_yields_List (λ x. eqb x c.args.b) _ _ _ c.position.ensures.ran (YieldsList-from_slice c.args.s.now cc) (λ x b q k. search (rules, tests)) in
    let within = length_before c.args.b c.args.s.now in
    grind (arith, nat_tests, length_before-position c.args.b c.args.s.now)
