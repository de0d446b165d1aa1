use Rattle.origins.specs.Terms.{terms_in}
use Rattle.creation.proofs.Laws.{tests_agree}
use Rattle.creation.proofs.create_guards.Goals as goal

pub returns-clause-ruled : goal.returns-clause-ruled
returns-clause-ruled c =
    let a = c.args in
    tests_agree a.v a.o (terms_in a.a) a.user a.origin a.at a.plan c.create_tests.ensures
