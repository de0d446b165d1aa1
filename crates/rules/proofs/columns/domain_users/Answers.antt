use mathlib.Core.Path.{refl, ap, ◌∙◌}
use Prim.Native.Nat.{ℕ}
use native.Mathlib.Omega.{arith}
use lib.ListN.{get_or, length-set}
use Rattle.rules.specs.Columns.{masked}
use Rattle.rules.proofs.Laws.{groups_more}
use Rattle.rules.proofs.columns.domain_users.Goals as goal

pub loop-u-preserved : goal.loop-u-preserved
loop-u-preserved c =
    let l = c.loop-u in
    (simp length-set l.invariant.0, λ d h. rw c.single.ensures (groups_more (λ (u : ℕ). get_or c.args.domains.now u 0) l.table l.u _ l.invariant.0 l.invariant.1 refl d h))

pub returns : goal.returns
returns c = λ d h. c.loop-u.invariant.1 d h ∙ ap (masked _) (omega arith)
