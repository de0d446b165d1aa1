use native.Mathlib.Omega.{arith}
use mathlib.Core.Path.{ap}
use mathlib.Core.List.{List, ◌++◌}
use Prim.Native.Nat.{ℕ, ◌+◌}
use lib.ListN.{drop}
use Rattle.model.specs.Fields.{write_present}
use Rattle.fields.specs.Codes.{codings}
use Rattle.fields.specs.declared.coding.Coding.TheVariants.{Number}
use Rattle.fields.proofs.Codes.{set_bit}
use Rattle.fields.proofs.Putting.{list_step}
use Rattle.fields.proofs.field.put_present.Goals as goal

pub loop-i-preserved : goal.loop-i-preserved
loop-i-preserved c =
    let i = c.loop-i.i in
    let rest : List ℕ = write_present (codings (drop (i + 1) c.args.fields.now)) (drop (i + 1) c.args.values.now) in
    list_step c.loop-i.invariant (Number 0) (omega arith) _ (ap (λ (l : List ℕ). l ++ rest) (set_bit _ _ c.from.ensures)) c.put_if-at.ensures (search)
