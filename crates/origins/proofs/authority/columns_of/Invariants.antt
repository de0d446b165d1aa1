use mathlib.Core.Path.{◌≡◌}
use Prim.Native.Nat.{ℕ, ◌<◌}
use lib.ListN.{length}
use Rattle.model.specs.State.{role_authority, role_lends}
use Rattle.origins.specs.Authority.{item}
use Rattle.origins.proofs.authority.columns_of.Given as goal

abbrev pub invariant-loop-k : goal.invariant-loop-k
invariant-loop-k l = (length l.columns.grants ≡ 32)
    × (length l.columns.lends ≡ 32)
    × ((k : ℕ) → k < l.k → item l.columns.grants k ≡ role_authority l.roles k)
    × ((k : ℕ) → k < l.k → item l.columns.lends k ≡ role_lends l.roles k)
