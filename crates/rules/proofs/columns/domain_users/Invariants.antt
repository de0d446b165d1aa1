use mathlib.Core.Path.{◌≡◌}
use Prim.Native.Nat.{ℕ, ◌<◌}
use lib.ListN.{get_or, length}
use Rattle.rules.specs.Columns.{masked, in_domain}
use Rattle.rules.proofs.columns.domain_users.Given as goal

abbrev pub invariant-loop-u : goal.invariant-loop-u
invariant-loop-u l = (length l.table ≡ 8) × ((d : ℕ) → d < 8 → get_or l.table d 0 ≡ masked (in_domain l.domains d) l.u)
