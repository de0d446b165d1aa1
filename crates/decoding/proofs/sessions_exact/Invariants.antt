use mathlib.Core.Path.{◌≡◌}
use mathlib.Core.Bool.{◌&&◌}
use Prim.Native.Nat.{◌+◌, ◌-◌, ◌*◌, ◌≤◌}
use lib.ListN.{drop}
use Rattle.decoding.specs.Exact.{exact_sessions}
use Rattle.decoding.proofs.sessions_exact.Given as goal

abbrev pub invariant-loop-i : goal.invariant-loop-i
invariant-loop-i l = (l.at ≤ l.from + 6 * l._i) × ((l.exact && exact_sessions l.left (64 - l._i) (drop l.at l.s)) ≡ exact_sessions l.mask 64 (drop l.from l.s))
