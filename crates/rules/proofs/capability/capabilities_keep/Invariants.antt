use mathlib.Core.Bool.{true}
use mathlib.Core.Path.{◌≡◌}
use Prim.Native.Nat.{◌≤◌}
use Rattle.masks.specs.Tests.{all_below}
use Rattle.model.specs.Rules.{place_keeps}
use Rattle.model.specs.State.{capability_at}
use Rattle.rules.proofs.capability.capabilities_keep.Given as goal

abbrev pub invariant-loop-n : goal.invariant-loop-n
invariant-loop-n l =
    l.r.count ≤ 256 → true ≡ all_below l.n (λ n. place_keeps l.r.enrolled l.r.roles l.r.count l.r.capabilities n (capability_at l.r.capabilities n))
