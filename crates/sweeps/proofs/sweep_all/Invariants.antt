use mathlib.Core.Path.{◌≡◌}
use Prim.Native.Nat.{◌≤◌}
use Rattle.masks.specs.Tests.{count_below, rising}
use Rattle.model.specs.State.{blank_capability}
use Rattle.model.specs.Setters.{with_capabilities}
use Rattle.sweeps.specs.Sweeping.{sweep_one, newly_by}
use Rattle.sweeps.proofs.sweep_all.Given as goal

abbrev pub invariant-loop-i : goal.invariant-loop-i
invariant-loop-i l = record {
  within : l.marks ≤ l.i;
  swept : l.next ≡ with_capabilities l.initial.next (rising blank_capability (sweep_one l.initial.next.roles l.s) l.i l.initial.next.capabilities);
  counted : l.marks ≡ count_below l.i (newly_by (sweep_one l.initial.next.roles l.s) l.initial.next.capabilities);
}
