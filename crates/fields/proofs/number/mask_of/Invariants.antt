use mathlib.Core.Path.{◌≡◌}
use Prim.Native.Nat.{◌-◌, ◌^◌, ◌<◌}
use lib.ListN.{length, drop}
use Rattle.masks.specs.Bytes.{mask_of}
use Rattle.fields.proofs.number.mask_of.Given as goal

abbrev pub invariant-loop-i : goal.invariant-loop-i
invariant-loop-i l = (l.x < 256 ^ (length l.s - l.i)) × (l.x ≡ mask_of (drop l.i l.s))
