use mathlib.Core.Path.{◌≡◌}
use Prim.Native.Nat.{◌^◌, ◌<◌}
use lib.ListN.{drop}
use Rattle.masks.specs.Bytes.{number_from, number_of}
use Rattle.fields.proofs.number.number_of.Given as goal

abbrev pub invariant-loop-byte : goal.invariant-loop-byte
invariant-loop-byte l = (l.x < 256 ^ l.byte-index) × (number_from l.x (drop l.byte-index l.s) ≡ number_of l.s)
