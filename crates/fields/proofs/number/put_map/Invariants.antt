use mathlib.Core.Path.{◌≡◌}
use Prim.Native.Nat.{◌-◌}
use Rattle.masks.specs.Bytes.{front, map_bytes}
use Rattle.buffers.proofs.Parts.{placed}
use Rattle.fields.proofs.number.put_map.Given as goal

abbrev pub invariant-loop-i : goal.invariant-loop-i
invariant-loop-i l = placed l.i (map_bytes (l.k - l.i) l.x) l.s ≡ front (map_bytes l.k l.n) l.initial.s
