use mathlib.Core.Path.{◌≡◌, sym, ◌∙◌}
use mathlib.Core.Bool.{and-true}
use Prim.Native.Nat.{◌-◌}
use native.Mathlib.Omega.{arith}
use Rattle.decoding.proofs.sessions_exact.Goals as goal

pub returns : goal.returns
returns c =
    let l = c.loop-i in
    let e : 64 - l._i ≡ 0 = omega arith in
    sym (and-true l.exact) ∙ (rw e at l.invariant.1)
