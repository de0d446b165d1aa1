use native.Mathlib.Omega.{arith}
use Prim.Native.Nat.{◌%◌}
use Rattle.origins.specs.Numbers.{Placed}
use Rattle.origins.proofs.Laws.{held_placed, placed_party, placed_terms, placed_admits}
use Rattle.rules.proofs.parties.party_at.Goals as goal

pub returns : goal.returns
returns c =
    let r = c.args.r.now in
    let i = c.role_held.result % 32 in
    let j = c.capability_held.result in
    let placed : Placed c.args.o i j = held_placed c.args.o _ _ c.role_held.ensures c.capability_held.ensures (omega (arith, c.capability_held)) in
    record {
      stands = λ ranged. placed_party r.roles r.capabilities c.args.o i j ranged placed;
      allows = λ columns ranged kept. placed_terms columns r.roles kept r.capabilities c.args.o i j ranged placed;
      admits = λ grants lendable at ranged. placed_admits r.roles r.capabilities c.args.o i j grants lendable at ranged placed;
    }
