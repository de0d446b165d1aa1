use mathlib.Core.Path.{refl}
use Prim.Native.Nat.{suc}
use Rattle.masks.proofs.Truth.{each←}
use Rattle.model.specs.Delegation.{create_ranges}
use Rattle.model.specs.Requests.{named_origin}
use Rattle.model.proofs.Settling.{passed}
use Rattle.origins.proofs.Laws.{named_exact}
use Rattle.slots.specs.Slots.{with_created_slots}
use Rattle.slots.specs.Terms.{created_in}
use Rattle.slots.proofs.GuardLaws.{raised_below}
use Rattle.slots.proofs.CountLaws.{created_below}
use Rattle.creation.specs.Creation.{creating_on, create_decision}
use Rattle.creation.proofs.Laws.{ruled_agrees, made_exact}
use Rattle.creation.proofs.decide_create.Goals as goal

pub returns : goal.returns
unfolding create_decision
returns c =
    let x = c.args in
    let v = x.v in
    let o = named_origin x.origin in
    let q = creating_on v x.columns.now o x.user x.origin x.at x.plan in
    c.settle.ensures q.guards q.result (with_created_slots v (suc v.count) (created_in o v.parent) q.after) tt
    (ruled_agrees v x.columns.now x.user x.origin x.at x.plan c.create_guards-guards.ensures.ruled c.origin_allows-a.ensures (search))
    (λ g. (
      refl,
      rw (
        c.raised.ensures,
        c.made.ensures,
        made_exact x.user x.origin x.at x.plan (each← (create_ranges x.user o x.at x.plan) (passed 2 q.guards g)),
        c.created_in.ensures,
        c.origin_named-o.ensures,
        named_exact x.origin (passed 2 q.guards g).1.0,
        raised_below v.count 256 (passed 12 q.guards g).0,
        created_below o v.role v.parent (passed 10 q.guards g).0,
      ),
    ))
