-- Intermediate: the code's own terms, proved to come to the definitions of `model`.
-- create over the elements that it names: the model's ruling, on the elements that are read.
use Rattle.std.specs.Prelude.{List, [], ◌∷◌, ℕ, suc, ◌%◌, set}
use Rattle.model.specs.declared.Origin.{Origin}
use Rattle.model.specs.declared.Capability.{Capability}
use Rattle.model.specs.declared.Named.{Named}
use Rattle.model.specs.declared.Context.{Context}
use Rattle.model.specs.declared.Plan.{Plan}
use Rattle.model.specs.State.{plan_of, new_capability, Terms, claims, below}
use Rattle.model.specs.Rulings.{Effect, Ruling, Guard, ◌unless◌, into, ruled}
use Rattle.model.specs.Requests.{named_origin}
use Rattle.model.specs.Delegation.{creating}
use Rattle.origins.specs.declared.authority.RoleColumns.{RoleColumns}
use Rattle.origins.specs.Numbers.{named_in}
use Rattle.origins.specs.Terms.{party_in}
use Rattle.slots.specs.declared.Slots.{Slots}
use Rattle.slots.specs.Slots.{with_created_slots}
use Rattle.slots.specs.Terms.{origin_terms, created_in}

-- the new capability, with the numbers brought into their ranges
abbrev pub made_of : ℕ → Named → Plan → Capability
made_of user o plan =
    new_capability (user % 64) (named_in o)
    (plan_of plan.first plan.last (plan.uses % 65536) (plan.creations % 65536) (plan.hops % 65536) plan.hours (plan.places % 65536) (plan.devices % 65536))

-- from the origin o, read from its slot, with the terms t
abbrev pub creating_from : Slots → Origin → Terms → ℕ → Named → Context → Plan → Ruling Capability
creating_from v o t user named at plan =
    creating v.clock v.enrolled v.count (party_in o v.role v.parent) t user (named_origin named) at plan

-- the tests, on the new capability as it is made; it has the numbers of the request only where the ranges pass
abbrev pub creation_tests : Slots → Origin → Terms → ℕ → Named → Context → Plan → List Guard
creation_tests v o t user named at plan =
    set (creating_from v o t user named at plan).guards 7 (11 unless (below (claims (made_of user named plan)) t ∷ []))

-- with the terms that are read too
abbrev pub creating_on : Slots → RoleColumns → Origin → ℕ → Named → Context → Plan → Ruling Capability
creating_on v column o user named at plan = creating_from v o (origin_terms v column o) user named at plan

unfoldable pub create_decision : Slots → RoleColumns → ℕ → Named → Context → Plan → Effect Slots
create_decision v column user o at plan =
    ruled v (into (with_created_slots v (suc v.count) (created_in (named_origin o) v.parent)) (creating_on v column (named_origin o) user o at plan))
