-- Intermediate: the code's own terms, proved to come to the definitions of `model`.
-- What an origin allows, from the elements read, and counts that rise.
use Rattle.model.specs.declared.Origin.{Origin}
use Rattle.model.specs.declared.Origin.TheVariants.{Role as ofRole, Capability as ofCapability}
use Rattle.model.specs.declared.Capability.{Capability}
use Rattle.model.specs.State.{Terms}
use Rattle.model.specs.Setters.{with_uses, with_creations}
use Rattle.model.specs.Delegation.{created_once}
use Rattle.model.specs.Sessions.{used_once}
use Rattle.origins.specs.declared.authority.RoleColumns.{RoleColumns}
use Rattle.origins.specs.Numbers.{Placed}
use Rattle.origins.specs.Terms.{column_terms}
use Rattle.slots.specs.declared.Slots.{Slots}
use Rattle.slots.specs.Guards.{raised_of}
use Rattle.slots.specs.Slots.{Places}

-- the capability that an origin is, with one use or one creation more, where that is below its limit
abbrev pub used_to : Origin → Capability → Capability
used_to (ofRole k) c = c
used_to (ofCapability n) c = with_uses c (raised_of c.uses c.use_limit)

abbrev pub created_to : Origin → Capability → Capability
created_to (ofRole k) c = c
created_to (ofCapability n) c = with_creations c (raised_of c.creations c.creation_limit)

-- the same as the model has it
abbrev pub used_in : Origin → Capability → Capability
used_in (ofRole k) c = c
used_in (ofCapability n) c = used_once c

abbrev pub created_in : Origin → Capability → Capability
created_in (ofRole k) c = c
created_in (ofCapability n) c = created_once c

-- the role or the capability that an origin is stands in its slot
abbrev pub OriginPlaced : Places → Origin → Type 0
OriginPlaced p o = Placed o p.role p.parent

-- the same, where a session is on it
abbrev pub OnPlaced : Places → Origin → Type 0
OnPlaced p o = Placed o p.role p.capability

-- what the origin allows, by the columns of the roles
abbrev pub origin_terms : Slots → RoleColumns → Origin → Terms
origin_terms v columns o = column_terms columns o v.role v.parent
