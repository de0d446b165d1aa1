-- Counts that rise, below their limit.
use mathlib.Core.Path.{◌≡◌, refl, ap}
use lib.Dec.{T}
use Rattle.model.specs.declared.Origin.{Origin}
use Rattle.model.specs.declared.Origin.TheVariants.{Role as ofRole, Capability as ofCapability}
use Rattle.model.specs.declared.Role.{Role}
use Rattle.model.specs.declared.Capability.{Capability}
use Rattle.model.specs.State.{may_use, may_create}
use Rattle.model.specs.Setters.{with_uses, with_creations}
use Rattle.origins.specs.Terms.{party_in}
use Rattle.slots.specs.Terms.{used_to, used_in, created_to, created_in}
use Rattle.slots.proofs.GuardLaws.{raised_below}

pub used-below : (o : Origin) (x : Role) (c : Capability) → T (may_use (party_in o x c)) → used_to o c ≡ used_in o c
used-below (ofRole k) x c h = refl
used-below (ofCapability n) x c h = ap (with_uses c) (raised_below _ _ h)

pub created_below : (o : Origin) (x : Role) (c : Capability) → T (may_create (party_in o x c)) → created_to o c ≡ created_in o c
created_below (ofRole k) x c h = refl
created_below (ofCapability n) x c h = ap (with_creations c) (raised_below _ _ h)
