-- Intermediate: the code's own terms, proved to come to the definitions of `model`.
-- What stands at an origin and what it allows, from the elements read.
use Rattle.std.specs.Prelude.{ℕ, ◌%◌}
use Rattle.model.specs.declared.Origin.{Origin}
use Rattle.model.specs.declared.Origin.TheVariants.{Role as ofRole, Capability as ofCapability}
use Rattle.model.specs.declared.Role.{Role}
use Rattle.model.specs.declared.Capability.{Capability}
use Rattle.model.specs.State.{blank_role, Party, the_role, the_capability, Terms, party_terms}
use Rattle.origins.specs.Authority.{granted_by, lendable_by}
use Rattle.origins.specs.declared.authority.RoleColumns.{RoleColumns}
use Rattle.origins.specs.declared.terms.Allowance.{Allowance}

-- the terms that the program's record stands for
abbrev pub terms_in : Allowance → Terms
terms_in a =
    record {
      grants = a.grants;
      lendable = a.lendable;
      hours = a.hours;
      places = a.places;
      devices = a.devices;
      first = a.first;
      last = a.last;
      use_limit = a.use_limit;
      creation_limit = a.creation_limit;
      hop_limit = a.hop_limit;
      revoked = a.revoked;
    }

-- the origin o and what stands there, from the elements read: the role x or the capability c
abbrev pub party_in : Origin → Role → Capability → Party
party_in (ofRole k) x c = the_role (k % 32) x
party_in (ofCapability n) x c = the_capability n c

-- its terms, where it grants `grants` and may lend `lendable`
unfoldable pub slot_terms : Origin → Role → Capability → (grants lendable : ℕ) → Terms
slot_terms o x c grants lendable = party_terms (λ k. grants) (λ d. grants) (λ m. lendable) (party_in o x c)

-- the same by the columns of the roles
abbrev pub column_terms : RoleColumns → Origin → Role → Capability → Terms
column_terms columns o x c = slot_terms o x c (granted_by columns o c) (lendable_by columns o c)

-- the same as far as they need neither the role nor a column
abbrev pub bare_in : Origin → Capability → Terms
bare_in o c = slot_terms o blank_role c 0 0
