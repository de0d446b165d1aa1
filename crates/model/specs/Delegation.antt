-- create, allow, lend, hand.
use Rattle.std.specs.Prelude.{Bool, List, [], ◌∷◌, ℕ, suc, eqb, leb, ltb, set}
use Rattle.std.specs.Int.Bits.{bit_or}
use Rattle.masks.specs.Masks.{has, within, including}
use Rattle.model.specs.declared.Origin.{Origin}
use Rattle.model.specs.declared.Origin.TheVariants.{Role as ofRole, Capability as ofCapability}
use Rattle.model.specs.declared.Capability.{Capability}
use Rattle.model.specs.declared.Register.{Register}
use Rattle.model.specs.declared.Context.{Context}
use Rattle.model.specs.declared.Plan.{Plan}
use Rattle.model.specs.State.{new_capability, Party, there, has_member, lives, may_create, Terms, capability_at, authority, claims, below, admitted, in_context}
use Rattle.model.specs.Rules.{is_user, is_capability, is_origin, bits}
use Rattle.model.specs.Setters.{with_permissions, with_lent, with_holders, with_creations, with_capabilities, with_count}
use Rattle.model.specs.Rulings.{Ruling, into, Guard, ◌unless◌, ◌when◌, capability, party_of, terms_of}

-- "a pass as origin counts one creation more"
abbrev pub created_once : Capability → Capability
created_once c = with_creations c (suc c.creations)

abbrev pub creation_counted : List Capability → Origin → List Capability
creation_counted cs (ofRole k) = cs
creation_counted cs (ofCapability n) = set cs n (created_once (capability_at cs n))

-- create: "2, also for first above last"
abbrev pub create_ranges : (user : ℕ) → Origin → Context → Plan → List Bool
create_ranges user o at plan =
    is_user user
    ∷ is_origin o
    ∷ in_context at
    ∷ bits 32 plan.first
    ∷ bits 32 plan.last
    ∷ bits 16 plan.uses
    ∷ bits 16 plan.creations
    ∷ bits 16 plan.hops
    ∷ bits 24 plan.hours
    ∷ bits 16 plan.places
    ∷ bits 16 plan.devices
    ∷ leb plan.first plan.last
    ∷ []

-- "create user, role or pass, its number, hour place device, first last, use creation hop limits, hours places devices."
-- y is the origin, with the terms t; "6 user not appointed or not a holder, or authority lacks create", which is permission 0
abbrev pub creating : (clock enrolled count : ℕ) → Party → Terms → (user : ℕ) → Origin → Context → Plan → Ruling Capability
creating clock enrolled count y t user o at plan =
    record {
      guards =
          2 unless create_ranges user o at plan
          ∷ 3 unless (has enrolled user ∷ there count y ∷ [])
          ∷ 6 unless (has_member y user ∷ has t.grants 0 ∷ [])
          ∷ 7 when t.revoked
          ∷ 8 unless (lives y clock ∷ [])
          ∷ 9 unless (admitted t at ∷ [])
          ∷ 10 unless (may_create y ∷ [])
          ∷ 11 unless (below (claims (new_capability user o plan)) t ∷ [])
          ∷ 12 unless (ltb count 256 ∷ [])
          ∷ [];
      result = count;
      after = new_capability user o plan;
    }

unfoldable pub create_ruling : Register → ℕ → Origin → Context → Plan → Ruling Register
create_ruling r user o at plan =
    into (λ c. with_count r (suc r.count) (set (creation_counted r.capabilities o) r.count c))
    (creating r.clock r.enrolled r.count (party_of r o) (terms_of r o) user o at plan)

-- the register with capability n put anew
abbrev pub putting : Register → ℕ → Capability → Register
putting r n c = with_capabilities r (set r.capabilities n c)

-- allow and lend alike, over the capability c: `given` is what its origin may give, `had` what c has of it already
abbrev pub give_guards : (enrolled count : ℕ) → Capability → (given had user n mask : ℕ) → List Guard
give_guards enrolled count c given had user n mask =
    2 unless (is_user user ∷ is_capability n ∷ bits 32 mask ∷ [])
    ∷ 3 unless (has enrolled user ∷ ltb n count ∷ [])
    ∷ 6 unless (eqb c.creator user ∷ [])
    ∷ 7 when c.revoked
    ∷ 11 unless (within mask given ∷ [])
    ∷ 4 when within mask had
    ∷ []

-- d is c with the mask added; "the value is the authority after it"
abbrev pub giving : (enrolled count : ℕ) → Capability → (given had user n mask : ℕ) → (authority : Capability → ℕ) → Capability → Ruling Capability
giving enrolled count c given had user n mask authority d =
    record { guards = give_guards enrolled count c given had user n mask; result = authority d; after = d }

-- "allow user pass permissions .. 6 user is not the creator; 7; 11 the mask exceeds what the origin may give ..; 4 it adds
-- no bit to the own permissions": t is what the origin of c allows
abbrev pub allowing : (enrolled count : ℕ) → Capability → Terms → (authority : Capability → ℕ) → (user n mask : ℕ) → Ruling Capability
allowing enrolled count c t authority user n mask =
    giving enrolled count c t.grants c.permissions user n mask authority (with_permissions c (bit_or c.permissions mask))

-- "lend user pass roles (masks) .. (also for a role not founded); 4 it adds no bit to the .. lent roles."
abbrev pub lending : (enrolled count : ℕ) → Capability → Terms → (authority : Capability → ℕ) → (user n mask : ℕ) → Ruling Capability
lending enrolled count c t authority user n mask =
    giving enrolled count c t.lendable c.lent user n mask authority (with_lent c (bit_or c.lent mask))

-- "hand user receiver pass. 2; 3; 6 not the creator; 7; 4 receiver holds it; 10 hops at their limit. The value is the hop
-- count after it."
abbrev pub handing : (enrolled count : ℕ) → Capability → (user receiver n : ℕ) → Ruling Capability
handing enrolled count c user receiver n =
    record {
      guards =
          2 unless (is_user user ∷ is_user receiver ∷ is_capability n ∷ [])
          ∷ 3 unless (has enrolled user ∷ has enrolled receiver ∷ ltb n count ∷ [])
          ∷ 6 unless (eqb c.creator user ∷ [])
          ∷ 7 when c.revoked
          ∷ 4 when has c.holders receiver
          ∷ 10 unless (ltb c.hops c.hop_limit ∷ [])
          ∷ [];
      result = suc c.hops;
      after = with_holders c (including c.holders receiver) (suc c.hops);
    }

-- the calls on the register, each over capability n

unfoldable pub allow_ruling : Register → ℕ → ℕ → ℕ → Ruling Register
allow_ruling r user n mask =
    let c : Capability = capability r n in
    into (putting r n) (allowing r.enrolled r.count c (terms_of r c.origin) (authority r.roles) user n mask)

unfoldable pub lend_ruling : Register → ℕ → ℕ → ℕ → Ruling Register
lend_ruling r user n mask =
    let c : Capability = capability r n in
    into (putting r n) (lending r.enrolled r.count c (terms_of r c.origin) (authority r.roles) user n mask)

unfoldable pub hand_ruling : Register → ℕ → ℕ → ℕ → Ruling Register
hand_ruling r user receiver n = into (putting r n) (handing r.enrolled r.count (capability r n) user receiver n)
