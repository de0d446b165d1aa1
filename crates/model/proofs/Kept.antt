-- The shelf rules as the proofs use them: part by part, each over just what it speaks of, and without what follows from the
-- rest (`Rules.antt` shows that it does).
use mathlib.Core.Path.{◌≡◌, sym, ap, subst}
use mathlib.Core.List.{List}
use Prim.Native.Nat.{ℕ, ◌^◌, ◌≤◌, ◌<◌}
use lib.Count.{ones}
use lib.Dec.{T, leb→le, le→leb, eqb→eq}
use lib.ListN.{get_or, length}
use Rattle.masks.specs.Masks.{has, within}
use Rattle.masks.proofs.Truth.{each←, each_at, implies_i, implies_e, T→false}
use Rattle.model.specs.declared.Origin.{Origin}
use Rattle.model.specs.declared.Origin.TheVariants.{Role as ofRole, Capability as ofCapability}
use Rattle.model.specs.declared.Role.{Role}
use Rattle.model.specs.declared.Capability.{Capability}
use Rattle.model.specs.declared.Session.{Session}
use Rattle.model.specs.declared.Register.{Register}
use Rattle.model.specs.State.{Terms, terms, claims, below, below_tests, role_at, capability_at, session_at, blank_capability, exists}
use Rattle.model.specs.Lineage.{children}
use Rattle.model.specs.Rules.{is_role_zero, earlier, user_keeps, role_keeps, capability_blank, capability_blank_tests, session_keeps}
use Rattle.model.specs.Invariant.{Below}

-- ---- terms within terms

pub below→ : (a b : Terms) → T (below a b) → Below a b
unfolding below
below→ a b h =
    record {
      grants = each_at (below_tests a b) h 0;
      lendable = each_at (below_tests a b) h 1;
      hours = each_at (below_tests a b) h 2;
      places = each_at (below_tests a b) h 3;
      devices = each_at (below_tests a b) h 4;
      first = leb→le _ _ (each_at (below_tests a b) h 5);
      last = leb→le _ _ (each_at (below_tests a b) h 6);
      use_limit = leb→le _ _ (each_at (below_tests a b) h 7);
      creation_limit = leb→le _ _ (each_at (below_tests a b) h 8);
      hop_limit = leb→le _ _ (each_at (below_tests a b) h 9);
      revoked = implies_e b.revoked a.revoked (each_at (below_tests a b) h 10);
    }

pub below← : (a b : Terms) → Below a b → T (below a b)
unfolding below
below← a b h =
    each← (below_tests a b) (
      h.grants,
      (
        h.lendable,
        (
          h.hours,
          (
            h.places,
            (
              h.devices,
              (
                le→leb _ _ h.first,
                (
                  le→leb _ _ h.last,
                  (
                    le→leb _ _ h.use_limit,
                    (
                      le→leb _ _ h.creation_limit,
                      (
                        le→leb _ _ h.hop_limit,
                        (implies_i b.revoked a.revoked h.revoked, tt),
                      ),
                    ),
                  ),
                ),
              ),
            ),
          ),
        ),
      ),
    )

-- ---- what is kept for a capability not there

pub role_zero : (o : Origin) → T (is_role_zero o) → o ≡ ofRole 0
role_zero (ofRole k) g = ap (λ (x : ℕ). ofRole x) (eqb→eq k 0 g)
role_zero (ofCapability k) g = absurd g

pub blank→ : (c : Capability) → T (capability_blank c) → c ≡ blank_capability
unfolding capability_blank
blank→ c h =
    λ i.
    record {
      origin = role_zero c.origin (each_at (capability_blank_tests c) h 0) i;
      creator = eqb→eq c.creator 0 (each_at (capability_blank_tests c) h 1) i;
      permissions = eqb→eq c.permissions 0 (each_at (capability_blank_tests c) h 2) i;
      lent = eqb→eq c.lent 0 (each_at (capability_blank_tests c) h 3) i;
      holders = eqb→eq c.holders 0 (each_at (capability_blank_tests c) h 4) i;
      first = eqb→eq c.first 0 (each_at (capability_blank_tests c) h 5) i;
      last = eqb→eq c.last 0 (each_at (capability_blank_tests c) h 6) i;
      use_limit = eqb→eq c.use_limit 0 (each_at (capability_blank_tests c) h 7) i;
      uses = eqb→eq c.uses 0 (each_at (capability_blank_tests c) h 8) i;
      creation_limit = eqb→eq c.creation_limit 0 (each_at (capability_blank_tests c) h 9) i;
      creations = eqb→eq c.creations 0 (each_at (capability_blank_tests c) h 10) i;
      hop_limit = eqb→eq c.hop_limit 0 (each_at (capability_blank_tests c) h 11) i;
      hops = eqb→eq c.hops 0 (each_at (capability_blank_tests c) h 12) i;
      hours = eqb→eq c.hours 0 (each_at (capability_blank_tests c) h 13) i;
      places = eqb→eq c.places 0 (each_at (capability_blank_tests c) h 14) i;
      devices = eqb→eq c.devices 0 (each_at (capability_blank_tests c) h 15) i;
      revoked = T→false c.revoked (each_at (capability_blank_tests c) h 16) i;
    }

pub blank← : (c : Capability) → c ≡ blank_capability → T (capability_blank c)
unfolding capability_blank
blank← c e = subst (λ (x : Capability). T (capability_blank x)) (sym e) tt

-- ---- the parts

-- what a capability keeps by itself
pub record OwnKept (enrolled : ℕ) (c : Capability) : Type 0 where
  pub creator : T (has enrolled c.creator)
  pub holders : T (within c.holders enrolled)
  pub life : c.first ≤ c.last
  pub hops : c.hops ≡ ones c.holders
  pub hop_limit : c.hops ≤ c.hop_limit
  pub uses : c.uses < 2 ^ 16

pub record CapabilityKept (enrolled : ℕ) (roles : List Role) (count : ℕ) (cs : List Capability) (n : ℕ) (c : Capability) : Type 0 where
  pub placed : T (earlier n c.origin)
  pub origin_there : T (exists roles count c.origin)
  pub fits : Below (claims c) (terms roles cs c.origin)
  pub creations_counted : c.creations ≡ children count cs n
  pub creation_limit : c.creations ≤ c.creation_limit
  pub own : OwnKept enrolled c

pub record CapabilitiesKept (enrolled : ℕ) (roles : List Role) (count : ℕ) (cs : List Capability) : Type 0 where
  pub amount : length cs ≡ 256
  pub enough : count ≤ 256
  pub capability : (n : ℕ) → n < count → CapabilityKept enrolled roles count cs n (capability_at cs n)
  pub blank : (n : ℕ) → count ≤ n → n < 256 → capability_at cs n ≡ blank_capability

pub record RolesKept (enrolled : ℕ) (domains : List ℕ) (roles : List Role) : Type 0 where
  pub amount : length roles ≡ 32
  pub role : (k : ℕ) → k < 32 → T (role_keeps enrolled domains k (role_at roles k))

pub record UsersKept (enrolled : ℕ) (domains : List ℕ) : Type 0 where
  pub amount : length domains ≡ 64
  pub small : enrolled < 2 ^ 64
  pub user : (u : ℕ) → u < 64 → T (user_keeps enrolled u (get_or domains u 0))

pub record SessionsKept (enrolled : ℕ) (roles : List Role) (count : ℕ) (cs : List Capability) (ss : List Session) : Type 0 where
  pub amount : length ss ≡ 64
  pub session : (i : ℕ) → i < 64 → T (session_keeps enrolled roles count cs i (session_at ss i))

pub record Kept (r : Register) : Type 0 where
  pub clock : r.clock < 2 ^ 32
  pub users : UsersKept r.enrolled r.domains
  pub roles : RolesKept r.enrolled r.domains r.roles
  pub capabilities : CapabilitiesKept r.enrolled r.roles r.count r.capabilities
  pub sessions : SessionsKept r.enrolled r.roles r.count r.capabilities r.sessions
