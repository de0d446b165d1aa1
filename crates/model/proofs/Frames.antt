-- A change of permissions, lent roles, holders, use limits, uses and marks, here and in roles' permissions and appointed users, keeps the
-- rules of the passes and the sessions if each pass still claims no more than its origin has.
use mathlib.Core.Path.{◌≡◌, refl, sym, ap, ◌∙◌, subst}
use mathlib.Core.Logic.{◌⊎◌, inl, inr, ◌≢◌}
use mathlib.Core.Bool.{Bool}
use mathlib.Core.List.{List}
use Prim.Native.Nat.{ℕ, ◌≤◌, ◌<◌}
use native.Mathlib.Nat.{le_refl, le_trans}
use native.Mathlib.Omega.{arith}
use lib.Dec.{T}
use lib.ListN.{set, length, length-set, get_or-eq_default}
use native.Mathlib.Decide.{dec_lt}
use Rattle.model.specs.declared.Origin.{Origin}
use Rattle.model.specs.declared.Origin.TheVariants.{Role as ofRole, Capability as ofCapability}
use Rattle.model.specs.declared.Role.{Role}
use Rattle.model.specs.declared.Capability.{Capability}
use Rattle.model.specs.declared.Context.{Context}
use Rattle.model.specs.declared.Session.{Session}
use Rattle.masks.specs.Masks.{has, within}
use Rattle.model.specs.State.{capability_terms, Terms, terms, claims, role_at, capability_at, origin_at, blank_capability, exists, admitted, admitted_tests}
use Rattle.model.specs.Lineage.{children, is_parent}
use Rattle.model.specs.Rules.{earlier}
use Rattle.masks.specs.Tests.{Each}
use Rattle.masks.proofs.Truth.{each→, each←}
use Rattle.masks.proofs.Bounded.{count_below_ext, set_cases, set-each}
use Rattle.masks.proofs.MaskLaws.{within_refl, within_trans}
use Rattle.model.specs.Invariant.{Below}
use Rattle.model.proofs.Kept.{OwnKept, CapabilityKept, CapabilitiesKept, SessionsKept}
use Rattle.model.proofs.Places.{moved_sessions}

-- what such a change leaves of a pass, and of a role
pub record Frame (c c' : Capability) : Type 0 where
  pub origin : c'.origin ≡ c.origin
  pub creations : c'.creations ≡ c.creations
  pub creation_limit : c'.creation_limit ≡ c.creation_limit
  pub hop_limit : c'.hop_limit ≡ c.hop_limit
  pub first : c'.first ≡ c.first
  pub last : c'.last ≡ c.last
  pub hours : c'.hours ≡ c.hours
  pub places : c'.places ≡ c.places
  pub devices : c'.devices ≡ c.devices

pub record RoleFrame (x x' : Role) : Type 0 where
  pub founded : x'.founded ≡ x.founded
  pub hours : x'.hours ≡ x.hours
  pub places : x'.places ≡ x.places
  pub devices : x'.devices ≡ x.devices

-- the fields that it may change, put anew
abbrev pub reworked : Capability → (permissions lent holders limit uses hops : ℕ) → Bool → Capability
reworked c p m h u s j b =
    record { origin = c.origin; creator = c.creator; permissions = p; lent = m; holders = h; first = c.first; last = c.last; use_limit = u; uses = s; creation_limit = c.creation_limit; creations = c.creations; hop_limit = c.hop_limit; hops = j; hours = c.hours; places = c.places; devices = c.devices; revoked = b }

-- `framed c e`, for `e : c' ≡ with_revoked c b` and the like
pub framed : (c : Capability) {c' : Capability} {p m h u s j : ℕ} {b : Bool} → c' ≡ reworked c p m h u s j b → Frame c c'
framed c e =
    subst
    (λ (x : Capability). Frame c x)
    (sym e)
    (record { origin = refl; creations = refl; creation_limit = refl; hop_limit = refl; first = refl; last = refl; hours = refl; places = refl; devices = refl })

pub role_frame : (x : Role) → RoleFrame x x
role_frame x = record { founded = refl; hours = refl; places = refl; devices = refl }

-- permissions, lent roles, use limit and mark do not touch what a pass keeps by itself
pub own_framed : {enrolled : ℕ} (c : Capability) {c' : Capability} {p m u : ℕ} {b : Bool} → c' ≡ reworked c p m c.holders u c.uses c.hops b → OwnKept enrolled c → OwnKept enrolled c'
own_framed {enrolled} c e h =
    subst
    (λ (x : Capability). OwnKept enrolled x)
    (sym e)
    (record { creator = h.creator; life = h.life; holders = h.holders; hops = h.hops; hop_limit = h.hop_limit; uses = h.uses })

-- what is left to show of a pass: the four claims that the change may touch
pub record Claims (c : Capability) (t : Terms) : Type 0 where
  pub grants : T (within c.permissions t.grants)
  pub lendable : T (within c.lent t.lendable)
  pub use_limit : c.use_limit ≤ t.use_limit
  pub revoked : T t.revoked → T c.revoked

-- the terms of an origin but for those four
pub record Alike (t t' : Terms) : Type 0 where
  pub hours : t'.hours ≡ t.hours
  pub places : t'.places ≡ t.places
  pub devices : t'.devices ≡ t.devices
  pub first : t'.first ≡ t.first
  pub last : t'.last ≡ t.last
  pub creation_limit : t'.creation_limit ≡ t.creation_limit
  pub hop_limit : t'.hop_limit ≡ t.hop_limit

within_moved : (a a' b b' : ℕ) → a' ≡ a → b' ≡ b → T (within a b) → T (within a' b')
within_moved a a' b b' p q h = subst (λ (x : ℕ). T (within x b')) (sym p) (subst (λ (x : ℕ). T (within a x)) (sym q) h)

still_fits : (c c' : Capability) (t t' : Terms) → Frame c c' → Alike t t' → Below (claims c) t → Claims c' t' → Below (claims c') t'
still_fits c c' t t' f a h n =
    record {
      grants = n.grants;
      lendable = n.lendable;
      hours = within_moved _ _ _ _ f.hours a.hours h.hours;
      places = within_moved _ _ _ _ f.places a.places h.places;
      devices = within_moved _ _ _ _ f.devices a.devices h.devices;
      first = omega (arith, f.first, a.first, h.first);
      last = omega (arith, f.last, a.last, h.last);
      use_limit = n.use_limit;
      creation_limit = omega (arith, f.creation_limit, a.creation_limit, h.creation_limit);
      hop_limit = omega (arith, f.hop_limit, a.hop_limit, h.hop_limit);
      revoked = n.revoked;
    }

pub children_same : (count : ℕ) (cs cs' : List Capability) → ((n : ℕ) → n < count → origin_at cs' n ≡ origin_at cs n) → (n : ℕ) → children count cs' n ≡ children count cs n
unfolding children
children_same count cs cs' h n = count_below_ext count _ _ (λ k l. ap (is_parent n) (h k l))

module _
    (roles roles' : List Role) (count : ℕ) (cs cs' : List Capability)
    (role-frames : (k : ℕ) → RoleFrame (role_at roles k) (role_at roles' k))
    (frames : (i : ℕ) → Frame (capability_at cs i) (capability_at cs' i)) where
  pub still_exists : (o : Origin) → T (exists roles count o) → T (exists roles' count o)
  unfolding exists
  still_exists (ofRole k) h = subst T (sym (role-frames k).founded) h
  still_exists (ofCapability n) h = h

  pub alike : (o : Origin) → Alike (terms roles cs o) (terms roles' cs' o)
  unfolding terms
  alike (ofRole k) =
      record { hours = (role-frames k).hours; places = (role-frames k).places; devices = (role-frames k).devices; first = refl; last = refl; creation_limit = refl; hop_limit = refl }
  alike (ofCapability n) =
      record { hours = (frames n).hours; places = (frames n).places; devices = (frames n).devices; first = (frames n).first; last = (frames n).last; creation_limit = (frames n).creation_limit; hop_limit = (frames n).hop_limit }

  pub reworked_capabilities : (enrolled : ℕ) → CapabilitiesKept enrolled roles count cs
      → length cs' ≡ 256
      → ((i : ℕ) → i < count → OwnKept enrolled (capability_at cs' i))
      → ((i : ℕ) → i < count → Claims (capability_at cs' i) (terms roles' cs' (origin_at cs i)))
      → ((i : ℕ) → count ≤ i → i < 256 → capability_at cs' i ≡ blank_capability)
      → CapabilitiesKept enrolled roles' count cs'
  reworked_capabilities enrolled kept amount own claim blank =
      record { amount = amount; enough = kept.enough; capability = one; blank = blank }
    where
      one : (n : ℕ) → n < count → CapabilityKept enrolled roles' count cs' n (capability_at cs' n)
      one n l =
          let old : CapabilityKept enrolled roles count cs n (capability_at cs n) = kept.capability n l in
          let f : Frame (capability_at cs n) (capability_at cs' n) = frames n in
          record {
            placed = subst (λ (o : Origin). T (earlier n o)) (sym f.origin) old.placed;
            origin_there = subst (λ (o : Origin). T (exists roles' count o)) (sym f.origin) (still_exists _ old.origin_there);
            fits =
                subst
                (λ (o : Origin). Below (claims (capability_at cs' n)) (terms roles' cs' o))
                (sym f.origin)
                (still_fits (capability_at cs n) (capability_at cs' n) _ _ f (alike (origin_at cs n)) old.fits (claim n l));
            creations_counted = f.creations ∙ old.creations_counted ∙ sym (children_same count cs cs' (λ m g. (frames m).origin) n);
            creation_limit = omega (arith, old.creation_limit, f.creations, f.creation_limit);
            own = own n l;
          }

  pub reworked_sessions : (enrolled : ℕ) (ss : List Session) → SessionsKept enrolled roles count cs ss → SessionsKept enrolled roles' count cs' ss
  unfolding admitted
  reworked_sessions enrolled ss kept = moved_sessions enrolled enrolled roles roles' count count cs cs' (λ u h. h) still_exists admits ss kept
    where
      admits : (o : Origin) → T (exists roles count o) → (at : Context) → T (admitted (terms roles cs o) at) → T (admitted (terms roles' cs' o) at)
      admits o g at h =
          let k : Alike (terms roles cs o) (terms roles' cs' o) = alike o in
          let e : Each (admitted_tests (terms roles cs o) at) = each→ (admitted_tests (terms roles cs o) at) h in
          each←
          (admitted_tests (terms roles' cs' o) at) (
            subst (λ (x : ℕ). T (has x at.hour)) (sym k.hours) e.0,
            (
              subst (λ (x : ℕ). T (has x at.place)) (sym k.places) e.1.0,
              (
                subst (λ (x : ℕ). T (has x at.device)) (sym k.devices) e.1.1.0,
                tt,
              ),
            ),
          )

-- beyond the 256 places both are blank
pub frames_beyond : (cs cs' : List Capability) → length cs ≡ 256 → length cs' ≡ 256
    → ((i : ℕ) → i < 256 → Frame (capability_at cs i) (capability_at cs' i)) → (i : ℕ) → Frame (capability_at cs i) (capability_at cs' i)
frames_beyond cs cs' a a' h i = cases (dec_lt i 256)
  where
    cases : Dec (i < 256) → Frame (capability_at cs i) (capability_at cs' i)
    cases (yes l) = h i l
    cases (no l) =
        framed (capability_at cs i)
        (get_or-eq_default cs' blank_capability (omega arith) ∙ sym (get_or-eq_default cs blank_capability (omega arith)))

-- ---- terms that only grow: what claimed no more than the old claims no more than the new

pub record Grows (t t' : Terms) : Type 0 where
  pub grants : T (within t.grants t'.grants)
  pub lendable : T (within t.lendable t'.lendable)
  pub use_limit : t.use_limit ≤ t'.use_limit
  pub revoked : T t'.revoked → T t.revoked

pub grows_refl : (t : Terms) → Grows t t
grows_refl t = record { grants = within_refl t.grants; lendable = within_refl t.lendable; use_limit = le_refl _; revoked = λ h. h }

pub claims_grow : (c : Capability) (t t' : Terms) → Grows t t' → Claims c t → Claims c t'
claims_grow c t t' g h =
    record {
      grants = within_trans _ t.grants _ h.grants g.grants;
      lendable = within_trans _ t.lendable _ h.lendable g.lendable;
      use_limit = le_trans h.use_limit g.use_limit;
      revoked = λ x. h.revoked (g.revoked x);
    }

pub below-claims : (c : Capability) (t : Terms) → Below (claims c) t → Claims c t
below-claims c t h = record { grants = h.grants; lendable = h.lendable; use_limit = h.use_limit; revoked = h.revoked }

-- ---- one pass put anew, whose terms grow

module _
    (enrolled : ℕ) (roles : List Role) (count : ℕ) (cs : List Capability) (kept : CapabilitiesKept enrolled roles count cs)
    (n : ℕ) (is-there : n < count) (d : Capability) (frame : Frame (capability_at cs n) d) where
  put_in : n < length cs
  put_in = omega (arith, kept.amount, kept.enough)

  pub put_frames : (i : ℕ) → Frame (capability_at cs i) (capability_at (set cs n d) i)
  put_frames i = set-each Frame cs n d blank_capability (λ x. framed x refl) frame i put_in

  pub put_capabilities : OwnKept enrolled d → Claims d (terms roles cs (origin_at cs n)) → Grows (terms roles cs (ofCapability n)) (capability_terms roles d)
      → CapabilitiesKept enrolled roles count (set cs n d)
  unfolding terms
  put_capabilities own claim grow =
      reworked_capabilities roles roles count cs (set cs n d) (λ k. role_frame (role_at roles k)) put_frames enrolled kept
      (length-set cs n d ∙ kept.amount)
      (λ i l. set-each (λ x y. OwnKept enrolled x → OwnKept enrolled y) cs n d blank_capability (λ x h. h) (λ h. own) i put_in (kept.capability i l).own)
      (λ i l. claims_grow _ _ _ (grown (origin_at cs i)) (claimed i l (set_cases cs n d blank_capability i put_in)))
      (λ i g l. beyond i g l (set_cases cs n d blank_capability i put_in))
    where
      grown : (o : Origin) → Grows (terms roles cs o) (terms roles (set cs n d) o)
      grown (ofRole k) = grows_refl _
      grown (ofCapability k) =
          set-each (λ x y. Grows (capability_terms roles x) (capability_terms roles y)) cs n d blank_capability (λ x. grows_refl _) grow k put_in

      claimed : (i : ℕ) → i < count → ((i ≡ n) × (capability_at (set cs n d) i ≡ d)) ⊎ ((i ≢ n) × (capability_at (set cs n d) i ≡ capability_at cs i))
          → Claims (capability_at (set cs n d) i) (terms roles cs (origin_at cs i))
      claimed i l (inl e) =
          subst (λ (x : Capability). Claims x (terms roles cs (origin_at cs i))) (sym e.1)
          (subst (λ (x : ℕ). Claims d (terms roles cs (origin_at cs x))) (sym e.0) claim)
      claimed i l (inr e) =
          subst (λ (x : Capability). Claims x (terms roles cs (origin_at cs i))) (sym e.1) (below-claims _ _ (kept.capability i l).fits)

      beyond : (i : ℕ) → count ≤ i → i < 256 → ((i ≡ n) × (capability_at (set cs n d) i ≡ d)) ⊎ ((i ≢ n) × (capability_at (set cs n d) i ≡ capability_at cs i))
          → capability_at (set cs n d) i ≡ blank_capability
      beyond i g l (inl e) = absurd (omega (arith, e.0))
      beyond i g l (inr e) = e.1 ∙ kept.blank i g l
