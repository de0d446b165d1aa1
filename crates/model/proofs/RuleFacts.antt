-- The tests of the shelf rules for one thing, and the propositions that they stand for.
use mathlib.Core.Path.{◌≡◌, sym, subst}
use mathlib.Core.Bool.{not}
use mathlib.Core.List.{List, [], ◌∷◌}
use Prim.Native.Nat.{ℕ}
use lib.Dec.{T, ltb, leb→le, le→leb, ltb→lt, lt→ltb, eqb→eq}
use Rattle.masks.specs.Masks.{has}
use Rattle.masks.specs.Tests.{each, Each}
use Rattle.masks.proofs.Truth.{each→, each←, each_at, implies_i, implies_e, T→false, eq→eqb}
use Rattle.masks.proofs.Bounded.{all_below_at, all_below_i}
use Rattle.model.specs.declared.Origin.{Origin}
use Rattle.model.specs.declared.Origin.TheVariants.{Role as ofRole, Capability as ofCapability}
use Rattle.model.specs.declared.Role.{Role}
use Rattle.model.specs.declared.Capability.{Capability}
use Rattle.model.specs.declared.Session.{Session}
use Rattle.model.specs.State.{terms, role_at, blank_role, blank_session, opened_in, exists, admitted, admitted_tests, in_context}
use Rattle.model.specs.Rules.{is_origin, role_blank, role_blank_tests, range_tests, in_range, all_founded, earlier, own_tests, own_keeps, capability_tests, capability_keeps, session_tests, session_blank, session_blank_tests}
use Rattle.model.specs.Invariant.{OriginInRange, Exists, Earlier, CapabilityRanges, CapabilityRules, SessionRules}
use Rattle.model.proofs.Kept.{below→, below←, role_zero, CapabilityKept}

-- ---- origins

pub origin→ : (o : Origin) → T (is_origin o) → OriginInRange o
origin→ (ofRole k) h = ltb→lt _ _ h
origin→ (ofCapability n) h = ltb→lt _ _ h

pub origin← : (o : Origin) → OriginInRange o → T (is_origin o)
origin← (ofRole k) h = lt→ltb _ _ h
origin← (ofCapability n) h = lt→ltb _ _ h

pub exists→ : (roles : List Role) (count : ℕ) (o : Origin) → T (exists roles count o) → Exists roles count o
unfolding exists
exists→ roles count (ofRole k) h = h
exists→ roles count (ofCapability n) h = ltb→lt _ _ h

pub exists← : (roles : List Role) (count : ℕ) (o : Origin) → Exists roles count o → T (exists roles count o)
unfolding exists
exists← roles count (ofRole k) h = h
exists← roles count (ofCapability n) h = lt→ltb _ _ h

pub earlier→ : (n : ℕ) (o : Origin) → T (earlier n o) → Earlier n o
unfolding earlier
earlier→ n (ofRole k) h = tt
earlier→ n (ofCapability k) h = ltb→lt _ _ h

pub earlier← : (n : ℕ) (o : Origin) → Earlier n o → T (earlier n o)
unfolding earlier
earlier← n (ofRole k) h = tt
earlier← n (ofCapability k) h = lt→ltb _ _ h

-- ---- capabilities

pub ranges→ : (c : Capability) → T (in_range c) → CapabilityRanges c
unfolding in_range
ranges→ c h =
    record {
      origin = origin→ c.origin (each_at (range_tests c) h 0);
      creator = ltb→lt _ _ (each_at (range_tests c) h 1);
      permissions = ltb→lt _ _ (each_at (range_tests c) h 2);
      lent = ltb→lt _ _ (each_at (range_tests c) h 3);
      holders = ltb→lt _ _ (each_at (range_tests c) h 4);
      first = ltb→lt _ _ (each_at (range_tests c) h 5);
      last = ltb→lt _ _ (each_at (range_tests c) h 6);
      use_limit = ltb→lt _ _ (each_at (range_tests c) h 7);
      uses = ltb→lt _ _ (each_at (range_tests c) h 8);
      creation_limit = ltb→lt _ _ (each_at (range_tests c) h 9);
      creations = ltb→lt _ _ (each_at (range_tests c) h 10);
      hop_limit = ltb→lt _ _ (each_at (range_tests c) h 11);
      hops = ltb→lt _ _ (each_at (range_tests c) h 12);
      hours = ltb→lt _ _ (each_at (range_tests c) h 13);
      places = ltb→lt _ _ (each_at (range_tests c) h 14);
      devices = ltb→lt _ _ (each_at (range_tests c) h 15);
    }

pub ranges← : (c : Capability) → CapabilityRanges c → T (in_range c)
unfolding in_range
ranges← c h =
    each← (range_tests c) (
      origin← c.origin h.origin,
      (
        lt→ltb _ _ h.creator,
        (
          lt→ltb _ _ h.permissions,
          (
            lt→ltb _ _ h.lent,
            (
              lt→ltb _ _ h.holders,
              (
                lt→ltb _ _ h.first,
                (
                  lt→ltb _ _ h.last,
                  (
                    lt→ltb _ _ h.use_limit,
                    (
                      lt→ltb _ _ h.uses,
                      (
                        lt→ltb _ _ h.creation_limit,
                        (
                          lt→ltb _ _ h.creations,
                          (
                            lt→ltb _ _ h.hop_limit,
                            (
                              lt→ltb _ _ h.hops,
                              (
                                lt→ltb _ _ h.hours,
                                (
                                  lt→ltb _ _ h.places,
                                  (lt→ltb _ _ h.devices, tt),
                                ),
                              ),
                            ),
                          ),
                        ),
                      ),
                    ),
                  ),
                ),
              ),
            ),
          ),
        ),
      ),
    )

module _ (enrolled : ℕ) (roles : List Role) (count : ℕ) (cs : List Capability) (n : ℕ) (c : Capability) where
  pub capability→ : T (capability_keeps enrolled roles count cs n c) → CapabilityRules enrolled roles count cs n c
  unfolding capability_keeps own_keeps all_founded
  capability→ h =
      let own : T (each (own_tests enrolled c)) = each_at (capability_tests enrolled roles count cs n c) h 7 in
      record {
        ranges = ranges→ c (each_at (capability_tests enrolled roles count cs n c) h 0);
        creator_enrolled = each_at (own_tests enrolled c) own 0;
        holders_enrolled = each_at (own_tests enrolled c) own 1;
        lent_founded = λ k l t.
            implies_e (has c.lent k) (role_at roles k).founded (all_below_at 32 _ (each_at (capability_tests enrolled roles count cs n c) h 1) k l) t;
        origin_exists = exists→ roles count c.origin (each_at (capability_tests enrolled roles count cs n c) h 2);
        origin_earlier = earlier→ n c.origin (each_at (capability_tests enrolled roles count cs n c) h 3);
        below_origin = below→ _ _ (each_at (capability_tests enrolled roles count cs n c) h 4);
        life = leb→le _ _ (each_at (own_tests enrolled c) own 2);
        hops_counted = eqb→eq _ _ (each_at (own_tests enrolled c) own 3);
        creations_counted = eqb→eq _ _ (each_at (capability_tests enrolled roles count cs n c) h 5);
        hops_limited = leb→le _ _ (each_at (own_tests enrolled c) own 4);
        creations_limited = leb→le _ _ (each_at (capability_tests enrolled roles count cs n c) h 6);
      }

  pub capability_lean : CapabilityRules enrolled roles count cs n c → CapabilityKept enrolled roles count cs n c
  capability_lean h =
      record {
        placed = earlier← n c.origin h.origin_earlier;
        origin_there = exists← roles count c.origin h.origin_exists;
        fits = h.below_origin;
        creations_counted = h.creations_counted;
        creation_limit = h.creations_limited;
        own =
            record {
              creator = h.creator_enrolled;
              holders = h.holders_enrolled;
              life = h.life;
              hops = h.hops_counted;
              hop_limit = h.hops_limited;
              uses = h.ranges.uses;
            };
      }

  pub capability← : CapabilityRanges c → ((k : ℕ) → T (has c.lent k) → T (role_at roles k).founded) → CapabilityKept enrolled roles count cs n c → T (capability_keeps enrolled roles count cs n c)
  unfolding capability_keeps own_keeps all_founded
  capability← ranges founded h =
      each← (capability_tests enrolled roles count cs n c) (
        ranges← c ranges,
        (
          all_below_i 32 _ (λ k l. implies_i (has c.lent k) (role_at roles k).founded (founded k)),
          (
            h.origin_there,
            (
              h.placed,
              (
                below← _ _ h.fits,
                (
                  eq→eqb _ _ h.creations_counted,
                  (
                    le→leb _ _ h.creation_limit,
                    (
                      each← (own_tests enrolled c)
                          (h.own.creator, (h.own.holders, (le→leb _ _ h.own.life, (eq→eqb _ _ h.own.hops, (le→leb _ _ h.own.hop_limit, tt))))),
                      tt,
                    ),
                  ),
                ),
              ),
            ),
          ),
        ),
      )

-- ---- sessions

module _ (enrolled : ℕ) (roles : List Role) (count : ℕ) (cs : List Capability) (s : Session) where
  pub session→ : T (each (session_tests enrolled roles count cs s)) → SessionRules enrolled roles count cs s
  unfolding in_context admitted
  session→ h =
      let e : Each (session_tests enrolled roles count cs s) = each→ (session_tests enrolled roles count cs s) h in
      let at : Each (ltb s.hour 24 ∷ ltb s.place 16 ∷ ltb s.device 16 ∷ []) = each→ (ltb s.hour 24 ∷ ltb s.place 16 ∷ ltb s.device 16 ∷ []) e.1.1.0 in
      let admits : Each (admitted_tests (terms roles cs s.on) (opened_in s)) = each→ (admitted_tests (terms roles cs s.on) (opened_in s)) e.1.1.1.1.1.0 in
      record {
        user = ltb→lt _ _ e.0;
        on_range = origin→ s.on e.1.0;
        hour = ltb→lt _ _ at.0;
        place = ltb→lt _ _ at.1.0;
        device = ltb→lt _ _ at.1.1.0;
        user_enrolled = e.1.1.1.0;
        on_exists = exists→ roles count s.on e.1.1.1.1.0;
        context_admitted = record { hours = admits.0; places = admits.1.0; devices = admits.1.1.0 };
      }

  pub session← : SessionRules enrolled roles count cs s → T (each (session_tests enrolled roles count cs s))
  unfolding in_context admitted
  session← h =
      each← (session_tests enrolled roles count cs s) (
        lt→ltb _ _ h.user,
        (
          origin← s.on h.on_range,
          (
            each← (ltb s.hour 24 ∷ ltb s.place 16 ∷ ltb s.device 16 ∷ []) (lt→ltb _ _ h.hour, (lt→ltb _ _ h.place, (lt→ltb _ _ h.device, tt))),
            (
              h.user_enrolled,
              (
                exists← roles count s.on h.on_exists,
                (
                  each← (admitted_tests (terms roles cs s.on) (opened_in s)) (h.context_admitted.hours, (h.context_admitted.places, (h.context_admitted.devices, tt))),
                  tt,
                ),
              ),
            ),
          ),
        ),
      )

pub session-blank→ : (s : Session) → T (not s.active) → T (session_blank s) → s ≡ blank_session
unfolding session_blank
session-blank→ s off h =
    λ i.
    record {
      active = T→false s.active off i;
      user = eqb→eq s.user 0 (each_at (session_blank_tests s) h 0) i;
      on = role_zero s.on (each_at (session_blank_tests s) h 1) i;
      hour = eqb→eq s.hour 0 (each_at (session_blank_tests s) h 2) i;
      place = eqb→eq s.place 0 (each_at (session_blank_tests s) h 3) i;
      device = eqb→eq s.device 0 (each_at (session_blank_tests s) h 4) i;
    }

pub session-blank← : (s : Session) → s ≡ blank_session → T (session_blank s)
unfolding session_blank
session-blank← s e = subst (λ (x : Session). T (session_blank x)) (sym e) tt

-- ---- roles not founded

pub role-blank→ : (x : Role) → T (not x.founded) → T (role_blank x) → x ≡ blank_role
unfolding role_blank
role-blank→ x off h =
    λ i.
    record {
      founded = T→false x.founded off i;
      domain = eqb→eq x.domain 0 (each_at (role_blank_tests x) h 0) i;
      permissions = eqb→eq x.permissions 0 (each_at (role_blank_tests x) h 1) i;
      hours = eqb→eq x.hours 0 (each_at (role_blank_tests x) h 2) i;
      places = eqb→eq x.places 0 (each_at (role_blank_tests x) h 3) i;
      devices = eqb→eq x.devices 0 (each_at (role_blank_tests x) h 4) i;
      appointed = eqb→eq x.appointed 0 (each_at (role_blank_tests x) h 5) i;
    }

pub role-blank← : (x : Role) → x ≡ blank_role → T (role_blank x)
unfolding role_blank
role-blank← x e = subst (λ (y : Role). T (role_blank y)) (sym e) tt
