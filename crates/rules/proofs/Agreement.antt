-- The rules over what the sweep reads are the rules of the register, thing by thing.
use mathlib.Core.Path.{◌≡◌, refl, ap, ap₂, ◌∙◌}
use mathlib.Core.Bool.{Bool, true, cond, ◌&&◌}
use mathlib.Core.List.{List, [], ◌∷◌}
use Prim.Native.Nat.{ℕ, ◌%◌, ◌^◌, ◌<◌, ◌≤◌}
use native.Mathlib.Nat.{mod-eq_of_lt}
use borrow.Author.Tests.{lt-ltb, le-ltb, eq-eqb}
use lib.Dec.{T, eqb, leb, ltb, ltb→lt, leb→le}
use lib.ListN.{get_or, length}
use Rattle.masks.specs.Masks.{has, within}
use Rattle.masks.specs.Tests.{each, all_below, all_from, Each}
use Rattle.masks.proofs.Truth.{each_at, from_left, left_each}
use Rattle.model.specs.declared.Origin.{Origin}
use Rattle.model.specs.declared.Origin.TheVariants.{Role as ofRole, Capability as ofCapability}
use Rattle.model.specs.declared.Role.{Role}
use Rattle.model.specs.declared.Capability.{Capability}
use Rattle.model.specs.declared.Session.{Session}
use Rattle.model.specs.declared.Register.{Register}
use Rattle.model.specs.State.{party, there, Terms, terms, claims, below, exists, opened_in, admitted, in_context, role_at, capability_at, origin_at, session_at, blank_role, blank_capability, blank_session}
use Rattle.model.specs.Lineage.{children}
use Rattle.model.specs.Rules.{is_origin, is_user, is_domain, bits, user_keeps, role_blank, same_domain, role_keeps, capability_blank, range_tests, in_range, all_founded, earlier, own_keeps, capability_keeps, place_keeps, session_blank, session_keeps, well_formed}
use Rattle.origins.specs.declared.authority.RoleColumns.{RoleColumns}
use Rattle.origins.specs.Authority.{Columns}
use Rattle.origins.specs.declared.standing.Party.{Party as PartyRead}
use Rattle.origins.specs.Standing.{standing}
use Rattle.origins.specs.Terms.{slot_terms, column_terms}
use Rattle.entries.specs.Limits.{role_keeps_with, place_with, session_keeps_with}
use Rattle.entries.specs.declared.capability.Known.{Known}
use Rattle.rules.specs.Columns.{masked, is_founded, in_domain, BlankFrom, KnownOf}
use Rattle.rules.specs.Parties.{PartyAt}
use Rattle.rules.proofs.Laws.{all_below_lem, all_rest, each_under, within-masked}

-- ---- origins

pub there-exists : (r : Register) (o : Origin) {p : PartyRead} → PartyAt r o p → T (is_origin o) → there r.count (standing p) ≡ exists r.roles r.count o
unfolding exists
there-exists r o at ranged = ap (there r.count) (at.stands ranged) ∙ same o
  where
    same : (x : Origin) → there r.count (party r.roles r.capabilities x) ≡ exists r.roles r.count x
    same (ofRole k) = refl
    same (ofCapability n) = refl

-- ---- a role; users has the users of each domain

pub role_agrees : (enrolled : ℕ) (domains users : List ℕ) (k : ℕ) (x : Role) → ((d : ℕ) → d < 8 → get_or users d 0 ≡ masked (in_domain domains d) 64)
    → role_keeps_with enrolled (get_or users (x.domain % 8) 0) x ≡ role_keeps enrolled domains k x
unfolding role_keeps same_domain
role_agrees enrolled domains users k x column =
    ap (λ (b : Bool). cond x.founded b (role_blank x)) (each_under before (within x.appointed (get_or users (x.domain % 8) 0) ∷ []) (same_domain domains x ∷ []) agree)
  where
    before : List Bool
    before =
        is_domain x.domain
        ∷ bits 32 x.permissions
        ∷ bits 24 x.hours
        ∷ bits 16 x.places
        ∷ bits 16 x.devices
        ∷ bits 64 x.appointed
        ∷ within x.appointed enrolled
        ∷ []

    agree : Each before → each (within x.appointed (get_or users (x.domain % 8) 0) ∷ []) ≡ each (same_domain domains x ∷ [])
    agree h =
        let l : x.domain < 8 = ltb→lt x.domain 8 h.0 in
        ap (λ (b : Bool). b && true)
        (ap (within x.appointed) (ap (λ (d : ℕ). get_or users d 0) (mod-eq_of_lt l) ∙ column x.domain l)
        ∙ within-masked (in_domain domains x.domain) 64 x.appointed (ltb→lt _ _ h.1.1.1.1.1.0))

-- ---- a capability

pub place_agrees : (r : Register) (k : Known) (n made : ℕ) (column : RoleColumns) (p : PartyRead) (known : Bool) (u : Terms)
    → PartyAt r (origin_at r.capabilities n) p
    → KnownOf k r
    → Columns column r.roles
    → known ≡ there r.count (standing p)
    → u ≡ column_terms column p.origin p.role.now p.capability.now
    → made ≡ children r.count r.capabilities n
    → place_with k.enrolled k.founded k.count n known u made (capability_at r.capabilities n) ≡ place_keeps r.enrolled r.roles r.count r.capabilities n (capability_at r.capabilities n)
unfolding place_with place_keeps capability_keeps in_range all_founded
place_agrees r k n made column p known u at at-k at-column at-known at-u at-made =
    rw (at-k.enrolled, at-k.count)
    (ap
    (λ (b : Bool). cond (ltb n r.count) b (capability_blank c))
    (each_under (in_range c ∷ []) (rest (within c.lent k.founded) known u made) (rest (all_founded r.roles c.lent) (exists r.roles r.count c.origin) (terms r.roles r.capabilities c.origin) (children r.count r.capabilities n)) agree))
  where
    c : Capability
    c = capability_at r.capabilities n

    rest : Bool → Bool → Terms → ℕ → List Bool
    rest a b t m =
        a ∷ b ∷ earlier n c.origin ∷ below (claims c) t ∷ eqb c.creations m ∷ leb c.creations c.creation_limit ∷ own_keeps r.enrolled c ∷ []

    agree : Each (in_range c ∷ [])
        → each (rest (within c.lent k.founded) known u made) ≡ each (rest (all_founded r.roles c.lent) (exists r.roles r.count c.origin) (terms r.roles r.capabilities c.origin) (children r.count r.capabilities n))
    agree h =
        let named : T (is_origin c.origin) = each_at (range_tests c) h.0 0 in
        ap₂ (λ (a b : Bool). each (rest a b u made))
        (ap (within c.lent) at-k.founded ∙ within-masked (is_founded r.roles) 32 c.lent (ltb→lt _ _ (each_at (range_tests c) h.0 3)))
        (at-known ∙ there-exists r c.origin at named)
        ∙ ap₂ (λ (t : Terms) (m : ℕ). each (rest (all_founded r.roles c.lent) (exists r.roles r.count c.origin) t m))
        (at-u ∙ at.allows column named at-column)
        at-made

-- ---- a session

pub session_agrees : (r : Register) (n grants lendable : ℕ) (s : Session) (p : PartyRead) (known : Bool) (u : Terms)
    → PartyAt r s.on p
    → known ≡ there r.count (standing p)
    → u ≡ slot_terms p.origin p.role.now p.capability.now grants lendable
    → session_keeps_with r.enrolled known u s ≡ session_keeps r.enrolled r.roles r.count r.capabilities n s
unfolding session_keeps_with session_keeps
session_agrees r n grants lendable s p known u at at-known at-u =
    ap (λ (b : Bool). cond s.active b (session_blank s)) (each_under before (rest known u) (rest (exists r.roles r.count s.on) (terms r.roles r.capabilities s.on)) agree)
  where
    before : List Bool
    before = is_user s.user ∷ is_origin s.on ∷ in_context (opened_in s) ∷ has r.enrolled s.user ∷ []

    rest : Bool → Terms → List Bool
    rest a t = a ∷ admitted t (opened_in s) ∷ []

    agree : Each before → each (rest known u) ≡ each (rest (exists r.roles r.count s.on) (terms r.roles r.capabilities s.on))
    agree h =
        ap₂ (λ (a b : Bool). each (a ∷ b ∷ []))
        (at-known ∙ there-exists r s.on at h.1.0)
        (ap (λ (t : Terms). admitted t (opened_in s)) at-u ∙ at.admits grants lendable (opened_in s) h.1.0)

-- ---- the register

-- places that are known to be blank keep the rules
pub blank_rest : (r : Register) (b : ℕ) → b ≤ 256 → BlankFrom r b
    → all_below b (λ n. place_keeps r.enrolled r.roles r.count r.capabilities n (capability_at r.capabilities n))
    ≡ all_below 256 (λ n. place_keeps r.enrolled r.roles r.count r.capabilities n (capability_at r.capabilities n))
unfolding place_keeps capability_blank
blank_rest r b l h = all_rest b 256 _ l (λ n g k. rw (le-ltb n r.count (h n g k).0, (h n g k).1))

pub register_agrees : (r : Register) (users roles capabilities sessions : Bool) → r.clock < 2 ^ 32
    → r.enrolled < 2 ^ 64
    → length r.domains ≡ 64
    → length r.roles ≡ 32
    → length r.capabilities ≡ 256
    → length r.sessions ≡ 64
    → users ≡ all_below 64 (λ u. user_keeps r.enrolled u (get_or r.domains u 0))
    → roles ≡ all_below 32 (λ k. role_keeps r.enrolled r.domains k (role_at r.roles k))
    → (r.count ≤ 256 → capabilities ≡ all_below 256 (λ n. place_keeps r.enrolled r.roles r.count r.capabilities n (capability_at r.capabilities n)))
    → sessions ≡ all_below 64 (λ n. session_keeps r.enrolled r.roles r.count r.capabilities n (session_at r.sessions n))
    → from_left (leb r.count 256 ∷ users ∷ roles ∷ capabilities ∷ sessions ∷ []) ≡ well_formed r
unfolding well_formed
register_agrees r users roles capabilities sessions lk le la lb lc ld at-users at-roles at-capabilities at-sessions =
    left_each (leb r.count 256 ∷ users ∷ roles ∷ capabilities ∷ sessions ∷ [])
    ∙ each_under (leb r.count 256 ∷ []) (users ∷ roles ∷ capabilities ∷ sessions ∷ []) after agree
    ∙ rw (lt-ltb r.clock (2 ^ 32) lk, lt-ltb r.enrolled (2 ^ 64) le, eq-eqb _ _ la, eq-eqb _ _ lb, eq-eqb _ _ lc, eq-eqb _ _ ld)
  where
    after : List Bool
    after =
        all_from (user_keeps r.enrolled) 0 r.domains
        ∷ all_from (role_keeps r.enrolled r.domains) 0 r.roles
        ∷ all_from (place_keeps r.enrolled r.roles r.count r.capabilities) 0 r.capabilities
        ∷ all_from (session_keeps r.enrolled r.roles r.count r.capabilities) 0 r.sessions
        ∷ []

    agree : Each (leb r.count 256 ∷ []) → each (users ∷ roles ∷ capabilities ∷ sessions ∷ []) ≡ each after
    agree h =
        ap₂ ◌&&◌ (at-users ∙ all_below_lem (user_keeps r.enrolled) r.domains 0 64 la)
        (ap₂ ◌&&◌ (at-roles ∙ all_below_lem (role_keeps r.enrolled r.domains) r.roles blank_role 32 lb)
        (ap₂ ◌&&◌ (at-capabilities (leb→le _ _ h.0) ∙ all_below_lem (place_keeps r.enrolled r.roles r.count r.capabilities) r.capabilities blank_capability 256 lc)
        (ap (λ (b : Bool). b && true) (at-sessions ∙ all_below_lem (session_keeps r.enrolled r.roles r.count r.capabilities) r.sessions blank_session 64 ld))))
