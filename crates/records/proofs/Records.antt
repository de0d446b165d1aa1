-- Roles, sessions and capabilities in their ranges are read again as they were written.
use mathlib.Core.Path.{◌≡◌, refl, sym, ap, ◌∙◌}
use mathlib.Core.Bool.{Bool, true, false}
use mathlib.Core.List.{List, [], ◌∷◌, ◌++◌, append_assoc}
use Prim.Native.Nat.{ℕ, zero, suc, ◌+◌, ◌*◌, ◌^◌, ◌≤◌, ◌<◌}
use native.Mathlib.Numerals.{add-one}
use native.Mathlib.Omega.{arith}
use lib.Dec.{T, eqb}
use lib.ListN.{length, take, drop, get_or, length-append, drop_of_length-le}
use lib.Seq.{drop_at, drop-cons, get_or-take, length-take-le}
use Rattle.masks.specs.Bytes.{bytes_of, number_of, first_bytes}
use Rattle.masks.proofs.Truth.{T→true}
use Rattle.model.specs.declared.Origin.{Origin}
use Rattle.model.specs.declared.Origin.TheVariants.{Role as ofRole, Capability as ofCapability}
use Rattle.model.specs.declared.Role.{Role}
use Rattle.model.specs.declared.Capability.{Capability}
use Rattle.model.specs.declared.Session.{Session}
use Rattle.model.specs.State.{blank_capability}
use Rattle.model.specs.Invariant.{OriginInRange, RoleRules, CapabilityRanges, SessionRules}
use Rattle.model.specs.Fields.{kind_of, index_of, origin_of, bit, read_all, write_all, field_map, read_present, write_present, role_codings, role_fields, write_role, role_of, read_role, session_codings, session_fields, write_session, session_of, read_session, head_codings, head_fields, capability_codings, capability_fields, write_capability, capability_of, read_head, read_capability, capability_length}
use Rattle.model.specs.Image.{write_capabilities, read_capabilities, after_capabilities}
use Rattle.fields.specs.Codes.{Fitting}
use Rattle.fields.proofs.Numbers.{number_back}
use Rattle.fields.proofs.Fields.{Fits, Pairs, total, all_back, present_back, present_length_lem, present_small, map_small}

-- a is read again as it was written
abbrev pub Good : {A : Type 0} → (A → List ℕ) → (List ℕ → A) → A → Type 0
Good write read a = (rest : List ℕ) → read (write a ++ rest) ≡ a

-- ---- a domain byte

pub domain_good : (d : ℕ) → d < 8 → Good (bytes_of 1) (λ t. number_of (first_bytes 1 t)) d
domain_good d h rest = number_back 1 d rest (omega arith)

-- ---- a role

role_fits : (enrolled : ℕ) (domains : List ℕ) (x : Role) → RoleRules enrolled domains x → Pairs Fits role_codings (role_fields x)
unfolding role_codings role_fields
role_fits enrolled domains x h =
    let d : x.domain < 256 = omega (arith, h.domain) in
    (d, (h.permissions, (h.hours, (h.places, (h.devices, (h.appointed, tt))))))

abbrev founded_as : Role → Bool → Role
founded_as x b =
    record {
      founded = b;
      domain = x.domain;
      permissions = x.permissions;
      hours = x.hours;
      places = x.places;
      devices = x.devices;
      appointed = x.appointed;
    }

role_same : (x : Role) → x.founded ≡ true → role_of (role_fields x) ≡ x
unfolding role_of role_fields
role_same x e = ap (founded_as x) (sym e)

pub role_good : (enrolled : ℕ) (domains : List ℕ) (x : Role) → T x.founded → RoleRules enrolled domains x → Good write_role read_role x
unfolding write_role read_role
role_good enrolled domains x f h rest =
    ap role_of (all_back role_codings (role_fields x) rest (role_fits enrolled domains x h)) ∙ role_same x (T→true x.founded f)

pub role_size : (x : Role) → length (write_role x) ≡ 20
unfolding write_role role_codings role_fields
role_size x = refl

-- ---- an origin

origin_back : (o : Origin) → origin_of (kind_of o) (index_of o) ≡ o
origin_back (ofRole k) = refl
origin_back (ofCapability n) = refl

pub origin_capability : (k n : ℕ) → (k ≡ 0 → ⊥) → origin_of k n ≡ ofCapability n
origin_capability zero n h = absurd (h refl)
origin_capability (suc k) n h = refl

kind_small : (o : Origin) → kind_of o < 256
kind_small (ofRole k) = omega arith
kind_small (ofCapability n) = omega arith

index_small : (o : Origin) → OriginInRange o → index_of o < 256
index_small (ofRole k) h = omega arith
index_small (ofCapability n) h = h

-- ---- a session

abbrev session_as : Session → Bool → Origin → Session
session_as s b o =
    record { active = b; user = s.user; on = o; hour = s.hour; place = s.place; device = s.device }

module _ (enrolled : ℕ) (roles : List Role) (count : ℕ) (cs : List Capability) (s : Session) (h : SessionRules enrolled roles count cs s) where
  session_fits : Pairs Fits session_codings (session_fields s)
  unfolding session_codings session_fields
  session_fits =
      let u : s.user < 256 = omega (arith, h.user) in
      let a : s.hour < 256 = omega (arith, h.hour) in
      let b : s.place < 256 = omega (arith, h.place) in
      let d : s.device < 256 = omega (arith, h.device) in
      (u, (kind_small s.on, (index_small s.on h.on_range, (a, (b, (d, tt))))))

  session_same : s.active ≡ true → session_of (session_fields s) ≡ s
  unfolding session_of session_fields
  session_same e = ap (session_as s true) (origin_back s.on) ∙ ap (λ (b : Bool). session_as s b s.on) (sym e)

  pub session_good : T s.active → Good write_session read_session s
  unfolding write_session read_session
  session_good f rest =
      ap session_of (all_back session_codings (session_fields s) rest session_fits) ∙ session_same (T→true s.active f)

pub session_size : (s : Session) → length (write_session s) ≡ 6
unfolding write_session session_codings session_fields
session_size s = refl

-- ---- a capability

bit_test : (b : Bool) → eqb (bit b) 1 ≡ b
bit_test true = refl
bit_test false = refl

bit_small : (b : Bool) → bit b < 2
bit_small true = omega arith
bit_small false = omega arith

capability_same : (c : Capability) → capability_of (head_fields c) (capability_fields c) ≡ c
unfolding capability_of head_fields capability_fields
capability_same c = rw (origin_back c.origin, bit_test c.revoked)

pub head_size : (c : Capability) → length (write_all head_codings (head_fields c)) ≡ 5
unfolding head_codings head_fields
head_size c = refl

fields_total : total capability_codings ≡ 43
unfolding total capability_codings
fields_total = refl

map_fits : (c : Capability) → field_map (capability_fields c) < 256 ^ 2
unfolding capability_fields
map_fits c = omega (arith, map_small (capability_fields c))

module _ (c : Capability) (h : CapabilityRanges c) where
  head_fits : Pairs Fits head_codings (head_fields c)
  unfolding head_codings head_fields
  head_fits =
      let u : c.creator < 256 = omega (arith, h.creator) in
      (kind_small c.origin, (index_small c.origin h.origin, (u, (map_fits c, tt))))

  fields_fit : Pairs Fitting capability_codings (capability_fields c)
  unfolding capability_codings capability_fields
  fields_fit =
      (h.permissions, (h.lent, (h.holders, (h.first, (h.last, (h.use_limit, (h.uses, (h.creation_limit, (h.creations, (h.hop_limit, (h.hops, (h.hours, (h.places, (h.devices, (bit_small c.revoked, tt)))))))))))))))

  module _ (rest : List ℕ) where
    more : List ℕ
    more = write_present capability_codings (capability_fields c) ++ rest

    split : write_capability c ++ rest ≡ write_all head_codings (head_fields c) ++ more
    unfolding write_capability more
    split = append_assoc (write_all head_codings (head_fields c)) (write_present capability_codings (capability_fields c)) rest

    pub head_back : read_head (write_capability c ++ rest) ≡ head_fields c
    unfolding read_head
    head_back = ap (read_all head_codings) split ∙ all_back head_codings (head_fields c) more head_fits

    pub map_back : get_or (read_head (write_capability c ++ rest)) 3 0 ≡ field_map (capability_fields c)
    unfolding head_fields
    map_back = ap (λ (l : List ℕ). get_or l 3 0) head_back

    head_drop : drop 5 (write_capability c ++ rest) ≡ more
    head_drop = ap (drop 5) split ∙ drop_at (write_all head_codings (head_fields c)) more 5 (head_size c)

    pub fields_back : read_present (get_or (read_head (write_capability c ++ rest)) 3 0) capability_codings (drop 5 (write_capability c ++ rest)) ≡ capability_fields c
    unfolding more
    fields_back = rw (map_back, head_drop) (present_back capability_codings (capability_fields c) rest fields_fit)

    pub capability_back : read_capability (write_capability c ++ rest) ≡ c
    unfolding read_capability
    capability_back = rw (fields_back, head_back) (capability_same c)

    pub capability-length : capability_length (write_capability c ++ rest) ≡ length (write_capability c)
    unfolding capability_length write_capability
    capability-length =
        rw (map_back, length-append)
        (omega (arith, head_size c, present_length_lem capability_codings (capability_fields c)))

pub capability_small : (c : Capability) → length (write_capability c) ≤ 48
unfolding write_capability
capability_small c =
    rw length-append
    (omega (arith, head_size c, present_small capability_codings (capability_fields c), fields_total))

-- ---- capabilities one after another

abbrev pub AllInRange : List Capability → Type 0
AllInRange [] = Unit {0}
AllInRange (c ∷ cs) = CapabilityRanges c × AllInRange cs

pub in_range_lem : (cs : List Capability) (d : Capability) → ((n : ℕ) → n < length cs → CapabilityRanges (get_or cs n d)) → AllInRange cs
in_range_lem [] d f = tt
in_range_lem (c ∷ cs) d f = (f 0 (omega arith), in_range_lem cs d (λ n h. f (suc n) (omega arith)))

pub capabilities_back : (cs : List Capability) (rest : List ℕ) → AllInRange cs → read_capabilities (length cs) (write_capabilities cs ++ rest) ≡ cs
capabilities_back [] rest h = refl
capabilities_back (c ∷ cs) rest h =
    let s : List ℕ = write_capabilities cs ++ rest in
    rw (append_assoc (write_capability c) (write_capabilities cs) rest, capability_back c h.0 s, drop_at (write_capability c) s (capability_length (write_capability c ++ s)) (sym (capability-length c h.0 s)))
    (ap (λ (l : List Capability). c ∷ l) (capabilities_back cs rest h.1))

pub capabilities_after : (cs : List Capability) (rest : List ℕ) → AllInRange cs → after_capabilities (length cs) (write_capabilities cs ++ rest) ≡ rest
capabilities_after [] rest h = refl
capabilities_after (c ∷ cs) rest h =
    let s : List ℕ = write_capabilities cs ++ rest in
    ap (after_capabilities (suc (length cs))) (append_assoc (write_capability c) (write_capabilities cs) rest)
    ∙ ap (after_capabilities (length cs)) (drop_at (write_capability c) s (capability_length (write_capability c ++ s)) (sym (capability-length c h.0 s)))
    ∙ capabilities_after cs rest h.1

pub capabilities_small : (cs : List Capability) → length (write_capabilities cs) ≤ 48 * length cs
capabilities_small [] = omega arith
capabilities_small (c ∷ cs) = rw length-append (omega (arith, capability_small c, capabilities_small cs))

-- of the first n, those from i on are number i and then the rest
pub capabilities_step : (n : ℕ) (cs : List Capability) (i : ℕ) → i < n → n ≤ length cs
    → write_capabilities (drop i (take n cs)) ≡ write_capability (get_or cs i blank_capability) ++ write_capabilities (drop (i + 1) (take n cs))
capabilities_step n cs i h k =
    let lt : i < length (take n cs) = rw length-take-le h in
    ap write_capabilities (drop-cons (take n cs) i blank_capability lt) ∙ rw (add-one, get_or-take)

pub capabilities_done : (n : ℕ) (cs : List Capability) (i : ℕ) → n ≤ i → n ≤ length cs → write_capabilities (drop i (take n cs)) ≡ []
capabilities_done n cs i h k =
    let le : length (take n cs) ≤ i = rw length-take-le h in
    ap write_capabilities (drop_of_length-le (take n cs) le)
