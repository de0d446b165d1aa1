-- A register that keeps the rules is read again from its image.
use mathlib.Core.Path.{◌≡◌, refl, sym, ap, ◌∙◌}
use mathlib.Core.List.{List, [], ◌++◌, append-nil}
use Prim.Native.Nat.{ℕ, ◌+◌, ◌-◌, ◌^◌, ◌≤◌, ◌<◌, min}
use native.Mathlib.Nat.{min-eq_right}
use native.Mathlib.Omega.{arith}
use lib.Dec.{T}
use lib.ListN.{length, take, drop, get_or, replicate, length-append, length-drop, length-replicate, get_or-replicate, take-append-drop}
use lib.Seq.{drop_at, length-take-le, get_or-take, get_or-drop, ext_get_or}
use Rattle.masks.specs.Bytes.{bytes_of, number_of, map_bytes, first_bytes}
use Rattle.model.specs.declared.Role.{Role}
use Rattle.model.specs.declared.Capability.{Capability}
use Rattle.model.specs.declared.Session.{Session}
use Rattle.model.specs.declared.Register.{Register}
use Rattle.model.specs.State.{blank_role, blank_capability, blank_session}
use Rattle.model.specs.Rules.{well_formed}
use Rattle.model.specs.Invariant.{WellFormed}
use Rattle.model.specs.Fields.{write_role, read_role, write_session, read_session}
use Rattle.model.specs.Image.{write_chosen, write_capabilities, read_chosen, read_capabilities, after_capabilities, after_chosen, map_at, founded_roles, active_sessions, encode, decode}
use Rattle.model.proofs.Rules.{formed→}
use Rattle.fields.proofs.Numbers.{length-bytes, length-map, number_back}
use Rattle.records.proofs.Records.{domain_good, role_good, role_size, session_good, session_size, AllInRange, in_range_lem, capabilities_back, capabilities_after}
use Rattle.encoding.proofs.Turns.{where_small}
use Rattle.decoding.specs.Exact.{read_domain}
use Rattle.decoding.proofs.Decoding.{register_of, same_register}
use Rattle.image.proofs.Sections.{Kept, kept, Section, section_back, has_where}

-- ---- the sections of an image, each with all that follows it

module _ (r : Register) where
  abbrev pub sessions_part : List ℕ
  sessions_part = map_bytes 8 (active_sessions r.sessions) ++ write_chosen write_session (active_sessions r.sessions) r.sessions

  abbrev pub created : List Capability
  created = take r.count r.capabilities

  abbrev pub capabilities_part : List ℕ
  capabilities_part = bytes_of 2 r.count ++ (write_capabilities created ++ sessions_part)

  abbrev pub roles_part : List ℕ
  roles_part = map_bytes 4 (founded_roles r.roles) ++ (write_chosen write_role (founded_roles r.roles) r.roles ++ capabilities_part)

  abbrev pub users_part : List ℕ
  users_part = map_bytes 8 r.enrolled ++ (write_chosen (bytes_of 1) r.enrolled r.domains ++ roles_part)

module _ (r : Register) (h : WellFormed r) where
  pub users : Section 0 (bytes_of 1) read_domain 1 (length-bytes 1) 8 64 r.enrolled r.domains (roles_part r) (users_part r)
  users =
      section_back 0 (bytes_of 1) read_domain 1 (length-bytes 1) 8 64 r.enrolled r.domains (roles_part r) (users_part r) refl h.user_places h.enrolled
      (kept 0 (bytes_of 1) read_domain r.enrolled r.domains 0
      (λ u l t. domain_good (get_or r.domains u 0) (h.users u (omega (arith, h.user_places)) t))
      (λ u l t. h.users_blank u (omega (arith, h.user_places)) t))

  roles_kept : Kept blank_role write_role read_role (founded_roles r.roles) r.roles
  unfolding founded_roles
  roles_kept =
      kept blank_role write_role read_role (founded_roles r.roles) r.roles blank_role
      (λ k l t. let f = rw (has_where (λ (x : Role). x.founded) r.roles blank_role k l) at t in
      role_good r.enrolled r.domains (get_or r.roles k blank_role) f (h.roles k (omega (arith, h.role_places)) f))
      (λ k l t. h.roles_blank k (omega (arith, h.role_places)) (rw (has_where (λ (x : Role). x.founded) r.roles blank_role k l) at t))

  roles_small : founded_roles r.roles < 256 ^ 4
  unfolding founded_roles
  roles_small =
      let e : 2 ^ length r.roles ≡ 2 ^ 32 = ap (λ (n : ℕ). 2 ^ n) h.role_places in
      omega (arith, where_small (λ (x : Role). x.founded) r.roles)

  pub roles : Section blank_role write_role read_role 20 role_size 4 32 (founded_roles r.roles) r.roles (capabilities_part r) (roles_part r)
  roles =
      section_back blank_role write_role read_role 20 role_size 4 32 (founded_roles r.roles) r.roles (capabilities_part r) (roles_part r) refl h.role_places roles_small roles_kept

  sessions_kept : Kept blank_session write_session read_session (active_sessions r.sessions) r.sessions
  unfolding active_sessions
  sessions_kept =
      kept blank_session write_session read_session (active_sessions r.sessions) r.sessions blank_session
      (λ k l t. let f = rw (has_where (λ (s : Session). s.active) r.sessions blank_session k l) at t in
      session_good r.enrolled r.roles r.count r.capabilities (get_or r.sessions k blank_session) (h.sessions k (omega (arith, h.session_places)) f) f)
      (λ k l t. h.sessions_blank k (omega (arith, h.session_places)) (rw (has_where (λ (s : Session). s.active) r.sessions blank_session k l) at t))

  sessions_small : active_sessions r.sessions < 256 ^ 8
  unfolding active_sessions
  sessions_small =
      let e : 2 ^ length r.sessions ≡ 2 ^ 64 = ap (λ (n : ℕ). 2 ^ n) h.session_places in
      omega (arith, where_small (λ (s : Session). s.active) r.sessions)

  pub sessions : Section blank_session write_session read_session 6 session_size 8 64 (active_sessions r.sessions) r.sessions [] (sessions_part r)
  sessions =
      section_back blank_session write_session read_session 6 session_size 8 64 (active_sessions r.sessions) r.sessions [] (sessions_part r)
      (ap (λ (l : List ℕ). map_bytes 8 (active_sessions r.sessions) ++ l) (sym (append-nil (write_chosen write_session (active_sessions r.sessions) r.sessions))))
      h.session_places sessions_small sessions_kept

  -- ---- the capabilities

  pub amount : length (created r) ≡ r.count
  amount = length-take-le r.count r.capabilities (omega (arith, h.count, h.capability_places))

  pub ranges : AllInRange (created r)
  ranges =
      in_range_lem (created r) blank_capability
      (λ n l. let k : n < r.count = omega (arith, amount) in
      rw (get_or-take r.count r.capabilities n blank_capability k) (h.capabilities n k).ranges)

  blank_rest : drop r.count r.capabilities ≡ replicate (256 - r.count) blank_capability
  blank_rest =
      ext_get_or blank_capability (drop r.count r.capabilities) (replicate (256 - r.count) blank_capability)
      (rw (length-drop, length-replicate, h.capability_places))
      (λ i l. let k : i < 256 - r.count = omega (arith, length-drop r.count r.capabilities, h.capability_places) in
      get_or-drop r.count r.capabilities i blank_capability
      ∙ h.capabilities_blank (r.count + i) (omega arith) (omega arith)
      ∙ sym (get_or-replicate (256 - r.count) i blank_capability blank_capability k))

  pub count_back : number_of (first_bytes 2 (capabilities_part r)) ≡ r.count
  count_back = number_back 2 r.count (write_capabilities (created r) ++ sessions_part r) (omega (arith, h.count))

  pub few : min 256 r.count ≡ r.count
  few = min-eq_right h.count

  pub count_drop : drop 2 (capabilities_part r) ≡ write_capabilities (created r) ++ sessions_part r
  count_drop = drop_at (bytes_of 2 r.count) (write_capabilities (created r) ++ sessions_part r) 2 (length-bytes 2 r.count)

  created_back : read_capabilities r.count (drop 2 (capabilities_part r)) ≡ created r
  created_back =
      ap (read_capabilities r.count) count_drop
      ∙ ap (λ (n : ℕ). read_capabilities n (write_capabilities (created r) ++ sessions_part r)) (sym amount)
      ∙ capabilities_back (created r) (sessions_part r) ranges

  capabilities_again : read_capabilities r.count (drop 2 (capabilities_part r)) ++ replicate (256 - r.count) blank_capability ≡ r.capabilities
  capabilities_again =
      ap (λ (l : List Capability). l ++ replicate (256 - r.count) blank_capability) created_back
      ∙ ap (λ (l : List Capability). created r ++ l) (sym blank_rest)
      ∙ take-append-drop r.count r.capabilities

  pub created_after : after_capabilities r.count (drop 2 (capabilities_part r)) ≡ sessions_part r
  created_after =
      ap (after_capabilities r.count) count_drop
      ∙ ap (λ (n : ℕ). after_capabilities n (write_capabilities (created r) ++ sessions_part r)) (sym amount)
      ∙ capabilities_after (created r) (sessions_part r) ranges

-- ---- a register of its parts

-- of the image, and of its parts from the users, from the roles, from the count and from the sessions on; the count, and
-- how many capabilities are read
abbrev pub from_parts : List ℕ → List ℕ → List ℕ → List ℕ → ℕ → ℕ → List ℕ → Register
from_parts s a b d n k e =
    register_of
    (number_of (first_bytes 4 s))
    (map_at 8 a)
    (read_chosen 0 read_domain 1 (map_at 8 a) 64 (drop 8 a))
    (read_chosen blank_role read_role 20 (map_at 4 b) 32 (drop 4 b))
    n
    (read_capabilities k (drop 2 d) ++ replicate (256 - k) blank_capability)
    (read_chosen blank_session read_session 6 (map_at 8 e) 64 (drop 8 e))

abbrev from_count : List ℕ → List ℕ → List ℕ → List ℕ → ℕ → ℕ → Register
from_count s a b d n k = from_parts s a b d n k (after_capabilities k (drop 2 d))

abbrev from_capabilities : List ℕ → List ℕ → List ℕ → List ℕ → Register
from_capabilities s a b d = let n = number_of (first_bytes 2 d) in from_count s a b d n (min 256 n)

pub decode_parts : (s a b d e : List ℕ) (n k : ℕ) → drop 4 s ≡ a → after_chosen 8 1 64 a ≡ b → after_chosen 4 20 32 b ≡ d
    → number_of (first_bytes 2 d) ≡ n → min 256 n ≡ k → after_capabilities k (drop 2 d) ≡ e → decode s ≡ from_parts s a b d n k e
unfolding decode
decode_parts s a b d e n k ea eb ed en em ee =
    ap (λ (u : List ℕ). from_capabilities s u (after_chosen 8 1 64 u) (after_chosen 4 20 32 (after_chosen 8 1 64 u))) ea
    ∙ ap (λ (u : List ℕ). from_capabilities s a u (after_chosen 4 20 32 u)) eb
    ∙ ap (λ (u : List ℕ). from_capabilities s a b u) ed
    ∙ ap (λ (u : ℕ). from_count s a b d u (min 256 u)) en
    ∙ ap (λ (u : ℕ). from_count s a b d n u) em
    ∙ ap (λ (u : List ℕ). from_parts s a b d n k u) ee

-- ---- the round trip

pub decode-encode : (r : Register) → WellFormed r → decode (encode r) ≡ r
unfolding encode
decode-encode r h =
    decode_parts (encode r) (users_part r) (roles_part r) (capabilities_part r) (sessions_part r) r.count r.count
    (drop_at (bytes_of 4 r.clock) (users_part r) 4 (length-bytes 4 r.clock))
    (users r h).after
    (roles r h).after
    (count_back r h)
    (few r h)
    (created_after r h)
    ∙ same_register
    (number_back 4 r.clock (users_part r) h.clock)
    (users r h).mask
    (users r h).items
    (roles r h).items
    (capabilities_again r h)
    (sessions r h).items

pub back : (r : Register) → T (well_formed r) → decode (encode r) ≡ r
back r h = decode-encode r (formed→ r h)

pub image-length : (r : Register) → 26 ≤ length (encode r)
unfolding encode
image-length r =
    simp (length-append, length-map) (omega arith)
