-- Document 01, "The image": how a field is written, the fields of each record, and each record as bytes.
use Rattle.std.specs.Prelude.{Bool, true, false, List, [], ◌∷◌, ◌++◌, ℕ, zero, suc, ◌+◌, ◌*◌, ◌/◌, ◌%◌, eqb, get_or, drop}
use Rattle.masks.specs.Bytes.{bytes_of, number_of, map_bytes, mask_of, first_bytes}
use Rattle.model.specs.declared.Origin.{Origin}
use Rattle.model.specs.declared.Origin.TheVariants.{Role as ofRole, Capability as ofCapability}
use Rattle.model.specs.declared.Role.{Role}
use Rattle.model.specs.declared.Capability.{Capability}
use Rattle.model.specs.declared.Session.{Session}

-- a number of so many bytes, a map of so many bytes, or a mark, which has a bit of the field map and no bytes
pub data Coding : Type 0 where
  plain : ℕ → Coding
  bitmap : ℕ → Coding
  mark : Coding

abbrev pub width : Coding → ℕ
width (plain w) = w
width (bitmap w) = w
width mark = 0

abbrev pub written : Coding → ℕ → List ℕ
written (plain w) v = bytes_of w v
written (bitmap w) v = map_bytes w v
written mark v = []

-- the field at the front of s; bytes that s lacks count as 0
abbrev pub read_field : Coding → List ℕ → ℕ
read_field (plain w) s = number_of (first_bytes w s)
read_field (bitmap w) s = mask_of (first_bytes w s)
read_field mark s = 1

-- ---- all fields, one after another

abbrev pub write_all : List Coding → List ℕ → List ℕ
write_all [] vs = []
write_all (c ∷ cs) [] = []
write_all (c ∷ cs) (v ∷ vs) = written c v ++ write_all cs vs

abbrev pub read_all : List Coding → List ℕ → List ℕ
read_all [] s = []
read_all (c ∷ cs) s = read_field c s ∷ read_all cs (drop (width c) s)

-- ---- "then only the fields whose bit is set, which is exactly when they are not zero"

abbrev pub is_set : ℕ → ℕ
is_set zero = 0
is_set (suc v) = 1

-- bit k is set where field k is not zero
abbrev pub field_map : List ℕ → ℕ
field_map [] = 0
field_map (v ∷ vs) = is_set v + 2 * field_map vs

abbrev pub write_set : Coding → ℕ → List ℕ
write_set c zero = []
write_set c (suc v) = written c (suc v)

abbrev pub write_present : List Coding → List ℕ → List ℕ
write_present [] vs = []
write_present (c ∷ cs) [] = []
write_present (c ∷ cs) (v ∷ vs) = write_set c v ++ write_present cs vs

abbrev pub read_set : ℕ → Coding → List ℕ → ℕ
read_set zero c s = 0
read_set (suc b) c s = read_field c s

-- the fields at the front of s by their map m, and the bytes that they take
abbrev pub read_present : ℕ → List Coding → List ℕ → List ℕ
read_present m [] s = []
read_present m (c ∷ cs) s = read_set (m % 2) c s ∷ read_present (m / 2) cs (drop (m % 2 * width c) s)

abbrev pub present_length : ℕ → List Coding → ℕ
present_length m [] = 0
present_length m (c ∷ cs) = m % 2 * width c + present_length (m / 2) cs

-- ---- "kind (1: 0 role, 1 pass), number (1)"

abbrev pub kind_of : Origin → ℕ
kind_of (ofRole k) = 0
kind_of (ofCapability n) = 1

abbrev pub index_of : Origin → ℕ
index_of (ofRole k) = k
index_of (ofCapability n) = n

abbrev pub origin_of : ℕ → ℕ → Origin
origin_of zero n = ofRole n
origin_of (suc k) n = ofCapability n

-- ---- a role: "domain (1), permissions (4), hours (3), places (2), devices (2), appointed (8, as a map)"

unfoldable pub role_codings : List Coding
role_codings = plain 1 ∷ plain 4 ∷ plain 3 ∷ plain 2 ∷ plain 2 ∷ bitmap 8 ∷ []

unfoldable pub role_fields : Role → List ℕ
role_fields x =
    x.domain ∷ x.permissions ∷ x.hours ∷ x.places ∷ x.devices ∷ x.appointed ∷ []

unfoldable pub write_role : Role → List ℕ
write_role x = write_all role_codings (role_fields x)

unfoldable pub role_of : List ℕ → Role
role_of f =
    record {
      founded = true;
      domain = get_or f 0 0;
      permissions = get_or f 1 0;
      hours = get_or f 2 0;
      places = get_or f 3 0;
      devices = get_or f 4 0;
      appointed = get_or f 5 0;
    }

unfoldable pub read_role : List ℕ → Role
read_role s = role_of (read_all role_codings s)

-- ---- a session: "user (1), kind (1: 0 role, 1 pass), number (1), hour, place, device (1 each)"

unfoldable pub session_codings : List Coding
session_codings = plain 1 ∷ plain 1 ∷ plain 1 ∷ plain 1 ∷ plain 1 ∷ plain 1 ∷ []

unfoldable pub session_fields : Session → List ℕ
session_fields s =
    s.user ∷ kind_of s.on ∷ index_of s.on ∷ s.hour ∷ s.place ∷ s.device ∷ []

unfoldable pub write_session : Session → List ℕ
write_session s = write_all session_codings (session_fields s)

unfoldable pub session_of : List ℕ → Session
session_of f =
    record {
      active = true;
      user = get_or f 0 0;
      on = origin_of (get_or f 1 0) (get_or f 2 0);
      hour = get_or f 3 0;
      place = get_or f 4 0;
      device = get_or f 5 0;
    }

unfoldable pub read_session : List ℕ → Session
read_session s = session_of (read_all session_codings s)

-- ---- a capability: "kind, number, creator (1 each), then a 2-byte map as a number, then only the fields whose bit is set"

unfoldable pub head_codings : List Coding
head_codings = plain 1 ∷ plain 1 ∷ plain 1 ∷ plain 2 ∷ []

-- "0 permissions (4), 1 roles (4), 2 holders (8, as a map), 3 first (4), 4 last (4), 5 to 10 .. (2 each), 11 hours (3),
-- 12 places (2), 13 devices (2). Bit 14 is the revoked mark and has no field"
unfoldable pub capability_codings : List Coding
capability_codings =
    plain 4
    ∷ plain 4
    ∷ bitmap 8
    ∷ plain 4
    ∷ plain 4
    ∷ plain 2
    ∷ plain 2
    ∷ plain 2
    ∷ plain 2
    ∷ plain 2
    ∷ plain 2
    ∷ plain 3
    ∷ plain 2
    ∷ plain 2
    ∷ mark
    ∷ []

abbrev pub bit : Bool → ℕ
bit true = 1
bit false = 0

-- "use limit, uses, creation limit, creations, hop limit, hops" are 5 to 10
unfoldable pub capability_fields : Capability → List ℕ
capability_fields c =
    c.permissions
    ∷ c.lent
    ∷ c.holders
    ∷ c.first
    ∷ c.last
    ∷ c.use_limit
    ∷ c.uses
    ∷ c.creation_limit
    ∷ c.creations
    ∷ c.hop_limit
    ∷ c.hops
    ∷ c.hours
    ∷ c.places
    ∷ c.devices
    ∷ bit c.revoked
    ∷ []

unfoldable pub head_fields : Capability → List ℕ
head_fields c = kind_of c.origin ∷ index_of c.origin ∷ c.creator ∷ field_map (capability_fields c) ∷ []

unfoldable pub write_capability : Capability → List ℕ
write_capability c = write_all head_codings (head_fields c) ++ write_present capability_codings (capability_fields c)

-- a capability of its head and its fields
unfoldable pub capability_of : List ℕ → List ℕ → Capability
capability_of h f =
    record {
      origin = origin_of (get_or h 0 0) (get_or h 1 0);
      creator = get_or h 2 0;
      permissions = get_or f 0 0;
      lent = get_or f 1 0;
      holders = get_or f 2 0;
      first = get_or f 3 0;
      last = get_or f 4 0;
      use_limit = get_or f 5 0;
      uses = get_or f 6 0;
      creation_limit = get_or f 7 0;
      creations = get_or f 8 0;
      hop_limit = get_or f 9 0;
      hops = get_or f 10 0;
      hours = get_or f 11 0;
      places = get_or f 12 0;
      devices = get_or f 13 0;
      revoked = eqb (get_or f 14 0) 1;
    }

unfoldable pub read_head : List ℕ → List ℕ
read_head s = read_all head_codings s

unfoldable pub read_capability : List ℕ → Capability
read_capability s = capability_of (read_head s) (read_present (get_or (read_head s) 3 0) capability_codings (drop 5 s))

unfoldable pub capability_length : List ℕ → ℕ
capability_length s = 5 + present_length (get_or (read_head s) 3 0) capability_codings
