-- Document 01, "The image", and the calls save and load.
use Rattle.std.specs.Prelude.{Bool, true, false, ◌&&◌, ◌||◌, List, [], ◌∷◌, ◌++◌, ℕ, zero, suc, ◌+◌, ◌-◌, ◌*◌, ◌/◌, ◌%◌, min, ltb, length, take, drop, replicate}
use Rattle.masks.specs.Bytes.{bytes_of, number_of, map_bytes, mask_of, front, first_bytes, same_bytes}
use Rattle.model.specs.declared.Role.{Role}
use Rattle.model.specs.declared.Capability.{Capability}
use Rattle.model.specs.declared.Session.{Session}
use Rattle.model.specs.declared.Register.{Register}
use Rattle.model.specs.State.{blank_role, blank_capability, blank_session}
use Rattle.model.specs.Rules.{well_formed}
use Rattle.model.specs.Rulings.{Outcome, value, refused, Effect, ◌unless◌, ◌when◌, settle}
use Rattle.model.specs.Fields.{bit, write_role, read_role, write_session, read_session, write_capability, read_capability, capability_length}

-- ---- writing

-- the mask of the items that pass
abbrev pub mask_where : {A : Type 0} → (A → Bool) → List A → ℕ
mask_where p [] = 0
mask_where p (a ∷ rest) = bit (p a) + 2 * mask_where p rest

abbrev pub chosen : ℕ → List ℕ → List ℕ
chosen zero s = []
chosen (suc b) s = s

-- the items of a mask, "records in rising number"
abbrev pub write_chosen : {A : Type 0} → (A → List ℕ) → ℕ → List A → List ℕ
write_chosen write m [] = []
write_chosen write m (a ∷ rest) = chosen (m % 2) (write a) ++ write_chosen write (m / 2) rest

abbrev pub write_capabilities : List Capability → List ℕ
write_capabilities [] = []
write_capabilities (c ∷ cs) = write_capability c ++ write_capabilities cs

unfoldable pub founded_roles : List Role → ℕ
founded_roles roles = mask_where (λ (x : Role). x.founded) roles

unfoldable pub active_sessions : List Session → ℕ
active_sessions ss = mask_where (λ (s : Session). s.active) ss

-- "Clock (4); map of enrolled users (8), a domain byte each; map of roles (4), each with ..; pass count (2); the passes; map
-- of open sessions (8), each with .."
unfoldable pub encode : Register → List ℕ
encode r =
    bytes_of 4 r.clock
    ++ (map_bytes 8 r.enrolled
    ++ (write_chosen (bytes_of 1) r.enrolled r.domains
    ++ (map_bytes 4 (founded_roles r.roles)
    ++ (write_chosen write_role (founded_roles r.roles) r.roles
    ++ (bytes_of 2 r.count
    ++ (write_capabilities (take r.count r.capabilities)
    ++ (map_bytes 8 (active_sessions r.sessions)
    ++ write_chosen write_session (active_sessions r.sessions) r.sessions)))))))

-- ---- reading without refusing: bytes that are not there count as 0, what has no bit is blank

abbrev pub item_or : {A : Type 0} → A → (List ℕ → A) → ℕ → List ℕ → A
item_or blank read zero s = blank
item_or blank read (suc b) s = read s

-- k items of w bytes each, by the mask m, and the bytes that they take
abbrev pub read_chosen : {A : Type 0} → A → (List ℕ → A) → ℕ → ℕ → ℕ → List ℕ → List A
read_chosen blank read w m zero s = []
read_chosen blank read w m (suc k) s =
    item_or blank read (m % 2) s ∷ read_chosen blank read w (m / 2) k (drop (m % 2 * w) s)

abbrev pub chosen_length : ℕ → ℕ → ℕ → ℕ
chosen_length w m zero = 0
chosen_length w m (suc k) = m % 2 * w + chosen_length w (m / 2) k

-- n capabilities, and what follows them
abbrev pub read_capabilities : ℕ → List ℕ → List Capability
read_capabilities zero s = []
read_capabilities (suc n) s = read_capability s ∷ read_capabilities n (drop (capability_length s) s)

abbrev pub after_capabilities : ℕ → List ℕ → List ℕ
after_capabilities zero s = s
after_capabilities (suc n) s = after_capabilities n (drop (capability_length s) s)

-- a map of w bytes at the front of s, and what follows k items of v bytes that it chooses
abbrev pub map_at : ℕ → List ℕ → ℕ
map_at w s = mask_of (first_bytes w s)

abbrev pub after_chosen : ℕ → ℕ → ℕ → List ℕ → List ℕ
after_chosen w v k s = drop (w + chosen_length v (map_at w s) k) s

-- the register in s; it is the one meant where s is an image at all, see `loads`
unfoldable pub decode : List ℕ → Register
decode s =
    let users : List ℕ = drop 4 s in
    let roles : List ℕ = after_chosen 8 1 64 users in
    let passes : List ℕ = after_chosen 4 20 32 roles in
    let count : ℕ = number_of (first_bytes 2 passes) in
    let sessions : List ℕ = after_capabilities (min 256 count) (drop 2 passes) in
    record {
      clock = number_of (first_bytes 4 s);
      enrolled = map_at 8 users;
      domains = read_chosen 0 (λ t. number_of (first_bytes 1 t)) 1 (map_at 8 users) 64 (drop 8 users);
      roles = read_chosen blank_role read_role 20 (map_at 4 roles) 32 (drop 4 roles);
      count = count;
      capabilities = read_capabilities (min 256 count) (drop 2 passes) ++ replicate (256 - min 256 count) blank_capability;
      sessions = read_chosen blank_session read_session 6 (map_at 8 sessions) 64 (drop 8 sessions);
    }

-- ---- save, load

-- "save into an area. 16 area too short. The value is the length"
unfoldable pub save_effect : Register → ℕ → Effect Register
save_effect r room =
    settle
    r
    (15 unless (well_formed r ∷ []) ∷ 16 when ltb room (length (encode r)) ∷ [])
    (length (encode r))
    r

-- "bytes after it are untouched"; refused, all of them are
abbrev pub saved_buffer : Register → List ℕ → Outcome → List ℕ
saved_buffer r buffer (value v) = front (encode r) buffer
saved_buffer r buffer (refused n) = buffer

-- the empty image, that of a new client (§8.5.3)
abbrev pub empty : List ℕ → Bool
empty [] = true
empty (b ∷ s) = false

-- what is accepted (§8.5.1): no bytes, or those that a register saves; the register is `decode s` and keeps the rules
unfoldable pub loads : List ℕ → Bool
loads s = well_formed (decode s) && (empty s || same_bytes (encode (decode s)) s)

-- load (§8.5.1): 14 is its only refusal
unfoldable pub load_effect : Register → List ℕ → Effect Register
load_effect r s = settle r (14 unless (loads s ∷ []) ∷ []) 0 (decode s)
