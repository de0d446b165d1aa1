-- Intermediate: the code's own terms, proved to come to the definitions of `model`.
-- What an image must be beside holding a register that keeps the rules, decided while it is read: `proofs/Exact.antt` of `image`
-- shows that exactly such bytes are what their register saves.
use Rattle.std.specs.Prelude.{Bool, true, ◌&&◌, List, ℕ, zero, suc, ◌+◌, ◌*◌, ◌/◌, ◌%◌, min, eqb, length, drop}
use Rattle.masks.specs.Bytes.{number_of, first_bytes}
use Rattle.model.specs.Image.{item_or, chosen_length, after_capabilities, map_at, after_chosen}
use Rattle.records.specs.Exact.{exact_capabilities, capabilities_length, exact_session}

-- a user's domain byte
abbrev pub read_domain : List ℕ → ℕ
read_domain t = number_of (first_bytes 1 t)

-- k sessions by the mask m
abbrev pub exact_sessions : ℕ → ℕ → List ℕ → Bool
exact_sessions m zero t = true
exact_sessions m (suc k) t = item_or true exact_session (m % 2) t && exact_sessions (m / 2) k (drop (m % 2 * 6) t)

-- each record is exact, and the records take all the bytes and no more
unfoldable pub exact_image : List ℕ → Bool
exact_image s =
    let users : List ℕ = drop 4 s in
    let roles : List ℕ = after_chosen 8 1 64 users in
    let passes : List ℕ = after_chosen 4 20 32 roles in
    let n : ℕ = min 256 (number_of (first_bytes 2 passes)) in
    let sessions : List ℕ = after_capabilities n (drop 2 passes) in
    exact_capabilities n (drop 2 passes)
    && (exact_sessions (map_at 8 sessions) 64 (drop 8 sessions)
    && eqb (26 + chosen_length 1 (map_at 8 users) 64 + chosen_length 20 (map_at 4 roles) 32 + capabilities_length n (drop 2 passes) + chosen_length 6 (map_at 8 sessions) 64) (length s))
