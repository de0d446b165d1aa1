-- Intermediate: the code's own terms, proved to come to the definitions of `model`.
-- What the bytes of a record must be to be what their record is written as, decided while they are read.
use Rattle.std.specs.Prelude.{Bool, true, ◌&&◌, List, ℕ, zero, suc, ◌+◌, eqb, ltb, drop, get_or}
use Rattle.model.specs.Fields.{field_map, read_present, capability_codings, read_head, capability_length}

-- "kind (1: 0 role, 1 pass)", and a field's bit is set "exactly when they are not zero"
abbrev pub exact_capability : List ℕ → Bool
exact_capability t =
    ltb (get_or (read_head t) 0 0) 2
    && eqb (field_map (read_present (get_or (read_head t) 3 0) capability_codings (drop 5 t))) (get_or (read_head t) 3 0)

-- n capabilities, and the bytes that they take
abbrev pub exact_capabilities : ℕ → List ℕ → Bool
exact_capabilities zero t = true
exact_capabilities (suc n) t = exact_capability t && exact_capabilities n (drop (capability_length t) t)

abbrev pub capabilities_length : ℕ → List ℕ → ℕ
capabilities_length zero t = 0
capabilities_length (suc n) t = capability_length t + capabilities_length n (drop (capability_length t) t)

-- "user (1), kind (1: 0 role, 1 pass)"
abbrev pub exact_session : List ℕ → Bool
exact_session t = ltb (get_or t 1 0) 2
