-- What is written of records in their ranges is exact.
use mathlib.Core.Path.{◌≡◌, refl, sym, ap, ◌∙◌}
use mathlib.Core.List.{List, [], ◌∷◌, ◌++◌, append_assoc}
use Prim.Native.Nat.{ℕ, ◌/◌, ◌%◌, ◌^◌, ◌<◌}
use native.Mathlib.Omega.{arith}
use lib.Dec.{T, eqb, ltb, lt→ltb}
use lib.ListN.{length, drop, get_or, length-append}
use lib.Seq.{drop_at}
use Rattle.masks.proofs.Truth.{and_i, eq→eqb}
use Rattle.model.specs.declared.Origin.{Origin}
use Rattle.model.specs.declared.Origin.TheVariants.{Role as ofRole, Capability as ofCapability}
use Rattle.model.specs.declared.Capability.{Capability}
use Rattle.model.specs.declared.Session.{Session}
use Rattle.model.specs.Invariant.{CapabilityRanges}
use Rattle.model.specs.Fields.{kind_of, field_map, read_present, session_codings, session_fields, write_session, head_fields, capability_codings, write_capability, read_head, capability_length}
use Rattle.model.specs.Image.{write_capabilities}
use Rattle.records.specs.Exact.{exact_capability, exact_capabilities, capabilities_length, exact_session}
use Rattle.records.proofs.Records.{head_back, map_back, fields_back, capability-length, AllInRange}

kind_small : (o : Origin) → kind_of o < 2
kind_small (ofRole n) = omega arith
kind_small (ofCapability n) = omega arith

module _ (c : Capability) (h : CapabilityRanges c) (rest : List ℕ) where
  abbrev bytes : List ℕ
  bytes = write_capability c ++ rest

  capability_exact : T (exact_capability bytes)
  unfolding head_fields
  capability_exact =
      let kind : get_or (read_head bytes) 0 0 ≡ kind_of c.origin = ap (λ (l : List ℕ). get_or l 0 0) (head_back c h rest) in
      let fields : List ℕ = read_present (get_or (read_head bytes) 3 0) capability_codings (drop 5 bytes) in
      let small : get_or (read_head bytes) 0 0 < 2 = rw kind (kind_small c.origin) in
      and_i (ltb (get_or (read_head bytes) 0 0) 2) (eqb (field_map fields) (get_or (read_head bytes) 3 0))
      (lt→ltb (get_or (read_head bytes) 0 0) 2 small)
      (eq→eqb (field_map fields) (get_or (read_head bytes) 3 0) (ap field_map (fields_back c h rest) ∙ sym (map_back c h rest)))

  capability-drop : drop (capability_length bytes) bytes ≡ rest
  capability-drop = drop_at (write_capability c) rest (capability_length bytes) (sym (capability-length c h rest))

pub capabilities_exact : (cs : List Capability) (rest : List ℕ) → AllInRange cs → T (exact_capabilities (length cs) (write_capabilities cs ++ rest))
capabilities_exact [] rest h = tt
capabilities_exact (c ∷ cs) rest h =
    let s : List ℕ = write_capabilities cs ++ rest in
    rw (append_assoc (write_capability c) (write_capabilities cs) rest, capability-drop c h.0 s)
    (and_i (exact_capability (write_capability c ++ s)) (exact_capabilities (length cs) s) (capability_exact c h.0 s) (capabilities_exact cs rest h.1))

pub capabilities_length_lem : (cs : List Capability) (rest : List ℕ) → AllInRange cs → capabilities_length (length cs) (write_capabilities cs ++ rest) ≡ length (write_capabilities cs)
capabilities_length_lem [] rest h = refl
capabilities_length_lem (c ∷ cs) rest h =
    let s : List ℕ = write_capabilities cs ++ rest in
    rw (append_assoc (write_capability c) (write_capabilities cs) rest, capability-drop c h.0 s, capability-length c h.0 s, length-append, capabilities_length_lem cs rest h.1)

pub session_exact : (x : Session) (rest : List ℕ) → T (exact_session (write_session x ++ rest))
unfolding write_session session_codings session_fields
session_exact x rest =
    let small : kind_of x.on / 256 ^ 0 % 256 < 2 = omega (arith, kind_small x.on) in
    lt→ltb (kind_of x.on / 256 ^ 0 % 256) 2 small
