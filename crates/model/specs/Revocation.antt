-- amend, revoke.
use Rattle.std.specs.Prelude.{Bool, false, cond, not, ◌&&◌, ◌||◌, List, [], ◌∷◌, ℕ, suc, ◌+◌, ◌-◌, min, eqb, leb, ltb}
use Rattle.masks.specs.Masks.{has}
use Rattle.masks.specs.Tests.{count_below, map_from}
use Rattle.model.specs.declared.Capability.{Capability}
use Rattle.model.specs.declared.Register.{Register}
use Rattle.model.specs.Lineage.{lineage, in_lineage, any_created}
use Rattle.model.specs.Rules.{is_user, is_capability, bits}
use Rattle.model.specs.Setters.{with_use_limit, with_revoked, with_capabilities}
use Rattle.model.specs.Rulings.{Ruling, Guard, ◌unless◌, ◌when◌, capability, terms_of}

-- a change of a limit: up or down by a number
pub data Change : Type 0 where
  raise : ℕ → Change
  lower : ℕ → Change

abbrev pub is_zero : Change → Bool
is_zero (raise d) = eqb d 0
is_zero (lower d) = eqb d 0

-- "-65,535 to 65,535"
abbrev pub is_change : Change → Bool
is_change (raise d) = bits 16 d
is_change (lower d) = bits 16 d

-- "would fall below 0"
abbrev pub falls_below : Change → ℕ → Bool
falls_below (raise d) n = false
falls_below (lower d) n = ltb n d

abbrev pub changed : Change → ℕ → ℕ
changed (raise d) n = n + d
changed (lower d) n = n - d

-- capability n gets the limit; "Every pass below is then cut to the new limit, never raised."
unfoldable pub limited : List Capability → ℕ → ℕ → ℕ → Capability → Capability
limited cs n limit i c =
    with_use_limit
    c
    (cond (eqb i n) limit (cond (in_lineage cs n i) (min c.use_limit limit) c.use_limit))

-- "amend user pass change. 2 beyond ..; 3; 6 not the creator; 7; 4 change 0; 10 the use limit would fall below 0; 11 it
-- would pass the origin's.": c is the capability, `bound` the use limit of its origin
abbrev pub amend_guards : (enrolled count : ℕ) → Capability → (user n : ℕ) → (ranged zero below : Bool) → (limit bound : ℕ) → List Guard
amend_guards enrolled count c user n ranged zero below limit bound =
    2 unless (is_user user ∷ is_capability n ∷ ranged ∷ [])
    ∷ 3 unless (has enrolled user ∷ ltb n count ∷ [])
    ∷ 6 unless (eqb c.creator user ∷ [])
    ∷ 7 when c.revoked
    ∷ 4 when zero
    ∷ 10 when below
    ∷ 11 unless (leb limit bound ∷ [])
    ∷ []

-- "Uses made stay. .. The value is the limit."
unfoldable pub amend_ruling : Register → ℕ → ℕ → Change → Ruling Register
amend_ruling r user n change =
    let c : Capability = capability r n in
    let limit : ℕ = changed change c.use_limit in
    record {
      guards =
          amend_guards r.enrolled r.count c user n (is_change change) (is_zero change) (falls_below change c.use_limit) limit (terms_of r c.origin).use_limit;
      result = limit;
      after = with_capabilities r (map_from (limited r.capabilities n limit) 0 r.capabilities);
    }

-- "Marks it and all below"
unfoldable pub marked : List Capability → ℕ → ℕ → Capability → Capability
marked cs n i c = with_revoked c (c.revoked || in_lineage cs n i)

-- "revoke user pass. 2; 3; 6 user created neither it nor any pass on its climb; 7."
abbrev pub revoke_guards : (enrolled count user n : ℕ) → (entitled revoked : Bool) → List Guard
revoke_guards enrolled count user n entitled revoked =
    2 unless (is_user user ∷ is_capability n ∷ [])
    ∷ 3 unless (has enrolled user ∷ ltb n count ∷ [])
    ∷ 6 unless (entitled ∷ [])
    ∷ 7 when revoked
    ∷ []

-- "the value counts those newly marked."
unfoldable pub revoke_ruling : Register → ℕ → ℕ → Ruling Register
revoke_ruling r user n =
    record {
      guards = revoke_guards r.enrolled r.count user n (any_created r.capabilities user (lineage (suc n) r.capabilities n)) (capability r n).revoked;
      result = count_below r.count (λ i. in_lineage r.capabilities n i && not (capability r i).revoked);
      after = with_capabilities r (map_from (marked r.capabilities n) 0 r.capabilities);
    }
