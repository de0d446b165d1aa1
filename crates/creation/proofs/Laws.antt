-- The guards with the origin that they are read from, and the new capability.
use mathlib.Core.Path.{◌≡◌, ap, ◌∙◌}
use mathlib.Core.Bool.{Bool}
use mathlib.Core.List.{List, [], ◌∷◌}
use Prim.Native.Nat.{ℕ}
use lib.Dec.{T}
use lib.ListN.{drop, set}
use Rattle.masks.specs.Tests.{each}
use Rattle.masks.proofs.Truth.{each_at}
use Rattle.model.specs.declared.Origin.{Origin}
use Rattle.model.specs.declared.Named.{Named}
use Rattle.model.specs.declared.Context.{Context}
use Rattle.model.specs.declared.Plan.{Plan}
use Rattle.model.specs.State.{new_capability, Terms, claims, below}
use Rattle.model.specs.declared.Capability.{Capability}
use Rattle.model.specs.Rulings.{◌unless◌}
use Rattle.model.specs.Delegation.{create_ranges}
use Rattle.model.specs.Requests.{named_origin}
use Rattle.origins.specs.declared.authority.RoleColumns.{RoleColumns}
use Rattle.origins.specs.Numbers.{named_in}
use Rattle.origins.proofs.Laws.{in_range_lem, named_exact}
use Rattle.slots.specs.declared.Slots.{Slots}
use Rattle.slots.specs.Guards.{first_number}
use Rattle.slots.specs.Terms.{origin_terms}
use Rattle.slots.proofs.GuardLaws.{ranged_same}
use Rattle.creation.specs.Creation.{made_of, creating_from, creation_tests, creating_on}

-- the new capability has the numbers of the request
pub made_exact : (user : ℕ) (o : Named) (at : Context) (plan : Plan) → T (each (create_ranges user (named_origin o) at plan)) → made_of user o plan ≡ new_capability user (named_origin o) plan
made_exact user o at plan h =
    let ts = create_ranges user (named_origin o) at plan in
    rw (
      in_range_lem user 64 (each_at ts h 0),
      named_exact o (each_at ts h 1),
      in_range_lem plan.uses 65536 (each_at ts h 5),
      in_range_lem plan.creations 65536 (each_at ts h 6),
      in_range_lem plan.hops 65536 (each_at ts h 7),
      in_range_lem plan.places 65536 (each_at ts h 9),
      in_range_lem plan.devices 65536 (each_at ts h 10),
    )

-- the tests on the new capability as it is made are the ruling's own
pub tests_agree : (v : Slots) (o : Origin) (t : Terms) (user : ℕ) (origin : Named) (at : Context) (plan : Plan) {k : ℕ}
    → k ≡ first_number (creation_tests v o t user origin at plan) → k ≡ first_number (creating_from v o t user origin at plan).guards
tests_agree v o t user origin at plan e =
    e
    ∙ ranged_same 2 (create_ranges user (named_origin origin) at plan) _ _
    (λ h.
    ap (λ (c : Capability). drop 1 (set (creating_from v o t user origin at plan).guards 7 (11 unless (below (claims c) t ∷ []))))
    (made_exact user origin at plan h))

-- the guards with the origin as it is named, and the terms as they are read
pub ruled_agrees : (v : Slots) (column : RoleColumns) (user : ℕ) (origin : Named) (at : Context) (plan : Plan) {k : ℕ} {t : Terms} {o : Origin}
    → k ≡ first_number (creating_from v o t user origin at plan).guards → t ≡ origin_terms v column o → o ≡ named_in origin
    → k ≡ first_number (creating_on v column (named_origin origin) user origin at plan).guards
ruled_agrees v column user origin at plan {k} {t} {o} e q m =
    let ts : List Bool = create_ranges user (named_origin origin) at plan in
    e
    ∙ ap (λ (y : Terms). first_number (creating_from v o y user origin at plan).guards) q
    ∙ ranged_same 2 ts _ _ (λ h. ap (λ (x : Origin). drop 1 (creating_on v column x user origin at plan).guards) (m ∙ named_exact origin (each_at ts h 1)))

pub create_agrees : (v : Slots) (column : RoleColumns) (user : ℕ) (origin : Named) (at : Context) (plan : Plan) {k : ℕ} {t : Terms} {o : Origin}
    → k ≡ first_number (creation_tests v o t user origin at plan) → t ≡ origin_terms v column o → o ≡ named_in origin
    → k ≡ first_number (creating_on v column (named_origin origin) user origin at plan).guards
create_agrees v column user origin at plan {k} {t} {o} e q m = ruled_agrees v column user origin at plan (tests_agree v o t user origin at plan e) q m
