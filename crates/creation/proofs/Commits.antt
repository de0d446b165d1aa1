-- create over the elements that it names, put back, is the call of the model.
use mathlib.Core.Path.{◌≡◌, refl, ap₂, ◌∙◌}
use mathlib.Core.List.{List}
use Prim.Native.Nat.{ℕ, suc, ◌%◌}
use lib.Dec.{T}
use lib.ListN.{drop, set}
use lib.Seq.{set-get_or}
use Rattle.masks.proofs.Truth.{each_at}
use Rattle.model.specs.declared.Origin.{Origin}
use Rattle.model.specs.declared.Origin.TheVariants.{Role as ofRole, Capability as ofCapability}
use Rattle.model.specs.declared.Named.{Named}
use Rattle.model.specs.declared.Capability.{Capability}
use Rattle.model.specs.declared.Context.{Context}
use Rattle.model.specs.declared.Plan.{Plan}
use Rattle.model.specs.declared.LocalRequest.TheVariants.{Create}
use Rattle.model.specs.declared.Register.{Register}
use Rattle.model.specs.State.{Party, Terms, capability_at}
use Rattle.model.specs.Rules.{is_origin}
use Rattle.model.specs.Setters.{with_count}
use Rattle.model.specs.Rulings.{party_of, terms_of}
use Rattle.model.specs.Delegation.{create_ranges, creating, create_ruling, creation_counted}
use Rattle.model.specs.Calls.{ruling, settled}
use Rattle.model.specs.Requests.{named_origin, local_call}
use Rattle.model.proofs.Settling.{passed}
use Rattle.origins.specs.declared.authority.RoleColumns.{RoleColumns}
use Rattle.origins.specs.Authority.{Columns}
use Rattle.origins.proofs.Laws.{in_range_lem, placed_party, placed_terms}
use Rattle.slots.specs.Slots.{Places, look, lifted}
use Rattle.slots.specs.Terms.{OriginPlaced, created_in}
use Rattle.slots.proofs.SlotLaws.{put_created, ranged_commit}
use Rattle.creation.specs.Creation.{creating_on, create_decision}

-- "a pass as origin counts one creation more"
counted_placed : (r : Register) (p : Places) (o : Origin) → OriginPlaced p o → T (is_origin o)
    → set r.capabilities p.parent (created_in o (capability_at r.capabilities p.parent)) ≡ creation_counted r.capabilities o
counted_placed r p (ofRole k) e h = set-get_or _ _ _
counted_placed r p (ofCapability n) e h = rw (e, in_range_lem n 256 h)

pub create_commit : (r : Register) (p : Places) (columns : RoleColumns) (user : ℕ) (o : Named) (at : Context) (plan : Plan) → Columns columns r.roles
    → p.capability ≡ r.count % 256 → OriginPlaced p (named_origin o)
    → lifted r p (create_decision (look r p) columns user o at plan) ≡ settled r (local_call (Create user o at plan))
unfolding create_decision settled ruling create_ruling
create_commit r p columns user o at plan column e placed =
    let x = named_origin o in
    let ts = create_ranges user x at plan in
    let b = creating r.clock r.enrolled r.count (party_of r x) (terms_of r x) user x at plan in
    ranged_commit r p ts (creating_on (look r p) columns x user o at plan) b _ _ refl refl
    (λ t. ap₂ (λ (y : Party) (z : Terms). creating r.clock r.enrolled r.count y z user x at plan)
    (placed_party r.roles r.capabilities x p.role p.parent (each_at ts t 1) placed)
    (placed_terms columns r.roles column r.capabilities x p.role p.parent (each_at ts t 1) placed))
    (λ t g c.
    put_created r p _ _ c
    ∙ ap₂ (λ (cs : List Capability) (j : ℕ). with_count r (suc r.count) (set cs j c)) (counted_placed r p x placed (each_at ts t 1)) (e ∙ in_range_lem r.count 256 (passed 12 (drop 1 b.guards) g).0))
