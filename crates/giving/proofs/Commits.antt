-- hand, allow and lend over the elements that they name, put back, are the calls of the model.
use mathlib.Core.Path.{◌≡◌, refl, sym, ap₂, subst}
use mathlib.Core.Logic.{◌⊎◌, inl, inr}
use mathlib.Core.Bool.{Bool, not}
use mathlib.Core.List.{List, [], ◌∷◌}
use Prim.Native.Nat.{ℕ, ◌%◌, ◌<◌}
use lib.Dec.{T, ltb, ltb→lt, nltb→le, lit<}
use lib.ListN.{drop}
use Rattle.masks.proofs.Truth.{each_at, decided}
use Rattle.model.specs.declared.Capability.{Capability}
use Rattle.model.specs.declared.Register.{Register}
use Rattle.model.specs.State.{Terms, origin_at, authority}
use Rattle.model.specs.Rules.{is_user, is_capability, bits, well_formed}
use Rattle.model.specs.Invariant.{OriginInRange}
use Rattle.model.specs.Rulings.{Ruling, into, ruled, ◌unless◌, capability, terms_of}
use Rattle.model.specs.Delegation.{handing, allowing, lending, hand_ruling, allow_ruling, lend_ruling, putting}
use Rattle.model.specs.Calls.{hand, allow, lend, ruling, settled}
use Rattle.model.proofs.Rules.{formed→}
use Rattle.model.proofs.RuleFacts.{origin←}
use Rattle.slots.specs.Slots.{Places, look, lifted, on_capability}
use Rattle.slots.specs.Terms.{OriginPlaced, origin_terms}
use Rattle.slots.proofs.SlotLaws.{capability_commit}
use Rattle.origins.specs.declared.authority.RoleColumns.{RoleColumns}
use Rattle.origins.specs.Authority.{authority_in, Columns}
use Rattle.origins.proofs.Laws.{in_range_lem, authority_read, placed_terms}
use Rattle.giving.specs.Giving.{hand_decision, allow_decision, lend_decision}

pub hand_commit : (r : Register) (p : Places) (user receiver n : ℕ) → p.capability ≡ n % 256
    → lifted r p (hand_decision (look r p) user receiver n) ≡ settled r (hand user receiver n)
unfolding hand_decision settled ruling hand_ruling
hand_commit r p user receiver n e =
    let ts : List Bool = is_user user ∷ is_user receiver ∷ is_capability n ∷ [] in
    capability_commit r p n ts (λ c. handing r.enrolled r.count c user receiver n) _ (λ c. refl) refl e (λ t. each_at ts t 2) (λ t. refl)

-- ---- allow and lend

-- the origin of capability n, created or not, has a number in its range
origin_in_range : (r : Register) (n : ℕ) → T (well_formed r) → n < 256 → OriginInRange (origin_at r.capabilities n)
origin_in_range r n k l = cases (decided (ltb n r.count))
  where
    cases : T (ltb n r.count) ⊎ T (not (ltb n r.count)) → OriginInRange (origin_at r.capabilities n)
    cases (inl t) = ((formed→ r k).capabilities n (ltb→lt _ _ t)).ranges.origin
    cases (inr t) = subst (λ (c : Capability). OriginInRange c.origin) (sym ((formed→ r k).capabilities_blank n (nltb→le _ _ t) l)) (lit< tt)

module _ (r : Register) (p : Places) (columns : RoleColumns) (user n mask : ℕ) (keeps : T (well_formed r)) (column : Columns columns r.roles) (e : p.capability ≡ n % 256) (placed : OriginPlaced p (origin_at r.capabilities (n % 256))) where
  -- the terms and the authority that are read are those of the register
  give_commit : (q : Capability → Terms → (Capability → ℕ) → Ruling Capability)
      → (let ts : List Bool = is_user user ∷ is_capability n ∷ bits 32 mask ∷ [] in
      ((c : Capability) (t : Terms) (f : Capability → ℕ) → (q c t f).guards ≡ (2 unless ts) ∷ drop 1 (q c t f).guards))
      → (let b : Capability = capability r p.capability in let c : Capability = capability r n in
      lifted r p (on_capability (look r p) (q b (origin_terms (look r p) columns b.origin) (authority_in columns))) ≡ ruled r (into (putting r n) (q c (terms_of r c.origin) (authority r.roles))))
  give_commit q guarded =
      let ts : List Bool = is_user user ∷ is_capability n ∷ bits 32 mask ∷ [] in
      let c : Capability = capability r n in
      capability_commit r p n ts (λ b. q b (origin_terms (look r p) columns b.origin) (authority_in columns)) _ (λ b. guarded b _ _) (guarded c _ _) e (λ t. each_at ts t 1)
      (λ t.
      let l : T (is_capability n) = each_at ts t 1 in
      ap₂ (q c)
      (placed_terms columns r.roles column r.capabilities c.origin _ _ (origin← c.origin (origin_in_range r n keeps (ltb→lt _ _ l))) (rw (in_range_lem n 256 l) at placed))
      (λ i d. authority_read columns r.roles column d i))

  pub allow_commit : lifted r p (allow_decision (look r p) columns user n mask) ≡ settled r (allow user n mask)
  unfolding allow_decision settled ruling allow_ruling
  allow_commit = give_commit (λ c t f. allowing r.enrolled r.count c t f user n mask) (λ c t f. refl)

  pub lend_commit : lifted r p (lend_decision (look r p) columns user n mask) ≡ settled r (lend user n mask)
  unfolding lend_decision settled ruling lend_ruling
  lend_commit = give_commit (λ c t f. lending r.enrolled r.count c t f user n mask) (λ c t f. refl)
