-- One more step of a sweep.
use mathlib.Core.Path.{◌≡◌, refl, ap, ap₂, ◌∙◌}
use mathlib.Core.Bool.{Bool, true, false, cond, not, ◌&&◌, ◌||◌}
use mathlib.Core.List.{List}
use Prim.Native.Nat.{ℕ, ◌+◌, ◌%◌, ◌≤◌, ◌<◌, min}
use native.Mathlib.Decide.{dec_lt}
use native.Mathlib.Numerals.{add-one}
use native.Mathlib.Omega.{arith}
use lib.Bits.{bit_and}
use lib.Dec.{eqb}
use lib.ListN.{set, length, length-set}
use borrow.Author.Tests.{le-ltb}
use Rattle.masks.specs.Tests.{count_below, rising}
use Rattle.model.specs.declared.Origin.{Origin}
use Rattle.model.specs.declared.Origin.TheVariants.{Role as ofRole, Capability as ofCapability}
use Rattle.model.specs.declared.Role.{Role}
use Rattle.model.specs.declared.Capability.{Capability}
use Rattle.model.specs.declared.Register.{Register}
use Rattle.model.specs.State.{blank_capability, capability_at, origin_at, role_authority, terms}
use Rattle.model.specs.Rulings.{value}
use Rattle.model.proofs.Authority.{authority_past}
use Rattle.model.specs.Setters.{with_roles, with_capabilities, with_revoked, with_use_limit, with_permissions}
use Rattle.model.specs.Administration.{cut_permissions}
use Rattle.origins.specs.declared.authority.RoleColumns.{RoleColumns}
use Rattle.origins.specs.Authority.{item, role_item, authority_in, granted_by, Columns}
use Rattle.origins.specs.Numbers.{capability_held}
use Rattle.origins.proofs.Laws.{role_granted, authority_read, bare_read}
use Rattle.sweeps.specs.declared.Sweep.{Sweep}
use Rattle.sweeps.specs.declared.Sweep.TheVariants.{Mark, Limit, Cut}
use Rattle.sweeps.specs.Sweeping.{one_if, swept_one, sweep_one, roles_after, sweep_value, newly_by, swept_by}

-- the register whose capabilities below i are done, with item i done too
pub sweep_more : (f : ℕ → List Capability → Capability → Capability) (r q : Register) (i : ℕ) (d : Capability)
    → q ≡ with_capabilities r (rising blank_capability f i r.capabilities) → d ≡ f i q.capabilities (capability_at q.capabilities i)
    → with_capabilities q (set q.capabilities i d) ≡ with_capabilities r (rising blank_capability f (i + 1) r.capabilities)
unfolding rising
sweep_more f r q i d p e =
    rw (add-one)
    (ap (λ (x : Capability). with_capabilities q (set q.capabilities i x)) e
    ∙ ap (λ (y : Register). with_capabilities y (set y.capabilities i (f i y.capabilities (capability_at y.capabilities i)))) p)

pub count_more : (p : ℕ → Bool) (i : ℕ) {x y : ℕ} (t : Bool) → x ≡ count_below i p → y ≡ one_if t → t ≡ p i → x + y ≡ count_below (i + 1) p
unfolding count_below one_if
count_more p i t a b e = rw (add-one) (ap₂ (λ (u v : ℕ). u + v) a (b ∙ ap (λ (z : Bool). cond z 1 0) e))

-- capability i is newly marked by this step
pub newly_step : (f : ℕ → List Capability → Capability → Capability) (i : ℕ) (r q : Register) (d : Capability)
    → q ≡ with_capabilities r (rising blank_capability f i r.capabilities) → d ≡ f i q.capabilities (capability_at q.capabilities i)
    → (d.revoked && not (capability_at q.capabilities i).revoked) ≡ newly_by f r.capabilities i
newly_step f i r q d p e =
    ap (λ (x : Capability). x.revoked && not (capability_at q.capabilities i).revoked) e
    ∙ ap (λ (y : Register). (f i y.capabilities (capability_at y.capabilities i)).revoked && not (capability_at y.capabilities i).revoked) p

pub one_le : (t : Bool) {q : ℕ} → q ≡ one_if t → q ≤ 1
unfolding one_if
one_le true e = omega arith
one_le false e = omega arith

-- ---- one capability, whose parent is read from its place

module _ (roles : List Role) (cs : List Capability) (column : RoleColumns) (kept : Columns column roles) (amount : length roles ≡ 32) where
  -- no role is past 31
  role_above : (k : ℕ) → Dec (k < 32) → role_item column.grants k ≡ role_authority roles k
  unfolding role_item
  role_above k (yes l) = role_granted column roles kept k l
  role_above k (no g) = ap (λ (b : Bool). cond b (item column.grants k) 0) (le-ltb k 32 (omega arith)) ∙ authority_past roles k (omega arith)

  granted_above : (o : Origin) (j : ℕ) → j ≡ capability_held o → granted_by column o (capability_at cs j) ≡ (terms roles cs o).grants
  unfolding terms
  granted_above (ofRole k) j e = role_above k (dec_lt k 32)
  granted_above (ofCapability n) j e = ap (λ (x : ℕ). authority_in column (capability_at cs x)) e ∙ authority_read column roles kept (capability_at cs n)

  pub swept_step : (s : Sweep) (i j : ℕ) (d : Capability) → j ≡ capability_held (origin_at cs i)
      → d ≡ swept_one s i (capability_at cs i) (capability_at cs j) column → d ≡ sweep_one roles s i cs (capability_at cs i)
  unfolding cut_permissions
  swept_step (Mark n) i j d p e =
      e ∙ ap (λ (b : Bool). with_revoked (capability_at cs i) ((capability_at cs i).revoked || (eqb i n || b))) (bare_read cs (origin_at cs i) j p).0
  swept_step (Limit n limit) i j d p e =
      e ∙ ap (λ (x : ℕ). with_use_limit (capability_at cs i) (cond (eqb i n) limit (min (capability_at cs i).use_limit x))) (bare_read cs (origin_at cs i) j p).1
  swept_step (Cut k q) i j d p e =
      e ∙ ap (λ (x : ℕ). with_permissions (capability_at cs i) (bit_and (capability_at cs i).permissions x)) (granted_above (origin_at cs i) j p)

-- the roles that a sweep goes by are as many as before
pub after_amount : (roles : List Role) (s : Sweep) → length (roles_after roles s) ≡ length roles
after_amount roles (Mark n) = refl
after_amount roles (Limit n limit) = refl
after_amount roles (Cut k p) = length-set roles (k % 32) _

-- all 256 are done
pub sweep_done : (r : Register) (s : Sweep) (roles : List Role) (next : Register) (marks i v : ℕ) → roles ≡ roles_after r.roles s
    → next ≡ with_capabilities (with_roles r roles) (rising blank_capability (sweep_one roles s) i r.capabilities)
    → marks ≡ count_below i (newly_by (sweep_one roles s) r.capabilities) → i ≡ 256 → v ≡ sweep_value s marks
    → record { answer = value v; after = next } ≡ swept_by r s
sweep_done r s roles next marks i v er en em ei ev =
    ap₂ (λ (x : ℕ) (y : Register). record { answer = value x; after = y })
    (ev ∙ ap (sweep_value s) (em ∙ ap (λ (j : ℕ). count_below j (newly_by (sweep_one roles s) r.capabilities)) ei))
    (en ∙ ap (λ (j : ℕ). with_capabilities (with_roles r roles) (rising blank_capability (sweep_one roles s) j r.capabilities)) ei)
    ∙ ap (λ (l : List Role). record { answer = value (sweep_value s (count_below 256 (newly_by (sweep_one l s) r.capabilities))); after = with_capabilities (with_roles r l) (rising blank_capability (sweep_one l s) 256 r.capabilities) }) er
