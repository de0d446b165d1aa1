-- Elements put back, and a call over the elements that is the call on the register.
use mathlib.Core.Path.{◌≡◌, refl, sym, ap, ◌∙◌}
use mathlib.Core.Bool.{Bool}
use mathlib.Core.List.{List, ◌∷◌}
use Prim.Native.Nat.{ℕ, ◌%◌}
use lib.Dec.{T}
use lib.ListN.{set, drop}
use lib.Seq.{set-get_or}
use Rattle.masks.specs.Tests.{each}
use Rattle.masks.proofs.Truth.{each←}
use Rattle.model.specs.declared.Role.{Role}
use Rattle.model.specs.declared.Capability.{Capability}
use Rattle.model.specs.declared.Session.{Session}
use Rattle.model.specs.declared.Register.{Register}
use Rattle.model.specs.Setters.{with_clock, with_users, with_roles, with_capabilities, with_count, with_sessions}
use Rattle.model.specs.Rules.{is_role, is_capability}
use Rattle.model.specs.Rulings.{Guard, ◌unless◌, Ruling, into, settle, ruled, role, capability, Clear}
use Rattle.model.specs.Administration.{putting_role}
use Rattle.model.specs.Delegation.{putting}
use Rattle.model.proofs.Settling.{settle_past, settle-after, settle-into}
use Rattle.slots.specs.declared.Slots.{Slots}
use Rattle.slots.specs.Slots.{Places, look, put, lifted, with_clock_slot, with_user_slot, with_role_slot, with_capability_slot, with_created_slots, with_session_slots, on_role, on_capability}
use Rattle.origins.proofs.Laws.{in_range_lem}

-- ---- elements put back

module _ (r : Register) (p : Places) where
  pub put_same : put r p (look r p) ≡ r
  unfolding put
  put_same = simp set-get_or

  pub put_clock : (t : ℕ) → put r p (with_clock_slot (look r p) t) ≡ with_clock r t
  unfolding put
  put_clock t = simp set-get_or

  pub put_user : (e d : ℕ) → put r p (with_user_slot (look r p) e d) ≡ with_users r e (set r.domains p.user d)
  unfolding put
  put_user e d = simp set-get_or

  pub put-role : (x : Role) → put r p (with_role_slot (look r p) x) ≡ with_roles r (set r.roles p.role x)
  unfolding put
  put-role x = simp set-get_or

  pub put-capability : (c : Capability) → put r p (with_capability_slot (look r p) c) ≡ with_capabilities r (set r.capabilities p.capability c)
  unfolding put
  put-capability c = simp set-get_or

  pub put_created : (n : ℕ) (q c : Capability) → put r p (with_created_slots (look r p) n q c) ≡ with_count r n (set (set r.capabilities p.parent q) p.capability c)
  unfolding put
  put_created n q c = simp set-get_or

  pub put-session : (c : Capability) (s : Session) → put r p (with_session_slots (look r p) c s)
      ≡ with_sessions (with_capabilities r (set r.capabilities p.capability c)) (set r.sessions p.session s)
  unfolding put
  put-session c s = simp set-get_or

  -- a call over the elements, put back, is settled on the register
  pub lift_settle : (gs : List Guard) (n : ℕ) (w : Slots) → lifted r p (settle (look r p) gs n w) ≡ settle r gs n (put r p w)
  lift_settle gs n w = settle-into (put r p) (look r p) w gs n ∙ ap (λ (s : Register). settle s gs n (put r p w)) put_same

  -- the same for rulings on any part, read from the elements (a) and from the register (b): the two need agree only where the
  -- ranges pass, and what is put back only where no guard applies
  pub ranged_commit : {A : Type 0} (ts : List Bool) (a b : Ruling A) (w : A → Slots) (f : A → Register)
      → a.guards ≡ (2 unless ts) ∷ drop 1 a.guards → b.guards ≡ (2 unless ts) ∷ drop 1 b.guards
      → (T (each ts) → a ≡ b) → (T (each ts) → Clear (drop 1 b.guards) → (x : A) → put r p (w x) ≡ f x)
      → lifted r p (ruled (look r p) (into w a)) ≡ ruled r (into f b)
  ranged_commit {A} ts a b w f ga gb same puts =
      lift_settle a.guards a.result (w a.after)
      ∙ ap (λ (gs : List Guard). settle r gs a.result (put r p (w a.after))) ga
      ∙ settle_past r (2 unless ts) _ _ _ _ _ _
      (λ e.
      let t : T (each ts) = each← ts e in
      ap (λ (q : Ruling A). settle r (drop 1 q.guards) q.result (put r p (w q.after))) (same t)
      ∙ settle-after r (drop 1 b.guards) _ _ _ _ (λ g. (refl, puts t g b.after)))
      ∙ sym (ap (λ (gs : List Guard). settle r gs b.result (f b.after)) gb)

  -- a ruling on role k, or on capability n: q says it of the element that is read, b on the register
  pub role_commit : (k : ℕ) (ts : List Bool) (q : Role → Ruling Role) (b : Ruling Role)
      → ((x : Role) → (q x).guards ≡ (2 unless ts) ∷ drop 1 (q x).guards) → b.guards ≡ (2 unless ts) ∷ drop 1 b.guards
      → p.role ≡ k % 32 → (T (each ts) → T (is_role k)) → (T (each ts) → q (role r k) ≡ b)
      → lifted r p (on_role (look r p) (q (role r p.role))) ≡ ruled r (into (putting_role r k) b)
  role_commit k ts q b gq gb e w same =
      let at : T (each ts) → p.role ≡ k = λ t. e ∙ in_range_lem k 32 (w t) in
      ranged_commit ts (q (role r p.role)) b (with_role_slot (look r p)) (putting_role r k) (gq _) gb
      (λ t. ap (λ (j : ℕ). q (role r j)) (at t) ∙ same t)
      (λ t g x. put-role x ∙ ap (λ (j : ℕ). putting_role r j x) (at t))

  pub capability_commit : (n : ℕ) (ts : List Bool) (q : Capability → Ruling Capability) (b : Ruling Capability)
      → ((c : Capability) → (q c).guards ≡ (2 unless ts) ∷ drop 1 (q c).guards) → b.guards ≡ (2 unless ts) ∷ drop 1 b.guards
      → p.capability ≡ n % 256 → (T (each ts) → T (is_capability n)) → (T (each ts) → q (capability r n) ≡ b)
      → lifted r p (on_capability (look r p) (q (capability r p.capability))) ≡ ruled r (into (putting r n) b)
  capability_commit n ts q b gq gb e w same =
      let at : T (each ts) → p.capability ≡ n = λ t. e ∙ in_range_lem n 256 (w t) in
      ranged_commit ts (q (capability r p.capability)) b (with_capability_slot (look r p)) (putting r n) (gq _) gb
      (λ t. ap (λ (j : ℕ). q (capability r j)) (at t) ∙ same t)
      (λ t g c. put-capability c ∙ ap (λ (j : ℕ). putting r j c) (at t))
