-- Grant, withdraw and clock keep the shelf rules, and every origin.
use mathlib.Core.Path.{◌≡◌, refl}
use Prim.Native.Nat.{ℕ, ◌^◌, ◌<◌}
use native.Mathlib.Omega.{arith}
use lib.Dec.{T, ltb→lt}
use lib.ListN.{set}
use Rattle.model.specs.declared.Role.{Role}
use Rattle.model.specs.declared.Register.{Register}
use Rattle.masks.specs.Masks.{within, including, excluding}
use Rattle.masks.proofs.Bounded.{set-each}
use Rattle.masks.proofs.MaskLaws.{within-including, within_le, excluding-within, including_lt}
use Rattle.model.specs.State.{role_authority, role_at, origin_at, blank_role, exists}
use Rattle.model.specs.Rules.{role_keeps}
use Rattle.model.specs.Invariant.{RoleRules}
use Rattle.model.specs.Setters.{with_role_permissions}
use Rattle.model.specs.Rulings.{role, Clear}
use Rattle.model.specs.Administration.{grant_ruling, withdraw_ruling, clock_ruling}
use Rattle.model.proofs.Settling.{passed}
use Rattle.model.proofs.Kept.{Kept}
use Rattle.model.proofs.Authority.{authority_grows}
use Rattle.model.proofs.Places.{role→, role←, role_set}
use Rattle.model.proofs.Frames.{RoleFrame, role_frame, reworked_sessions}
use Rattle.model.proofs.Parts.{roles_capabilities, roles_sessions}
use Rattle.model.proofs.Withdrawing.{cut_capabilities, cut_frames}

-- a founded role, and one with other permissions

founded_rules : (r : Register) (j : ℕ) → T (role r j).founded → j < 32 → Kept r → RoleRules r.enrolled r.domains (role r j)
founded_rules r j f l k = role→ r.enrolled r.domains j (role r j) f (k.roles.role j l)

role_permissions : (r : Register) (j : ℕ) (f : T (role r j).founded) (l : j < 32) (k : Kept r) (p : ℕ) → p < 2 ^ 32 → T (role_keeps r.enrolled r.domains j (with_role_permissions (role r j) p))
role_permissions r j f l k p small =
    let h : RoleRules r.enrolled r.domains (role r j) = founded_rules r j f l k in
    role← r.enrolled r.domains j (with_role_permissions (role r j) p) f
    (record { domain = h.domain; permissions = small; hours = h.hours; places = h.places; devices = h.devices; appointed = h.appointed; appointed_enrolled = h.appointed_enrolled; same_domain = h.same_domain })

pub clock_keeps : (r : Register) (tick : ℕ) → Kept r → Clear (clock_ruling r tick).guards → Kept (clock_ruling r tick).after
unfolding clock_ruling
clock_keeps r tick k g =
    record { clock = ltb→lt _ _ (passed 2 (clock_ruling r tick).guards g).0; users = k.users; roles = k.roles; capabilities = k.capabilities; sessions = k.sessions }

-- a role's permissions put anew, the rest of it as it was
permission_frames : (r : Register) (j p : ℕ) → j < 32 → Kept r → (k : ℕ) → RoleFrame (role r k) (role_at (set r.roles j (with_role_permissions (role r j) p)) k)
permission_frames r j p l k i =
    set-each RoleFrame r.roles j (with_role_permissions (role r j) p) blank_role role_frame
    (record { founded = refl; hours = refl; places = refl; devices = refl })
    i (omega (arith, k.roles.amount))

pub grant_keeps : (r : Register) (j p : ℕ) → Kept r → Clear (grant_ruling r j p).guards → Kept (grant_ruling r j p).after
unfolding grant_ruling exists
grant_keeps r j p k g =
    let lj : j < 32 = ltb→lt _ _ (passed 2 (grant_ruling r j p).guards g).0 in
    let lp : p < 32 = ltb→lt _ _ (passed 2 (grant_ruling r j p).guards g).1.0 in
    let f : T (role r j).founded = (passed 3 (grant_ruling r j p).guards g).0 in
    let x : Role = with_role_permissions (role r j) (including (role r j).permissions p) in
    let frames : (i : ℕ) → RoleFrame (role r i) (role_at (set r.roles j x) i) = permission_frames r j _ lj k in
    let more : (i : ℕ) → T (within (role_authority r.roles i) (role_authority (set r.roles j x) i)) =
    authority_grows r.roles j x (omega (arith, k.roles.amount)) (within-including (role r j).permissions p) in
    record {
      clock = k.clock;
      users = k.users;
      roles =
          role_set r.enrolled r.domains r.roles j x lj k.roles
          (role_permissions r j f lj k _
          (including_lt 32 _ p (founded_rules r j f lj k).permissions lp));
      capabilities = roles_capabilities r.roles (set r.roles j x) frames more r.enrolled r.count r.capabilities k.capabilities;
      sessions = roles_sessions r.roles (set r.roles j x) frames more r.enrolled r.count r.capabilities r.sessions k.sessions;
    }

pub withdraw_keeps : (r : Register) (j p : ℕ) → Kept r → Clear (withdraw_ruling r j p).guards → Kept (withdraw_ruling r j p).after
unfolding withdraw_ruling exists
withdraw_keeps r j p k g =
    let lj : j < 32 = ltb→lt _ _ (passed 2 (withdraw_ruling r j p).guards g).0 in
    let f : T (role r j).founded = (passed 3 (withdraw_ruling r j p).guards g).0 in
    let x : Role = with_role_permissions (role r j) (excluding (role r j).permissions p) in
    let frames : (i : ℕ) → RoleFrame (role r i) (role_at (set r.roles j x) i) = permission_frames r j _ lj k in
    let small : (role r j).permissions < 2 ^ 32 = (founded_rules r j f lj k).permissions in
    record {
      clock = k.clock;
      users = k.users;
      roles =
          role_set r.enrolled r.domains r.roles j x lj k.roles
          (role_permissions r j f lj k _
          (omega (arith, small, within_le _ _ (excluding-within (role r j).permissions p (passed 4 (withdraw_ruling r j p).guards g).0))));
      capabilities = cut_capabilities r.enrolled r.roles (set r.roles j x) r.count r.capabilities k.capabilities frames;
      sessions =
          reworked_sessions r.roles (set r.roles j x) r.count r.capabilities _ frames
          (cut_frames r.enrolled r.roles (set r.roles j x) r.count r.capabilities k.capabilities frames) r.enrolled r.sessions k.sessions;
    }

-- ---- origins

pub withdraw_origins : (r : Register) (j p : ℕ) → Kept r → Clear (withdraw_ruling r j p).guards → (i : ℕ) → origin_at (withdraw_ruling r j p).after.capabilities i ≡ origin_at r.capabilities i
unfolding withdraw_ruling
withdraw_origins r j p k g i =
    (cut_frames r.enrolled r.roles (set r.roles j (with_role_permissions (role r j) (excluding (role r j).permissions p))) r.count r.capabilities k.capabilities
    (permission_frames r j _ (ltb→lt _ _ (passed 2 (withdraw_ruling r j p).guards g).0) k) i).origin
