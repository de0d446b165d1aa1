-- enrol, found, grant, withdraw, appoint, dismiss, clock.
use Rattle.std.specs.Prelude.{true, List, [], ◌∷◌, ℕ, eqb, ltb, get_or, set}
use Rattle.std.specs.Int.Bits.{bit_and}
use Rattle.masks.specs.Masks.{has, including, excluding}
use Rattle.masks.specs.Tests.{rising}
use Rattle.model.specs.declared.Role.{Role}
use Rattle.model.specs.declared.Capability.{Capability}
use Rattle.model.specs.declared.Register.{Register}
use Rattle.model.specs.State.{blank_capability, terms}
use Rattle.model.specs.Rules.{is_domain, is_user, is_role, is_permission, bits}
use Rattle.model.specs.Setters.{with_permissions, with_role_permissions, with_appointed, with_clock, with_users, with_roles, with_capabilities}
use Rattle.model.specs.Rulings.{Ruling, into, ◌unless◌, ◌when◌, role}

-- "enrol user domain. 2; 4 already enrolled.": the users enrolled, and the user's domain
abbrev pub enrolling : (enrolled user domain : ℕ) → Ruling (ℕ × ℕ)
enrolling enrolled user domain =
    record {
      guards =
          2 unless (is_user user ∷ is_domain domain ∷ [])
          ∷ 4 when has enrolled user
          ∷ [];
      result = 0;
      after = (including enrolled user, domain);
    }

-- a role as it is founded: no permissions, nobody appointed
abbrev pub new_role : (domain hours places devices : ℕ) → Role
new_role domain hours places devices =
    record {
      founded = true;
      domain = domain;
      permissions = 0;
      hours = hours;
      places = places;
      devices = devices;
      appointed = 0;
    }

-- "found role domain hours places devices. 2; 4 already founded.": x is the role named
abbrev pub founding : Role → (k domain hours places devices : ℕ) → Ruling Role
founding x k domain hours places devices =
    record {
      guards =
          2 unless (is_role k ∷ is_domain domain ∷ bits 24 hours ∷ bits 16 places ∷ bits 16 devices ∷ [])
          ∷ 4 when x.founded
          ∷ [];
      result = 0;
      after = new_role domain hours places devices;
    }

-- "grant .. role permission. 2; 3; 4."
abbrev pub granting : Role → (k p : ℕ) → Ruling Role
granting x k p =
    record {
      guards =
          2 unless (is_role k ∷ is_permission p ∷ [])
          ∷ 3 unless (x.founded ∷ [])
          ∷ 4 when has x.permissions p
          ∷ [];
      result = 0;
      after = with_role_permissions x (including x.permissions p);
    }

-- "withdraw role permission. 2; 3; 4."
abbrev pub withdrawing : Role → (k p : ℕ) → Ruling Role
withdrawing x k p =
    record {
      guards =
          2 unless (is_role k ∷ is_permission p ∷ [])
          ∷ 3 unless (x.founded ∷ [])
          ∷ 4 unless (has x.permissions p ∷ [])
          ∷ [];
      result = 0;
      after = with_role_permissions x (excluding x.permissions p);
    }

-- "appoint .. user role. 2; 3; 5 domains differ (appoint only); 4.": `domain` is the user's
abbrev pub appointing : (enrolled domain : ℕ) → Role → (user k : ℕ) → Ruling Role
appointing enrolled domain x user k =
    record {
      guards =
          2 unless (is_user user ∷ is_role k ∷ [])
          ∷ 3 unless (has enrolled user ∷ x.founded ∷ [])
          ∷ 5 unless (eqb domain x.domain ∷ [])
          ∷ 4 when has x.appointed user
          ∷ [];
      result = 0;
      after = with_appointed x (including x.appointed user);
    }

-- "dismiss user role. 2; 3; .. 4. Passes stay when their creator is dismissed."
abbrev pub dismissing : (enrolled : ℕ) → Role → (user k : ℕ) → Ruling Role
dismissing enrolled x user k =
    record {
      guards =
          2 unless (is_user user ∷ is_role k ∷ [])
          ∷ 3 unless (has enrolled user ∷ x.founded ∷ [])
          ∷ 4 unless (has x.appointed user ∷ [])
          ∷ [];
      result = 0;
      after = with_appointed x (excluding x.appointed user);
    }

-- "clock tick. 13 below the present clock; the same tick is accepted."
abbrev pub ticking : (clock tick : ℕ) → Ruling ℕ
ticking clock tick =
    record {
      guards =
          2 unless (bits 32 tick ∷ [])
          ∷ 13 when ltb tick clock
          ∷ [];
      result = 0;
      after = tick;
    }

-- ---- the calls on the register, each over the role named

abbrev pub putting_role : Register → ℕ → Role → Register
putting_role r k x = with_roles r (set r.roles k x)

abbrev pub putting_user : Register → ℕ → ℕ × ℕ → Register
putting_user r user u = with_users r u.0 (set r.domains user u.1)

unfoldable pub enrol_ruling : Register → ℕ → ℕ → Ruling Register
enrol_ruling r user domain = into (putting_user r user) (enrolling r.enrolled user domain)

unfoldable pub found_ruling : Register → (k domain hours places devices : ℕ) → Ruling Register
found_ruling r k domain hours places devices = into (putting_role r k) (founding (role r k) k domain hours places devices)

unfoldable pub grant_ruling : Register → ℕ → ℕ → Ruling Register
grant_ruling r k p = into (putting_role r k) (granting (role r k) k p)

-- "cutting own permissions to the origin's authority"
unfoldable pub cut_permissions : List Role → ℕ → List Capability → Capability → Capability
cut_permissions roles i cs c = with_permissions c (bit_and c.permissions (terms roles cs c.origin).grants)

-- "Withdraw then goes over all passes in rising number, revoked ones too"
abbrev pub cut_after_role : Register → Register
cut_after_role r = with_capabilities r (rising blank_capability (cut_permissions r.roles) 256 r.capabilities)

unfoldable pub withdraw_ruling : Register → ℕ → ℕ → Ruling Register
withdraw_ruling r k p = into (λ x. cut_after_role (putting_role r k x)) (withdrawing (role r k) k p)

unfoldable pub appoint_ruling : Register → ℕ → ℕ → Ruling Register
appoint_ruling r user k = into (putting_role r k) (appointing r.enrolled (get_or r.domains user 0) (role r k) user k)

unfoldable pub dismiss_ruling : Register → ℕ → ℕ → Ruling Register
dismiss_ruling r user k = into (putting_role r k) (dismissing r.enrolled (role r k) user k)

unfoldable pub clock_ruling : Register → ℕ → Ruling Register
clock_ruling r tick = into (with_clock r) (ticking r.clock tick)
