-- Found keeps the shelf rules.
use mathlib.Core.Path.{◌≡◌, refl, sym, ap, ap₂, ◌∙◌, subst}
use mathlib.Core.Bool.{not}
use Prim.Native.Nat.{ℕ, ◌^◌, ◌<◌}
use native.Mathlib.Omega.{arith}
use lib.Bits.{bit_or}
use lib.Dec.{T, T_not, ltb→lt, eqb→eq, lit<}
use lib.ListN.{set}
use lib.Seq.{get_or-set_other}
use Rattle.model.specs.declared.Origin.{Origin}
use Rattle.model.specs.declared.Origin.TheVariants.{Role as ofRole, Capability as ofCapability}
use Rattle.model.specs.declared.Role.{Role}
use Rattle.model.specs.declared.Register.{Register}
use Rattle.masks.proofs.Truth.{each→, cond_no}
use Rattle.masks.proofs.Bounded.{set-each}
use Rattle.masks.proofs.MaskLaws.{within_zero, has_zero}
use Rattle.masks.proofs.JoinLaws.{joined_ext}
use Rattle.model.specs.State.{the_role, party_terms, terms_with, terms, authority, lent_authority, role_authority, may_lend, role_at, capability_at, blank_role, exists}
use Rattle.model.specs.Rules.{role_keeps, role_blank, role_blank_tests, role_tests}
use Rattle.model.specs.Rulings.{role, Clear}
use Rattle.model.specs.Administration.{found_ruling, new_role}
use Rattle.model.proofs.Settling.{passed}
use Rattle.model.proofs.Authority.{authority_same, lend_same}
use Rattle.model.proofs.Kept.{Kept}
use Rattle.model.proofs.Places.{role←, role_set}
use Rattle.model.proofs.Parts.{same_sessions, moved_capabilities}
use Rattle.masks.specs.Tests.{each}

module _ (r : Register) (j domain hours places devices : ℕ) (k : Kept r) (lj : j < 32) (new : T (not (role r j).founded)) where
  abbrev role_new : Role
  role_new = new_role domain hours places devices

  -- nothing was kept for a role not founded
  no_permissions : (role r j).permissions ≡ 0
  unfolding role_keeps role_blank
  no_permissions =
      eqb→eq _ _ (each→ (role_blank_tests (role r j)) (cond_no (role r j).founded (each (role_tests r.enrolled r.domains (role r j))) (role_blank (role r j)) (k.roles.role j lj) new)).1.0

  same_authority : (i : ℕ) → role_authority (set r.roles j role_new) i ≡ role_authority r.roles i
  same_authority = authority_same r.roles j role_new (omega (arith, k.roles.amount)) (sym no_permissions)

  founded_still : (o : Origin) → T (exists r.roles r.count o) → T (exists (set r.roles j role_new) r.count o)
  unfolding exists
  founded_still (ofRole i) h = set-each (λ a b. T a.founded → T b.founded) r.roles j role_new blank_role (λ a t. t) (λ t. tt) i (omega (arith, k.roles.amount)) h
  founded_still (ofCapability n) h = h

  founded_same : (o : Origin) → T (exists r.roles r.count o) → terms (set r.roles j role_new) r.capabilities o ≡ terms r.roles r.capabilities o
  unfolding exists terms authority lent_authority
  founded_same (ofRole i) h =
      let roles = r.roles in
      ap₂ (λ (x : Role) (g : ℕ). party_terms (λ k. g) (λ c. 0) (may_lend (set roles j role_new)) (the_role i x))
      (get_or-set_other roles j i role_new blank_role (λ e. T_not (role r j).founded new (subst (λ (x : ℕ). T (role r x).founded) e h)))
      (same_authority i)
      ∙ ap (λ (m : ℕ). party_terms (role_authority roles) (λ c. 0) (λ y. m) (the_role i (role_at roles i))) (lend_same (set roles j role_new) roles (2 ^ i))
  founded_same (ofCapability n) h =
      ap₂ (λ (x m : ℕ). terms_with (bit_or (capability_at r.capabilities n).permissions x) m (capability_at r.capabilities n))
      (joined_ext (role_authority (set r.roles j role_new)) (role_authority r.roles) (capability_at r.capabilities n).lent 32 same_authority)
      (lend_same _ _ (capability_at r.capabilities n).lent)

pub found_keeps : (r : Register) (j domain hours places devices : ℕ) → Kept r → Clear (found_ruling r j domain hours places devices).guards → Kept (found_ruling r j domain hours places devices).after
unfolding found_ruling
found_keeps r j domain hours places devices k g =
    let gs = (found_ruling r j domain hours places devices).guards in
    let l : j < 32 = ltb→lt j 32 (passed 2 gs g).0 in
    let new : T (not (role r j).founded) = passed 4 gs g in
    let x : Role = new_role domain hours places devices in
    record {
      clock = k.clock;
      users = k.users;
      roles =
          role_set r.enrolled r.domains r.roles j x l k.roles
          (role← r.enrolled r.domains j x tt
          (record {
            domain = ltb→lt _ _ (passed 2 gs g).1.0;
            permissions = lit< tt;
            hours = ltb→lt _ _ (passed 2 gs g).1.1.0;
            places = ltb→lt _ _ (passed 2 gs g).1.1.1.0;
            devices = ltb→lt _ _ (passed 2 gs g).1.1.1.1.0;
            appointed = lit< tt;
            appointed_enrolled = within_zero r.enrolled;
            same_domain = λ u lu t. absurd (subst T (has_zero u) t);
          }));
      capabilities =
          moved_capabilities r.roles (set r.roles j x) r.count r.count r.capabilities r.capabilities
          (founded_still r j domain hours places devices k l new) (founded_same r j domain hours places devices k l new) r.enrolled refl refl k.capabilities;
      sessions =
          same_sessions r.roles (set r.roles j x) r.count r.count r.capabilities r.capabilities
          (founded_still r j domain hours places devices k l new) (founded_same r j domain hours places devices k l new) r.enrolled r.sessions k.sessions;
    }
