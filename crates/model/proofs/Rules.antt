-- The shelf rules as a test, as propositions, and as the proofs use them: all three say the same.
use mathlib.Core.Path.{◌≡◌}
use mathlib.Core.Logic.{◌↔◌}
use Prim.Native.Nat.{ℕ, ◌≤◌, ◌<◌}
use native.Mathlib.Omega.{arith}
use lib.Dec.{T, eqb, ltb, leb→le, le→leb, ltb→lt, lt→ltb, eqb→eq, nltb→le}
use lib.ListN.{get_or, length}
use Rattle.masks.specs.Masks.{has}
use Rattle.masks.specs.Tests.{each}
use Rattle.masks.proofs.Truth.{each←, each_at, cond_yes, cond_no, cond_i, le→nltb, eq→eqb}
use Rattle.masks.proofs.Bounded.{all_at, all_i}
use Rattle.model.specs.declared.Register.{Register}
use Rattle.model.specs.State.{role_at, capability_at, session_at, blank_role, blank_capability, blank_session}
use Rattle.model.specs.Rules.{is_domain, user_keeps, role_keeps, role_tests, role_blank, capability_keeps, capability_blank, place_keeps, session_keeps, session_tests, session_blank, well_formed_tests, well_formed}
use Rattle.model.specs.Invariant.{WellFormed}
use Rattle.model.proofs.Kept.{blank→, blank←, Kept}
use Rattle.model.proofs.Places.{role→, role←}
use Rattle.model.proofs.Ranges.{in_range_lem, lent_founded}
use Rattle.model.proofs.RuleFacts.{capability→, capability_lean, capability←, session→, session←, session-blank→, session-blank←, role-blank→, role-blank←}

-- ---- the test gives the propositions

pub formed→ : (r : Register) → T (well_formed r) → WellFormed r
unfolding well_formed user_keeps role_keeps place_keeps session_keeps
formed→ r h =
    let la : length r.domains ≡ 64 = eqb→eq _ _ (each_at (well_formed_tests r) h 3) in
    let lb : length r.roles ≡ 32 = eqb→eq _ _ (each_at (well_formed_tests r) h 4) in
    let lc : length r.capabilities ≡ 256 = eqb→eq _ _ (each_at (well_formed_tests r) h 5) in
    let ld : length r.sessions ≡ 64 = eqb→eq _ _ (each_at (well_formed_tests r) h 6) in
    let few : r.count ≤ 256 = leb→le _ _ (each_at (well_formed_tests r) h 2) in
    let user : (u : ℕ) → u < 64 → T (user_keeps r.enrolled u (get_or r.domains u 0)) = λ u l. all_at (user_keeps r.enrolled) r.domains 0 (each_at (well_formed_tests r) h 7) u (omega arith) in
    let role : (k : ℕ) → k < 32 → T (role_keeps r.enrolled r.domains k (role_at r.roles k)) = λ k l. all_at (role_keeps r.enrolled r.domains) r.roles blank_role (each_at (well_formed_tests r) h 8) k (omega arith) in
    let place : (n : ℕ) → n < 256 → T (place_keeps r.enrolled r.roles r.count r.capabilities n (capability_at r.capabilities n)) = λ n l. all_at (place_keeps r.enrolled r.roles r.count r.capabilities) r.capabilities blank_capability (each_at (well_formed_tests r) h 9) n (omega arith) in
    let session : (i : ℕ) → i < 64 → T (session_keeps r.enrolled r.roles r.count r.capabilities i (session_at r.sessions i)) = λ i l. all_at (session_keeps r.enrolled r.roles r.count r.capabilities) r.sessions blank_session (each_at (well_formed_tests r) h 10) i (omega arith) in
    record {
      clock = ltb→lt _ _ (each_at (well_formed_tests r) h 0);
      enrolled = ltb→lt _ _ (each_at (well_formed_tests r) h 1);
      count = few;
      user_places = la;
      role_places = lb;
      capability_places = lc;
      session_places = ld;
      users = λ u l t. ltb→lt _ _ (cond_yes (has r.enrolled u) (is_domain (get_or r.domains u 0)) (eqb (get_or r.domains u 0) 0) (user u l) t);
      users_blank = λ u l t. eqb→eq _ _ (cond_no (has r.enrolled u) (is_domain (get_or r.domains u 0)) (eqb (get_or r.domains u 0) 0) (user u l) t);
      roles = λ k l t. role→ r.enrolled r.domains k (role_at r.roles k) t (role k l);
      roles_blank = λ k l t. role-blank→ (role_at r.roles k) t (cond_no (role_at r.roles k).founded (each (role_tests r.enrolled r.domains (role_at r.roles k))) (role_blank (role_at r.roles k)) (role k l) t);
      capabilities = λ n l. capability→ r.enrolled r.roles r.count r.capabilities n (capability_at r.capabilities n)
          (cond_yes (ltb n r.count) (capability_keeps r.enrolled r.roles r.count r.capabilities n (capability_at r.capabilities n)) (capability_blank (capability_at r.capabilities n)) (place n (omega arith)) (lt→ltb _ _ l));
      capabilities_blank = λ n g l. blank→ (capability_at r.capabilities n)
          (cond_no (ltb n r.count) (capability_keeps r.enrolled r.roles r.count r.capabilities n (capability_at r.capabilities n)) (capability_blank (capability_at r.capabilities n)) (place n l) (le→nltb _ _ g));
      sessions = λ i l t. session→ r.enrolled r.roles r.count r.capabilities (session_at r.sessions i)
          (cond_yes (session_at r.sessions i).active (each (session_tests r.enrolled r.roles r.count r.capabilities (session_at r.sessions i))) (session_blank (session_at r.sessions i)) (session i l) t);
      sessions_blank = λ i l t. session-blank→ (session_at r.sessions i) t
          (cond_no (session_at r.sessions i).active (each (session_tests r.enrolled r.roles r.count r.capabilities (session_at r.sessions i))) (session_blank (session_at r.sessions i)) (session i l) t);
    }

-- ---- the propositions give what the proofs use

pub lean : (r : Register) → WellFormed r → Kept r
unfolding user_keeps role_keeps session_keeps
lean r h =
    record {
      clock = h.clock;
      users =
          record {
            amount = h.user_places;
            small = h.enrolled;
            user = λ u l. cond_i (has r.enrolled u) (is_domain (get_or r.domains u 0)) (eqb (get_or r.domains u 0) 0) (λ t. lt→ltb _ _ (h.users u l t)) (λ t. eq→eqb _ _ (h.users_blank u l t));
          };
      roles =
          record {
            amount = h.role_places;
            role = λ k l.
                cond_i (role_at r.roles k).founded (each (role_tests r.enrolled r.domains (role_at r.roles k))) (role_blank (role_at r.roles k))
                (λ t. cond_yes (role_at r.roles k).founded _ (role_blank (role_at r.roles k)) (role← r.enrolled r.domains k (role_at r.roles k) t (h.roles k l t)) t)
                (λ t. role-blank← (role_at r.roles k) (h.roles_blank k l t));
          };
      capabilities =
          record {
            amount = h.capability_places;
            enough = h.count;
            capability = λ n l. capability_lean r.enrolled r.roles r.count r.capabilities n (capability_at r.capabilities n) (h.capabilities n l);
            blank = h.capabilities_blank;
          };
      sessions =
          record {
            amount = h.session_places;
            session = λ i l.
                cond_i (session_at r.sessions i).active (each (session_tests r.enrolled r.roles r.count r.capabilities (session_at r.sessions i))) (session_blank (session_at r.sessions i))
                (λ t. session← r.enrolled r.roles r.count r.capabilities (session_at r.sessions i) (h.sessions i l t))
                (λ t. session-blank← (session_at r.sessions i) (h.sessions_blank i l t));
          };
    }

pub kept→ : (r : Register) → T (well_formed r) → Kept r
kept→ r h = lean r (formed→ r h)

-- ---- and that gives the test

pub kept← : (r : Register) → Kept r → T (well_formed r)
unfolding well_formed place_keeps
kept← r k =
    let la : length r.domains ≡ 64 = k.users.amount in
    let lb : length r.roles ≡ 32 = k.roles.amount in
    let lc : length r.capabilities ≡ 256 = k.capabilities.amount in
    let ld : length r.sessions ≡ 64 = k.sessions.amount in
    each← (well_formed_tests r) (
      lt→ltb _ _ k.clock,
      (
        lt→ltb _ _ k.users.small,
        (
          le→leb _ _ k.capabilities.enough,
          (
            eq→eqb _ _ la,
            (
              eq→eqb _ _ lb,
              (
                eq→eqb _ _ lc,
                (
                  eq→eqb _ _ ld,
                  (
                    all_i _ _ 0 (λ u l. k.users.user u (omega arith)),
                    (
                      all_i _ _ blank_role (λ x l. k.roles.role x (omega arith)),
                      (
                        all_i _ _ blank_capability (λ n l. place n (omega arith)),
                        (all_i _ _ blank_session (λ i l. k.sessions.session i (omega arith)), tt),
                      ),
                    ),
                  ),
                ),
              ),
            ),
          ),
        ),
      ),
    )
  where
    place : (n : ℕ) → n < 256 → T (place_keeps r.enrolled r.roles r.count r.capabilities n (capability_at r.capabilities n))
    place n l =
        cond_i (ltb n r.count) (capability_keeps r.enrolled r.roles r.count r.capabilities n (capability_at r.capabilities n)) (capability_blank (capability_at r.capabilities n))
        (λ t. capability← r.enrolled r.roles r.count r.capabilities n (capability_at r.capabilities n) (in_range_lem r n k (ltb→lt _ _ t)) (lent_founded r n k (ltb→lt _ _ t)) (k.capabilities.capability n (ltb→lt _ _ t)))
        (λ t. blank← (capability_at r.capabilities n) (k.capabilities.blank n (nltb→le _ _ t) l))

-- the test and the propositions are equivalent
pub well_formed_lem : (r : Register) → T (well_formed r) ↔ WellFormed r
well_formed_lem r = (formed→ r, (λ h. kept← r (lean r h)))
