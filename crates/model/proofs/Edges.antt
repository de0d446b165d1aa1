-- E1 to E8 and the four mistakes, computed. `quick` leaves the test of the shelf rules out before each call; that every call
-- keeps them says that it may.
use mathlib.Core.Path.{◌≡◌, refl, ap, ap₂, ◌∙◌}
use mathlib.Core.List.{List, [], ◌∷◌, zip_with}
use Prim.Native.Nat.{ℕ}
use lib.Count.{ones, ones_in}
use Rattle.masks.specs.Masks.{has, within, including, excluding, joined}
use Rattle.masks.specs.Tests.{all_below, count_below, all_from, map_from, rising}
use Rattle.model.specs.declared.Register.{Register}
use Rattle.model.specs.State.{fresh, exists, role_authority, lent_authority, authority, role_lends, may_lend, terms, below, in_context, admitted}
use Rattle.model.specs.Lineage.{lineage, member, in_lineage, any_created, root, children}
use Rattle.model.specs.Rules.{user_keeps, role_blank, same_domain, role_keeps, capability_blank, in_range, all_founded, earlier, own_keeps, capability_keeps, place_keeps, session_blank, session_keeps, well_formed}
use Rattle.model.specs.Rulings.{Outcome, Effect, settle}
use Rattle.model.specs.Administration.{enrol_ruling, found_ruling, grant_ruling, cut_permissions, withdraw_ruling, appoint_ruling, dismiss_ruling, clock_ruling}
use Rattle.model.specs.Delegation.{create_ruling, allow_ruling, lend_ruling, hand_ruling}
use Rattle.model.specs.Sessions.{open_ruling, permits, check_ruling, close_ruling}
use Rattle.model.specs.Revocation.{limited, amend_ruling, marked, revoke_ruling}
use Rattle.model.specs.Comparison.{domain_of, alike, same_ruling}
use Rattle.model.specs.Calls.{Call, ruling, settled, step}
use Rattle.model.specs.Fields.{role_codings, role_fields, write_role, role_of, read_role, session_codings, session_fields, write_session, session_of, read_session, head_codings, capability_codings, capability_fields, head_fields, write_capability, capability_of, read_head, read_capability, capability_length}
use Rattle.model.specs.Image.{founded_roles, active_sessions, encode, decode, loads, load_effect}
use Rattle.model.specs.Lists.{perform, run, answers, calls}
use Rattle.model.specs.Theorem.{FreshStart}
use Rattle.model.specs.Edges.{Exchange, asked, got, Answered, Edges}
use Rattle.model.proofs.Settling.{step-settled}
use Rattle.model.proofs.Kept.{Kept}
use Rattle.model.proofs.Rules.{kept→, kept←}
use Rattle.model.proofs.Running.{step_keeps}

-- what computes: a proof that says `unfolding calls-compute` computes calls, and so on
unfoldable pub calls_compute : ℕ
unfolding settled settle ruling enrol_ruling found_ruling grant_ruling cut_permissions withdraw_ruling appoint_ruling dismiss_ruling clock_ruling create_ruling allow_ruling lend_ruling hand_ruling open_ruling permits check_ruling close_ruling limited amend_ruling marked revoke_ruling domain_of zip_with alike same_ruling has within including excluding joined count_below map_from rising exists role_authority lent_authority authority role_lends may_lend terms below in_context admitted lineage member in_lineage any_created root
calls_compute = 0

unfoldable pub rules_compute : ℕ
unfolding well_formed user_keeps role_blank same_domain role_keeps capability_blank in_range all_founded earlier own_keeps capability_keeps place_keeps session_blank session_keeps ones ones_in all_below all_from children
rules_compute = 0

unfoldable pub image_compute : ℕ
unfolding load_effect loads encode decode founded_roles active_sessions role_codings role_fields write_role role_of read_role session_codings session_fields write_session session_of read_session head_codings capability_codings capability_fields head_fields write_capability capability_of read_head read_capability capability_length
image_compute = 0

-- a fresh register keeps the shelf rules
pub fresh_formed : FreshStart
unfolding calls_compute rules_compute
fresh_formed = tt

-- the answers, without the test of the rules
unfoldable pub quick : Register → List Call → List Outcome
quick r [] = []
quick r (c ∷ cs) = (settled r c).answer ∷ quick (settled r c).after cs

answers_quick : (r : Register) (cs : List Call) → Kept r → answers r (calls cs) ≡ quick r cs
unfolding answers quick perform
answers_quick r [] k = refl
answers_quick r (c ∷ cs) k =
    ap₂
    (λ (a : Outcome) (l : List Outcome). a ∷ l)
    (ap (λ (q : Effect Register). q.answer) (step-settled r c (kept← r k)))
    (answers_quick (step r c).after cs (step_keeps r c k) ∙ ap (λ (q : Effect Register). quick q.after cs) (step-settled r c (kept← r k)))

pub computed : {xs : List Exchange} → quick fresh (asked xs) ≡ got xs → Answered xs
computed {xs} e = record { answered = answers_quick fresh (asked xs) (kept→ fresh fresh_formed) ∙ e }

-- the register after them, likewise
unfoldable pub quick_run : Register → List Call → Register
quick_run r [] = r
quick_run r (c ∷ cs) = quick_run (settled r c).after cs

run_quick : (r : Register) (cs : List Call) → Kept r → run r (calls cs) ≡ quick_run r cs
unfolding run quick_run perform
run_quick r [] k = refl
run_quick r (c ∷ cs) k =
    run_quick (step r c).after cs (step_keeps r c k) ∙ ap (λ (q : Effect Register). quick_run q.after cs) (step-settled r c (kept← r k))

pub run_computed : (cs : List Call) → run fresh (calls cs) ≡ quick_run fresh cs
run_computed cs = run_quick fresh cs (kept→ fresh fresh_formed)

pub edges : Edges
unfolding calls_compute rules_compute image_compute quick perform
edges =
    record {
      e1 = computed refl;
      e2 = computed refl;
      e3 = computed refl;
      e4 = computed refl;
      e5 = computed refl;
      e6 = computed refl;
      e7 = computed refl;
      e8 = λ r. refl;
      e8_empty = λ r. refl;
      e8_one = λ r. refl;
      e8_short = λ r. refl;
      e8_long = λ r. refl;
      descendants = computed refl;
      one_role = computed refl;
      not_revived = computed refl;
      lent_revived = computed refl;
      use_counted = computed refl;
      cut_below = computed refl;
      never_raised = computed refl;
    }
