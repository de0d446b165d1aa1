-- Every entry of a list, accepted or refused, keeps the shelf rules; and so does every list.
use mathlib.Core.Path.{sym, subst}
use mathlib.Core.List.{List, [], ◌∷◌}
use Prim.Native.Nat.{ℕ}
use lib.Dec.{T, ltb}
use lib.ListN.{length}
use Rattle.masks.proofs.Truth.{and_l}
use Rattle.model.specs.declared.Register.{Register}
use Rattle.model.specs.Rules.{well_formed}
use Rattle.model.specs.Rulings.{Effect, Guard, ◌unless◌, ◌when◌, settle, Clear}
use Rattle.model.specs.Comparison.{same_ruling}
use Rattle.model.specs.Calls.{Call, enrol, found, grant, withdraw, appoint, dismiss, clock, create, allow, lend, hand, opening, check, amend, revoke, close, same, ruling, settled, step}
use Rattle.model.specs.Image.{encode, decode, loads, save_effect, load_effect}
use Rattle.model.specs.Lists.{Event, call, save, load, perform, run}
use Rattle.model.proofs.Settling.{Settled, accepted, declined, settle_cases, step-settled}
use Rattle.model.proofs.Kept.{Kept}
use Rattle.model.proofs.Rules.{kept→, kept←}
use Rattle.model.proofs.Enrolling.{enrol_keeps, appoint_keeps, dismiss_keeps}
use Rattle.model.proofs.Founding.{found_keeps}
use Rattle.model.proofs.Granting.{grant_keeps, withdraw_keeps, clock_keeps}
use Rattle.model.proofs.Creating.{create_keeps}
use Rattle.model.proofs.Delegating.{allow_keeps, lend_keeps, hand_keeps}
use Rattle.model.proofs.Opening.{open_keeps, check_keeps, close_keeps}
use Rattle.model.proofs.Revocation.{amend_keeps, revoke_keeps}

-- what is accepted keeps the rules
pub accepted_keeps : (r : Register) (c : Call) → Kept r → Clear (ruling r c).guards → Kept (ruling r c).after
unfolding ruling same_ruling
accepted_keeps r (enrol user domain) = enrol_keeps r user domain
accepted_keeps r (found k domain hours places devices) = found_keeps r k domain hours places devices
accepted_keeps r (grant k p) = grant_keeps r k p
accepted_keeps r (withdraw k p) = withdraw_keeps r k p
accepted_keeps r (appoint user k) = appoint_keeps r user k
accepted_keeps r (dismiss user k) = dismiss_keeps r user k
accepted_keeps r (clock tick) = clock_keeps r tick
accepted_keeps r (create user o at plan) = create_keeps r user o at plan
accepted_keeps r (allow user n mask) = allow_keeps r user n mask
accepted_keeps r (lend user n mask) = lend_keeps r user n mask
accepted_keeps r (hand user receiver n) = hand_keeps r user receiver n
accepted_keeps r (opening s user o at) = open_keeps r s user o at
accepted_keeps r (check s p at) = check_keeps r s p at
accepted_keeps r (amend user n change) = amend_keeps r user n change
accepted_keeps r (revoke user n) = revoke_keeps r user n
accepted_keeps r (close s) = close_keeps r s
accepted_keeps r (same m n) = λ k g. k

-- on a register that keeps the rules, a call is refused and changes nothing, or accepted with none of its refusals applying
pub step_cases : (r : Register) (c : Call) → Kept r → Settled r (ruling r c).guards (ruling r c).result (ruling r c).after (step r c)
unfolding settled
step_cases r c k =
    subst
    (λ (q : Effect Register). Settled r (ruling r c).guards (ruling r c).result (ruling r c).after q)
    (sym (step-settled r c (kept← r k)))
    (settle_cases r (ruling r c).guards (ruling r c).result (ruling r c).after)

-- what a settled call leaves keeps the rules if what it leaves accepted does
settle_keeps : (r : Register) (gs : List Guard) (v : ℕ) (s : Register) → Kept r → (Clear gs → Kept s) → Kept (settle r gs v s).after
settle_keeps r gs v s k f = cases (settle r gs v s) (settle_cases r gs v s)
  where
    cases : (q : Effect Register) → Settled r gs v s q → Kept q.after
    cases q (accepted h e) = subst (λ (x : Effect Register). Kept x.after) (sym e) (f h)
    cases q (declined n e) = subst (λ (x : Effect Register). Kept x.after) (sym e) k

pub step_keeps : (r : Register) (c : Call) → Kept r → Kept (step r c).after
unfolding settled
step_keeps r c k =
    subst (λ (q : Effect Register). Kept q.after) (sym (step-settled r c (kept← r k)))
    (settle_keeps r (ruling r c).guards (ruling r c).result (ruling r c).after k (accepted_keeps r c k))

-- save leaves the register; an accepted load answers one that keeps the rules
pub loads_kept : (s : List ℕ) → T (loads s) → Kept (decode s)
unfolding loads
loads_kept s h = kept→ (decode s) (and_l (well_formed (decode s)) _ h)

pub perform_keeps : (r : Register) (e : Event) → Kept r → Kept (perform r e).after
unfolding perform save_effect load_effect
perform_keeps r (call c) k = step_keeps r c k
perform_keeps r (save room) k =
    settle_keeps r (15 unless (well_formed r ∷ []) ∷ 16 when ltb room (length (encode r)) ∷ []) (length (encode r)) r k (λ h. k)
perform_keeps r (load s) k = settle_keeps r (14 unless (loads s ∷ []) ∷ []) 0 (decode s) k (λ h. loads_kept s h.0.0)

pub run_keeps : (r : Register) (es : List Event) → Kept r → Kept (run r es)
unfolding run
run_keeps r [] k = k
run_keeps r (e ∷ es) k = run_keeps (perform r e).after es (perform_keeps r e k)
