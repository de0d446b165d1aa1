-- The origins by history are those that the register after the list shows.
use mathlib.Core.Path.{◌≡◌, refl, sym, ◌∙◌, subst}
use mathlib.Core.Logic.{◌⊎◌, inl, inr}
use mathlib.Core.Bool.{Bool, true, false, cond}
use mathlib.Core.List.{List, [], ◌∷◌}
use Prim.Native.Nat.{ℕ, ◌<◌}
use native.Mathlib.Nat.{eq-or-lt_of_le, le_of_suc-le-suc}
use native.Mathlib.Omega.{arith}
use lib.Dec.{T, eqb, ltb}
use lib.ListN.{length}
use Rattle.masks.proofs.Truth.{T→true, eq→eqb}
use Rattle.model.specs.declared.Origin.{Origin}
use Rattle.model.specs.declared.Register.{Register}
use Rattle.model.specs.State.{origin_at}
use Rattle.model.specs.Rules.{well_formed}
use Rattle.model.specs.Rulings.{value, refused, Effect, Guard, ◌unless◌, ◌when◌, Clear}
use Rattle.model.specs.Administration.{enrol_ruling, found_ruling, grant_ruling, withdraw_ruling, appoint_ruling, dismiss_ruling, clock_ruling}
use Rattle.model.specs.Delegation.{create_ruling, allow_ruling, lend_ruling, hand_ruling}
use Rattle.model.specs.Sessions.{open_ruling, check_ruling, close_ruling}
use Rattle.model.specs.Revocation.{amend_ruling, revoke_ruling}
use Rattle.model.specs.Comparison.{same_ruling}
use Rattle.model.specs.Calls.{Call, enrol, found, grant, withdraw, appoint, dismiss, clock, create, allow, lend, hand, opening, check, amend, revoke, close, same, ruling, step}
use Rattle.model.specs.Image.{encode, decode, loads, save_effect, load_effect}
use Rattle.model.specs.Lists.{Event, call, save, load, perform, run, derived_by, derived_next, derived_after, derived_from}
use Rattle.model.proofs.Settling.{Settled, accepted, declined, settle_cases}
use Rattle.model.proofs.Kept.{Kept}
use Rattle.model.proofs.Granting.{withdraw_origins}
use Rattle.model.proofs.Creating.{create_origins}
use Rattle.model.proofs.Delegating.{allow_origins, lend_origins, hand_origins}
use Rattle.model.proofs.Opening.{open_origins}
use Rattle.model.proofs.Revocation.{amend_origins, revoke_origins}
use Rattle.model.proofs.Running.{step_cases, perform_keeps}

-- the register shows the origins that `derived` gives
abbrev pub Shows : Register → (ℕ → Origin) → Type 0
Shows r derived = (i : ℕ) → i < r.count → origin_at r.capabilities i ≡ derived i

-- ---- one entry

accepted_origins : (r : Register) (c : Call) (derived : ℕ → Origin) → Kept r → Clear (ruling r c).guards → ((i : ℕ) → i < r.count → origin_at r.capabilities i ≡ derived i)
    → (i : ℕ) → i < (ruling r c).after.count → origin_at (ruling r c).after.capabilities i ≡ derived_by c (ruling r c).result derived i
unfolding ruling enrol_ruling found_ruling grant_ruling withdraw_ruling appoint_ruling dismiss_ruling clock_ruling create_ruling allow_ruling lend_ruling hand_ruling open_ruling check_ruling amend_ruling revoke_ruling close_ruling same_ruling
accepted_origins r (enrol user domain) derived k g h i l = h i l
accepted_origins r (found j domain hours places devices) derived k g h i l = h i l
accepted_origins r (grant j p) derived k g h i l = h i l
accepted_origins r (withdraw j p) derived k g h i l = withdraw_origins r j p k g i ∙ h i l
accepted_origins r (appoint u j) derived k g h i l = h i l
accepted_origins r (dismiss u j) derived k g h i l = h i l
accepted_origins r (clock tick) derived k g h i l = h i l
accepted_origins r (create user o at plan) derived k g h i l = create_origins r user o at plan k g i l ∙ named_or_old (eqb r.count i) refl
  where
    named_or_old : (b : Bool) → eqb r.count i ≡ b → cond b o (origin_at r.capabilities i) ≡ cond b o (derived i)
    named_or_old true e = refl
    named_or_old false e = h i (omega (arith, other (eq-or-lt_of_le (le_of_suc-le-suc l))))
      where
        other : (i ≡ r.count) ⊎ (i < r.count) → i < r.count
        other (inl q) = absurd (subst T (sym (T→true (eqb r.count i) (eq→eqb _ _ (sym q))) ∙ e) tt)
        other (inr q) = q
accepted_origins r (allow user n mask) derived k g h i l = allow_origins r user n mask k g i ∙ h i l
accepted_origins r (lend user n mask) derived k g h i l = lend_origins r user n mask k g i ∙ h i l
accepted_origins r (hand user receiver n) derived k g h i l = hand_origins r user receiver n k g i ∙ h i l
accepted_origins r (opening s user o at) derived k g h i l = open_origins r s user o at k g i ∙ h i l
accepted_origins r (check s p at) derived k g h i l = h i l
accepted_origins r (amend user n change) derived k g h i l = amend_origins r user n change k g i ∙ h i l
accepted_origins r (revoke user n) derived k g h i l = revoke_origins r user n k g i ∙ h i l
accepted_origins r (close s) derived k g h i l = h i l
accepted_origins r (same m n) derived k g h i l = h i l

-- an effect that is settled shows what follows, if the accepted one does
settle_shows : (e : Event) (r : Register) (gs : List Guard) (v : ℕ) (s : Register) (derived : ℕ → Origin) (q : Effect Register) → Settled r gs v s q
    → ((n : ℕ) → derived_next e (refused n) derived ≡ derived)
    → Shows r derived → (Clear gs → Shows s (derived_next e (value v) derived)) → Shows q.after (derived_next e q.answer derived)
settle_shows e r gs v s derived q (accepted g p) idle h f =
    subst (λ (x : Effect Register). Shows x.after (derived_next e x.answer derived)) (sym p) (f g)
settle_shows e r gs v s derived q (declined n p) idle h f =
    subst (λ (x : Effect Register). Shows x.after (derived_next e x.answer derived)) (sym p)
    (subst (λ (d : ℕ → Origin). Shows r d) (sym (idle n)) h)

perform_shows : (r : Register) (e : Event) (derived : ℕ → Origin) → Kept r → Shows r derived
    → Shows (perform r e).after (derived_next e (perform r e).answer derived)
unfolding perform save_effect load_effect
perform_shows r (call c) derived k h =
    settle_shows (call c) r (ruling r c).guards (ruling r c).result (ruling r c).after derived (step r c) (step_cases r c k)
    (λ n. refl) h (λ g. accepted_origins r c derived k g h)
perform_shows r (save room) derived k h =
    let gs : List Guard = 15 unless (well_formed r ∷ []) ∷ 16 when ltb room (length (encode r)) ∷ [] in
    settle_shows (save room) r gs (length (encode r)) r derived _ (settle_cases r gs (length (encode r)) r) (λ n. refl) h (λ g. h)
perform_shows r (load s) derived k h =
    let gs : List Guard = 14 unless (loads s ∷ []) ∷ [] in
    settle_shows (load s) r gs 0 (decode s) derived _ (settle_cases r gs 0 (decode s)) (λ n. refl) h (λ g i l. refl)

-- ---- the list

after_shows : (r : Register) (es : List Event) (derived : ℕ → Origin) → Kept r → Shows r derived → Shows (run r es) (derived_after r es derived)
unfolding run derived_after
after_shows r [] derived k h = h
after_shows r (e ∷ es) derived k h =
    after_shows (perform r e).after es (derived_next e (perform r e).answer derived) (perform_keeps r e k) (perform_shows r e derived k h)

pub derived_shown : (start : Register) (es : List Event) → Kept start → Shows (run start es) (derived_from start es)
unfolding derived_from
derived_shown start es k = after_shows start es (origin_at start.capabilities) k (λ i l. refl)
