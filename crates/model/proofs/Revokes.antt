-- Of a register that keeps the rules and shows the origins `derived`: exact revokes.
use mathlib.Core.Path.{◌≡◌, refl, sym, ap, ap₂, ◌∙◌, subst}
use mathlib.Core.Logic.{◌⊎◌, inl, inr, ◌↔◌}
use mathlib.Core.Bool.{Bool, true, false, cond, not, ◌&&◌, ◌||◌}
use mathlib.Core.List.{List}
use Prim.Native.Nat.{ℕ, zero, suc, ◌+◌, ◌<◌}
use native.Mathlib.Nat.{add-zero}
use native.Mathlib.Numerals.{add-one}
use native.Mathlib.Omega.{arith}
use lib.Dec.{T, T_not, not_T, ltb→lt}
use lib.ListN.{drop}
use Rattle.masks.specs.Masks.{has}
use Rattle.masks.specs.Tests.{each, count_below, map_from}
use Rattle.masks.proofs.Truth.{and_l, and_r, and_i, or_l, or_r, or_cases, T→true, T→false, true→T}
use Rattle.model.specs.declared.Origin.{Origin}
use Rattle.model.specs.declared.Origin.TheVariants.{Role as ofRole, Capability as ofCapability}
use Rattle.model.specs.declared.Capability.{Capability}
use Rattle.model.specs.declared.Register.{Register}
use Rattle.model.specs.declared.Context.{Context}
use Rattle.model.specs.State.{the_capability, capability_terms, terms, authority, session_at, exists, admitted}
use Rattle.model.specs.Lineage.{Descends, here, in_lineage}
use Rattle.model.specs.Setters.{with_revoked, with_capabilities}
use Rattle.model.specs.Rulings.{value, refused, Effect, Guard, capability, Clear, verdict}
use Rattle.model.specs.Sessions.{permitting, permits, check_ruling}
use Rattle.model.specs.Revocation.{marked, revoke_ruling}
use Rattle.model.specs.Calls.{check, revoke, ruling, step}
use Rattle.model.specs.Theorem.{asked, next, Yes, Due, CountOf, none, counted, skipped, OnDue, ChangesCheck, Revokes}
use Rattle.model.proofs.Settling.{passed, Settled, accepted, declined, same_value, value_refused, one_yes, verdict_cases, step_answer}
use Rattle.model.proofs.Kept.{Kept}
use Rattle.model.proofs.Rules.{kept←}
use Rattle.model.proofs.Tree.{inLineage→, inLineage←, descends_derived}
use Rattle.model.proofs.Keeping.{with_capabilities_lem}
use Rattle.model.proofs.Revoking.{revoke_at, revoke_frames, revoke_capabilities}
use Rattle.model.proofs.Running.{step_cases}
use Rattle.model.proofs.History.{Shows}
use Rattle.model.proofs.Checks.{shown, session_on, permits_entitled}

-- ---- a number of things, and a count by a test that says the same of each

module _ (P : ℕ → Type 0) (t : ℕ → Bool) where
  count_next : (n v : ℕ) → T (t n) ↔ P n → CountOf P n v → CountOf P (suc n) (v + cond (t n) 1 0)
  count_next n v h c = cases (t n) h
    where
      cases : (b : Bool) → T b ↔ P n → CountOf P (suc n) (v + cond b 1 0)
      cases true g = subst (CountOf P (suc n)) (sym (add-one v)) (counted (g.0 tt) c)
      cases false g = subst (CountOf P (suc n)) (sym (add-zero v)) (skipped (λ q. absurd (g.1 q)) c)

  count_tested : (n : ℕ) → ((i : ℕ) → i < n → T (t i) ↔ P i) → CountOf P n (count_below n t)
  unfolding count_below
  count_tested zero h = none
  count_tested (suc n) h = count_next n (count_below n t) (h n (omega arith)) (count_tested n (λ i l. h i (omega arith)))

  -- and it is the only number
  count_one : {n v : ℕ} → ((i : ℕ) → i < n → T (t i) ↔ P i) → CountOf P n v → v ≡ count_below n t
  unfolding count_below
  count_one h none = refl
  count_one {n = suc n} h (counted {v = v} q c) = rw (T→true (t n) ((h n (omega arith)).1 q)) (rw (count_one (λ i l. h i (omega arith)) c) (sym (add-one _)))
  count_one {n = suc n} h (skipped {v = v} q c) = rw (T→false (t n) (not_T (t n) (λ x. q ((h n (omega arith)).0 x)))) (rw (count_one (λ i l. h i (omega arith)) c) (sym (add-zero _)))

-- so the value of a revoke is the number of those newly marked too
module _ (r r' : Register) (derived : ℕ → Origin) (n v : ℕ) where
  abbrev pub newly : ℕ → Bool
  newly i = (capability r' i).revoked && not (capability r i).revoked

  pub newly_marked : Revokes r r' derived n v → v ≡ count_below r.count newly
  newly_marked h =
      count_one (Due r derived n) newly
      (λ i l. (
        (λ t. (h.marks i l).0 (and_r (capability r' i).revoked (not (capability r i).revoked) t, and_l (capability r' i).revoked (not (capability r i).revoked) t)),
        (λ d. and_i (capability r' i).revoked (not (capability r i).revoked) ((h.marks i l).1 d).1 ((h.marks i l).1 d).0),
      ))
      h.counts

module _ (r : Register) (derived : ℕ → Origin) (k : Kept r) (shows : Shows r derived) where
  module _ (n : ℕ) (n-there : n < r.count) where
    abbrev revoked : Register
    revoked = with_capabilities r (map_from (marked r.capabilities n) 0 r.capabilities)

    mark_at : (i : ℕ) → i < r.count → capability revoked i ≡ with_revoked (capability r i) ((capability r i).revoked || in_lineage r.capabilities n i)
    mark_at i l = revoke_at r.enrolled r.roles r.count r.capabilities k.capabilities n n-there i (omega (arith, k.capabilities.enough))

    marked_at : (i : ℕ) → i < r.count → (capability revoked i).revoked ≡ ((capability r i).revoked || in_lineage r.capabilities n i)
    marked_at i l = ap (λ (c : Capability). c.revoked) (mark_at i l)

    on→ : (i : ℕ) → i < r.count → T (in_lineage r.capabilities n i) → Descends derived i n
    on→ i l t =
        descends_derived r.enrolled r.roles r.count r.capabilities k.capabilities derived shows l (inLineage→ r.enrolled r.roles r.count r.capabilities k.capabilities n i t)

    on← : (i : ℕ) → i < r.count → Descends derived i n → T (in_lineage r.capabilities n i)
    on← i l c = inLineage← r.enrolled r.roles r.count r.capabilities k.capabilities n i l (shown r derived k shows l c)

    marks_hold : (i : ℕ) → i < r.count → (T (not (capability r i).revoked) × T (capability revoked i).revoked) ↔ Due r derived n i
    marks_hold i l = (
      (λ q. record { unmarked = q.0; descends = on→ i l (by_lineage q.0 (or_cases (capability r i).revoked (in_lineage r.capabilities n i) (subst T (marked_at i l) q.1))) }),
      (λ d. (d.unmarked, subst T (sym (marked_at i l)) (or_r (capability r i).revoked (in_lineage r.capabilities n i) (on← i l d.descends)))),
    )
      where
        by_lineage : T (not (capability r i).revoked) → T (capability r i).revoked ⊎ T (in_lineage r.capabilities n i) → T (in_lineage r.capabilities n i)
        by_lineage u (inl t) = absurd (T_not (capability r i).revoked u t)
        by_lineage u (inr t) = t

    keeps_marks_hold : (i : ℕ) → i < r.count → T (capability r i).revoked → T (capability revoked i).revoked
    keeps_marks_hold i l t = subst T (sym (marked_at i l)) (or_l (capability r i).revoked (in_lineage r.capabilities n i) t)

    marks_only_hold : (i : ℕ) → i < r.count → capability revoked i ≡ with_revoked (capability r i) (capability revoked i).revoked
    marks_only_hold i l = mark_at i l ∙ ap (λ (b : Bool). with_revoked (capability r i) b) (sym (marked_at i l))

    abbrev due : ℕ → Bool
    due i = in_lineage r.capabilities n i && not (capability r i).revoked

    -- what the call counts is what is due
    counts_hold : CountOf (Due r derived n) r.count (count_below r.count due)
    counts_hold =
        count_tested (Due r derived n) due r.count
        (λ i l. (
          (λ t. record { unmarked = and_r (in_lineage r.capabilities n i) (not (capability r i).revoked) t; descends = on→ i l (and_l (in_lineage r.capabilities n i) (not (capability r i).revoked) t) }),
          (λ d. and_i (in_lineage r.capabilities n i) (not (capability r i).revoked) (on← i l d.descends) d.unmarked),
        ))

    -- on a role nothing changes; on a capability, the yes of those that descend from n
    same_role : (j user p : ℕ) (at : Context) → permits revoked (ofRole j) user p at ≡ permits r (ofRole j) user p at
    unfolding permits terms
    same_role j user p at = refl

    cut_yes : (i user p : ℕ) (at : Context) → i < r.count
        → permits revoked (ofCapability i) user p at ≡ (permits r (ofCapability i) user p at && not (in_lineage r.capabilities n i))
    unfolding permits terms authority admitted
    cut_yes i user p at l =
        ap (λ (c : Capability). each (asks c)) (mark_at i l)
        ∙ without (has (capability r i).holders user) (capability r i).revoked (in_lineage r.capabilities n i) (each (drop 2 (asks (capability r i))))
      where
        asks : Capability → List Bool
        asks c = permitting r.clock (the_capability i c) (capability_terms r.roles c) user p at

        -- z is what a check asks that no mark touches
        without : (a x y z : Bool) → (a && (not (x || y) && z)) ≡ ((a && (not x && z)) && not y)
        without false x y z = refl
        without true true y z = refl
        without true false true false = refl
        without true false true true = refl
        without true false false false = refl
        without true false false true = refl

    revoked_kept : Kept revoked
    revoked_kept =
        with_capabilities_lem r _ k
        (revoke_frames r.enrolled r.roles r.count r.capabilities k.capabilities n n-there)
        (revoke_capabilities r.enrolled r.roles r.count r.capabilities k.capabilities n n-there)

    -- the check of s and p in a context, by what its session is on
    module _ (s p : ℕ) (at : Context) where
      Changed : Type 0
      Changed = ChangesCheck r revoked s p at

      Lost : Type 0
      Lost = Yes r s p at × OnDue r derived n s

      -- where both are answered
      lost : (o : Origin) → (session_at r.sessions s).on ≡ o → T (exists r.roles r.count o)
          → asked r (check s p at) ≡ value (cond (permits r o (session_at r.sessions s).user p at) 1 0)
          → asked revoked (check s p at) ≡ value (cond (permits revoked o (session_at r.sessions s).user p at) 1 0)
          → Changed ↔ Lost
      unfolding Changed Lost exists
      lost (ofRole j) e l a b = (
        (λ h. absurd (h (a ∙ ap (λ (x : Bool). value (cond x 1 0)) (sym (same_role j _ p at)) ∙ sym b))),
        (λ q. let z : ◌≡◌ {A = ℕ} 0 1 = cc (e, q.1.1) in absurd (omega arith)),
      )
      lost (ofCapability i) e l a b = (
        (λ h. gone h (permits r (ofCapability i) u p at) refl (in_lineage r.capabilities n i) refl),
        (λ q h. kept_no (one_yes (permits r (ofCapability i) u p at) (sym a ∙ q.0)) (on← i i_there (subst (λ (x : ℕ). Descends derived x n) (same_capability q.1.0 q.1.1) q.1.2.descends)) h),
      )
        where
          u : ℕ
          u = (session_at r.sessions s).user

          i_there : i < r.count
          i_there = ltb→lt _ _ l

          same_capability : (j : ℕ) → (session_at r.sessions s).on ≡ ofCapability j → j ≡ i
          same_capability j f = cc

          after : (x y : Bool) → permits r (ofCapability i) u p at ≡ x → in_lineage r.capabilities n i ≡ y → asked revoked (check s p at) ≡ value (cond (x && not y) 1 0)
          after x y f g =
              b ∙ ap (λ (z : Bool). value (cond z 1 0)) (cut_yes i u p at i_there)
              ∙ ap₂ (λ (c d : Bool). value (cond (c && not d) 1 0)) f g

          gone : Changed → (x : Bool) → permits r (ofCapability i) u p at ≡ x → (y : Bool) → in_lineage r.capabilities n i ≡ y → Lost
          gone h false f y g = absurd (h (a ∙ ap (λ (z : Bool). value (cond z 1 0)) f ∙ sym (after false y f g)))
          gone h true f false g = absurd (h (a ∙ ap (λ (z : Bool). value (cond z 1 0)) f ∙ sym (after true false f g)))
          gone h true f true g = (
            a ∙ ap (λ (z : Bool). value (cond z 1 0)) f,
            (i, e, record { unmarked = ((permits_entitled r derived k shows i u p at i_there (true→T _ f)).lineage i here).unrevoked; descends = on→ i i_there (true→T _ g) }),
          )

          kept_no : T (permits r (ofCapability i) u p at) → T (in_lineage r.capabilities n i) → asked r (check s p at) ≡ asked revoked (check s p at) → ⊥
          kept_no f g h =
              let x : asked revoked (check s p at) ≡ value 0 = after true true (T→true (permits r (ofCapability i) u p at) f) (T→true (in_lineage r.capabilities n i) g) in
              let y : asked r (check s p at) ≡ value 1 = a ∙ ap (λ (z : Bool). value (cond z 1 0)) (T→true (permits r (ofCapability i) u p at) f) in
              let z : ◌≡◌ {A = ℕ} 0 1 = cc in
              omega arith

      checks_hold : Changed ↔ Lost
      unfolding Changed Lost ruling check_ruling
      checks_hold =
          settled_one (verdict_cases (check_ruling r s p at).guards) (step_answer r (check s p at) (kept← r k)) (step_answer revoked (check s p at) (kept← revoked revoked_kept))
        where
          rs : List Guard
          rs = (check_ruling r s p at).guards

          v1 : ℕ
          v1 = cond (permits r (session_at r.sessions s).on (session_at r.sessions s).user p at) 1 0

          v2 : ℕ
          v2 = cond (permits revoked (session_at r.sessions s).on (session_at r.sessions s).user p at) 1 0

          settled_one : (Clear rs × ((v : ℕ) → verdict rs v ≡ value v)) ⊎ ((m : ℕ) × ((v : ℕ) → verdict rs v ≡ refused m))
              → asked r (check s p at) ≡ verdict rs v1 → asked revoked (check s p at) ≡ verdict rs v2 → Changed ↔ Lost
          settled_one (inl c) a b =
              lost (session_at r.sessions s).on refl (session_on r derived k shows s c.0.1.0.0) (a ∙ c.1 v1) (b ∙ c.1 v2)
          settled_one (inr m) a b = (
            (λ h. absurd (h (a ∙ m.1 v1 ∙ sym (m.1 v2) ∙ sym b))),
            (λ q. value_refused (sym q.0 ∙ a ∙ m.1 v1)),
          )

  pub exact_revoke_holds : (user n v : ℕ) → asked r (revoke user n) ≡ value v → Revokes r (next r (revoke user n)) derived n v
  unfolding ruling revoke_ruling exists Changed Lost
  exact_revoke_holds user n v e = cases (step_cases r (revoke user n) k)
    where
      cases : Settled r (revoke_ruling r user n).guards (revoke_ruling r user n).result (revoke_ruling r user n).after (step r (revoke user n)) → Revokes r (next r (revoke user n)) derived n v
      cases (declined m q) = value_refused (sym e ∙ ap (λ (x : Effect Register). x.answer) q)
      cases (accepted g q) =
          let l : n < r.count = ltb→lt _ _ (passed 3 (revoke_ruling r user n).guards g).1.0 in
          subst
          (λ (x : Register). Revokes r x derived n v)
          (sym (ap (λ (x : Effect Register). x.after) q))
          (record {
            marks = marks_hold n l;
            counts = subst (CountOf (Due r derived n) r.count) (same_value (sym (ap (λ (x : Effect Register). x.answer) q) ∙ e)) (counts_hold n l);
            checks = checks_hold n l;
            keeps_marks = keeps_marks_hold n l;
            marks_only = marks_only_hold n l;
            capabilities_only = refl;
          })
