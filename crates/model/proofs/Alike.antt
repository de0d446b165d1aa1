-- The laws of `specs/Alike.antt`: same compares lists of numbers (`alike-equal`), and a check reads of a capability that is held and
-- not revoked only what same compares (`permits-alike`).
use mathlib.Core.Path.{◌≡◌, refl, sym, ap, ap₂, ◌∙◌, subst}
use mathlib.Core.Logic.{◌↔◌, ◌≢◌}
use mathlib.Core.Bool.{Bool, true, false, cond, not}
use mathlib.Core.List.{List, [], ◌∷◌, zip_with, map}
use Prim.Native.Nat.{ℕ, suc, ◌<◌}
use native.Mathlib.Decide.{ℕ_discrete}
use native.Mathlib.Omega.{arith}
use lib.Dec.{T, eqb, ltb, not_T, ltb→lt, lt→ltb, eqb→eq, eqb_refl}
use lib.ListN.{length}
use Rattle.masks.specs.Masks.{has}
use Rattle.masks.specs.Tests.{each}
use Rattle.masks.proofs.Truth.{and_l, and_r, and_i, T→true, T→false, same_test}
use Rattle.model.specs.declared.Origin.{Origin}
use Rattle.model.specs.declared.Origin.TheVariants.{Capability as ofCapability}
use Rattle.model.specs.declared.Capability.{Capability}
use Rattle.model.specs.declared.Register.{Register}
use Rattle.model.specs.declared.Context.{Context}
use Rattle.model.specs.State.{terms, admitted, origin_at}
use Rattle.model.specs.Lineage.{root, ending, Descends, Reaches, last_step, one_step}
use Rattle.model.specs.Rules.{is_capability, well_formed}
use Rattle.model.specs.Setters.{with_clock}
use Rattle.model.specs.Rulings.{Outcome, value, refused, Effect, Guard, ◌unless◌, ◌when◌, verdict, role, capability}
use Rattle.model.specs.Administration.{clock_ruling}
use Rattle.model.specs.Sessions.{open_ruling, permits}
use Rattle.model.specs.Comparison.{domain_of, compared, alike, same_guards, same_ruling}
use Rattle.model.specs.Calls.{clock, opening, check, revoke, same, ruling, step}
use Rattle.model.specs.Lists.{run, perform, calls, derived_from, derived_after}
use Rattle.model.specs.Theorem.{asked, next, Yes, ChangesCheck, OnDue, Guarantee}
use Rattle.model.specs.Alike.{Agree, Same, Held, Serves, Paired, ChecksAs, UsesLeft, AlikeLaws}
use Rattle.model.proofs.Settling.{Settled, accepted, declined, passed, one_yes, same_value, value_refused, settle_answer, step_answer, step_value, step_formed, clear_verdict}
use Rattle.model.proofs.Kept.{Kept}
use Rattle.model.proofs.Rules.{kept→, kept←}
use Rattle.model.proofs.Running.{step_cases, step_keeps}
use Rattle.model.proofs.Checks.{checked, check_open}
use Rattle.model.proofs.ListTheorem.{list_theorem}

-- ---- numbers compared place by place

zip_equal : (xs ys : List ℕ) → length xs ≡ length ys → T (each (zip_with eqb xs ys)) → xs ≡ ys
unfolding zip_with
zip_equal [] [] l h = refl
zip_equal [] (y ∷ ys) l h = absurd (omega (arith, l))
zip_equal (x ∷ xs) [] l h = absurd (omega (arith, l))
zip_equal (x ∷ xs) (y ∷ ys) l h =
    ap₂ (λ (a : ℕ) (s : List ℕ). a ∷ s) (eqb→eq x y (and_l (eqb x y) _ h)) (zip_equal xs ys (omega (arith, l)) (and_r (eqb x y) _ h))

zip_itself : (xs : List ℕ) → T (each (zip_with eqb xs xs))
unfolding zip_with
zip_itself [] = tt
zip_itself (x ∷ xs) = and_i (eqb x x) _ (eqb_refl x) (zip_itself xs)

module _ (r : Register) where
  alike_equal : (m n : ℕ) → T (alike r m n) ↔ (compared r m ≡ compared r n)
  unfolding alike
  alike_equal m n = (zip_equal (compared r m) (compared r n) refl, λ e. subst (λ (s : List ℕ). T (each (zip_with eqb (compared r m) s))) e (zip_itself (compared r m)))

  agree→ : (m n : ℕ) → compared r m ≡ compared r n → Agree r m n
  agree→ m n e =
      record {
        domain = cc;
        authority_equal = cc;
        first = cc;
        last = cc;
        use_limit = cc;
        creation_limit = cc;
        hop_limit = cc;
        hours = cc;
        places = cc;
        devices = cc;
      }

  agree← : (m n : ℕ) → Agree r m n → compared r m ≡ compared r n
  agree← m n a = cc

  agrees : (m n : ℕ) → T (alike r m n) ↔ Agree r m n
  agrees m n = (λ h. agree→ m n ((alike_equal m n).0 h), λ a. (alike_equal m n).1 (agree← m n a))

-- ---- the answer

both_swapped : (a b : Bool) → each (a ∷ b ∷ []) ≡ each (b ∷ a ∷ [])
both_swapped true true = refl
both_swapped true false = refl
both_swapped false true = refl
both_swapped false false = refl

module _ (r : Register) where
  same_answer : (m n : ℕ) → T (well_formed r) → m < r.count → n < r.count → asked r (same m n) ≡ value (cond (alike r m n) 1 0)
  unfolding ruling same_ruling
  same_answer m n w a b =
      let room = (kept→ r w).capabilities.enough in
      step_answer r (same m n) w
      ∙ clear_verdict (same_guards r.count m n) (cond (alike r m n) 1 0)
      ((lt→ltb m 256 (omega (arith, a, room)), (lt→ltb n 256 (omega (arith, b, room)), tt)), ((lt→ltb m _ a, (lt→ltb n _ b, tt)), tt))

  told_one : (m n : ℕ) → T (well_formed r) → m < r.count → n < r.count → Same r m n ↔ Agree r m n
  told_one m n w a b = (
    (λ e. (agrees r m n).0 (one_yes (alike r m n) (sym (same_answer m n w a b) ∙ e))),
    (λ q. same_answer m n w a b ∙ ap (λ (t : Bool). value (cond t 1 0)) (T→true (alike r m n) ((agrees r m n).1 q))),
  )

  told_zero : (m n : ℕ) → T (well_formed r) → m < r.count → n < r.count → (asked r (same m n) ≡ value 0) ↔ (¬ Agree r m n)
  told_zero m n w a b = (
    (λ e q. let z : ◌≡◌ {A = ℕ} 0 1 = same_value (sym e ∙ (told_one m n w a b).1 q) in absurd (omega arith)),
    (λ f. same_answer m n w a b ∙ ap (λ (t : Bool). value (cond t 1 0)) (T→false (alike r m n) (not_T (alike r m n) (λ t. f ((agrees r m n).0 t))))),
  )

  -- both are there, and what is compared of them is equal
  same_there : (m n : ℕ) → Same r m n → (m < r.count) × (n < r.count) × (compared r m ≡ compared r n)
  unfolding ruling same_ruling
  same_there m n e =
      let h = step_value r (same m n) e in
      let there = passed 3 (same_guards r.count m n) h.0 in
      (ltb→lt m _ there.0, ltb→lt n _ there.1.0, (alike_equal r m n).0 (one_yes (alike r m n) (ap value h.1)))

  equal_same : (m n : ℕ) → T (well_formed r) → m < r.count → n < r.count → compared r m ≡ compared r n → Same r m n
  equal_same m n w a b e = (told_one m n w a b).1 (agree→ r m n e)

  transitive : (l m n : ℕ) → Same r l m → Same r m n → Same r l n
  transitive l m n g h =
      let first = same_there l m g in let second = same_there m n h in
      equal_same l n (step_formed r (same l m) g) first.0 second.1 (first.2 ∙ second.2)

  alike_symmetric : (m n : ℕ) → alike r m n ≡ alike r n m
  alike_symmetric m n = same_test (alike r m n) (alike r n m) (λ h. (alike_equal r n m).1 (sym ((alike_equal r m n).0 h))) (λ h. (alike_equal r m n).1 (sym ((alike_equal r n m).0 h)))

  -- the answer by its four tests: whatever the order of the two, they are the same
  abbrev answer_by : (w ranged there told : Bool) → Outcome
  answer_by w ranged there told = verdict (15 unless (w ∷ []) ∷ 2 when not ranged ∷ 3 when not there ∷ []) (cond told 1 0)

  symmetric : (m n : ℕ) → asked r (same m n) ≡ asked r (same n m)
  unfolding step ruling same_ruling
  symmetric m n =
      settle_answer r _ _ _
      ∙ ap₂ (λ (a b : Bool). answer_by (well_formed r) a b (alike r m n)) (both_swapped (is_capability m) (is_capability n)) (both_swapped (ltb m r.count) (ltb n r.count))
      ∙ ap (answer_by (well_formed r) (each (is_capability n ∷ is_capability m ∷ [])) (each (ltb n r.count ∷ ltb m r.count ∷ []))) (alike_symmetric m n)
      ∙ sym (settle_answer r _ _ _)

-- ---- the domain

reaches_root : (cs : List Capability) {f n k : ℕ} → Reaches (origin_at cs) f n k → root f cs n ≡ k
unfolding root
reaches_root cs (last_step {f = f} e) = ap (ending (λ j. root f cs j)) e
reaches_root cs (one_step {f = f} e q) = ap (ending (λ j. root f cs j)) e ∙ reaches_root cs q

domain_reached : (r : Register) (n k : ℕ) → Reaches (origin_at r.capabilities) (suc n) n k → domain_of r n ≡ (role r k).domain
unfolding domain_of
domain_reached r n k h = ap (λ (j : ℕ). (role r j).domain) (reaches_root r.capabilities h)

-- ---- checks

module _ (r : Register) where
  check_serves : (s user n p : ℕ) (at : Context) → T (well_formed r) → Serves r s user n → asked r (check s p at) ≡ checked p at (permits r (ofCapability n) user p at)
  check_serves s user n p at w h =
      check_open r s p at (kept→ r w) h.active
      ∙ ap₂ (λ (o : Origin) (u : ℕ). checked p at (permits r o u p at)) h.on h.whose

  -- of a capability that is held and not revoked, a check and an open read nothing else that may differ
  module _ (m n user : ℕ) (a : Agree r m n) (g : Held r user m) (h : Held r user n) where
    holders_alike : has (capability r m).holders user ≡ has (capability r n).holders user
    holders_alike = same_test _ _ (λ x. h.holder) (λ x. g.holder)

    marks_alike : (capability r m).revoked ≡ (capability r n).revoked
    marks_alike = T→false _ g.unrevoked ∙ sym (T→false _ h.unrevoked)

    permits-alike : (p : ℕ) (at : Context) → permits r (ofCapability m) user p at ≡ permits r (ofCapability n) user p at
    unfolding permits terms admitted
    permits-alike p at = let q = holders_alike in let v = marks_alike in cc

    opens_alike : T (well_formed r) → m < r.count → n < r.count → UsesLeft r m → UsesLeft r n
        → (s : ℕ) (at : Context) → asked r (opening s user (ofCapability m) at) ≡ asked r (opening s user (ofCapability n) at)
    unfolding ruling open_ruling terms admitted
    opens_alike w l k u v s at =
        let room = (kept→ r w).capabilities.enough in
        let ranged = same_test (is_capability m) (is_capability n) (λ x. lt→ltb n 256 (omega (arith, k, room))) (λ x. lt→ltb m 256 (omega (arith, l, room))) in
        let there = same_test (ltb m r.count) (ltb n r.count) (λ x. lt→ltb n _ k) (λ x. lt→ltb m _ l) in
        let left = same_test (ltb (capability r m).uses (capability r m).use_limit) (ltb (capability r n).uses (capability r n).use_limit) (λ x. lt→ltb _ _ v) (λ x. lt→ltb _ _ u) in
        let held = holders_alike in let mark = marks_alike in
        let guards : (ruling r (opening s user (ofCapability m) at)).guards ≡ (ruling r (opening s user (ofCapability n) at)).guards = cc in
        step_answer r (opening s user (ofCapability m) at) w
        ∙ ap (λ (gs : List Guard). verdict gs 0) guards
        ∙ sym (step_answer r (opening s user (ofCapability n) at) w)

clock_serves : (r : Register) (tick s user n : ℕ) → Serves r s user n → Serves (with_clock r tick) s user n
clock_serves r tick s user n h =
    record { active = h.active; whose = h.whose; on = h.on; held = record { holder = h.held.holder; unrevoked = h.held.unrevoked } }

-- answers that do not differ are equal
unchanged : (a b : Outcome) → ¬ (a ≢ b) → a ≡ b
unchanged (value v) (value w) h = cases (ℕ_discrete v w)
  where
    cases : Dec (v ≡ w) → value v ≡ value w
    cases (yes e) = ap value e
    cases (no g) = absurd (h (λ e. g (same_value e)))
unchanged (refused i) (refused j) h = cases (ℕ_discrete i j)
  where
    cases : Dec (i ≡ j) → refused i ≡ refused j
    cases (yes e) = ap refused e
    cases (no g) = absurd (h (λ e. g cc))
unchanged (value v) (refused j) h = absurd (h (λ e. value_refused e))
unchanged (refused i) (value w) h = absurd (h (λ e. value_refused (sym e)))

module _ (m n s t user : ℕ) where
  checks_now : (r : Register) → Paired r m n s t user → ChecksAs r s r t
  checks_now r q p at =
      let w = step_formed r (same m n) q.equal in
      let agree = agree→ r m n (same_there r m n q.equal).2 in
      check_serves r t user n p at w q.other
      ∙ ap (checked p at) (sym (permits-alike r m n user agree q.one.held q.other.held p at))
      ∙ sym (check_serves r s user m p at w q.one)

  -- a clock call changes nothing that `Paired` speaks of
  clock_paired : (r : Register) (tick : ℕ) → Paired r m n s t user → Paired (next r (clock tick)) m n s t user
  unfolding ruling clock_ruling domain_of
  clock_paired r tick q = cases (step_cases r (clock tick) k) (step_keeps r (clock tick) k)
    where
      k : Kept r
      k = kept→ r (step_formed r (same m n) q.equal)

      there : (m < r.count) × (n < r.count) × (compared r m ≡ compared r n)
      there = same_there r m n q.equal

      cases : Settled r (ruling r (clock tick)).guards (ruling r (clock tick)).result (ruling r (clock tick)).after (step r (clock tick))
          → Kept (next r (clock tick)) → Paired (next r (clock tick)) m n s t user
      cases (declined i e) k' = subst (λ (x : Effect Register). Paired x.after m n s t user) (sym e) q
      cases (accepted g e) k' =
          subst (λ (x : Effect Register). Paired x.after m n s t user) (sym e)
          (record {
            equal = equal_same (with_clock r tick) m n (subst (λ (x : Effect Register). T (well_formed x.after)) e (kept← (next r (clock tick)) k')) there.0 there.1 there.2;
            one = clock_serves r tick s user m q.one;
            other = clock_serves r tick t user n q.other;
          })

  paired_later : (r : Register) → Paired r m n s t user → (ticks : List ℕ) → Paired (run r (calls (map clock ticks))) m n s t user
  unfolding run perform
  paired_later r q [] = q
  paired_later r q (tick ∷ ticks) = paired_later (next r (clock tick)) (clock_paired r tick q) ticks

  -- a revoke changes the checks of sessions on what it marks, and of no others
  checks_given_up : (r : Register) → Paired r m n s t user → ¬ Descends (origin_at r.capabilities) n m
      → (revoker v : ℕ) → asked r (revoke revoker m) ≡ value v → ChecksAs r s (next r (revoke revoker m)) t
  unfolding run derived_from derived_after
  checks_given_up r q apart revoker v e p at = sym (unchanged _ _ (λ d. not_due (changed.0 d).1)) ∙ checks_now r q p at
    where
      holds : Guarantee r (origin_at r.capabilities)
      holds = list_theorem r [] (step_formed r (same m n) q.equal)

      changed : ChangesCheck r (next r (revoke revoker m)) t p at ↔ (Yes r t p at × OnDue r (origin_at r.capabilities) m t)
      changed = (holds.exact_revoke revoker m v e).checks t p at

      not_due : OnDue r (origin_at r.capabilities) m t → ⊥
      not_due d =
          let i : d.0 ≡ n = cc in
          apart (subst (λ (x : ℕ). Descends (origin_at r.capabilities) x m) i d.2.descends)

pub alike_laws : AlikeLaws
alike_laws =
    record {
      told_one = told_one;
      told_zero = told_zero;
      domain_reached = domain_reached;
      reflexive = λ r n w l. equal_same r n n w l l refl;
      symmetric = symmetric;
      transitive = transitive;
      opens_alike = λ r m n user e g h.
          let there = same_there r m n e in
          opens_alike r m n user (agree→ r m n there.2) g h (step_formed r (same m n) e) there.0 there.1;
      checks_now = λ r m n s t user. checks_now m n s t user r;
      paired_later = λ r m n s t user. paired_later m n s t user r;
      checks_later = λ r m n s t user q ticks. checks_now m n s t user _ (paired_later m n s t user r q ticks);
      checks_given_up = λ r m n s t user. checks_given_up m n s t user r;
    }
