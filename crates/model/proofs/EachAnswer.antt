-- Each answer by itself: a value has 32 bits, a refusal is one of 1 to 16, and what is refused leaves the register as it was.
use mathlib.Core.Path.{◌≡◌, refl, sym, subst}
use mathlib.Core.Bool.{Bool, true, false, not, cond, ◌&&◌}
use mathlib.Core.List.{List, [], ◌∷◌}
use Prim.Native.Nat.{ℕ, zero, suc, ◌+◌, ◌^◌, ◌≤◌, ◌<◌}
use native.Mathlib.Omega.{arith}
use lib.Bits.{bit_or, or_lt}
use lib.Dec.{T, leb, ltb, leb→le, ltb→lt, lit≤}
use lib.ListN.{length}
use Rattle.masks.specs.Tests.{count_below}
use Rattle.masks.proofs.Truth.{and_l, and_r, true→T}
use Rattle.masks.proofs.JoinLaws.{joined_small}
use Rattle.model.specs.declared.Role.{Role}
use Rattle.model.specs.declared.Register.{Register}
use Rattle.model.specs.State.{authority, lent_authority, role_authority, blank_role}
use Rattle.model.specs.Rules.{well_formed}
use Rattle.model.specs.Rulings.{Outcome, value, refused, Effect, Guard, ◌unless◌, ◌when◌, applies, number, Fact, Clear, verdict, role, capability}
use Rattle.model.specs.Administration.{enrol_ruling, found_ruling, grant_ruling, withdraw_ruling, appoint_ruling, dismiss_ruling, clock_ruling}
use Rattle.model.specs.Delegation.{create_ruling, allow_ruling, lend_ruling, hand_ruling}
use Rattle.model.specs.Sessions.{session, permits, open_ruling, check_ruling, close_ruling}
use Rattle.model.specs.Revocation.{raise, lower, amend_ruling, revoke_ruling}
use Rattle.model.specs.Comparison.{alike, same_ruling}
use Rattle.model.specs.Calls.{Call, enrol, found, grant, withdraw, appoint, dismiss, clock, create, allow, lend, hand, opening, check, amend, revoke, close, same, ruling, step}
use Rattle.model.specs.Image.{encode, decode, loads, save_effect, load_effect}
use Rattle.model.specs.Lists.{Event, call, save, load, perform}
use Rattle.model.specs.Theorem.{asked, InBounds, EachAnswer}
use Rattle.model.specs.Invariant.{RoleRules, CapabilityRanges, WellFormed}
use Rattle.model.proofs.Settling.{passed, fact, settle_stays, step_answer, broken}
use Rattle.model.proofs.Kept.{Kept}
use Rattle.model.proofs.Rules.{formed→, kept→}
use Rattle.model.proofs.Ranges.{in_range_lem}

-- ---- refusals

-- those of a call on a register that keeps the rules
abbrev is_own : ℕ → Bool
is_own n = leb 1 n && leb n 13

abbrev numbers : List Guard → Bool
numbers [] = true
numbers (q ∷ rest) = is_own (number q) && numbers rest

abbrev pub Own : Outcome → Type 0
Own (value v) = v ≤ 4294967295
Own (refused n) = (1 ≤ n) × (n ≤ 13)

own_verdict : (rs : List Guard) (v : ℕ) → T (numbers rs) → (Clear rs → v ≤ 4294967295) → Own (verdict rs v)
own_verdict [] v h f = f tt
own_verdict (q ∷ rest) v h f = cases (applies q) (fact q) (own_verdict rest v (and_r (is_own (number q)) (numbers rest) h))
  where
    here : T (is_own (number q))
    here = and_l (is_own (number q)) (numbers rest) h

    cases : (b : Bool) → (T (not b) → Fact q) → ((Clear rest → v ≤ 4294967295) → Own (verdict rest v))
        → Own (elim b as (λ x. Outcome) [ true ↦ refused (number q) | false ↦ verdict rest v ])
    cases true p later = (leb→le 1 (number q) (and_l (leb 1 (number q)) (leb (number q) 13) here), leb→le (number q) 13 (and_r (leb 1 (number q)) (leb (number q) 13) here))
    cases false p later = later (λ c. f (p tt, c))

-- ---- values

one_bit : (b : Bool) → cond b 1 0 ≤ 4294967295
one_bit true = lit≤ tt
one_bit false = lit≤ tt

few : (n : ℕ) (p : ℕ → Bool) → count_below n p ≤ n
unfolding count_below
few zero p = lit≤ tt
few (suc n) p = cases (p n) (few n p)
  where
    cases : (b : Bool) → count_below n p ≤ n → count_below n p + cond b 1 0 ≤ suc n
    cases true h = omega arith
    cases false h = omega arith

few_small : (n : ℕ) (p : ℕ → Bool) → n ≤ 256 → count_below n p ≤ 4294967295
few_small n p h = omega (arith, few n p, h)

-- the permissions of a role, founded or blank
role_small : (r : Register) → WellFormed r → (j : ℕ) → j < 32 → role_authority r.roles j < 2 ^ 32
unfolding role_authority
role_small r w j l = cases (role r j).founded (w.roles j l) (w.roles_blank j l)
  where
    cases : (b : Bool) → (T b → RoleRules r.enrolled r.domains (role r j)) → (T (not b) → role r j ≡ blank_role) → (role r j).permissions < 2 ^ 32
    cases true f g = (f tt).permissions
    cases false f g = subst (λ (x : Role). x.permissions < 2 ^ 32) (sym (g tt)) (omega arith)

lent_small : (r : Register) → WellFormed r → (m : ℕ) → lent_authority r.roles m < 2 ^ 32
unfolding lent_authority
lent_small r w m = joined_small 32 (role_authority r.roles) m 32 (role_small r w)

-- ---- a call

-- its refusals are its own, and accepted its value has 32 bits
abbrev Fits : Register → Call → Type 0
Fits r c = T (numbers (ruling r c).guards) × (Clear (ruling r c).guards → (ruling r c).result ≤ 4294967295)

call_fits : (r : Register) (c : Call) → WellFormed r → Kept r → Fits r c
unfolding ruling enrol_ruling found_ruling grant_ruling withdraw_ruling appoint_ruling dismiss_ruling clock_ruling create_ruling allow_ruling lend_ruling hand_ruling open_ruling check_ruling close_ruling amend_ruling revoke_ruling same_ruling authority
call_fits r (enrol user domain) w k = (tt, λ g. lit≤ tt)
call_fits r (found j domain hours places devices) w k = (tt, λ g. lit≤ tt)
call_fits r (grant j p) w k = (tt, λ g. lit≤ tt)
call_fits r (withdraw j p) w k = (tt, λ g. lit≤ tt)
call_fits r (appoint user j) w k = (tt, λ g. lit≤ tt)
call_fits r (dismiss user j) w k = (tt, λ g. lit≤ tt)
call_fits r (clock tick) w k = (tt, λ g. lit≤ tt)
call_fits r (create user o at plan) w k = (tt, λ g. omega (arith, k.capabilities.enough))
call_fits r (allow user n mask) w k = (
  tt,
  λ g.
      let gs : List Guard = (allow_ruling r user n mask).guards in
      let l : n < r.count = ltb→lt _ _ (passed 3 gs g).1.0 in
      let m : mask < 2 ^ 32 = ltb→lt _ _ (passed 2 gs g).1.1.0 in
      let c : CapabilityRanges (capability r n) = in_range_lem r n k l in
      omega (arith, or_lt 32 (bit_or (capability r n).permissions mask) _ (or_lt 32 (capability r n).permissions mask c.permissions m) (lent_small r w (capability r n).lent)),
)
call_fits r (lend user n mask) w k = (
  tt,
  λ g.
      let gs : List Guard = (lend_ruling r user n mask).guards in
      let l : n < r.count = ltb→lt _ _ (passed 3 gs g).1.0 in
      let c : CapabilityRanges (capability r n) = in_range_lem r n k l in
      omega (arith, or_lt 32 (capability r n).permissions _ c.permissions (lent_small r w (bit_or (capability r n).lent mask))),
)
call_fits r (hand user receiver n) w k = (
  tt,
  λ g.
      let l : n < r.count = ltb→lt _ _ (passed 3 (hand_ruling r user receiver n).guards g).1.1.0 in
      omega (arith, (in_range_lem r n k l).hops),
)
call_fits r (opening s user o at) w k = (tt, λ g. lit≤ tt)
call_fits r (check s p at) w k = (tt, λ g. one_bit (permits r (session r s).on (session r s).user p at))
call_fits r (amend user n (raise d)) w k = (
  tt,
  λ g.
      let gs : List Guard = (amend_ruling r user n (raise d)).guards in
      let l : n < r.count = ltb→lt _ _ (passed 3 gs g).1.0 in
      let m : d < 2 ^ 16 = ltb→lt _ _ (passed 2 gs g).1.1.0 in
      omega (arith, (in_range_lem r n k l).use_limit, m),
)
call_fits r (amend user n (lower d)) w k = (
  tt,
  λ g.
      let l : n < r.count = ltb→lt _ _ (passed 3 (amend_ruling r user n (lower d)).guards g).1.0 in
      omega (arith, (in_range_lem r n k l).use_limit),
)
call_fits r (revoke user n) w k = (tt, λ g. few_small r.count _ k.capabilities.enough)
call_fits r (close s) w k = (tt, λ g. lit≤ tt)
call_fits r (same m n) w k = (tt, λ g. one_bit (alike r m n))

pub own_answer : (r : Register) (c : Call) → T (well_formed r) → Own (asked r c)
own_answer r c h =
    let f : Fits r c = call_fits r c (formed→ r h) (kept→ r h) in
    subst Own (sym (step_answer r c h)) (own_verdict (ruling r c).guards (ruling r c).result f.0 f.1)

widen : (a : Outcome) → Own a → InBounds a
widen (value v) h = h
widen (refused n) h = (h.0, omega (arith, h.1))

answer_bounded : (r : Register) (c : Call) → InBounds (asked r c)
answer_bounded r c = cases (well_formed r) refl
  where
    cases : (b : Bool) → well_formed r ≡ b → InBounds (asked r c)
    cases true e = widen (asked r c) (own_answer r c (true→T (well_formed r) e))
    cases false e = subst (λ (q : Effect Register). InBounds q.answer) (broken r c e) (lit≤ tt, lit≤ tt)

-- ---- what is refused

refused_stays : (r : Register) (e : Event) (n : ℕ) → (perform r e).answer ≡ refused n → (perform r e).after ≡ r
unfolding perform step save_effect load_effect
refused_stays r (call c) n = settle_stays r (15 unless (well_formed r ∷ []) ∷ (ruling r c).guards) (ruling r c).result (ruling r c).after
refused_stays r (save room) n = settle_stays r (15 unless (well_formed r ∷ []) ∷ 16 when ltb room (length (encode r)) ∷ []) (length (encode r)) r
refused_stays r (load s) n = settle_stays r (14 unless (loads s ∷ []) ∷ []) 0 (decode s)

pub each_answer : EachAnswer
each_answer = record { in_bounds = answer_bounded; refused_stays = refused_stays }
