-- What a ruling comes to: refused, nothing is changed; accepted, no refusal applied. Once for all calls.
use mathlib.Core.Path.{◌≡◌, refl, sym, ap, ap₂, ◌∙◌}
use mathlib.Core.Logic.{◌⊎◌, inl, inr}
use mathlib.Core.Bool.{Bool, true, false, cond, not}
use mathlib.Core.List.{List, [], ◌∷◌}
use Prim.Native.Nat.{ℕ}
use lib.Dec.{T, T_not, not_T, eqb}
use native.Mathlib.Omega.{arith}
use Rattle.model.specs.declared.Register.{Register}
use Rattle.masks.specs.Tests.{each}
use Rattle.model.specs.Rules.{well_formed}
use Rattle.model.specs.Rulings.{Outcome, value, refused, Effect, Guard, ◌unless◌, ◌when◌, applies, number, Fact, Clear, settle, verdict}
use Rattle.model.specs.Calls.{Call, ruling, settled, step}
use Rattle.masks.proofs.Truth.{T→true, T→false, not_not, each→, each←}

-- the fact of the refusal with the number k: `passed 11 (… .refusals) h`
abbrev pub Passed : ℕ → List Guard → Type 0
Passed k [] = Unit {0}
Passed k (q ∷ rest) = elim (eqb (number q) k) [ true ↦ Fact q | false ↦ Passed k rest ]

pub passed : (k : ℕ) (rs : List Guard) → Clear rs → Passed k rs
passed k [] h = tt
passed k (q ∷ rest) h = cases (eqb (number q) k) (passed k rest h.1)
  where
    cases : (b : Bool) → Passed k rest → (elim b as (λ x. Type 0) [ true ↦ Fact q | false ↦ Passed k rest ])
    cases true g = h.0
    cases false g = g

pub fact : (q : Guard) → T (not (applies q)) → Fact q
fact (n unless ts) h = each→ ts (not_not (each ts) h)
fact (n when t) h = h

-- the two outcomes
pub data Settled {A : Type 0} (r : A) (rs : List Guard) (v : ℕ) (s : A) (q : Effect A) : Type 0 where
  accepted : Clear rs → q ≡ record { answer = value v; after = s } → Settled r rs v s q
  declined : (n : ℕ) → q ≡ record { answer = refused n; after = r } → Settled r rs v s q

pub settle_cases : {A : Type 0} (r : A) (rs : List Guard) (v : ℕ) (s : A) → Settled r rs v s (settle r rs v s)
unfolding settle
settle_cases r [] v s = accepted tt refl
settle_cases r (q ∷ rest) v s = cases (applies q) (fact q) (settle_cases r rest v s)
  where
    cases : (b : Bool) → (T (not b) → Fact q) → Settled r rest v s (settle r rest v s)
        → Settled r (q ∷ rest) v s (elim b [ true ↦ record { answer = refused (number q); after = r } | false ↦ settle r rest v s ])
    cases true f o = declined (number q) refl
    cases false f (accepted h e) = accepted (f tt, h) e
    cases false f (declined m e) = declined m e

-- ---- the answer alone

pub settle_answer : {A : Type 0} (r : A) (rs : List Guard) (v : ℕ) (s : A) → (settle r rs v s).answer ≡ verdict rs v
unfolding settle
settle_answer r [] v s = refl
settle_answer {A} r (q ∷ rest) v s = cases (applies q) (settle_answer r rest v s)
  where
    Both : Bool → Effect A
    Both b = elim b [ true ↦ record { answer = refused (number q); after = r } | false ↦ settle r rest v s ]

    cases : (b : Bool) → (settle r rest v s).answer ≡ verdict rest v → (Both b).answer ≡ elim b [ true ↦ refused (number q) | false ↦ verdict rest v ]
    cases true e = refl
    cases false e = e

-- two answers told apart
pub value_refused : {A : Type 0} {v n : ℕ} → value v ≡ refused n → A
value_refused e = let z : ◌≡◌ {A = ℕ} 0 1 = cc in absurd (omega arith)

pub same_value : {v w : ℕ} → value v ≡ value w → v ≡ w
same_value e = cc

-- value 1 is a yes
pub one_yes : (b : Bool) → value (cond b 1 0) ≡ value 1 → T b
one_yes true e = tt
one_yes false e = let z : ◌≡◌ {A = ℕ} 0 1 = same_value e in absurd (omega arith)

-- accepted, no refusal applied, and the value is the call's
pub settle_value : {A : Type 0} (r : A) (rs : List Guard) (v : ℕ) (s : A) {w : ℕ} → (settle r rs v s).answer ≡ value w → Clear rs × (v ≡ w)
settle_value {A} r rs v s {w} e = cases (settle_cases r rs v s)
  where
    cases : Settled r rs v s (settle r rs v s) → Clear rs × (v ≡ w)
    cases (accepted h q) = (h, same_value (sym (ap (λ (x : Effect A). x.answer) q) ∙ e))
    cases (declined n q) = value_refused (sym e ∙ ap (λ (x : Effect A). x.answer) q)

-- refused, the state is as it was
pub settle_stays : {A : Type 0} (r : A) (rs : List Guard) (v : ℕ) (s : A) {n : ℕ} → (settle r rs v s).answer ≡ refused n → (settle r rs v s).after ≡ r
settle_stays {A} r rs v s {n} e = cases (settle_cases r rs v s)
  where
    cases : Settled r rs v s (settle r rs v s) → (settle r rs v s).after ≡ r
    cases (accepted h q) = value_refused (sym (ap (λ (x : Effect A). x.answer) q) ∙ e)
    cases (declined m q) = ap (λ (x : Effect A). x.after) q

-- refused whatever the value, or accepted whatever the value
pub verdict_cases : (rs : List Guard) → (Clear rs × ((v : ℕ) → verdict rs v ≡ value v)) ⊎ ((n : ℕ) × ((v : ℕ) → verdict rs v ≡ refused n))
verdict_cases [] = inl (tt, λ v. refl)
verdict_cases (q ∷ rest) = cases (applies q) (fact q) (verdict_cases rest)
  where
    cases : (b : Bool) → (T (not b) → Fact q) → (Clear rest × ((v : ℕ) → verdict rest v ≡ value v)) ⊎ ((n : ℕ) × ((v : ℕ) → verdict rest v ≡ refused n))
        → (Clear (q ∷ rest) × ((v : ℕ) → elim b as (λ x. Outcome) [ true ↦ refused (number q) | false ↦ verdict rest v ] ≡ value v)) ⊎ ((n : ℕ) × ((v : ℕ) → elim b as (λ x. Outcome) [ true ↦ refused (number q) | false ↦ verdict rest v ] ≡ refused n))
    cases true f o = inr (number q, λ v. refl)
    cases false f (inl o) = inl ((f tt, o.0), o.1)
    cases false f (inr o) = inr o

fact← : (q : Guard) → Fact q → T (not (applies q))
fact← (n unless ts) h = not_T (not (each ts)) (λ t. T_not (each ts) t (each← ts h))
fact← (n when t) h = h

pub clear_verdict : (rs : List Guard) (v : ℕ) → Clear rs → verdict rs v ≡ value v
clear_verdict [] v h = refl
clear_verdict (q ∷ rest) v h =
    ap (λ (b : Bool). elim b as (λ x. Outcome) [ true ↦ refused (number q) | false ↦ verdict rest v ]) (T→false (applies q) (fact← q h.0)) ∙ clear_verdict rest v h.1

-- a call is known by its answer: refused, the state is as it was; no refusal, it is the state after the call
pub answer_refused : {A : Type 0} (r s : A) (rs : List Guard) (v : ℕ) {n : ℕ} → verdict rs v ≡ refused n → record { answer = refused n; after = r } ≡ settle r rs v s
answer_refused {A} r s rs v {n} e = cases (settle_cases r rs v s) (sym (settle_answer r rs v s) ∙ refl)
  where
    cases : Settled r rs v s (settle r rs v s) → verdict rs v ≡ (settle r rs v s).answer → record { answer = refused n; after = r } ≡ settle r rs v s
    cases (accepted c p) a = value_refused (sym (clear_verdict rs v c) ∙ e)
    cases (declined m p) a = ap (λ (x : Outcome). record { answer = x; after = r }) (sym e ∙ a ∙ ap (λ (x : Effect A). x.answer) p) ∙ sym p

pub clear_settle : {A : Type 0} (r s : A) (rs : List Guard) (v : ℕ) → Clear rs → settle r rs v s ≡ record { answer = value v; after = s }
unfolding settle
clear_settle r s [] v h = refl
clear_settle {A} r s (q ∷ rest) v h =
    ap (λ (b : Bool). elim b as (λ x. Effect A) [ true ↦ record { answer = refused (number q); after = r } | false ↦ settle r rest v s ]) (T→false (applies q) (fact← q h.0)) ∙ clear_settle r s rest v h.1

-- ---- two settled calls that agree

-- guards, value and state after a guard need agree only where it passes
pub settle_past : {A : Type 0} (r : A) (g : Guard) (gs hs : List Guard) (n m : ℕ) (s t : A) → (Fact g → settle r gs n s ≡ settle r hs m t)
    → settle r (g ∷ gs) n s ≡ settle r (g ∷ hs) m t
unfolding settle
settle_past {A} r g gs hs n m s t h = by (applies g) (fact g)
  where
    by : (b : Bool) → (T (not b) → Fact g)
        → ◌≡◌ {A = Effect A} (elim b [ true ↦ record { answer = refused (number g); after = r } | false ↦ settle r gs n s ]) (elim b [ true ↦ record { answer = refused (number g); after = r } | false ↦ settle r hs m t ])
    by true f = refl
    by false f = h (f tt)

-- value and state need agree only where no guard applies
pub settle-after : {A : Type 0} (r : A) (gs : List Guard) (n m : ℕ) (s t : A) → (Clear gs → (n ≡ m) × (s ≡ t)) → settle r gs n s ≡ settle r gs m t
unfolding settle
settle-after {A} r [] n m s t h = ap₂ (λ (x : ℕ) (y : A). record { answer = value x; after = y }) (h tt).0 (h tt).1
settle-after r (g ∷ gs) n m s t h = settle_past r g gs gs n m s t (λ f. settle-after r gs n m s t (λ c. h (f, c)))

-- what comes after the test of the ranges need agree only where it passes
pub settle_ranged : {A : Type 0} (r : A) (k : ℕ) (ts : List Bool) (gs hs : List Guard) (n m : ℕ) (s t : A)
    → (T (each ts) → gs ≡ hs) → (Clear ((k unless ts) ∷ hs) → (n ≡ m) × (s ≡ t))
    → settle r ((k unless ts) ∷ gs) n s ≡ settle r ((k unless ts) ∷ hs) m t
settle_ranged r k ts gs hs n m s t h f =
    settle_past r (k unless ts) gs hs n m s t
    (λ e. ap (λ (l : List Guard). settle r l n s) (h (each← ts e)) ∙ settle-after r hs n m s t (λ c. f (e, c)))

-- a call that changes nothing
pub settle_same : {A : Type 0} (r : A) (gs : List Guard) (n : ℕ) → record { answer = verdict gs n; after = r } ≡ settle r gs n r
settle_same {A} r gs n = cases (settle_cases r gs n r) (settle_answer r gs n r)
  where
    cases : Settled r gs n r (settle r gs n r) → (settle r gs n r).answer ≡ verdict gs n → record { answer = verdict gs n; after = r } ≡ settle r gs n r
    cases (accepted c p) a = ap (λ (x : Outcome). record { answer = x; after = r }) (sym a ∙ ap (λ (x : Effect A). x.answer) p) ∙ sym p
    cases (declined m p) a = ap (λ (x : Outcome). record { answer = x; after = r }) (sym a ∙ ap (λ (x : Effect A). x.answer) p) ∙ sym p

-- a call settled over a part of a state is settled over the state that the part is put into
pub settle-into : {A B : Type 0} (f : A → B) (a b : A) (gs : List Guard) (n : ℕ)
    → record { answer = (settle a gs n b).answer; after = f (settle a gs n b).after } ≡ settle (f a) gs n (f b)
unfolding settle
settle-into f a b [] n = refl
settle-into {A} {B} f a b (g ∷ gs) n = cases (applies g) (settle-into f a b gs n)
  where
    Part : Bool → Effect A
    Part t = elim t [ true ↦ record { answer = refused (number g); after = a } | false ↦ settle a gs n b ]

    cases : (t : Bool) → record { answer = (settle a gs n b).answer; after = f (settle a gs n b).after } ≡ settle (f a) gs n (f b)
        → ◌≡◌ {A = Effect B} (record { answer = (Part t).answer; after = f (Part t).after }) (elim t [ true ↦ record { answer = refused (number g); after = f a } | false ↦ settle (f a) gs n (f b) ])
    cases true e = refl
    cases false e = e

-- where the shelf rules are kept, 15 does not apply: what is computed in examples
pub step-settled : (r : Register) (c : Call) → T (well_formed r) → step r c ≡ settled r c
unfolding step settled settle
step-settled r c k =
    ap (λ (b : Bool). settle r (15 unless (b ∷ []) ∷ (ruling r c).guards) (ruling r c).result (ruling r c).after) (T→true (well_formed r) k)

pub step_answer : (r : Register) (c : Call) → T (well_formed r) → (step r c).answer ≡ verdict (ruling r c).guards (ruling r c).result
unfolding settled
step_answer r c k = ap (λ (q : Effect Register). q.answer) (step-settled r c k) ∙ settle_answer r (ruling r c).guards (ruling r c).result (ruling r c).after

-- a register that breaks a rule is refused with 15
pub broken : (r : Register) (c : Call) → well_formed r ≡ false → record { answer = refused 15; after = r } ≡ step r c
unfolding step settle
broken r c e =
    sym (ap (λ (b : Bool). settle r ((15 unless (b ∷ [])) ∷ (ruling r c).guards) (ruling r c).result (ruling r c).after) e)

-- an accepted call, of any register
step_accepted : (r : Register) (c : Call) {w : ℕ} → (step r c).answer ≡ value w
    → T (well_formed r) × Clear (ruling r c).guards × ((ruling r c).result ≡ w)
unfolding step
step_accepted r c e =
    let h = settle_value r (15 unless (well_formed r ∷ []) ∷ (ruling r c).guards) (ruling r c).result (ruling r c).after e in
    (h.0.0.0, h.0.1, h.1)

pub step_formed : (r : Register) (c : Call) {w : ℕ} → (step r c).answer ≡ value w → T (well_formed r)
step_formed r c e = (step_accepted r c e).0

pub step_value : (r : Register) (c : Call) {w : ℕ} → (step r c).answer ≡ value w → Clear (ruling r c).guards × ((ruling r c).result ≡ w)
step_value r c e = ((step_accepted r c e).1, (step_accepted r c e).2)
