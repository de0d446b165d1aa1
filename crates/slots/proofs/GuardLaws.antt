-- The first number of a list of guards, and what a settled call comes to by it.
use mathlib.Core.Path.{◌≡◌, refl, sym, ap, ap₂, ◌∙◌}
use mathlib.Core.Bool.{Bool, true, false, cond, not}
use mathlib.Core.List.{List, [], ◌∷◌}
use Prim.Native.Nat.{ℕ, suc, ◌<◌}
use native.Mathlib.Omega.{arith}
use lib.Dec.{T, ltb, ltb→lt}
use Rattle.std.specs.Prelude.{⊤, Result, Ok, Err}
use Rattle.std.specs.Int.{from_bool}
use Rattle.masks.specs.Tests.{each}
use Rattle.masks.proofs.Truth.{T→true, and_l, and_r, from_left, left_each}
use Rattle.model.specs.declared.Refusal.{Refusal}
use Rattle.model.specs.Rulings.{Outcome, value, refused, Guard, ◌unless◌, applies, number, settle, Fact, Clear, verdict}
use Rattle.model.specs.Requests.{refusal_number}
use Rattle.model.proofs.Settling.{fact, clear_verdict, clear_settle, answer_refused}
use Rattle.slots.specs.Guards.{guarded, first_number, numbered, raised_of}

-- ---- one test of a chain, and the tests after it

pub test_when : (g : Guard) (gs : List Guard) (t : Bool) {q k n : ℕ} → q ≡ cond t n k → t ≡ applies g → n ≡ number g → k ≡ first_number gs
    → q ≡ first_number (g ∷ gs)
unfolding first_number
test_when g gs t {q} {k} {n} p s m e = p ∙ ap₂ (λ (b : Bool) (x : ℕ). cond b n x) s e ∙ ap (λ (x : ℕ). cond (applies g) x (first_number gs)) m

pub nothing_more : 0 ≡ first_number []
unfolding first_number
nothing_more = refl

-- a guard with `unless`, whose tests code joins from the left
pub test_unless : (m : ℕ) (a : Bool) (bs : List Bool) (gs : List Guard) (t : Bool) {q k n : ℕ} → q ≡ cond t n k → t ≡ not (from_left (a ∷ bs)) → n ≡ m → k ≡ first_number gs
    → q ≡ first_number ((m unless (a ∷ bs)) ∷ gs)
test_unless m a bs gs t p s e h = test_when (m unless (a ∷ bs)) gs t p (s ∙ ap not (left_each (a ∷ bs))) e h

-- what comes after the test of the ranges need agree only where it passes
pub test_ranged : (m : ℕ) (ts : List Bool) (gs : List Guard) (t : Bool) {q k n : ℕ} → q ≡ cond t n k → t ≡ not (each ts) → n ≡ m → (T (each ts) → k ≡ first_number gs)
    → q ≡ first_number ((m unless ts) ∷ gs)
unfolding first_number
test_ranged m ts gs t {q} {k} {n} p s e h = p ∙ ap₂ (λ (b : Bool) (x : ℕ). cond b x k) s e ∙ cases (each ts) h
  where
    cases : (b : Bool) → (T b → k ≡ first_number gs) → cond (not b) m k ≡ cond (not b) m (first_number gs)
    cases true f = f tt
    cases false f = refl

pub ranged_same : (m : ℕ) (ts : List Bool) (gs hs : List Guard) → (T (each ts) → gs ≡ hs) → first_number ((m unless ts) ∷ gs) ≡ first_number ((m unless ts) ∷ hs)
unfolding first_number
ranged_same m ts gs hs h = test_ranged m ts hs (not (each ts)) refl refl refl (λ t. ap first_number (h t))

-- a guard whose tests the machine's types pass, so that code need not ask them
pub known : (m : ℕ) (ts : List Bool) (gs : List Guard) {q : ℕ} → T (each ts) → q ≡ first_number gs → q ≡ first_number ((m unless ts) ∷ gs)
unfolding first_number
known m ts gs h e = e ∙ ap (λ (b : Bool). cond (not b) m (first_number gs)) {x = true} {y = each ts} (sym (T→true (each ts) h))

-- ---- what a decision comes to

refusal_positive : (why : Refusal) → 0 < refusal_number why
refusal_positive why = grind arith

first_refused : (gs : List Guard) (n m : ℕ) → 0 < m → first_number gs ≡ m → verdict gs n ≡ refused m
unfolding first_number
first_refused [] n m l e = absurd (omega arith)
first_refused (g ∷ gs) n m l e = cases (applies g) e (first_refused gs n m l)
  where
    cases : (b : Bool) → cond b (number g) (first_number gs) ≡ m → (first_number gs ≡ m → verdict gs n ≡ refused m)
        → ◌≡◌ {A = Outcome} (elim b [ true ↦ refused (number g) | false ↦ verdict gs n ]) (refused m)
    cases true q ih = ap refused q
    cases false q ih = ih q

none_refused : (gs : List Guard) → T (numbered gs) → first_number gs ≡ 0 → Clear gs
unfolding first_number
none_refused [] p e = tt
none_refused (g ∷ gs) p e = cases (applies g) (fact g) e (none_refused gs (and_r (ltb 0 (number g)) (numbered gs) p))
  where
    cases : (b : Bool) → (T (not b) → Fact g) → cond b (number g) (first_number gs) ≡ 0 → (first_number gs ≡ 0 → Clear gs) → Fact g × Clear gs
    cases true f q ih = absurd (omega (arith, ltb→lt 0 (number g) (and_l (ltb 0 (number g)) (numbered gs) p)))
    cases false f q ih = (f tt, ih q)

-- guards that pass: none applies
pub pass_clear : (gs : List Guard) (k : Result ⊤ Refusal) → T (numbered gs) → guarded k ≡ first_number gs → k ≡ Ok tt → Clear gs
pass_clear gs k p e q = none_refused gs p (sym e ∙ ap guarded q)

pub verdict_refused : (gs : List Guard) (n : ℕ) (k : Result ⊤ Refusal) {why : Refusal} → guarded k ≡ first_number gs → k ≡ Err why → refused (refusal_number why) ≡ verdict gs n
verdict_refused gs n k {why} e q = sym (first_refused gs n (refusal_number why) (refusal_positive why) (sym e ∙ ap guarded q))

pub verdict_passed : (gs : List Guard) (n : ℕ) (k : Result ⊤ Refusal) → T (numbered gs) → guarded k ≡ first_number gs → k ≡ Ok tt → value n ≡ verdict gs n
verdict_passed gs n k p e q = sym (clear_verdict gs n (pass_clear gs k p e q))

-- a decision that refuses, over any state
pub refuse_ruled : {A : Type 0} (v w : A) (gs : List Guard) (n : ℕ) (k : Result ⊤ Refusal) {why : Refusal} → guarded k ≡ first_number gs → k ≡ Err why
    → record { answer = refused (refusal_number why); after = v } ≡ settle v gs n w
refuse_ruled v w gs n k e q = answer_refused v w gs n (sym (verdict_refused gs n k e q))

-- a decision that passes
pub pass_ruled : {A : Type 0} (v w : A) (gs : List Guard) (n : ℕ) (k : Result ⊤ Refusal) → T (numbered gs) → guarded k ≡ first_number gs → k ≡ Ok tt
    → record { answer = value n; after = w } ≡ settle v gs n w
pass_ruled v w gs n k p e q = sym (clear_settle v w gs n (pass_clear gs k p e q))

-- yes as a number
pub yes_number : (b : Bool) → from_bool b ≡ cond b 1 0
yes_number true = refl
yes_number false = refl

-- ---- limits

pub raised_below : (x limit : ℕ) → T (ltb x limit) → raised_of x limit ≡ suc x
unfolding raised_of
raised_below x limit h = ap (λ (b : Bool). cond b (suc x) x) (T→true (ltb x limit) h)
