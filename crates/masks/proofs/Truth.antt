-- Tests as facts: `T b` says that the test b passed.
use mathlib.Core.Path.{◌≡◌, refl, sym, ap, ◌∙◌, subst}
use mathlib.Core.Logic.{◌⊎◌, inl, inr}
use mathlib.Core.Bool.{Bool, true, false, cond, not, ◌&&◌, ◌||◌, and-true, and_assoc}
use mathlib.Core.List.{List, [], ◌∷◌}
use Prim.Native.Nat.{ℕ, zero, suc, ◌≤◌, ◌<◌}
use lib.Dec.{T, eqb, leb, ltb, not_T, leb→le, le→leb, ltb→lt, lt→ltb, eqb→eq, eqb_refl, nleb→lt, nltb→le}
use lib.ListN.{get_or}
use native.Mathlib.Omega.{arith}
use Rattle.masks.specs.Tests.{each, Each, implies}

-- what is known of a result, by what it is equal to
pub told : {A : Type 0} {x y z : A} → x ≡ y → x ≡ z → y ≡ z
told p q = sym p ∙ q

pub true→T : (b : Bool) → b ≡ true → T b
true→T b e = subst T (sym e) tt

pub T→true : (b : Bool) → T b → b ≡ true
T→true true h = refl
T→true false h = absurd h

pub T→false : (b : Bool) → T (not b) → b ≡ false
T→false true h = absurd h
T→false false h = refl

pub and_l : (a b : Bool) → T (a && b) → T a
and_l true b h = tt
and_l false b h = h

pub and_r : (a b : Bool) → T (a && b) → T b
and_r true b h = h
and_r false b h = absurd h

pub and_i : (a b : Bool) → T a → T b → T (a && b)
and_i true b g h = h
and_i false b g h = g

pub or_l : (a b : Bool) → T a → T (a || b)
or_l true b h = tt
or_l false b h = absurd h

pub or_r : (a b : Bool) → T b → T (a || b)
or_r true b h = tt
or_r false b h = h

pub or_cases : (a b : Bool) → T (a || b) → T a ⊎ T b
or_cases true b h = inl tt
or_cases false b h = inr h

-- none of a disjunction
pub nor_l : (a b : Bool) → T (not (a || b)) → T (not a)
nor_l true b h = h
nor_l false b h = tt

pub nor_r : (a b : Bool) → T (not (a || b)) → T (not b)
nor_r true b h = absurd h
nor_r false b h = h

pub not_not : (a : Bool) → T (not (not a)) → T a
not_not true h = tt
not_not false h = h

pub implies_i : (a b : Bool) → (T a → T b) → T (implies a b)
implies_i true b h = h tt
implies_i false b h = tt

pub implies_e : (a b : Bool) → T (implies a b) → T a → T b
implies_e true b h g = h
implies_e false b h g = absurd g

-- a test is passed or not
pub decided : (b : Bool) → T b ⊎ T (not b)
decided true = inl tt
decided false = inr tt

-- two tests that pass together are equal
pub same_test : (a b : Bool) → (T a → T b) → (T b → T a) → a ≡ b
same_test true true f g = refl
same_test true false f g = absurd (f tt)
same_test false true f g = absurd (g tt)
same_test false false f g = refl

-- a list of tests that all pass
pub each→ : (ts : List Bool) → T (each ts) → Each ts
each→ [] h = tt
each→ (t ∷ ts) h = (and_l t (each ts) h, each→ ts (and_r t (each ts) h))

pub each← : (ts : List Bool) → Each ts → T (each ts)
each← [] h = tt
each← (t ∷ ts) h = and_i t (each ts) h.0 (each← ts h.1)

-- test number i of them
pub each_at : (ts : List Bool) → T (each ts) → (i : ℕ) → T (get_or ts i true)
each_at [] h i = tt
each_at (t ∷ ts) h zero = and_l t (each ts) h
each_at (t ∷ ts) h (suc i) = each_at ts (and_r t (each ts) h) i

-- tests joined from the left, as code joins them
abbrev joined_with : Bool → List Bool → Bool
joined_with a [] = a
joined_with a (t ∷ ts) = joined_with (a && t) ts

joined-each : (a : Bool) (ts : List Bool) → joined_with a ts ≡ (a && each ts)
joined-each a [] = sym (and-true a)
joined-each a (t ∷ ts) = joined-each (a && t) ts ∙ and_assoc a t (each ts)

abbrev pub from_left : List Bool → Bool
from_left [] = true
from_left (t ∷ ts) = joined_with t ts

pub left_each : (ts : List Bool) → from_left ts ≡ each ts
left_each [] = refl
left_each (t ∷ ts) = joined-each t ts

-- a choice by a test whose outcome is known
pub cond_true : {A : Type 0} (t : Bool) (a b : A) → t ≡ true → a ≡ cond t a b
cond_true t a b e = ap (λ (x : Bool). cond x a b) (sym e)

pub cond_false : {A : Type 0} (t : Bool) (a b : A) → t ≡ false → b ≡ cond t a b
cond_false t a b e = ap (λ (x : Bool). cond x a b) (sym e)

-- a choice between two tests
pub cond_yes : (b s t : Bool) → T (cond b s t) → T b → T s
cond_yes true s t h g = h
cond_yes false s t h g = absurd g

pub cond_no : (b s t : Bool) → T (cond b s t) → T (not b) → T t
cond_no true s t h g = absurd g
cond_no false s t h g = h

pub cond_i : (b s t : Bool) → (T b → T s) → (T (not b) → T t) → T (cond b s t)
cond_i true s t f g = f tt
cond_i false s t f g = g tt

pub le→nltb : (m n : ℕ) → n ≤ m → T (not (ltb m n))
le→nltb m n h = not_T (ltb m n) (λ t. omega (arith, ltb→lt m n t))

pub lt→nleb : (m n : ℕ) → n < m → T (not (leb m n))
lt→nleb m n h = not_T (leb m n) (λ t. omega (arith, leb→le m n t))

pub eq→eqb : (m n : ℕ) → m ≡ n → T (eqb m n)
eq→eqb m n e = subst (λ (x : ℕ). T (eqb m x)) e (eqb_refl m)

-- for `omega`: the tests on numbers as facts
pub ruleset tests = (leb→le, le→leb, ltb→lt, lt→ltb, eqb→eq, eq→eqb, nleb→lt, nltb→le)
