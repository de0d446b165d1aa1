-- Laws that know nothing of the register.
use mathlib.Core.Path.{◌≡◌, refl, ap, ap₂, ◌∙◌, sym, subst}
use mathlib.Core.Logic.{◌⊎◌, inl, inr}
use mathlib.Core.Bool.{Bool, true, false, cond, not, ◌&&◌, ◌||◌, and-true, and-false, or-false}
use mathlib.Core.List.{List, [], ◌∷◌, ◌++◌}
use Prim.Native.Nat.{ℕ, zero, suc, ◌+◌, ◌%◌, ◌^◌, ◌<◌, ◌≤◌}
use native.Mathlib.Decide.{dec_lt}
use native.Mathlib.Numerals.{add-one}
use native.Mathlib.Omega.{arith}
use borrow.Author.Tests.{lt-ltb, le-ltb, eq-eqb, eqb-false}
use lib.Bits.{bit_or, or_zero_r}
use lib.Dec.{T, not_T, eqb, ltb, eqb→eq, lt→ltb}
use lib.ListN.{length, get_or, set}
use lib.Seq.{get_or-set_same, get_or-set_other}
use Rattle.masks.specs.Masks.{has, within}
use Rattle.masks.specs.Tests.{each, implies, all_below, all_from, Each}
use Rattle.masks.proofs.Truth.{true→T, T→false, and_r, and_i, implies_i, implies_e, decided, same_test}
use Rattle.masks.proofs.Bounded.{all_below_at, all_below_i, all_at, all_i}
use Rattle.masks.proofs.MaskLaws.{has_zero, has_or, has_single, has_lt, within_has, has_within}
use Rattle.rules.specs.Columns.{masked}

-- ---- tests

-- tests that agree where those before them pass
pub each_under : (ts us vs : List Bool) → (Each ts → each us ≡ each vs) → each (ts ++ us) ≡ each (ts ++ vs)
each_under [] us vs h = h tt
each_under (true ∷ ts) us vs h = each_under ts us vs (λ g. h (tt, g))
each_under (false ∷ ts) us vs h = refl

-- ---- loops: one number more, or one that fails

pub all_fails : (n k : ℕ) (p : ℕ → Bool) → k < n → p k ≡ false → false ≡ all_below n p
all_fails n k p l e = sym (T→false (all_below n p) (not_T (all_below n p) (λ t. subst T e (all_below_at n p t k l))))

pub all_more : (n : ℕ) (p : ℕ → Bool) {x y : Bool} → x ≡ all_below n p → y ≡ (x && p n) → y ≡ all_below (n + 1) p
unfolding all_below
all_more n p e f = rw add-one (f ∙ ap (λ (b : Bool). b && p n) e)

-- a loop that ended
pub all_done : (n m : ℕ) (p : ℕ → Bool) {x : Bool} → x ≡ all_below n p → n ≤ m → m ≤ n → x ≡ all_below m p
all_done n m p e l g = e ∙ ap (λ (k : ℕ). all_below k p) {x = n} {y = m} (omega arith)

-- the numbers from n on are known to pass
pub all_rest : (n m : ℕ) (p : ℕ → Bool) → n ≤ m → ((k : ℕ) → n ≤ k → k < m → p k ≡ true) → all_below n p ≡ all_below m p
all_rest n m p l rest =
    same_test _ _ (λ t. all_below_i m p (λ k g. cases t k g (dec_lt k n))) (λ t. all_below_i n p (λ k g. all_below_at m p t k (omega arith)))
  where
    cases : T (all_below n p) → (k : ℕ) → k < m → Dec (k < n) → T (p k)
    cases t k g (yes b) = all_below_at n p t k b
    cases t k g (no b) = true→T (p k) (rest k (omega arith) g)

pub masked_more : (n : ℕ) (p : ℕ → Bool) {x y : ℕ} → x ≡ masked p n → y ≡ bit_or x (cond (p n) (2 ^ n) 0) → y ≡ masked p (n + 1)
unfolding masked
masked_more n p e f = rw add-one (f ∙ ap (λ (m : ℕ). bit_or m (cond (p n) (2 ^ n) 0)) e)

-- masks of the numbers below n, one for each value below 8 that a number can have: one number more
pub groups_more : (value : ℕ → ℕ) (l : List ℕ) (n k : ℕ) → length l ≡ 8
    → ((d : ℕ) → d < 8 → get_or l d 0 ≡ masked (λ (u : ℕ). eqb (value u) d) n) → k ≡ value n % 8
    → (d : ℕ) → d < 8 → get_or (set l k (bit_or (get_or l k 0) (cond (ltb (value n) 8) (2 ^ n) 0))) d 0 ≡ masked (λ (u : ℕ). eqb (value u) d) (n + 1)
groups_more value l n k size known ek d less = masked_more n (λ (u : ℕ). eqb (value u) d) (known d less) (cases (decided (eqb d k)))
  where
    differs : (a b : ℕ) → (a ≡ b → ⊥) → eqb a b ≡ false
    differs a b h = T→false (eqb a b) (not_T (eqb a b) (λ t. h (eqb→eq a b t)))

    same : d ≡ k → Dec (value n < 8) → ltb (value n) 8 ≡ eqb (value n) d
    same e (yes h) = lt-ltb (value n) 8 h ∙ sym (eq-eqb (value n) d (omega arith))
    same e (no h) = le-ltb (value n) 8 (omega arith) ∙ sym (differs (value n) d (λ z. absurd (omega arith)))

    cases : T (eqb d k) ⊎ T (not (eqb d k)) → get_or (set l k (bit_or (get_or l k 0) (cond (ltb (value n) 8) (2 ^ n) 0))) d 0 ≡ bit_or (get_or l d 0) (cond (eqb (value n) d) (2 ^ n) 0)
    cases (inl t) =
        let e : d ≡ k = eqb→eq d k t in
        ap (λ (j : ℕ). get_or (set l k (bit_or (get_or l k 0) (cond (ltb (value n) 8) (2 ^ n) 0))) j 0) e
        ∙ get_or-set_same l k _ 0 (omega arith)
        ∙ ap₂ (λ (j : ℕ) (b : Bool). bit_or (get_or l j 0) (cond b (2 ^ n) 0)) (sym e) (same e (dec_lt (value n) 8))
    cases (inr t) =
        let e : eqb d k ≡ false = T→false (eqb d k) t in
        get_or-set_other l k d _ 0 (λ z. absurd (omega (arith, eqb-false d k e)))
        ∙ sym (or_zero_r (get_or l d 0))
        ∙ ap (λ (b : Bool). bit_or (get_or l d 0) (cond b (2 ^ n) 0)) (sym (differs (value n) d (λ z. absurd (omega (arith, eqb-false d k e)))))

-- ---- lists and masks

-- a test of every item of a list, by number
pub all_below_lem : {A : Type 0} (p : ℕ → A → Bool) (l : List A) (d : A) (n : ℕ) → length l ≡ n → all_below n (λ i. p i (get_or l i d)) ≡ all_from p 0 l
all_below_lem p l d n e =
    same_test _ _
    (λ h. all_i p l d (λ i g. all_below_at n (λ i. p i (get_or l i d)) h i (omega arith)))
    (λ h. all_below_i n (λ i. p i (get_or l i d)) (λ i g. all_at p l d h i (omega arith)))

-- the items of a mask of tests
has-masked : (p : ℕ → Bool) (n k : ℕ) → has (masked p n) k ≡ (ltb k n && p k)
unfolding masked
has-masked p zero k = has_zero k ∙ ap (λ (b : Bool). b && p k) (sym (le-ltb k zero (omega arith)))
has-masked p (suc n) k = has_or (masked p n) _ k ∙ ap₂ ◌||◌ (has-masked p n k) (last (p n) refl) ∙ cases (decided (eqb k n))
  where
    last : (b : Bool) → p n ≡ b → has (cond b (2 ^ n) 0) k ≡ (eqb k n && b)
    last true e = has_single n k ∙ sym (and-true (eqb k n))
    last false e = has_zero k ∙ sym (and-false (eqb k n))

    cases : T (eqb k n) ⊎ T (not (eqb k n)) → ((ltb k n && p k) || (eqb k n && p n)) ≡ (ltb k (suc n) && p k)
    cases (inl e) =
        let z : k ≡ n = eqb→eq k n e in
        rw (z, le-ltb n n (omega arith), lt-ltb n (suc n) (omega arith), eq-eqb n n refl)
    cases (inr e) =
        rw (T→false (eqb k n) e, or-false (ltb k n && p k)) (ap (λ (b : Bool). b && p k) (split (dec_lt k n)))
      where
        split : Dec (k < n) → ltb k n ≡ ltb k (suc n)
        split (yes g) = lt-ltb k n g ∙ sym (lt-ltb k (suc n) (omega arith))
        split (no g) = le-ltb k n (omega arith) ∙ sym (le-ltb k (suc n) (omega (arith, eqb-false k n (T→false (eqb k n) e))))

-- every item of a mask of n bits passes, by one operation on masks
pub within-masked : (p : ℕ → Bool) (n m : ℕ) → m < 2 ^ n → within m (masked p n) ≡ all_below n (λ k. implies (has m k) (p k))
within-masked p n m small =
    same_test _ _
    (λ h. all_below_i n _ (λ k l. implies_i (has m k) (p k) (λ t. and_r (ltb k n) (p k) (subst T (has-masked p n k) (within_has m (masked p n) h k t)))))
    (λ h. has_within m (masked p n) (λ k t.
    let l : k < n = has_lt n m k small t in
    subst T (sym (has-masked p n k)) (and_i (ltb k n) (p k) (lt→ltb k n l) (implies_e (has m k) (p k) (all_below_at n (λ k. implies (has m k) (p k)) h k l) t))))
