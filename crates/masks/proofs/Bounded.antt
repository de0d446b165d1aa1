-- Tests and counts over all numbers below a bound, and over all items of a list.
use mathlib.Core.Path.{◌≡◌, refl, sym, ap, ap₂, ◌∙◌, subst}
use mathlib.Core.Logic.{◌⊎◌, inl, inr, ◌≢◌}
use mathlib.Core.Bool.{Bool, true, false, cond}
use mathlib.Core.List.{List, [], ◌∷◌}
use Prim.Native.Nat.{ℕ, zero, suc, ◌+◌, ◌<◌}
use native.Mathlib.Nat.{eq-or-lt_of_le, not-suc-le-zero, le_of_suc-le-suc, add-suc, suc-add, add-zero, zero-add}
use native.Mathlib.Omega.{arith}
use lib.Dec.{T}
use lib.ListN.{get_or, set, length}
use lib.Seq.{get_or-set_same, get_or-set_other}
use borrow.Author.Count.{below_more}
use native.Mathlib.Decide.{ℕ_discrete}
use Rattle.masks.specs.Tests.{all_below, count_below, all_from, map_from}
use Rattle.masks.proofs.Truth.{and_l, and_r, and_i}

-- ---- all below a bound

pub all_below_at : (n : ℕ) (p : ℕ → Bool) → T (all_below n p) → (k : ℕ) → k < n → T (p k)
unfolding all_below
all_below_at zero p h k l = absurd (not-suc-le-zero l)
all_below_at (suc n) p h k l = cases (all_below_at n p (and_l (all_below n p) (p n) h) k) (eq-or-lt_of_le (le_of_suc-le-suc l))
  where
    cases : (k < n → T (p k)) → (k ≡ n) ⊎ (k < n) → T (p k)
    cases ih (inl e) = subst (λ (x : ℕ). T (p x)) (sym e) (and_r (all_below n p) (p n) h)
    cases ih (inr g) = ih g

pub all_below_i : (n : ℕ) (p : ℕ → Bool) → ((k : ℕ) → k < n → T (p k)) → T (all_below n p)
unfolding all_below
all_below_i zero p h = tt
all_below_i (suc n) p h = and_i (all_below n p) (p n) (all_below_i n p (λ k l. h k (omega arith))) (h n (omega arith))

-- ---- counts

pub count_below_ext : (n : ℕ) (p q : ℕ → Bool) → ((k : ℕ) → k < n → p k ≡ q k) → count_below n p ≡ count_below n q
unfolding count_below
count_below_ext zero p q h = refl
count_below_ext (suc n) p q h =
    ap₂ (λ (x : ℕ) (b : Bool). x + cond b 1 0) (count_below_ext n p q (λ k l. h k (omega arith))) (h n (omega arith))

pub count_below_none : (n : ℕ) (p : ℕ → Bool) → ((k : ℕ) → k < n → p k ≡ false) → count_below n p ≡ 0
unfolding count_below
count_below_none zero p h = refl
count_below_none (suc n) p h =
    ap₂ (λ (x : ℕ) (b : Bool). x + cond b 1 0) (count_below_none n p (λ k l. h k (omega arith))) (h n (omega arith))

-- one more passes
pub count_below_one_more : (n : ℕ) (p q : ℕ → Bool) (j : ℕ) → j < n → p j ≡ false → q j ≡ true
    → ((k : ℕ) → k ≢ j → p k ≡ q k) → count_below n q ≡ suc (count_below n p)
unfolding count_below
count_below_one_more zero p q j l pj qj h = absurd (not-suc-le-zero l)
count_below_one_more (suc n) p q j l pj qj h = cases (λ g. count_below_one_more n p q j g pj qj h) (eq-or-lt_of_le (le_of_suc-le-suc l))
  where
    cases : (j < n → count_below n q ≡ suc (count_below n p)) → (j ≡ n) ⊎ (j < n) → count_below n q + cond (q n) 1 0 ≡ suc (count_below n p + cond (p n) 1 0)
    cases ih (inl e) =
        ap₂ (λ (x : ℕ) (b : Bool). x + cond b 1 0) (sym (count_below_ext n p q (λ k g. h k (omega arith)))) (subst (λ (x : ℕ). q x ≡ true) e qj)
        ∙ sym (ap suc (ap (λ (b : Bool). count_below n p + cond b 1 0) (subst (λ (x : ℕ). p x ≡ false) e pj)) ∙ omega arith)
    cases ih (inr g) =
        ap₂ (λ (x : ℕ) (b : Bool). x + cond b 1 0) (ih g) (sym (h n (omega arith)))
        ∙ suc-add (count_below n p) (cond (p n) 1 0)

-- ---- lists

module _ {A : Type 0} where
  pub all_from_at : (p : ℕ → A → Bool) (i : ℕ) (l : List A) (d : A) → T (all_from p i l) → (n : ℕ) → n < length l → T (p (i + n) (get_or l n d))
  unfolding all_from
  all_from_at p i [] d h n g = absurd (not-suc-le-zero g)
  all_from_at p i (a ∷ l) d h zero g = subst (λ (x : ℕ). T (p x a)) (sym (add-zero i)) (and_l (p i a) (all_from p (suc i) l) h)
  all_from_at p i (a ∷ l) d h (suc n) g =
      subst
      (λ (x : ℕ). T (p x (get_or l n d)))
      (suc-add i n ∙ sym (add-suc i n))
      (all_from_at p (suc i) l d (and_r (p i a) (all_from p (suc i) l) h) n (le_of_suc-le-suc g))

  pub all_from_i : (p : ℕ → A → Bool) (i : ℕ) (l : List A) (d : A) → ((n : ℕ) → n < length l → T (p (i + n) (get_or l n d))) → T (all_from p i l)
  unfolding all_from
  all_from_i p i [] d h = tt
  all_from_i p i (a ∷ l) d h =
      and_i
      (p i a)
      (all_from p (suc i) l)
      (subst (λ (x : ℕ). T (p x a)) (add-zero i) (h 0 (omega arith)))
      (all_from_i p (suc i) l d (λ n g. subst (λ (x : ℕ). T (p x (get_or l n d))) (add-suc i n ∙ sym (suc-add i n)) (h (suc n) (omega arith))))

  -- from item 0
  pub all_at : (p : ℕ → A → Bool) (l : List A) (d : A) → T (all_from p 0 l) → (n : ℕ) → n < length l → T (p n (get_or l n d))
  all_at p l d h n g = subst (λ (x : ℕ). T (p x (get_or l n d))) (zero-add n) (all_from_at p 0 l d h n g)

  pub all_i : (p : ℕ → A → Bool) (l : List A) (d : A) → ((n : ℕ) → n < length l → T (p n (get_or l n d))) → T (all_from p 0 l)
  all_i p l d h = all_from_i p 0 l d (λ n g. subst (λ (x : ℕ). T (p x (get_or l n d))) (sym (zero-add n)) (h n g))

  pub length-map_from : (f : ℕ → A → A) (i : ℕ) (l : List A) → length (map_from f i l) ≡ length l
  unfolding map_from
  length-map_from f i [] = refl
  length-map_from f i (a ∷ l) = ap suc (length-map_from f (suc i) l)

  map_from_at : (f : ℕ → A → A) (i : ℕ) (l : List A) (d : A) (n : ℕ) → n < length l → get_or (map_from f i l) n d ≡ f (i + n) (get_or l n d)
  unfolding map_from
  map_from_at f i [] d n g = absurd (not-suc-le-zero g)
  map_from_at f i (a ∷ l) d zero g = ap (λ (x : ℕ). f x a) (sym (add-zero i))
  map_from_at f i (a ∷ l) d (suc n) g =
      map_from_at f (suc i) l d n (le_of_suc-le-suc g) ∙ ap (λ (x : ℕ). f x (get_or l n d)) (suc-add i n ∙ sym (add-suc i n))

  pub map_at_lem : (f : ℕ → A → A) (l : List A) (d : A) (n : ℕ) → n < length l → get_or (map_from f 0 l) n d ≡ f n (get_or l n d)
  map_at_lem f l d n g = map_from_at f 0 l d n g ∙ ap (λ (x : ℕ). f x (get_or l n d)) (zero-add n)

  -- an item of a list with item i put anew
  pub set_cases : (l : List A) (i : ℕ) (a d : A) (j : ℕ) → i < length l
      → ((j ≡ i) × (get_or (set l i a) j d ≡ a)) ⊎ ((j ≢ i) × (get_or (set l i a) j d ≡ get_or l j d))
  set_cases l i a d j h = cases (ℕ_discrete j i)
    where
      cases : Dec (j ≡ i) → ((j ≡ i) × (get_or (set l i a) j d ≡ a)) ⊎ ((j ≢ i) × (get_or (set l i a) j d ≡ get_or l j d))
      cases (yes e) = inl (e, subst (λ (x : ℕ). get_or (set l i a) x d ≡ a) (sym e) (get_or-set_same l i a d h))
      cases (no e) = inr (e, get_or-set_other l i j a d e)

  -- to show something of every item after that
  pub set-each : (P : A → A → Type 0) (l : List A) (i : ℕ) (a d : A) → ((x : A) → P x x) → P (get_or l i d) a → (j : ℕ) → i < length l → P (get_or l j d) (get_or (set l i a) j d)
  set-each P l i a d same new j h = cases (set_cases l i a d j h)
    where
      cases : ((j ≡ i) × (get_or (set l i a) j d ≡ a)) ⊎ ((j ≢ i) × (get_or (set l i a) j d ≡ get_or l j d)) → P (get_or l j d) (get_or (set l i a) j d)
      cases (inl e) = subst (λ (x : A). P (get_or l j d) x) (sym e.1) (subst (λ (x : ℕ). P (get_or l x d) a) (sym e.0) new)
      cases (inr e) = subst (λ (x : A). P (get_or l j d) x) (sym e.1) (same (get_or l j d))

-- a column, filled one place further
pub column_more : {A : Type 0} (d : A) (f : ℕ → A) (l : List A) (i : ℕ) (v : A) → i < length l → ((k : ℕ) → k < i → get_or l k d ≡ f k) → v ≡ f i
    → (k : ℕ) → k < i + 1 → get_or (set l i v) k d ≡ f k
column_more d f l i v h p e =
    below_more (λ k. get_or (set l i v) k d ≡ f k) i
    (λ k b. get_or-set_other l i k v d (λ z. absurd (omega arith)) ∙ p k b)
    (get_or-set_same l i v d h ∙ e)
