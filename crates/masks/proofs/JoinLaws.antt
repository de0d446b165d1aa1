-- The masks of the items of a mask, joined: the least mask that has them all.
use mathlib.Core.Path.{◌≡◌, refl, sym, ap, ap₂, ◌∙◌, subst, fun_ext}
use mathlib.Core.Logic.{◌⊎◌, inl, inr}
use mathlib.Core.Bool.{Bool, true, false, cond}
use mathlib.Core.List.{List}
use Prim.Native.Nat.{ℕ, zero, suc, ◌+◌, ◌*◌, ◌%◌, ◌^◌, ◌<◌}
use native.Mathlib.Nat.{not-suc-le-zero, le_of_suc-le-suc, eq-or-lt_of_le}
use native.Mathlib.Numerals.{add-one}
use native.Mathlib.Omega.{arith}
use lib.Bits.{bit_or, or_lt}
use lib.Dec.{T, eqb→eq, eqb_refl}
use lib.ListN.{get_or}
use lib.Pow.{pow_pos}
use Rattle.masks.specs.Masks.{has, within, joined}
use Rattle.masks.proofs.Truth.{T→true, or_cases}
use Rattle.masks.proofs.MaskLaws.{has_or, has_zero, has_single, within_refl, within_trans, within_zero, within_le, within_or, within_or_l, within_or_r, one_shl}

pub joined_least : (f : ℕ → ℕ) (m n x : ℕ) → ((k : ℕ) → k < n → T (has m k) → T (within (f k) x)) → T (within (joined f m n) x)
unfolding joined
joined_least f m zero x h = within_zero x
joined_least f m (suc n) x h =
    within_or (joined f m n) _ x (joined_least f m n x (λ k l. h k (omega arith))) (last (has m n) (h n (omega arith)))
  where
    last : (b : Bool) → (T b → T (within (f n) x)) → T (within (cond b (f n) 0) x)
    last true g = g tt
    last false g = within_zero x

pub joined-has : (f : ℕ → ℕ) (m n k : ℕ) → k < n → T (has m k) → T (within (f k) (joined f m n))
unfolding joined
joined-has f m zero k l h = absurd (not-suc-le-zero l)
joined-has f m (suc n) k l h = cases (λ g. joined-has f m n k g h) (eq-or-lt_of_le (le_of_suc-le-suc l))
  where
    cases : (k < n → T (within (f k) (joined f m n))) → (k ≡ n) ⊎ (k < n) → T (within (f k) (bit_or (joined f m n) (cond (has m n) (f n) 0)))
    cases ih (inl e) =
        subst
        (λ (b : Bool). T (within (f k) (bit_or (joined f m n) (cond b (f n) 0))))
        (sym (T→true (has m n) (subst (λ (x : ℕ). T (has m x)) e h)))
        (subst (λ (x : ℕ). T (within (f x) (bit_or (joined f m n) (f n)))) (sym e) (within_or_r (joined f m n) (f n)))
    cases ih (inr g) = within_trans (f k) (joined f m n) _ (ih g) (within_or_l (joined f m n) (cond (has m n) (f n) 0))

-- an item of the joined masks is one of some item's mask
pub joined-item : (f : ℕ → ℕ) (m n p : ℕ) → T (has (joined f m n) p) → (k : ℕ) × (k < n) × T (has m k) × T (has (f k) p)
unfolding joined
joined-item f m zero p h = absurd (subst T (has_zero p) h)
joined-item f m (suc n) p h = cases (λ t. joined-item f m n p t) (or_cases (has (joined f m n) p) (has (cond (has m n) (f n) 0) p) (subst T (has_or (joined f m n) _ p) h))
  where
    last : (b : Bool) → T (has (cond b (f n) 0) p) → T b × T (has (f n) p)
    last true t = (tt, t)
    last false t = absurd (subst T (has_zero p) t)

    cases : (T (has (joined f m n) p) → (k : ℕ) × (k < n) × T (has m k) × T (has (f k) p)) → T (has (joined f m n) p) ⊎ T (has (cond (has m n) (f n) 0) p)
        → (k : ℕ) × (k < suc n) × T (has m k) × T (has (f k) p)
    cases ih (inl t) = let q = ih t in (q.0, omega (arith, q.1), q.2, q.3)
    cases ih (inr t) = let q = last (has m n) t in (n, omega arith, q.0, q.1)

-- where the items of a mask g k carry no more than k does, those that a mask leads to carry no more than the mask
pub joined_through : (f g : ℕ → ℕ) (m n : ℕ) → ((k j : ℕ) → T (has (g k) j) → T (within (f j) (f k))) → T (within (joined f (joined g m n) n) (joined f m n))
joined_through f g m n h =
    joined_least f (joined g m n) n (joined f m n) (λ j l t.
    let q : (k : ℕ) × (k < n) × T (has m k) × T (has (g k) j) = joined-item g m n j t in
    within_trans (f j) (f q.0) _ (h q.0 j q.3) (joined-has f m n q.0 q.1 q.2))

pub joined_mono : (f g : ℕ → ℕ) (m m' n : ℕ) → ((k : ℕ) → T (within (f k) (g k))) → ((k : ℕ) → T (has m k) → T (has m' k))
    → T (within (joined f m n) (joined g m' n))
joined_mono f g m m' n h w =
    joined_least f m n (joined g m' n) (λ k l t. within_trans (f k) (g k) _ (h k) (joined-has g m' n k l (w k t)))

pub joined_ext : (f g : ℕ → ℕ) (m n : ℕ) → ((k : ℕ) → f k ≡ g k) → joined f m n ≡ joined g m n
joined_ext f g m n h = ap (λ (e : ℕ → ℕ). joined e m n) (fun_ext h)

-- masks of w bits, joined
pub joined_small : (w : ℕ) (f : ℕ → ℕ) (m n : ℕ) → ((k : ℕ) → k < n → f k < 2 ^ w) → joined f m n < 2 ^ w
unfolding joined
joined_small w f m zero h = pow_pos w
joined_small w f m (suc n) h = or_lt w (joined f m n) _ (joined_small w f m n (λ k l. h k (omega arith))) (last (has m n))
  where
    last : (b : Bool) → cond b (f n) 0 < 2 ^ w
    last true = h n (omega arith)
    last false = pow_pos w

-- one item more
pub joined_more : (f : ℕ → ℕ) (m n x y : ℕ) → x ≡ joined f m n → y ≡ cond (has m n) (f n) 0 → bit_or x y ≡ joined f m (n + 1)
unfolding joined
joined_more f m n x y p q = rw add-one (ap₂ bit_or p q)

-- the masks of the items go by the masks below n
pub joined_same : (f g : ℕ → ℕ) (m n : ℕ) → ((k : ℕ) → k < n → f k ≡ g k) → joined f m n ≡ joined g m n
unfolding joined
joined_same f g m zero h = refl
joined_same f g m (suc n) h =
    ap₂ (λ (x y : ℕ). bit_or x (cond (has m n) y 0)) (joined_same f g m n (λ k l. h k (omega arith))) (h n (omega arith))

-- of no item, and of one
pub joined_none : (f : ℕ → ℕ) (n : ℕ) → joined f 0 n ≡ 0
joined_none f n =
    omega (arith, within_le (joined f 0 n) 0 (joined_least f 0 n 0 (λ k l t. absurd (subst T (has_zero k) t))))

pub joined_one : (f : ℕ → ℕ) (j n : ℕ) → j < n → joined f (2 ^ j) n ≡ f j
joined_one f j n g =
    omega (
      arith,
      within_le (joined f (2 ^ j) n) (f j) (joined_least f (2 ^ j) n (f j) (λ k l t. subst (λ (x : ℕ). T (within (f k) (f x))) (eqb→eq k j (subst T (has_single j k) t)) (within_refl (f k)))),
      within_le (f j) (joined f (2 ^ j) n) (joined-has f (2 ^ j) n j g (subst T (sym (has_single j j)) (eqb_refl j))),
    )

-- by the machine's `1 << j`
pub column_single : (column : List ℕ) (m j : ℕ) → m ≡ 1 * 2 ^ (j % 32) % 2 ^ 32 → get_or column (j % 32) 0 ≡ joined (λ k. get_or column k 0) m 32
column_single column m j e =
    let f : ℕ → ℕ = λ k. get_or column k 0 in
    sym (ap (λ (x : ℕ). joined f x 32) (e ∙ one_shl 32 (j % 32) (omega arith)) ∙ joined_one f (j % 32) 32 (omega arith))
