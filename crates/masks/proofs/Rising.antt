-- A rising sweep over a list: what it comes to at each item.
use mathlib.Core.Path.{◌≡◌, refl, sym, ap, ◌∙◌, subst}
use mathlib.Core.Logic.{◌⊎◌, inl, inr}
use mathlib.Core.List.{List}
use Prim.Native.Nat.{ℕ, zero, suc, ◌≤◌, ◌<◌}
use native.Mathlib.Nat.{le_refl, not-suc-le-zero, le_of_suc-le-suc, eq-or-lt_of_le}
use native.Mathlib.Omega.{arith}
use lib.ListN.{get_or, set, length, length-set}
use lib.Seq.{get_or-set_same, get_or-set_other, ext_get_or}
use Rattle.masks.specs.Tests.{rising}

-- each item is made of its number, of what is done and of the old item
module _ {A : Type 0} (d : A) (f : ℕ → List A → A → A) (xs : List A) where
  pub length-rising : (n : ℕ) → length (rising d f n xs) ≡ length xs
  unfolding rising
  length-rising zero = refl
  length-rising (suc n) = length-set (rising d f n xs) n _ ∙ length-rising n

  -- not reached yet
  pub rising_later : (n k : ℕ) → n ≤ k → get_or (rising d f n xs) k d ≡ get_or xs k d
  unfolding rising
  rising_later zero k l = refl
  rising_later (suc n) k l = get_or-set_other (rising d f n xs) n k _ d (λ e. omega arith) ∙ rising_later n k (omega arith)

  -- done
  pub rising_done : (n k : ℕ) → k < n → n ≤ length xs → get_or (rising d f n xs) k d ≡ f k (rising d f k xs) (get_or xs k d)
  unfolding rising
  rising_done zero k l g = absurd (not-suc-le-zero l)
  rising_done (suc n) k l g = cases (λ h. rising_done n k h (omega arith)) (eq-or-lt_of_le (le_of_suc-le-suc l))
    where
      new : A
      new = f n (rising d f n xs) (get_or (rising d f n xs) n d)

      cases : (k < n → get_or (rising d f n xs) k d ≡ f k (rising d f k xs) (get_or xs k d)) → (k ≡ n) ⊎ (k < n)
          → get_or (set (rising d f n xs) n new) k d ≡ f k (rising d f k xs) (get_or xs k d)
      cases ih (inl e) =
          subst
          (λ (x : ℕ). get_or (set (rising d f n xs) n new) x d ≡ f x (rising d f x xs) (get_or xs x d))
          (sym e)
          (get_or-set_same (rising d f n xs) n new d (omega (arith, length-rising n)) ∙ ap (f n (rising d f n xs)) (rising_later n n (le_refl n)))
      cases ih (inr h) = get_or-set_other (rising d f n xs) n k new d (λ e. omega arith) ∙ ih h

  -- what was done by the time k was reached is what is there at the end
  pub rising-settled : (n k j : ℕ) → j < k → k ≤ n → n ≤ length xs → get_or (rising d f k xs) j d ≡ get_or (rising d f n xs) j d
  rising-settled n k j l g h = rising_done k j l (omega arith) ∙ sym (rising_done n j (omega arith) h)

  -- a list that each step of the sweep agrees with, given that the earlier ones do, is what the sweep comes to
  pub rising_unique : (n : ℕ) (goal : List A) → length xs ≡ n → length goal ≡ n
      → ((i : ℕ) → i < n → ((k : ℕ) → k < i → get_or (rising d f i xs) k d ≡ get_or goal k d) → f i (rising d f i xs) (get_or xs i d) ≡ get_or goal i d)
      → rising d f n xs ≡ goal
  rising_unique n goal a b step =
      ext_get_or d (rising d f n xs) goal (length-rising n ∙ a ∙ sym b) (λ i l. swept n i (omega (arith, length-rising n)) (omega (arith, length-rising n)))
    where
      swept : (fuel i : ℕ) → i < fuel → i < n → get_or (rising d f n xs) i d ≡ get_or goal i d
      swept zero i g l = absurd (not-suc-le-zero g)
      swept (suc fuel) i g l =
          rising_done n i l (omega arith)
          ∙ step i l (λ k h. rising-settled n i k h (omega arith) (omega arith) ∙ swept fuel k (omega arith) (omega arith))
