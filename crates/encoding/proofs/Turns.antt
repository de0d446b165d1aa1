-- The turns of the loops that build a mask and that write the items of one.
use mathlib.Core.Path.{◌≡◌, refl, ap}
use mathlib.Core.Bool.{Bool, true, false}
use mathlib.Core.List.{List, [], ◌∷◌, ◌++◌}
use Prim.Native.Nat.{ℕ, zero, suc, ◌+◌, ◌/◌, ◌%◌, ◌^◌, ◌≤◌, ◌<◌}
use native.Mathlib.Nat.{pow-suc}
use native.Mathlib.Numerals.{add-one}
use native.Mathlib.Omega.{arith}
use lib.ListN.{length, drop, get_or, drop_of_length-le}
use lib.Seq.{drop-cons}
use Rattle.model.specs.declared.Capability.{Capability}
use Rattle.model.specs.State.{blank_capability}
use Rattle.model.specs.Fields.{bit, write_capability}
use Rattle.model.specs.Image.{mask_where, chosen, write_chosen, write_capabilities}

-- ---- the mask of the items that pass

pub bit_le : (b : Bool) → bit b ≤ 1
bit_le true = omega arith
bit_le false = omega arith

pub where_small : {A : Type 0} (p : A → Bool) (l : List A) → mask_where p l < 2 ^ length l
where_small p [] = omega arith
where_small p (a ∷ l) = rw pow-suc (omega (arith, where_small p l, bit_le (p a)))

-- ---- turns of the loops

module _ {A : Type 0} (write : A → List ℕ) where
  pub chosen-step : (m : ℕ) (l : List A) (i : ℕ) (d : A) → i < length l
      → write_chosen write m (drop i l) ≡ chosen (m % 2) (write (get_or l i d)) ++ write_chosen write (m / 2) (drop (i + 1) l)
  chosen-step m l i d h = rw (add-one, drop-cons l i d)

  pub chosen_done : (m : ℕ) (l : List A) (i : ℕ) → length l ≤ i → write_chosen write m (drop i l) ≡ []
  chosen_done m l i h = ap (write_chosen write m) (drop_of_length-le l h)

pub capabilities-step : (cs : List Capability) (i : ℕ) → i < length cs
    → write_capabilities (drop i cs) ≡ write_capability (get_or cs i blank_capability) ++ write_capabilities (drop (i + 1) cs)
capabilities-step cs i h = rw (add-one, drop-cons cs i blank_capability)

pub chosen-set : (b : ℕ) (s : List ℕ) → (b ≡ 0 → ⊥) → chosen b s ≡ s
chosen-set zero s h = absurd (h refl)
chosen-set (suc b) s h = refl
