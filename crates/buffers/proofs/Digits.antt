-- A loop that writes the digits of a number from the last to the first: one law for what the loop owes, over the base.
use mathlib.Core.Path.{◌≡◌, refl, sym, ap, ◌∙◌}
use mathlib.Core.List.{List, [], ◌∷◌, ◌++◌}
use Prim.Native.Nat.{ℕ, zero, suc, ◌-◌, ◌/◌, ◌^◌, ◌≤◌, ◌<◌}
use native.Mathlib.Nat.{sub_self, sub-zero}
use native.Mathlib.Omega.{arith}
use lib.Arith.{le-zero}
use lib.ListN.{length, take, drop, set, length-set, take-append-drop}
use Rattle.masks.specs.Bytes.{front}
use Rattle.buffers.proofs.Parts.{back_step, div_start, div_step}

-- n in k digits to a base, the highest first; the last digit of x is written as `digit x`
pub record Digits : Type 0 where
  pub base : ℕ
  pub digit : ℕ → ℕ
  pub digits : ℕ → ℕ → List ℕ
  pub none : (n : ℕ) → digits 0 n ≡ []
  pub more : (k n : ℕ) → digits (suc k) n ≡ digit (n / base ^ k) ∷ digits k n

pub length_digits : (d : Digits) (k n : ℕ) → length (d.digits k n) ≡ k
length_digits d zero n = ap length (d.none n)
length_digits d (suc k) n = ap length (d.more k n) ∙ ap suc (length_digits d k n)

-- of k digits of n those from i on are written, and x is what stands before them
pub record DigitsFrom (d : Digits) (k n : ℕ) (s₀ s : List ℕ) (i x : ℕ) : Type 0 where
  pub room : k ≤ length s₀
  pub below : i ≤ k
  pub left : x ≡ n / d.base ^ (k - i)
  pub made : s ≡ take i s₀ ++ (d.digits (k - i) n ++ drop k s₀)
  pub same : length s ≡ length s₀

pub digits_start : {d : Digits} {k n : ℕ} {s : List ℕ} → k ≤ length s → DigitsFrom d k n s s k n
digits_start {d} {k} {n} {s} h =
    record {
      room = h;
      below = omega arith;
      left = div_start d.base k n;
      made = rw (sub_self, d.none n) (sym (take-append-drop k s));
      same = refl;
    }

module _ {d : Digits} {k n : ℕ} {s₀ s : List ℕ} {i x : ℕ} (f : DigitsFrom d k n s₀ s i x) where
  pub digits_step : 0 < i → DigitsFrom d k n s₀ (set s (i - 1) (d.digit x)) (i - 1) (x / d.base)
  digits_step h =
      let e : k - (i - 1) ≡ suc (k - i) = omega arith in
      let ys : List ℕ = d.digits (k - i) n ++ drop k s₀ in
      record {
        room = f.room;
        below = omega arith;
        left = ap (λ (y : ℕ). y / d.base) f.left ∙ div_step d.base n k i h f.below;
        made = rw (e, d.more (k - i) n, ← f.left) (ap (λ (l : List ℕ). set l (i - 1) (d.digit x)) f.made ∙ back_step s₀ ys i (d.digit x) h (omega arith));
        same = simp length-set f.same;
      }

  pub digits_done : i ≤ 0 → s ≡ front (d.digits k n) s₀
  digits_done h =
      f.made
      ∙ ap (λ (j : ℕ). take j s₀ ++ (d.digits (k - j) n ++ drop k s₀)) (le-zero h)
      ∙ rw (sub-zero, length_digits d k n)
