-- A loop that writes one item after another, each into the part that follows the item before it.
use mathlib.Core.Path.{◌≡◌, refl, sym, ap, ◌∙◌}
use mathlib.Core.List.{List, [], ◌++◌}
use Prim.Native.Nat.{ℕ, ◌+◌, ◌-◌, ◌≤◌}
use native.Mathlib.Nat.{zero-add}
use native.Mathlib.Omega.{arith}
use lib.ListN.{length, take, drop, length-append}
use borrow.Rule.Slice.PartMut.{put_mid}
use Rattle.buffers.proofs.Parts.{placed, placed_nil, placed_append, length_tail, tail_step}
use Rattle.masks.specs.Bytes.{front}

-- what is left, written from `at` on, makes s the start s₀ with all of it at the front
pub record Writing (whole rest : List ℕ) (at : ℕ) (s s₀ : List ℕ) : Type 0 where
  pub sum : at + length rest ≡ length whole
  pub makes : placed at rest s ≡ front whole s₀
  pub same : length s ≡ length s₀

pub writing_start : (whole s : List ℕ) → Writing whole whole 0 s s
writing_start whole s = record { sum = omega arith; makes = refl; same = refl }

-- the first item is at the front of all
pub writing_first : (whole xs ys s₀ t : List ℕ) (n : ℕ) → whole ≡ xs ++ ys → n ≡ length xs → length whole ≤ length s₀ → t ≡ front xs s₀ → length t ≡ length s₀
    → Writing whole ys n t s₀
writing_first whole xs ys s₀ t n e en room et same =
    let l : length whole ≡ length xs + length ys = ap length e ∙ length-append xs ys in
    let k : 0 + length xs ≤ length s₀ = omega arith in
    record {
      sum = omega arith;
      makes = rw (en, ← zero-add (length xs)) (ap (placed (0 + length xs) ys) et ∙ placed_append 0 xs ys s₀ k ∙ ap (λ (x : List ℕ). front x s₀) (sym e));
      same = same;
    }

module _ (whole rest xs ys : List ℕ) (at : ℕ) (s s₀ : List ℕ) (w : Writing whole rest at s s₀) (e : rest ≡ xs ++ ys) (room : length whole ≤ length s₀) where
  lengths : length rest ≡ length xs + length ys
  lengths = ap length e ∙ length-append xs ys

  -- the next item fits the part
  pub writing_fits : length xs ≤ length (take (length s - at) (drop at s))
  writing_fits = rw length_tail (omega (arith, lengths, w.sum, w.same))

  pub writing_within : at + length xs ≤ length whole
  writing_within = omega (arith, lengths, w.sum)

  pub writing_step : (last : List ℕ) (n : ℕ) → n ≡ length xs → last ≡ front xs (take (length s - at) (drop at s))
      → length (put_mid at (length s - at) s last) ≡ length s → Writing whole ys (at + n) (put_mid at (length s - at) s last) s₀
  writing_step last n en el same =
      record {
        sum = omega (arith, lengths, w.sum);
        makes = rw en (tail_step at xs ys s last (front whole s₀) (rw e at w.makes) (omega (arith, lengths, w.sum, w.same)) el);
        same = same ∙ w.same;
      }

pub writing_done : (whole rest : List ℕ) (at : ℕ) (s s₀ : List ℕ) → Writing whole rest at s s₀ → rest ≡ [] → (at ≡ length whole) × (s ≡ front whole s₀)
writing_done whole rest at s s₀ w e = (omega (arith, w.sum, ap length e), sym (placed_nil at s) ∙ (rw e at w.makes))
