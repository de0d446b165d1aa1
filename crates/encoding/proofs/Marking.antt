-- A loop that builds the mask of the items that pass a test, from the last item down: one law for what the loop owes, over the test.
use mathlib.Core.Path.{◌≡◌, refl, sym, ap, ◌∙◌}
use mathlib.Core.Bool.{Bool}
use mathlib.Core.List.{List, [], ◌∷◌, ◌++◌, append-nil, append_assoc}
use Prim.Native.Nat.{ℕ, ◌+◌, ◌*◌, ◌^◌, ◌≤◌, ◌<◌}
use native.Mathlib.Omega.{arith}
use lib.ListN.{length, length-append}
use lib.Pow.{pow_mono}
use Rattle.std.proofs.lemmas.List.{nil_from_length}
use Rattle.model.specs.Fields.{bit}
use Rattle.model.specs.Image.{mask_where}
use Rattle.encoding.proofs.Turns.{where_small}

-- m is the mask of the items that follow the front, which is left
pub record MaskFrom {A : Type 0} (test : A → Bool) (l : List A) (m : ℕ) (front : List A) : Type 0 where
  pub few : length l ≤ 64
  pub passed : List A
  pub split : l ≡ front ++ passed
  pub mask : m ≡ mask_where test passed

pub mask_start : {A : Type 0} {test : A → Bool} {l : List A} → length l ≤ 64 → MaskFrom test l 0 l
mask_start {A} {test} {l} h = record { few = h; passed = []; split = sym (append-nil l); mask = refl }

module _ {A : Type 0} {test : A → Bool} {l : List A} {m : ℕ} {front : List A} (f : MaskFrom test l m front) where
  -- one item more
  pub mask_step : (rest : List A) (x : A) → front ≡ rest ++ x ∷ [] → {b : ℕ} → b ≡ bit (test x) → MaskFrom test l (m * 2 + b) rest
  mask_step rest x h {b} e =
      record { few = f.few; passed = x ∷ f.passed; split = f.split ∙ ap (λ (k : List A). k ++ f.passed) h ∙ append_assoc rest (x ∷ []) f.passed; mask = omega (arith, f.mask) }

  amount : length l ≡ length front + length f.passed
  amount = ap length f.split ∙ length-append front f.passed

  mask_small : m < 2 ^ length f.passed
  mask_small = omega (arith, f.mask, where_small test f.passed)

  -- its bit fits 64
  pub mask_fits : (rest : List A) (x : A) → front ≡ rest ++ x ∷ [] → {b : ℕ} → b ≤ 1 → m * 2 + b < 2 ^ 64
  mask_fits rest x h k =
      let some : 0 < length front = rw (h, length-append) (omega arith) in
      let n : length f.passed ≤ 63 = omega (arith, some, amount, f.few) in
      omega (arith, mask_small, pow_mono n)

  pub mask_done : length front ≡ 0 → (m ≡ mask_where test l) × (m < 2 ^ length l)
  mask_done h =
      let e : f.passed ≡ l = ap (λ (k : List A). k ++ f.passed) (sym (nil_from_length front h)) ∙ sym f.split in
      (f.mask ∙ ap (mask_where test) e, rw (← e) mask_small)
