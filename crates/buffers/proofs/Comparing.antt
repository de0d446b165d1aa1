-- Laws of comparing bytes.
use mathlib.Core.Path.{◌≡◌, refl, sym, ap}
use mathlib.Core.Bool.{Bool, true, false, ◌&&◌}
use mathlib.Core.List.{List, [], ◌∷◌}
use Prim.Native.Nat.{ℕ, suc}
use lib.ListN.{length}
use lib.Dec.{eqb}
use borrow.Author.Rules.{rules}
use Rattle.std.specs.Bool.{Decides}
use Rattle.std.specs.Cmp.Lexicographic.{pointwise}
use Rattle.std.proofs.Math.Bool.{and-false}
use Rattle.std.proofs.lemmas.Slice.Eq.{compares_Decides}
use Rattle.masks.specs.Bytes.{same_bytes}

-- what `==` says of two slices
pub same_pointwise : (a b : List ℕ) → pointwise eqb a b ≡ same_bytes a b
same_pointwise [] [] = refl
same_pointwise [] (y ∷ ys) = refl
same_pointwise (x ∷ xs) [] = refl
same_pointwise (x ∷ xs) (y ∷ ys) = ap (λ (t : Bool). eqb x y && t) (same_pointwise xs ys)

-- two tests of one thing say the same
pub decided : {P : Type 0} (r s : Bool) → Decides r P → Decides s P → r ≡ s
decided true true d e = refl
decided true false d e = sym (e.1 (d.0 refl))
decided false true d e = d.1 (e.0 refl)
decided false false d e = refl

pub same_eq : (a b : List ℕ) → same_bytes a b ≡ true → a ≡ b
same_eq a b e = (compares_Decides same_bytes (search rules) a b).0 e

pub same_long : (a b : List ℕ) → (length a ≡ length b → ⊥) → same_bytes a b ≡ false
same_long [] [] h = absurd (h refl)
same_long [] (y ∷ ys) h = refl
same_long (x ∷ xs) [] h = refl
same_long (x ∷ xs) (y ∷ ys) h = rw (same_long xs ys (λ e. h (ap suc e))) (and-false (eqb x y))
