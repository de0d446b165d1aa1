-- The counts that are made in one pass are the numbers of children.
use mathlib.Core.Path.{◌≡◌, refl, sym, ap, ◌∙◌}
use mathlib.Core.Bool.{Bool, true, false, cond}
use mathlib.Core.List.{List}
use Prim.Native.Nat.{ℕ, zero, suc, ◌+◌, ◌≤◌, ◌<◌}
use native.Mathlib.Decide.{dec_lt}
use native.Mathlib.Nat.{add-zero}
use native.Mathlib.Numerals.{add-one}
use native.Mathlib.Omega.{arith}
use lib.Dec.{eqb}
use lib.ListN.{length, get_or, set, replicate, length-set, length-replicate, get_or-eq_default}
use lib.Seq.{get_or-set_same, get_or-set_other}
use borrow.Author.Tests.{eqb-true, eqb-false}
use Rattle.masks.specs.Tests.{count_below}
use Rattle.model.specs.declared.Origin.{Origin}
use Rattle.model.specs.declared.Origin.TheVariants.{Role as ofRole, Capability as ofCapability}
use Rattle.model.specs.declared.Capability.{Capability}
use Rattle.model.specs.State.{origin_at}
use Rattle.model.specs.Lineage.{is_parent, children}
use Rattle.rules.specs.Columns.{bumped, tally}

zeros_at : (n j : ℕ) → get_or {A = ℕ} (replicate n 0) j 0 ≡ 0
zeros_at zero j = refl
zeros_at (suc n) zero = refl
zeros_at (suc n) (suc j) = zeros_at n j

bumped-length : (t : List ℕ) (o : Origin) → length (bumped t o) ≡ length t
bumped-length t (ofRole k) = refl
bumped-length t (ofCapability k) = length-set t k _

pub tally-length : (cs : List Capability) (n : ℕ) → length (tally cs n) ≡ 256
unfolding tally
tally-length cs zero = length-replicate {A = ℕ} 256 0
tally-length cs (suc n) = bumped-length (tally cs n) (origin_at cs n) ∙ tally-length cs n

bumped_of : (t : List ℕ) (k j : ℕ) (b : Bool) → eqb k j ≡ b → j < length t → get_or (set t k (get_or t k 0 + 1)) j 0 ≡ get_or t j 0 + cond b 1 0
bumped_of t k j true e h = rw (eqb-true k j e) (get_or-set_same t j _ 0 h)
bumped_of t k j false e h = get_or-set_other t k j _ 0 (λ z. eqb-false k j e (sym z)) ∙ sym (add-zero (get_or t j 0))

bumped_at : (t : List ℕ) (o : Origin) (j : ℕ) → j < length t → get_or (bumped t o) j 0 ≡ get_or t j 0 + cond (is_parent j o) 1 0
bumped_at t (ofRole k) j h = sym (add-zero (get_or t j 0))
bumped_at t (ofCapability k) j h = bumped_of t k j (eqb k j) refl h

-- the count by origin, for each capability
pub tally_at : (cs : List Capability) (j n : ℕ) → j < 256 → get_or (tally cs n) j 0 ≡ children n cs j
unfolding tally children count_below
tally_at cs j zero h = zeros_at 256 j
tally_at cs j (suc n) h =
    bumped_at (tally cs n) (origin_at cs n) j (rw (tally-length cs n) h)
    ∙ ap (λ (z : ℕ). z + cond (is_parent j (origin_at cs n)) 1 0) (tally_at cs j n h)

count_le : (p : ℕ → Bool) (n : ℕ) → count_below n p ≤ n
unfolding count_below
count_le p zero = omega arith
count_le p (suc n) = omega (arith, count_le p n, one (p n))
  where
    one : (b : Bool) → cond b 1 0 ≤ 1
    one true = omega arith
    one false = omega arith

-- so no count passes the number of capabilities
pub tally_le : (cs : List Capability) (j n : ℕ) → get_or (tally cs n) j 0 ≤ n
unfolding children
tally_le cs j n = cases (dec_lt j 256)
  where
    cases : Dec (j < 256) → get_or (tally cs n) j 0 ≤ n
    cases (yes h) = rw (tally_at cs j n h) (count_le (λ m. is_parent j (origin_at cs m)) n)
    cases (no h) = rw (get_or-eq_default (tally cs n) 0 {n = j} (rw (tally-length cs n) (omega arith))) (omega arith)

-- one capability more
pub tally_more : (cs : List Capability) (n : ℕ) {x y : List ℕ} → x ≡ tally cs n → y ≡ bumped x (origin_at cs n) → y ≡ tally cs (n + 1)
unfolding tally
tally_more cs n e f = rw add-one (f ∙ ap (λ (t : List ℕ). bumped t (origin_at cs n)) e)
