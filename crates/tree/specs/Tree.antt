-- Intermediate: the code's own terms, proved to come to the definitions of `model`.
-- The creation tree by the origin of each number.
use Rattle.std.specs.Prelude.{Bool, false, cond, ◌&&◌, ◌||◌, ℕ, zero, suc, ◌%◌, ltb}
use Rattle.model.specs.declared.Origin.{Origin}
use Rattle.model.specs.declared.Origin.TheVariants.{Role as ofRole, Capability as ofCapability}

-- the origin of n is a capability below n, from where it goes on
abbrev pub further : ℕ → (ℕ → Bool) → Origin → Bool
further n next (ofRole k) = false
further n next (ofCapability k) = ltb k n && next k

-- a number on the lineage of n, itself the first, passes the test; `up` gives the origin, "whose number is smaller where it is
-- a pass". The first number bounds the steps, and n + 1 of them are enough
unfoldable pub lineage_has : (ℕ → Origin) → (ℕ → Bool) → ℕ → ℕ → Bool
lineage_has up hit zero n = false
lineage_has up hit (suc f) n = hit n || further n (λ k. lineage_has up hit f k) (up n)

-- the role of n's origin, or what comes of the capability below n that it is
abbrev pub ended : ℕ → (ℕ → ℕ) → Origin → ℕ
ended n next (ofRole k) = k % 32
ended n next (ofCapability k) = cond (ltb k n) (next k) (k % 32)

-- the role where the lineage of n ends
unfoldable pub lineage_end : (ℕ → Origin) → ℕ → ℕ → ℕ
lineage_end up zero n = 0
lineage_end up (suc f) n = ended n (λ k. lineage_end up f k) (up n)
