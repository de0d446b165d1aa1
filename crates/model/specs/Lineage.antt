-- The lineage of a capability: document 01's climb, "from a pass, itself the first on it, to its origin, whose number is
-- smaller where it is a pass", as a list for the calls, and as a relation over any record of origins for the list theorem.
use Rattle.std.specs.Prelude.{◌≡◌, Bool, false, ◌||◌, List, [], ◌∷◌, ℕ, zero, suc, eqb}
use Rattle.masks.specs.Tests.{count_below}
use Rattle.model.specs.declared.Origin.{Origin}
use Rattle.model.specs.declared.Origin.TheVariants.{Role as ofRole, Capability as ofCapability}
use Rattle.model.specs.declared.Capability.{Capability}
use Rattle.model.specs.State.{capability_at, origin_at}

-- ---- as a list: the first argument bounds the steps

abbrev pub onward : (ℕ → List ℕ) → Origin → List ℕ
onward next (ofRole k) = []
onward next (ofCapability k) = next k

-- the capabilities on the lineage of n, itself the first
unfoldable pub lineage : ℕ → List Capability → ℕ → List ℕ
lineage zero cs n = []
lineage (suc f) cs n = n ∷ onward (λ k. lineage f cs k) (origin_at cs n)

unfoldable pub member : ℕ → List ℕ → Bool
member m [] = false
member m (n ∷ ns) = eqb n m || member m ns

-- capability m is on the lineage of capability n: n is m, or below it
unfoldable pub in_lineage : List Capability → ℕ → ℕ → Bool
in_lineage cs m n = member m (lineage (suc n) cs n)

-- the user created a capability of the list
unfoldable pub any_created : List Capability → ℕ → List ℕ → Bool
any_created cs user [] = false
any_created cs user (n ∷ ns) = eqb (capability_at cs n).creator user || any_created cs user ns

-- the role where the lineage of n ends
abbrev pub ending : (ℕ → ℕ) → Origin → ℕ
ending next (ofRole k) = k
ending next (ofCapability k) = next k

unfoldable pub root : ℕ → List Capability → ℕ → ℕ
root zero cs n = 0
root (suc f) cs n = ending (λ k. root f cs k) (origin_at cs n)

-- ---- children

abbrev pub is_parent : ℕ → Origin → Bool
is_parent n (ofRole k) = false
is_parent n (ofCapability k) = eqb k n

-- "the number of passes whose origin it is"
unfoldable pub children : ℕ → List Capability → ℕ → ℕ
children count cs n = count_below count (λ m. is_parent n (origin_at cs m))

-- ---- as a relation, where `derived` gives each capability's origin

-- n descends from m: it is m, or is derived from it directly or through others
pub data Descends (derived : ℕ → Origin) : ℕ → ℕ → Type 0 where
  here : {n : ℕ} → Descends derived n n
  up : {n k m : ℕ} → derived n ≡ ofCapability k → Descends derived k m → Descends derived n m

-- from capability n, in at most so many steps, the lineage reaches role k; "A climb's step goes from a pass to its origin."
pub data Reaches (derived : ℕ → Origin) : ℕ → ℕ → ℕ → Type 0 where
  last_step : {f n k : ℕ} → derived n ≡ ofRole k → Reaches derived (suc f) n k
  one_step : {f n m k : ℕ} → derived n ≡ ofCapability m → Reaches derived f m k → Reaches derived (suc f) n k
