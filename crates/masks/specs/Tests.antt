-- Tests that compute, over lists and over all numbers below a bound; counts; and changes of every item of a list.
use Rattle.std.specs.Prelude.{Bool, true, cond, not, ◌&&◌, ◌||◌, List, [], ◌∷◌, ℕ, zero, suc, ◌+◌, T, get_or, set}

-- all of a list of tests
abbrev pub each : List Bool → Bool
each [] = true
each (t ∷ ts) = t && each ts

-- the same as facts, a nested tuple: `(h₀, (h₁, (h₂, tt)))`
abbrev pub Each : List Bool → Type 0
Each [] = Unit {0}
Each (t ∷ ts) = T t × Each ts

abbrev pub implies : Bool → Bool → Bool
implies a b = not a || b

-- all numbers below n pass
unfoldable pub all_below : ℕ → (ℕ → Bool) → Bool
all_below zero p = true
all_below (suc n) p = all_below n p && p n

-- how many numbers below n pass
unfoldable pub count_below : ℕ → (ℕ → Bool) → ℕ
count_below zero p = 0
count_below (suc n) p = count_below n p + cond (p n) 1 0

-- all items of a list pass, the first being item i
unfoldable pub all_from : {A : Type 0} → (ℕ → A → Bool) → ℕ → List A → Bool
all_from p i [] = true
all_from p i (a ∷ rest) = p i a && all_from p (suc i) rest

-- each item of a list put anew, by its number and itself, the first being item i
unfoldable pub map_from : {A : Type 0} → (ℕ → A → A) → ℕ → List A → List A
map_from f i [] = []
map_from f i (a ∷ rest) = f i a ∷ map_from f (suc i) rest

-- the items below n put anew in rising number, each by its number, the list as it is by then, and itself; d stands past the end
unfoldable pub rising : {A : Type 0} → A → (ℕ → List A → A → A) → ℕ → List A → List A
rising d f zero l = l
rising d f (suc n) l = let done = rising d f n l in set done n (f n done (get_or done n d))
