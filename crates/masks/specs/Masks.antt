-- Masks: "A mask has bit k for item k."
use Rattle.std.specs.Prelude.{Bool, cond, ℕ, zero, suc, ◌/◌, ◌%◌, ◌^◌, eqb}
use Rattle.std.specs.Int.Bits.{bit_and, bit_or, bit_xor}

-- the mask m has item k
unfoldable pub has : ℕ → ℕ → Bool
has m k = eqb (m / 2 ^ k % 2) 1

-- every item of a is one of b: a does not exceed b ("A mask exceeds another if it has a bit that the other lacks")
unfoldable pub within : ℕ → ℕ → Bool
within a b = eqb (bit_and a b) a

-- m with item k put in
unfoldable pub including : ℕ → ℕ → ℕ
including m k = bit_or m (2 ^ k)

-- m, which has item k, with it taken out
unfoldable pub excluding : ℕ → ℕ → ℕ
excluding m k = bit_xor m (2 ^ k)

-- the masks f k of the items k of m below n, joined
unfoldable pub joined : (ℕ → ℕ) → ℕ → ℕ → ℕ
joined f m zero = 0
joined f m (suc n) = let last = f n in bit_or (joined f m n) (cond (has m n) last 0)
