-- Numbers, maps, texts and parts of lists as bytes.
use Rattle.std.specs.Prelude.{Bool, true, false, cond, ◌&&◌, List, [], ◌∷◌, ◌++◌, ℕ, zero, suc, ◌+◌, ◌*◌, ◌/◌, ◌%◌, ◌^◌, eqb, length, drop}
use Prim.Native.Char.{code}
use Prim.Native.String.{String, [] as []ᵗ, ◌∷◌ as ◌∷ᵗ◌}

-- n as k bytes: "High byte first in numbers"
abbrev pub bytes_of : ℕ → ℕ → List ℕ
bytes_of zero n = []
bytes_of (suc k) n = n / 256 ^ k % 256 ∷ bytes_of k n

-- the number whose bytes are those of a number a and then s
abbrev pub number_from : ℕ → List ℕ → ℕ
number_from a [] = a
number_from a (b ∷ s) = number_from (a * 256 + b) s

-- the number with the bytes s, high byte first
abbrev pub number_of : List ℕ → ℕ
number_of s = number_from 0 s

-- a mask as a map of k bytes: "bit maps have item k at bit k mod 8 (lowest is 0) of byte k/8", so the low byte is first
abbrev pub map_bytes : ℕ → ℕ → List ℕ
map_bytes zero n = []
map_bytes (suc k) n = n % 256 ∷ map_bytes k (n / 256)

-- the mask of a map
abbrev pub mask_of : List ℕ → ℕ
mask_of [] = 0
mask_of (b ∷ s) = mask_of s * 256 + b

-- a text as bytes: the code of each of its characters, which is one byte where the text is ASCII
abbrev pub bytes : String → List ℕ
bytes []ᵗ = []
bytes (c ∷ᵗ s) = code c ∷ bytes s

-- s with xs in the place of its first bytes; the bytes after them are as they were
abbrev pub front : List ℕ → List ℕ → List ℕ
front xs s = xs ++ drop (length xs) s

-- the first k bytes of s, and 0 for each that it lacks
abbrev pub first_bytes : ℕ → List ℕ → List ℕ
first_bytes zero s = []
first_bytes (suc k) [] = 0 ∷ first_bytes k []
first_bytes (suc k) (b ∷ s) = b ∷ first_bytes k s

-- two lists of bytes are the same, compared byte by byte
abbrev pub same_bytes : List ℕ → List ℕ → Bool
same_bytes [] [] = true
same_bytes [] (y ∷ ys) = false
same_bytes (x ∷ xs) [] = false
same_bytes (x ∷ xs) (y ∷ ys) = eqb x y && same_bytes xs ys

-- byte b put before the first of a list of parts
abbrev pub onto : ℕ → List (List ℕ) → List (List ℕ)
onto b [] = []
onto b (w ∷ ws) = (b ∷ w) ∷ ws

-- the parts of s between the bytes that equal b: one part more than there are such bytes
abbrev pub split : ℕ → List ℕ → List (List ℕ)
split b [] = [] ∷ []
split b (x ∷ s) = let parts = split b s in cond (eqb x b) ([] ∷ parts) (onto x parts)
