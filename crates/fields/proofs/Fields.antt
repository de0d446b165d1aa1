-- Fields written one after another, all of them or only those that are not zero: they are read again as they were.
use mathlib.Core.Path.{◌≡◌, refl, sym, ap, ◌∙◌}
use mathlib.Core.List.{List, [], ◌∷◌, ◌++◌, append_assoc}
use Prim.Native.Nat.{ℕ, zero, suc, ◌+◌, ◌*◌, ◌/◌, ◌%◌, ◌^◌, ◌≤◌, ◌<◌}
use native.Mathlib.Nat.{pow-suc, zero-mul, one-mul}
use native.Mathlib.Omega.{arith}
use lib.ListN.{length, drop, length-append}
use lib.Seq.{drop_at}
use Rattle.model.specs.Fields.{Coding, plain, bitmap, mark, width, written, read_field, write_all, read_all, is_set, field_map, write_set, write_present, read_set, read_present, present_length}
use Rattle.fields.specs.Codes.{Fitting}
use Rattle.fields.proofs.Numbers.{length-bytes, length-map, number_back, map_back}

-- ---- one field

-- v can be written and read again by the coding c
abbrev pub Fits : Coding → ℕ → Type 0
Fits (plain w) v = v < 256 ^ w
Fits (bitmap w) v = v < 256 ^ w
Fits mark v = v ≡ 1

-- it can where it is written only if it is not zero
fitting : (c : Coding) (v : ℕ) → Fitting c (suc v) → Fits c (suc v)
fitting (plain w) v h = h
fitting (bitmap w) v h = h
fitting mark v h = omega arith

pub length-written : (c : Coding) (v : ℕ) → length (written c v) ≡ width c
length-written (plain w) v = length-bytes w v
length-written (bitmap w) v = length-map w v
length-written mark v = refl

field_back : (c : Coding) (v : ℕ) (rest : List ℕ) → Fits c v → read_field c (written c v ++ rest) ≡ v
field_back (plain w) v rest h = number_back w v rest h
field_back (bitmap w) v rest h = map_back w v rest h
field_back mark v rest h = sym h

-- ---- all fields

-- each value by its coding, and as many of the ones as of the others
abbrev pub Pairs : (Coding → ℕ → Type 0) → List Coding → List ℕ → Type 0
Pairs P [] [] = Unit {0}
Pairs P [] (v ∷ vs) = ⊥
Pairs P (c ∷ cs) [] = ⊥
Pairs P (c ∷ cs) (v ∷ vs) = P c v × Pairs P cs vs

pub all_back : (cs : List Coding) (vs rest : List ℕ) → Pairs Fits cs vs → read_all cs (write_all cs vs ++ rest) ≡ vs
all_back [] [] rest h = refl
all_back [] (v ∷ vs) rest h = absurd h
all_back (c ∷ cs) [] rest h = absurd h
all_back (c ∷ cs) (v ∷ vs) rest h =
    rw (append_assoc (written c v) (write_all cs vs) rest, field_back c v (write_all cs vs ++ rest) h.0, drop_at (written c v) (write_all cs vs ++ rest) (width c) (length-written c v))
    (ap (λ (l : List ℕ). v ∷ l) (all_back cs vs rest h.1))

-- ---- the fields that are not zero

set_back : (c : Coding) (v : ℕ) (rest : List ℕ) → Fitting c v → read_set (is_set v) c (write_set c v ++ rest) ≡ v
set_back c zero rest h = refl
set_back c (suc v) rest h = field_back c (suc v) rest (fitting c v h)

set-drop : (c : Coding) (v : ℕ) (rest : List ℕ) → drop (is_set v * width c) (write_set c v ++ rest) ≡ rest
set-drop c zero rest = rw zero-mul
set-drop c (suc v) rest = rw one-mul (drop_at (written c (suc v)) rest (width c) (length-written c (suc v)))

pub set-length : (c : Coding) (v : ℕ) → length (write_set c v) ≡ is_set v * width c
set-length c zero = sym (zero-mul (width c))
set-length c (suc v) = length-written c (suc v) ∙ sym (one-mul (width c))

pub is_set_le : (v : ℕ) → is_set v ≤ 1
is_set_le zero = omega arith
is_set_le (suc v) = omega arith

pub bit_here : (v m : ℕ) → (is_set v + 2 * m) % 2 ≡ is_set v
bit_here v m = omega (arith, is_set_le v)

pub bits-after : (v m : ℕ) → (is_set v + 2 * m) / 2 ≡ m
bits-after v m = omega (arith, is_set_le v)

pub present_back : (cs : List Coding) (vs rest : List ℕ) → Pairs Fitting cs vs
    → read_present (field_map vs) cs (write_present cs vs ++ rest) ≡ vs
present_back [] [] rest h = refl
present_back [] (v ∷ vs) rest h = absurd h
present_back (c ∷ cs) [] rest h = absurd h
present_back (c ∷ cs) (v ∷ vs) rest h =
    rw (bit_here v (field_map vs), bits-after v (field_map vs), append_assoc (write_set c v) (write_present cs vs) rest, set_back c v (write_present cs vs ++ rest) h.0, set-drop c v (write_present cs vs ++ rest))
    (ap (λ (l : List ℕ). v ∷ l) (present_back cs vs rest h.1))

pub present_length_lem : (cs : List Coding) (vs : List ℕ) → present_length (field_map vs) cs ≡ length (write_present cs vs)
present_length_lem [] vs = refl
present_length_lem (c ∷ []) [] = omega (arith, zero-mul (width c))
present_length_lem (c ∷ d ∷ cs) [] = omega (arith, zero-mul (width c), present_length_lem (d ∷ cs) [])
present_length_lem (c ∷ cs) (v ∷ vs) =
    rw (bit_here v (field_map vs), bits-after v (field_map vs), length-append) (omega (arith, set-length c v, present_length_lem cs vs))

-- ---- bounds

-- the bytes of all fields together
unfoldable pub total : List Coding → ℕ
total [] = 0
total (c ∷ cs) = width c + total cs

pub map_small : (vs : List ℕ) → field_map vs < 2 ^ length vs
map_small [] = omega arith
map_small (v ∷ vs) = rw pow-suc (omega (arith, map_small vs, is_set_le v))

set_small : (c : Coding) (v : ℕ) → length (write_set c v) ≤ width c
set_small c zero = omega arith
set_small c (suc v) = omega (arith, length-written c (suc v))

pub present_small : (cs : List Coding) (vs : List ℕ) → length (write_present cs vs) ≤ total cs
unfolding total
present_small [] vs = omega arith
present_small (c ∷ cs) [] = omega arith
present_small (c ∷ cs) (v ∷ vs) = rw length-append (omega (arith, set_small c v, present_small cs vs))
