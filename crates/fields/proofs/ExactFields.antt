-- Fields read from bytes and written again are the bytes that were read.
use mathlib.Core.Path.{◌≡◌, refl, sym, ap, ◌∙◌}
use mathlib.Core.List.{List, [], ◌∷◌, ◌++◌}
use Prim.Native.Nat.{ℕ, zero, suc, ◌+◌, ◌*◌, ◌/◌, ◌%◌, ◌^◌, ◌≤◌, ◌<◌}
use native.Mathlib.Nat.{pow-suc, zero-mul, one-mul, zero-add, suc-add, div-div-eq-div-mul}
use native.Mathlib.Omega.{arith}
use lib.ListN.{length, drop}
use lib.Seq.{drop-nil}
use Rattle.masks.specs.Bytes.{bytes_of, number_from, number_of, map_bytes, mask_of, first_bytes}
use Rattle.model.specs.Fields.{Coding, plain, bitmap, mark, width, written, read_field, write_all, read_all, is_set, field_map, write_set, write_present, read_set, read_present, present_length}
use Rattle.fields.specs.Codes.{Bytes}
use Rattle.fields.proofs.Fields.{total, is_set_le}
use Rattle.fields.proofs.Codes.{set-written}
use Rattle.fields.proofs.Reading.{bytes_drop, bytes_first, length_first}

-- ---- the first bytes

pub first_join : (a b : ℕ) (s : List ℕ) → first_bytes a s ++ first_bytes b (drop a s) ≡ first_bytes (a + b) s
first_join zero b s = ap (λ (k : ℕ). first_bytes k s) (sym (zero-add b))
first_join (suc a) b [] = rw suc-add (ap (λ (l : List ℕ). 0 ∷ l) (rw drop-nil at (first_join a b [])))
first_join (suc a) b (x ∷ s) = rw suc-add (ap (λ (l : List ℕ). x ∷ l) (first_join a b s))

pub first_all : (s : List ℕ) → first_bytes (length s) s ≡ s
first_all [] = refl
first_all (x ∷ s) = ap (λ (l : List ℕ). x ∷ l) (first_all s)

-- ---- numbers and maps

pub from_high : (s : List ℕ) (a : ℕ) → Bytes s → number_from a s / 256 ^ length s ≡ a
from_high [] a h = omega arith
from_high (x ∷ s) a h =
    let b : x < 256 = h 0 in
    let e : number_from (a * 256 + x) s / 256 ^ length s ≡ a * 256 + x = from_high s (a * 256 + x) (λ i. h (suc i)) in
    rw (pow-suc, ← div-div-eq-div-mul, e) (omega arith)

number-bytes : (s : List ℕ) (a : ℕ) → Bytes s → bytes_of (length s) (number_from a s) ≡ s
number-bytes [] a h = refl
number-bytes (x ∷ s) a h =
    let b : x < 256 = h 0 in
    let e : number_from (a * 256 + x) s / 256 ^ length s ≡ a * 256 + x = from_high s (a * 256 + x) (λ i. h (suc i)) in
    let d : number_from (a * 256 + x) s / 256 ^ length s % 256 ≡ x = omega arith in
    rw (d, number-bytes s (a * 256 + x) (λ i. h (suc i)))

map-bytes : (s : List ℕ) → Bytes s → map_bytes (length s) (mask_of s) ≡ s
map-bytes [] h = refl
map-bytes (x ∷ s) h =
    let b : x < 256 = h 0 in
    let d : (mask_of s * 256 + x) % 256 ≡ x = omega arith in
    let q : (mask_of s * 256 + x) / 256 ≡ mask_of s = omega arith in
    rw (d, q, map-bytes s (λ i. h (suc i)))

pub number_again : (w : ℕ) (t : List ℕ) → Bytes t → bytes_of w (number_of (first_bytes w t)) ≡ first_bytes w t
number_again w t h =
    ap (λ (k : ℕ). bytes_of k (number_of (first_bytes w t))) (sym (length_first w t)) ∙ number-bytes (first_bytes w t) 0 (bytes_first w t h)

pub map_again : (w : ℕ) (t : List ℕ) → Bytes t → map_bytes w (mask_of (first_bytes w t)) ≡ first_bytes w t
map_again w t h =
    ap (λ (k : ℕ). map_bytes k (mask_of (first_bytes w t))) (sym (length_first w t)) ∙ map-bytes (first_bytes w t) (bytes_first w t h)

-- ---- fields

field_again : (c : Coding) (t : List ℕ) → Bytes t → written c (read_field c t) ≡ first_bytes (width c) t
field_again (plain w) t h = number_again w t h
field_again (bitmap w) t h = map_again w t h
field_again mark t h = refl

pub all_again : (cs : List Coding) (t : List ℕ) → Bytes t → write_all cs (read_all cs t) ≡ first_bytes (total cs) t
unfolding total
all_again [] t h = refl
all_again (c ∷ cs) t h =
    rw (field_again c t h, all_again cs (drop (width c) t) (bytes_drop (width c) t h)) (first_join (width c) (total cs) t)

-- a field that is there and whose bit says so
set_again : (b : ℕ) (c : Coding) (t : List ℕ) → Bytes t → b < 2 → is_set (read_set b c t) ≡ b → write_set c (read_set b c t) ≡ first_bytes (b * width c) t
set_again zero c t h l e = rw zero-mul
set_again (suc zero) c t h l e =
    rw one-mul (set-written c (read_field c t) (λ z. let f : is_set (read_field c t) ≡ 0 = ap is_set z in omega arith) ∙ field_again c t h)
set_again (suc (suc b)) c t h l e = absurd (omega arith)

pub present_again : (m : ℕ) (cs : List Coding) (t : List ℕ) → Bytes t → field_map (read_present m cs t) ≡ m
    → write_present cs (read_present m cs t) ≡ first_bytes (present_length m cs) t
present_again m [] t h e = refl
present_again m (c ∷ cs) t h e =
    let u : List ℕ = drop (m % 2 * width c) t in
    let v : ℕ = read_set (m % 2) c t in
    let small : is_set v ≤ 1 = is_set_le v in
    let here : is_set v ≡ m % 2 = omega arith in
    let after : field_map (read_present (m / 2) cs u) ≡ m / 2 = omega arith in
    let two : m % 2 < 2 = omega arith in
    rw (set_again (m % 2) c t h two here, present_again (m / 2) cs u (bytes_drop (m % 2 * width c) t h) after)
    (first_join (m % 2 * width c) (present_length (m / 2) cs) t)
