-- Capabilities read one after another: how long one is, and a law for each turn of the loop.
use mathlib.Core.Path.{◌≡◌, sym, ap, ◌∙◌}
use mathlib.Core.Bool.{Bool, ◌&&◌, and_assoc}
use mathlib.Core.List.{List, [], ◌∷◌, ◌++◌}
use Prim.Native.Nat.{ℕ, suc, ◌+◌, ◌-◌, ◌*◌, ◌/◌, ◌%◌, ◌≤◌, ◌<◌}
use native.Mathlib.Nat.{one-mul, mul-le-mul_right}
use native.Mathlib.Omega.{arith}
use lib.ListN.{length, take, drop, get_or, set}
use lib.Seq.{drop-drop}
use Rattle.model.specs.declared.Capability.{Capability}
use Rattle.model.specs.Fields.{Coding, width, present_length, capability_codings, read_head, read_capability, capability_length}
use Rattle.model.specs.Image.{read_capabilities, after_capabilities}
use Rattle.records.specs.Exact.{exact_capability, exact_capabilities, capabilities_length}
use Rattle.fields.proofs.Parts.{fill_step}
use Rattle.fields.proofs.Fields.{total}

bit_small : (m w : ℕ) → m % 2 * w ≤ w
bit_small m w = let b : m % 2 ≤ 1 = omega arith in rw one-mul at (mul-le-mul_right w b)

length_small : (m : ℕ) (cs : List Coding) → present_length m cs ≤ total cs
unfolding total
length_small m [] = omega arith
length_small m (c ∷ cs) = omega (arith, bit_small m (width c), length_small (m / 2) cs)

pub capability-length_small : (s : List ℕ) → capability_length s ≤ 48
unfolding capability_length capability_codings total
capability-length_small s = omega (arith, length_small (get_or (read_head s) 3 0) capability_codings)

capabilities_next : (n i at : ℕ) (s : List ℕ) → i < n
    → read_capabilities (n - i) (drop at s) ≡ read_capability (drop at s) ∷ read_capabilities (n - (i + 1)) (drop (at + capability_length (drop at s)) s)
capabilities_next n i at s h =
    let e : n - i ≡ suc (n - (i + 1)) = omega arith in
    ap (λ (j : ℕ). read_capabilities j (drop at s)) e ∙ rw drop-drop

-- a turn of the loop that reads n capabilities
pub capabilities_turn : (n i at : ℕ) (s : List ℕ) (rows : List Capability) (c : Capability) (next : ℕ) (tail whole : List Capability) → i < n → i < length rows
    → c ≡ read_capability (drop at s) → next ≡ at + capability_length (drop at s)
    → take i rows ++ (read_capabilities (n - i) (drop at s) ++ tail) ≡ whole
    → take (i + 1) (set rows i c) ++ (read_capabilities (n - (i + 1)) (drop next s) ++ tail) ≡ whole
capabilities_turn n i at s rows c next tail whole hn hr ec en h =
    let e = capabilities_next n i at s hn in
    fill_step rows i c (read_capabilities (n - (i + 1)) (drop next s) ++ tail) hr ∙ rw (ec, en) (rw e at h)

pub after_turn : (n i at : ℕ) (s : List ℕ) (next : ℕ) (whole : List ℕ) → i < n → next ≡ at + capability_length (drop at s)
    → after_capabilities (n - i) (drop at s) ≡ whole → after_capabilities (n - (i + 1)) (drop next s) ≡ whole
after_turn n i at s next whole h en e =
    let k : n - i ≡ suc (n - (i + 1)) = omega arith in
    ap (λ (j : ℕ). after_capabilities (n - (i + 1)) (drop j s)) en
    ∙ ap (after_capabilities (n - (i + 1))) (sym (drop-drop (capability_length (drop at s)) at s))
    ∙ ap (λ (j : ℕ). after_capabilities j (drop at s)) (sym k)
    ∙ e

-- a turn of the loop that reads n capabilities and tests them
pub exact_turn : (n i at : ℕ) (s : List ℕ) (exact here : Bool) (next : ℕ) (whole : Bool) → i < n
    → here ≡ exact_capability (drop at s) → next ≡ at + capability_length (drop at s)
    → (exact && exact_capabilities (n - i) (drop at s)) ≡ whole
    → ((exact && here) && exact_capabilities (n - (i + 1)) (drop next s)) ≡ whole
exact_turn n i at s exact here next whole h eh en e =
    let k : n - i ≡ suc (n - (i + 1)) = omega arith in
    and_assoc exact here (exact_capabilities (n - (i + 1)) (drop next s)) ∙ rw (eh, en, ← drop-drop) (rw k at e)

-- and finds where they end
pub length_turn : (n i at : ℕ) (s : List ℕ) (next whole : ℕ) → i < n → next ≡ at + capability_length (drop at s)
    → at + capabilities_length (n - i) (drop at s) ≡ whole → next + capabilities_length (n - (i + 1)) (drop next s) ≡ whole
length_turn n i at s next whole h en e =
    let k : n - i ≡ suc (n - (i + 1)) = omega arith in
    let q : at + (capability_length (drop at s) + capabilities_length (n - (i + 1)) (drop (capability_length (drop at s)) (drop at s))) ≡ whole = rw k at e in
    rw (en, ← drop-drop) (omega arith)
