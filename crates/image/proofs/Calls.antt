-- What save answers and leaves, and what load finds, case by case.
use mathlib.Core.Path.{◌≡◌, refl, sym, ap, ◌∙◌}
use mathlib.Core.Bool.{Bool, true, false, ◌&&◌, ◌||◌}
use mathlib.Core.List.{List, [], ◌∷◌, ◌++◌}
use Prim.Native.Nat.{ℕ, zero, suc, ◌-◌, ◌≤◌, ◌<◌, min}
use borrow.Author.Tests.{ne_eqb}
use native.Mathlib.Nat.{min-le_right, not-suc-le-zero, le_of_suc-le-suc}
use native.Mathlib.Omega.{arith}
use lib.Dec.{T, eqb, ltb, lt→ltb}
use lib.ListN.{length, drop, get_or, replicate}
use Rattle.masks.specs.Bytes.{front}
use Rattle.masks.proofs.Truth.{T→true, T→false, le→nltb}
use Rattle.model.specs.declared.Register.{Register}
use Rattle.model.specs.State.{capability_at, blank_capability}
use Rattle.model.specs.Rules.{well_formed}
use Rattle.model.specs.Rulings.{Outcome, value, refused, Effect, settle}
use Rattle.model.specs.Image.{read_capabilities, after_chosen, encode, decode, empty, loads, save_effect, saved_buffer, load_effect}
use Rattle.rules.specs.Columns.{BlankFrom}
use Rattle.fields.specs.Codes.{Bytes}
use Rattle.decoding.specs.Exact.{exact_image}
use Rattle.image.proofs.Exact.{length_read, loads_exact}

-- ---- save

module _ (r : Register) (buffer : List ℕ) where
  -- an outcome, and the buffer after it, are those of save
  pub record Saves (o : Outcome) (after : List ℕ) : Type 0 where
    pub answer : o ≡ (save_effect r (length buffer)).answer
    pub leaves : after ≡ saved_buffer r buffer (save_effect r (length buffer)).answer

  saves : (o : Outcome) (after : List ℕ) → (save_effect r (length buffer)).answer ≡ o → after ≡ saved_buffer r buffer o → Saves o after
  saves o after e f = record { answer = sym e; leaves = rw e f }

  pub save_broken : well_formed r ≡ false → Saves (refused 15) buffer
  unfolding save_effect settle
  save_broken h = saves (refused 15) buffer (rw h) refl

  pub save_short : T (well_formed r) → length buffer < length (encode r) → Saves (refused 16) buffer
  unfolding save_effect settle
  save_short h k =
      saves (refused 16) buffer (rw (T→true (well_formed r) h, T→true (ltb (length buffer) (length (encode r))) (lt→ltb _ _ k))) refl

  pub save_done : T (well_formed r) → length (encode r) ≤ length buffer → (n : ℕ) → n ≡ length (encode r) → (after : List ℕ) → after ≡ front (encode r) buffer → Saves (value n) after
  unfolding save_effect settle
  save_done h k n en after ea =
      saves (value n) after (rw (T→true (well_formed r) h, T→false (ltb (length buffer) (length (encode r))) (le→nltb _ _ k)) (ap value (sym en))) ea

-- ---- load

-- past what stands before them, items that are all the default
get_d_past : {A : Type 0} (l : List A) (k n : ℕ) (d : A) → length l ≤ n → get_or (l ++ replicate k d) n d ≡ d
get_d_past [] zero n d h = refl
get_d_past [] (suc k) zero d h = refl
get_d_past [] (suc k) (suc n) d h = get_d_past [] k n d (omega arith)
get_d_past (x ∷ l) k zero d h = absurd (not-suc-le-zero h)
get_d_past (x ∷ l) k (suc n) d h = get_d_past l k n d (le_of_suc-le-suc h)

abbrev effect : Outcome → Register → Effect Register
effect o q = record { answer = o; after = q }

-- refused, load leaves the register before it
pub load_refused : (s : List ℕ) (before : Register) → loads s ≡ false → effect (refused 14) before ≡ load_effect before s
unfolding load_effect settle
load_refused s before e = rw e

empty-length : (s : List ℕ) → empty s ≡ eqb (length s) 0
empty-length [] = refl
empty-length (b ∷ s) = sym (ne_eqb (length (b ∷ s)) 0 (λ e. omega (arith, e)))

module _ (s : List ℕ) (r : Register) (read : r ≡ decode s) where
  -- the places past the count are blank
  pub read_blank : r.count ≤ 256 → BlankFrom r r.count
  unfolding decode
  read_blank few n h l =
      let k : ℕ = min 256 (decode s).count in
      let d : List ℕ = drop 2 (after_chosen 4 20 32 (after_chosen 8 1 64 (drop 4 s))) in
      let past : length (read_capabilities k d) ≤ n = omega (arith, length_read k d, min-le_right 256 (decode s).count, ap (λ (q : Register). q.count) read) in
      (h, ap (λ (q : Register). capability_at q.capabilities n) read ∙ get_d_past (read_capabilities k d) (256 - k) n blank_capability past)

  -- the tests of the code are those of load
  pub load_tested : Bytes s → (formed exact : Bool) → formed ≡ well_formed r → exact ≡ exact_image s → loads s ≡ (formed && (eqb (length s) 0 || exact))
  load_tested b formed exact ef ee = loads_exact s b ∙ rw (← read, ← ef, ← ee, empty-length s)

  -- accepted, load leaves what was read
  pub load_accepted : (before : Register) → loads s ≡ true → effect (value 0) r ≡ load_effect before s
  unfolding load_effect settle
  load_accepted before e = rw e (ap (effect (value 0)) read)

-- what the answer of load says of the bytes
module _ (r : Register) (s : List ℕ) where
  abbrev answered : Outcome
  answered = (load_effect r s).answer

  apart : (v n : ℕ) → value v ≡ refused n → ⊥
  apart v n e = let z : ◌≡◌ {A = ℕ} 0 1 = cc in omega arith

  answer_is : {o : Outcome} {q : Register} → effect o q ≡ load_effect r s → o ≡ answered
  answer_is e = ap (λ (x : Effect Register). x.answer) e

  pub load_said : (v : ℕ) → value v ≡ answered → (loads s ≡ true) × ((load_effect r s).after ≡ decode s)
  load_said v h = cases (loads s) refl
    where
      cases : (b : Bool) → loads s ≡ b → (loads s ≡ true) × ((load_effect r s).after ≡ decode s)
      cases true e = (e, sym (ap (λ (x : Effect Register). x.after) (load_accepted s (decode s) refl r e)))
      cases false e = absurd (apart v 14 (h ∙ sym (answer_is (load_refused s r e))))

  pub load_unsaid : (n : ℕ) → refused n ≡ answered → loads s ≡ false
  load_unsaid n h = cases (loads s) refl
    where
      cases : (b : Bool) → loads s ≡ b → loads s ≡ false
      cases true e = absurd (apart 0 n (answer_is (load_accepted s (decode s) refl r e) ∙ sym h))
      cases false e = e
