-- The entry point's line by where its line feed is; what save said; what the entry point comes to, step by step.
use mathlib.Core.Path.{◌≡◌, refl, sym, ap, ◌∙◌, subst}
use mathlib.Core.Bool.{Bool, true, false, cond}
use mathlib.Core.List.{List, [], ◌∷◌, ◌++◌, append_assoc}
use mathlib.Core.Option.{none}
use Prim.Native.Nat.{ℕ, zero, suc, ◌+◌, ◌≤◌, ◌<◌}
use native.Mathlib.Omega.{arith}
use borrow.Author.Rules.{sfits_of}
use borrow.Author.Tests.{le-leb, lt-leb, leb-true, leb-false}
use mir.Syntax.{w64}
use mir.Val.{SFits, to_z, of_z}
use mir.ValLaws.{to_z_pos, to_z-of_z}
use Rattle.std.specs.Prelude.{Option as Maybe, Some, None, Result, Ok, Err}
use native.Mathlib.Decide.{dec_le}
use lib.Dec.{T, eqb, leb, ltb, lt→ltb}
use lib.IntN.{ℤ, pos, negsuc, neg_ℤ, ◌-ℤ◌, +ℤ_idl}
use lib.ListN.{length, take, drop, length-append, drop_of_length-le, get_or}
use lib.Seq.{drop_at, drop-cons, drop-drop, length-take-le}
use Rattle.buffers.proofs.Parts.{placed}
use Rattle.masks.specs.Bytes.{front, onto, split}
use Rattle.masks.proofs.Truth.{T→true, T→false, true→T, le→nltb}
use Rattle.decoding.specs.declared.ReadImage.{ReadImage}
use Rattle.model.specs.declared.Register.{Register}
use Rattle.model.specs.declared.Request.{Request}
use Rattle.model.specs.declared.Refusal.{Refusal}
use Rattle.model.specs.Rules.{well_formed}
use Rattle.model.specs.Rulings.{Outcome, value, refused, Effect, settle}
use Rattle.model.specs.Calls.{Call, settled, step}
use Rattle.model.specs.Requests.{refusal_number, outcome_of, call_of, parsed_call}
use Rattle.model.specs.Lines.{parse}
use Rattle.model.specs.Image.{encode, decode, loads, save_effect}
use Rattle.model.specs.Entry.{Return, declined, done, sole_line, fitted, answered, called, entry, returned, buffer_after}
use Rattle.model.specs.Runs.{answer_returned}
use Rattle.model.proofs.Rules.{kept→, kept←}
use Rattle.model.proofs.Running.{step_keeps, loads_kept}
use Rattle.model.proofs.Settling.{step-settled}
use Rattle.text.specs.Parts.{before, after}
use Rattle.fellunqa.specs.Perform.{performed, to_c}
use Rattle.text.proofs.PartLaws.{take-before, split-before, after_more, after_end}

-- ---- the line

-- something stands after the line feed
follows : (w s : List ℕ) (b : ℕ) → none ≡ sole_line (w ∷ split 10 (b ∷ s))
follows w s b = ap (λ (ps : List (List ℕ)). none) parts ∙ cases (eqb b 10) ∙ ap (λ (ps : List (List ℕ)). sole_line (w ∷ cond (eqb b 10) ([] ∷ ps) (onto b ps))) (sym parts)
  where
    p : List ℕ
    p = before 10 s

    ps : List (List ℕ)
    ps = after 10 (drop (length p) s)

    parts : split 10 s ≡ p ∷ ps
    parts = split-before 10 s

    cases : (t : Bool) → none ≡ sole_line (w ∷ cond t ([] ∷ p ∷ ps) (onto b (p ∷ ps)))
    cases true = refl
    cases false = refl

module _ (line : List ℕ) (n : ℕ) (e : n ≡ length (before 10 line)) where
  parts : {ws : List (List ℕ)} → after 10 (drop n line) ≡ ws → split 10 line ≡ before 10 line ∷ ws
  parts h =
      split-before 10 line ∙ ap (λ (k : ℕ). before 10 line ∷ after 10 (drop k line)) (sym e) ∙ ap (λ (ws : List (List ℕ)). before 10 line ∷ ws) h

  pub line-unended : n ≡ length line → none ≡ sole_line (split 10 line)
  line-unended h = let end : length line ≤ n = omega arith in ap sole_line (sym (parts (after_end 10 line n end)))

  pub line_followed : n + 1 < length line → none ≡ sole_line (split 10 line)
  line_followed h =
      let more : n < length line = omega arith in
      let next : suc n < length line = omega arith in
      let rest : drop (suc n) line ≡ get_or line (suc n) 0 ∷ drop (suc (suc n)) line = drop-cons line (suc n) 0 next in
      follows (before 10 line) (drop (suc (suc n)) line) (get_or line (suc n) 0)
      ∙ sym (ap sole_line (parts (after_more 10 line n more ∙ ap (split 10) rest)))

  pub not_whole : n ≤ length line → (n + 1 ≡ length line → ⊥) → none ≡ sole_line (split 10 line)
  not_whole l h = cases (dec_le (length line) n)
    where
      cases : Dec (length line ≤ n) → none ≡ sole_line (split 10 line)
      cases (yes g) = line-unended (omega arith)
      cases (no g) = line_followed (omega arith)

  pub line_whole : n + 1 ≡ length line → parse (take n line) ≡ sole_line (split 10 line)
  line_whole h =
      let more : n < length line = omega arith in
      let end : length line ≤ suc n = omega arith in
      ap (λ (k : ℕ). parse (take k line)) e
      ∙ ap parse (take-before 10 line)
      ∙ sym (ap sole_line (parts (after_more 10 line n more ∙ ap (split 10) (drop_of_length-le line end))))

-- ---- a refusal as a negative number

mag_minus : (n : ℕ) → n < 4294967296 → SFits w64 (neg_ℤ (pos n))
mag_minus zero h = sfits_of {w = w64} {z = pos 0} (omega arith)
mag_minus (suc n) h = sfits_of {w = w64} {z = negsuc n} (omega arith)

module _ (n : ℕ) (h : n < 4294967296) where
  minus : pos 0 -ℤ to_z w64 n ≡ neg_ℤ (pos n)
  minus = ap (λ (z : ℤ). pos 0 -ℤ z) (to_z_pos w64 n (omega arith)) ∙ +ℤ_idl (neg_ℤ (pos n))

  pub minus_fits : SFits w64 (pos 0 -ℤ to_z w64 n)
  minus_fits = subst (SFits w64) (sym minus) (mag_minus n h)

  pub minus_is : to_z w64 (of_z w64 (pos 0 -ℤ to_z w64 n)) ≡ neg_ℤ (pos n)
  minus_is = to_z-of_z w64 (pos 0 -ℤ to_z w64 n) minus_fits ∙ minus

-- ---- the new image

-- the length in two bytes, written after what follows it
pub head_last : (xs ys s : List ℕ) (n : ℕ) → length xs ≡ n → n ≤ length s → front xs (placed n ys s) ≡ front (xs ++ ys) s
head_last xs ys s n e h =
    ap (λ (l : List ℕ). xs ++ l) (ap (λ (k : ℕ). drop k (placed n ys s)) e ∙ drop_at (take n s) (front ys (drop n s)) n (length-take-le n s h))
    ∙ simp (append_assoc, drop-drop, length-append, e)

module _ (r : Register) (formed : T (well_formed r)) (room : ℕ) where
  -- save answers the length exactly where there is room for the image
  save_room : length (encode r) ≤ room → (save_effect r room).answer ≡ value (length (encode r))
  unfolding save_effect settle
  save_room h = rw (T→true (well_formed r) formed, T→false (ltb room (length (encode r))) (le→nltb _ _ h))

  save_none : room < length (encode r) → (save_effect r room).answer ≡ refused 16
  unfolding save_effect settle
  save_none h = rw (T→true (well_formed r) formed, T→true (ltb room (length (encode r))) (lt→ltb _ _ h))

  apart : (n m : ℕ) → value n ≡ refused m → ⊥
  apart n m e = let z : ◌≡◌ {A = ℕ} 0 1 = cc in omega arith

  pub save_said : (n : ℕ) → value n ≡ (save_effect r room).answer → (n ≡ length (encode r)) × (length (encode r) ≤ room)
  save_said n e = cases (leb (length (encode r)) room) refl
    where
      cases : (b : Bool) → leb (length (encode r)) room ≡ b → (n ≡ length (encode r)) × (length (encode r) ≤ room)
      cases true l =
          let v : value n ≡ value (length (encode r)) = e ∙ save_room (leb-true _ _ l) in
          let q : n ≡ length (encode r) = cc in
          (q, leb-true _ _ l)
      cases false l = absurd (apart n 16 (e ∙ save_none (leb-false _ _ l)))

  pub save_unsaid : (n : ℕ) → refused n ≡ (save_effect r room).answer → (n ≡ 16) × (room < length (encode r))
  save_unsaid n e = cases (leb (length (encode r)) room) refl
    where
      cases : (b : Bool) → leb (length (encode r)) room ≡ b → (n ≡ 16) × (room < length (encode r))
      cases true l = absurd (apart (length (encode r)) n (sym (e ∙ save_room (leb-true _ _ l))))
      cases false l =
          let v : refused n ≡ refused 16 = e ∙ save_none (leb-false _ _ l) in
          let q : n ≡ 16 = cc in
          (q, leb-false _ _ l)

-- room for the image and its length, or not
module _ (room v : ℕ) (image : List ℕ) where
  pub fitted_room : length image + 2 ≤ room → done v image ≡ fitted room v image
  fitted_room h = rw (le-leb _ _ h)

  pub fitted_none : room < length image + 2 → declined 16 ≡ fitted room v image
  fitted_none h = rw (lt-leb _ _ h)

-- ---- what the entry point comes to; l is what was read

-- one return is as good as another
pub leaves_by : (buffer : List ℕ) (p q : Return) → p ≡ q → (answer_returned p ≡ answer_returned q) × (buffer_after p buffer ≡ buffer_after q buffer)
leaves_by buffer p q e = (ap answer_returned e, ap (λ (x : Return). buffer_after x buffer) e)

-- what C is given of the answer is what the entry point returns
pub returned_is : (o : Outcome) (q : Return) → o ≡ answer_returned q → to_c o ≡ returned q
returned_is o q e = ap to_c e ∙ cases q
  where
    cases : (q : Return) → to_c (answer_returned q) ≡ returned q
    cases (declined n) = refl
    cases (done v image) = refl

module _ (image line : List ℕ) (room : ℕ) (l : ReadImage) (found : (l.exact ≡ loads image) × (l.register ≡ decode image)) where
  abbrev r : Register
  r = l.register

  by_load : (b : Bool) → l.exact ≡ b → entry image line room ≡ (elim b as (λ x. Return) [ true ↦ called room (decode image) (sole_line (split 10 line)) | false ↦ declined 14 ])
  unfolding entry
  by_load b h =
      ap (λ (x : Bool). elim x as (λ y. Return) [ true ↦ called room (decode image) (sole_line (split 10 line)) | false ↦ declined 14 ]) (sym found.0 ∙ h)

  pub no_image : l.exact ≡ false → declined 14 ≡ entry image line room
  no_image h = sym (by_load false h)

  module _ (h : l.exact ≡ true) where
    read : r ≡ decode image
    read = found.1

    by_line : entry image line room ≡ called room r (sole_line (split 10 line))
    by_line = by_load true h ∙ ap (λ (q : Register). called room q (sole_line (split 10 line))) (sym read)

    pub loaded_formed : T (well_formed r)
    loaded_formed = subst (λ (q : Register). T (well_formed q)) (sym read) (kept← (decode image) (loads_kept image (true→T (loads image) (sym found.0 ∙ h))))

    module _ (q : Maybe Request) (e : parsed_call q ≡ sole_line (split 10 line)) where
      pub no_line : q ≡ None → declined 1 ≡ entry image line room
      no_line g = sym (by_line ∙ ap (called room r) (sym e ∙ ap parsed_call g))

      pub by_call : (p : Request) → q ≡ Some p → performed room r (call_of p) ≡ entry image line room
      unfolding performed
      by_call p g =
          ap (λ (y : Effect Register). answered room y.answer y.after) (sym (step-settled r (call_of p) loaded_formed))
          ∙ sym (by_line ∙ ap (called room r) (sym e ∙ ap parsed_call g))

-- ---- what a call comes to: its answer is a, and the register after it z

module _ (room : ℕ) (r : Register) (c : Call) (a : Result ℕ Refusal) (z : Register) (formed : T (well_formed r)) (f : record { answer = outcome_of a; after = z } ≡ settled r c) where
  pub after_formed : T (well_formed z)
  after_formed =
      let e : record { answer = outcome_of a; after = z } ≡ step r c = f ∙ sym (step-settled r c formed) in
      subst (λ (y : Effect Register). T (well_formed y.after)) (sym e) (kept← _ (step_keeps r c (kept→ r formed)))

  by_effect : answered room (outcome_of a) z ≡ performed room r c
  unfolding performed
  by_effect = ap (λ (y : Effect Register). answered room y.answer y.after) f

  pub by_value : (v : ℕ) → a ≡ Ok v → fitted room v (encode z) ≡ performed room r c
  by_value v e = ap (λ (x : Result ℕ Refusal). answered room (outcome_of x) z) (sym e) ∙ by_effect

  pub by_refusal : (why : Refusal) → a ≡ Err why → declined (refusal_number why) ≡ performed room r c
  by_refusal why e = ap (λ (x : Result ℕ Refusal). answered room (outcome_of x) z) (sym e) ∙ by_effect
