-- What load accepts: the images of the registers that keep the rules, and the empty image. `image_laws` has all that holds of images.
use mathlib.Core.Path.{◌≡◌, refl, sym, ap, subst, ◌∙◌}
use mathlib.Core.Logic.{◌⊎◌, inl, inr, ◌≢◌}
use mathlib.Core.List.{List, [], ◌∷◌, cons≢nil}
use Prim.Native.Nat.{ℕ, zero, suc, ◌-◌, ◌*◌, ◌/◌, ◌%◌, ◌≤◌, ◌<◌}
use native.Mathlib.Nat.{add-zero}
use native.Mathlib.Omega.{arith}
use lib.Dec.{T, eqb, ltb, lt→ltb}
use lib.ListN.{length, drop, get_or, replicate, length-replicate}
use Rattle.std.proofs.lemmas.List.{drop-replicate}
use Rattle.buffers.proofs.Comparing.{same_eq}
use Rattle.masks.specs.Masks.{has}
use Rattle.masks.specs.Bytes.{number_of, map_bytes, mask_of, first_bytes, same_bytes}
use Rattle.masks.proofs.Truth.{true→T, T→true, and_l, and_r, and_i, or_r}
use Rattle.model.specs.declared.Register.{Register}
use Rattle.model.specs.State.{fresh, blank_role, blank_session}
use Rattle.model.specs.Rules.{well_formed}
use Rattle.model.specs.Rulings.{refused, settle}
use Rattle.model.specs.Fields.{read_role, read_session}
use Rattle.model.specs.Image.{read_chosen, chosen_length, after_chosen, encode, decode, empty, loads, save_effect}
use Rattle.model.proofs.Rules.{formed→}
use Rattle.model.proofs.Edges.{fresh_formed}
use Rattle.model.proofs.EmptyImage.{empty_image}
use Rattle.image.specs.Laws.{ImageOf, ImageLaws}
use Rattle.fields.proofs.Numbers.{map_item, same_refl}
use Rattle.encoding.proofs.Lengths.{image_small}
use Rattle.decoding.specs.Exact.{read_domain}
use Rattle.decoding.proofs.Decoding.{same_register}
use Rattle.image.proofs.RoundTrip.{decode_parts, back, image-length}

-- ---- what is accepted

formed : (s : List ℕ) → T (loads s) → T (well_formed (decode s))
unfolding loads
formed s h = and_l (well_formed (decode s)) _ h

pub some_saved : (s : List ℕ) → T (loads s) → s ≢ [] → encode (decode s) ≡ s
unfolding loads
some_saved [] h n = absurd (n refl)
some_saved (b ∷ s) h n = same_eq (encode (decode (b ∷ s))) (b ∷ s) (T→true _ (and_r (well_formed (decode (b ∷ s))) _ h))

pub saved_loads : (s : List ℕ) → T (well_formed (decode s)) → encode (decode s) ≡ s → T (loads s)
unfolding loads
saved_loads s w e =
    and_i (well_formed (decode s)) _ w (or_r (empty s) _ (true→T _ (ap (λ (l : List ℕ). same_bytes l s) e ∙ same_refl s)))

image-loads : (s : List ℕ) (r : Register) → ImageOf s r → T (loads s)
image-loads s r h =
    let e : decode s ≡ r = ap decode (sym h.1) ∙ back r h.0 in
    saved_loads s (rw e h.0) (ap encode e ∙ h.1)

-- ---- the empty image

pub some_bytes : (r : Register) → encode r ≢ []
some_bytes r e = omega (arith, image-length r, ap length e)

accepted_either : (s : List ℕ) → T (loads s) → (s ≡ []) ⊎ ((r : Register) × ImageOf s r)
accepted_either [] h = inl refl
accepted_either (b ∷ s) h = inr (decode (b ∷ s), (formed (b ∷ s) h, some_saved (b ∷ s) h cons≢nil))

either_accepted : (s : List ℕ) → (s ≡ []) ⊎ ((r : Register) × ImageOf s r) → T (loads s)
either_accepted s (inl e) = rw e empty_image.accepted
either_accepted s (inr p) = image-loads s p.0 p.1

unsaved_empty : (s : List ℕ) → T (loads s) → encode (decode s) ≢ s → s ≡ []
unsaved_empty [] h n = refl
unsaved_empty (b ∷ s) h n = absurd (n (some_saved (b ∷ s) h cons≢nil))

fresh_either : (s : List ℕ) → T (loads s) → decode s ≡ fresh → (s ≡ []) ⊎ (s ≡ replicate 26 0)
fresh_either [] h e = inl refl
fresh_either (b ∷ s) h e = inr (sym (some_saved (b ∷ s) h cons≢nil) ∙ ap encode e ∙ empty_image.saved)

either_fresh : (s : List ℕ) → (s ≡ []) ⊎ (s ≡ replicate 26 0) → T (loads s) × (decode s ≡ fresh)
either_fresh s (inl e) = (rw e empty_image.accepted, ap decode e ∙ empty_image.read)
either_fresh s (inr e) =
    let zeros : encode fresh ≡ s = empty_image.saved ∙ sym e in
    (image-loads s fresh (fresh_formed, zeros), ap decode (sym zeros) ∙ back fresh fresh_formed)

-- ---- bytes 0 alone

abbrev zeros : ℕ → List ℕ
zeros n = replicate n 0

first_zeros : (w n : ℕ) → first_bytes w (zeros n) ≡ zeros w
first_zeros zero n = refl
first_zeros (suc w) zero = ap (λ (l : List ℕ). 0 ∷ l) (first_zeros w 0)
first_zeros (suc w) (suc n) = ap (λ (l : List ℕ). 0 ∷ l) (first_zeros w n)

-- a map of them chooses nothing
after_zeros : (w n v k : ℕ) → chosen_length v (mask_of (zeros w)) k ≡ 0 → after_chosen w v k (zeros n) ≡ zeros (n - w)
after_zeros w n v k e = rw (first_zeros w n, e, add-zero) (drop-replicate w n 0)

-- any number of them is read as the fresh register, whether it is accepted or not
zeros_read : (n : ℕ) → decode (zeros n) ≡ fresh
zeros_read n =
    let a : ℕ = n - 4 in
    let b : ℕ = a - 8 in
    let d : ℕ = b - 4 in
    let e : ℕ = d - 2 in
    decode_parts (zeros n) (zeros a) (zeros b) (zeros d) (zeros e) 0 0
    (drop-replicate 4 n 0) (after_zeros 8 a 1 64 refl) (after_zeros 4 b 20 32 refl) (ap number_of (first_zeros 2 d)) refl (drop-replicate 2 d 0)
    ∙ same_register
    (ap number_of (first_zeros 4 n))
    (ap mask_of (first_zeros 8 a))
    (ap (λ (l : List ℕ). read_chosen 0 read_domain 1 (mask_of l) 64 (drop 8 (zeros a))) (first_zeros 8 a))
    (ap (λ (l : List ℕ). read_chosen blank_role read_role 20 (mask_of l) 32 (drop 4 (zeros b))) (first_zeros 4 b))
    refl
    (ap (λ (l : List ℕ). read_chosen blank_session read_session 6 (mask_of l) 64 (drop 8 (zeros e))) (first_zeros 8 e))

zeros_accepted : (n : ℕ) → T (loads (zeros n)) → (n ≡ 0) ⊎ (n ≡ 26)
zeros_accepted n h = by_bytes (fresh_either (zeros n) h (zeros_read n))
  where
    by_bytes : (zeros n ≡ []) ⊎ (zeros n ≡ zeros 26) → (n ≡ 0) ⊎ (n ≡ 26)
    by_bytes (inl e) = inl (sym (length-replicate n 0) ∙ ap length e)
    by_bytes (inr e) = inr (sym (length-replicate n 0) ∙ ap length e)

accepted_zeros : (n : ℕ) → (n ≡ 0) ⊎ (n ≡ 26) → T (loads (zeros n))
accepted_zeros n (inl e) = (either_fresh (zeros n) (inl (ap zeros e))).0
accepted_zeros n (inr e) = (either_fresh (zeros n) (inr (ap zeros e))).0

-- ---- lengths, and maps

no_room : (r : Register) (room : ℕ) → T (well_formed r) → room < 26 → (save_effect r room).answer ≡ refused 16
unfolding save_effect settle
no_room r room h k =
    let short : room < length (encode r) = omega (arith, image-length r) in
    rw (T→true (well_formed r) h, T→true (ltb room (length (encode r))) (lt→ltb _ _ short))

mask_item : (w m k : ℕ) → k < 8 * w → has (get_or (map_bytes w m) (k / 8) 0) (k % 8) ≡ has m k
unfolding has
mask_item w m k h = ap (λ (x : ℕ). eqb x 1) (map_item w m k h)

pub image_laws : ImageLaws
image_laws =
    record {
      round_trip = back;
      injective = λ q r f g e. sym (back q f) ∙ ap decode e ∙ back r g;
      accepted = λ s. (accepted_either s, either_accepted s);
      loaded = λ s r h i. ap decode (sym i.1) ∙ back r i.0;
      saved_again = λ s h. ((λ e n. some_bytes (decode s) (e ∙ n)), some_saved s h);
      one_unsaved = λ s. ((λ p. unsaved_empty s p.0 p.1), (λ e. (either_accepted s (inl e), λ again. some_bytes (decode s) (again ∙ e))));
      zero_bytes = λ n. (zeros_accepted n, accepted_zeros n);
      loaded_fresh = λ s. ((λ p. fresh_either s p.0 p.1), either_fresh s);
      least = image-length;
      short_area = no_room;
      accepted_least = λ s h n. subst (λ (l : List ℕ). 26 ≤ length l) (some_saved s h n) (image-length (decode s));
      most = λ r h. image_small r (formed→ r h);
      map_item = mask_item;
    }
