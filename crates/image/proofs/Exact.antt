-- The bytes that are loaded are those that hold a register that keeps the rules and are exact, and no bytes: the test of the bytes
-- needs no image written again to compare with.
use mathlib.Core.Path.{◌≡◌, refl, sym, ap, subst, ◌∙◌}
use mathlib.Core.Bool.{Bool, ◌&&◌, ◌||◌}
use mathlib.Core.List.{List, [], ◌∷◌, ◌++◌, append_assoc, cons≢nil}
use Prim.Native.Nat.{ℕ, zero, suc, ◌+◌, ◌-◌, ◌≤◌, min}
use native.Mathlib.Nat.{min-eq_right}
use native.Mathlib.Omega.{arith}
use lib.Dec.{T, eqb, eqb→eq}
use lib.ListN.{length, drop, replicate}
use lib.Seq.{drop_at, drop-drop, take_at}
use Rattle.masks.specs.Bytes.{bytes_of, number_of, map_bytes, first_bytes}
use Rattle.masks.proofs.Truth.{and_l, and_r, and_i, same_test, eq→eqb}
use Rattle.model.specs.declared.Register.{Register}
use Rattle.model.specs.State.{blank_role, blank_capability, blank_session}
use Rattle.model.specs.Rules.{well_formed}
use Rattle.model.specs.Invariant.{WellFormed}
use Rattle.model.specs.Fields.{write_role, read_role, write_session, read_session, capability_length}
use Rattle.model.specs.Image.{write_chosen, read_chosen, chosen_length, write_capabilities, read_capabilities, after_capabilities, map_at, after_chosen, active_sessions, encode, decode, empty, loads}
use Rattle.model.proofs.Rules.{formed→}
use Rattle.fields.specs.Codes.{Bytes}
use Rattle.records.specs.Exact.{exact_capabilities, capabilities_length}
use Rattle.decoding.specs.Exact.{exact_sessions, exact_image}
use Rattle.fields.proofs.Numbers.{length-bytes, length-map}
use Rattle.fields.proofs.Reading.{bytes_drop, mask_small}
use Rattle.fields.proofs.ExactFields.{first_join, first_all, number_again, map_again}
use Rattle.records.proofs.ExactRecords.{capabilities_at, capabilities_again}
use Rattle.records.proofs.ExactWriting.{capabilities_exact, capabilities_length_lem}
use Rattle.encoding.proofs.Lengths.{image_size}
use Rattle.image.proofs.RoundTrip.{sessions_part, created, capabilities_part, roles_part, users_part, users, roles, sessions, amount, ranges, count_back, few, count_drop, created_after}
use Rattle.image.proofs.Accepted.{some_saved, saved_loads}
use Rattle.image.proofs.ExactSections.{domains_again, roles_again, sessions_again, founded_again, active_again, sessions_whole}

-- ---- exact bytes are written again as they were

section_join : (v u x : ℕ) (t rest : List ℕ) → rest ≡ drop (v + u) t
    → first_bytes v t ++ (first_bytes u (drop v t) ++ first_bytes x rest) ≡ first_bytes (v + u + x) t
section_join v u x t rest e =
    sym (append_assoc (first_bytes v t) (first_bytes u (drop v t)) (first_bytes x rest))
    ∙ ap (λ (l : List ℕ). l ++ first_bytes x rest) (first_join v u t)
    ∙ ap (λ (l : List ℕ). first_bytes (v + u) t ++ first_bytes x l) e
    ∙ first_join (v + u) x t

join : (s a b d e : List ℕ) (u f c g : ℕ) → a ≡ drop 4 s → b ≡ drop (8 + u) a → d ≡ drop (4 + f) b → e ≡ drop (2 + c) d
    → first_bytes 4 s ++ (first_bytes 8 a ++ (first_bytes u (drop 8 a) ++ (first_bytes 4 b ++ (first_bytes f (drop 4 b) ++ (first_bytes 2 d ++ (first_bytes c (drop 2 d) ++ (first_bytes 8 e ++ first_bytes g (drop 8 e))))))))
    ≡ first_bytes (26 + u + f + c + g) s
join s a b d e u f c g ea eb ed ee =
    let x : ℕ = 8 + g in
    let y : ℕ = 2 + c + x in
    let z : ℕ = 4 + f + y in
    let all : 4 + (8 + u + z) ≡ 26 + u + f + c + g = omega arith in
    rw (first_join 8 g e, section_join 2 c x d e ee, section_join 4 f y b d ed, section_join 8 u z a b eb, ea, first_join 4 (8 + u + z) s, all)

same_parts : {x0 x1 x2 x3 x4 x5 x6 x7 x8 y0 y1 y2 y3 y4 y5 y6 y7 y8 : List ℕ} → x0 ≡ y0 → x1 ≡ y1 → x2 ≡ y2 → x3 ≡ y3 → x4 ≡ y4 → x5 ≡ y5 → x6 ≡ y6 → x7 ≡ y7 → x8 ≡ y8
    → x0 ++ (x1 ++ (x2 ++ (x3 ++ (x4 ++ (x5 ++ (x6 ++ (x7 ++ x8))))))) ≡ y0 ++ (y1 ++ (y2 ++ (y3 ++ (y4 ++ (y5 ++ (y6 ++ (y7 ++ y8)))))))
same_parts e0 e1 e2 e3 e4 e5 e6 e7 e8 = cc

pub length_read : (n : ℕ) (t : List ℕ) → length (read_capabilities n t) ≡ n
length_read zero t = refl
length_read (suc n) t = ap suc (length_read n (drop (capability_length t) t))

-- exact bytes, by the parts from the users, the roles, the count and the sessions on
abbrev exact_parts_lem : List ℕ → List ℕ → List ℕ → List ℕ → ℕ → List ℕ → Bool
exact_parts_lem s a b d k e =
    exact_capabilities k (drop 2 d)
    && (exact_sessions (map_at 8 e) 64 (drop 8 e)
    && eqb (26 + chosen_length 1 (map_at 8 a) 64 + chosen_length 20 (map_at 4 b) 32 + capabilities_length k (drop 2 d) + chosen_length 6 (map_at 8 e) 64) (length s))

module _ (s : List ℕ) (h : Bytes s) where
  abbrev a : List ℕ
  a = drop 4 s

  abbrev b : List ℕ
  b = after_chosen 8 1 64 a

  abbrev d : List ℕ
  d = after_chosen 4 20 32 b

  abbrev k : ℕ
  k = min 256 (number_of (first_bytes 2 d))

  abbrev e : List ℕ
  e = after_capabilities k (drop 2 d)

  abbrev size : ℕ
  size = 26 + chosen_length 1 (map_at 8 a) 64 + chosen_length 20 (map_at 4 b) 32 + capabilities_length k (drop 2 d) + chosen_length 6 (map_at 8 e) 64

  image_again : number_of (first_bytes 2 d) ≤ 256 → T (exact_capabilities k (drop 2 d)) → T (exact_sessions (map_at 8 e) 64 (drop 8 e))
      → encode (decode s) ≡ first_bytes size s
  unfolding encode decode
  image_again l xc xs =
      let ha : Bytes a = bytes_drop 4 s h in
      let hb : Bytes b = bytes_drop (8 + chosen_length 1 (map_at 8 a) 64) a ha in
      let hd : Bytes d = bytes_drop (4 + chosen_length 20 (map_at 4 b) 32) b hb in
      let hc : Bytes (drop 2 d) = bytes_drop 2 d hd in
      let at : e ≡ drop (capabilities_length k (drop 2 d)) (drop 2 d) = capabilities_at k (drop 2 d) in
      let he : Bytes e = subst Bytes (sym at) (bytes_drop (capabilities_length k (drop 2 d)) (drop 2 d) hc) in
      let founded = founded_again (map_at 4 b) (drop 4 b) (mask_small 4 b hb) in
      let active = active_again (map_at 8 e) (drop 8 e) (mask_small 8 e he) in
      same_parts
      (number_again 4 s h)
      (map_again 8 a ha)
      (domains_again (map_at 8 a) 64 (drop 8 a) (bytes_drop 8 a ha))
      (ap (map_bytes 4) founded ∙ map_again 4 b hb)
      (ap (λ (m : ℕ). write_chosen write_role m (read_chosen blank_role read_role 20 (map_at 4 b) 32 (drop 4 b))) founded
      ∙ roles_again (map_at 4 b) 32 (drop 4 b) (bytes_drop 4 b hb))
      (number_again 2 d hd)
      (ap write_capabilities (take_at (read_capabilities k (drop 2 d)) (replicate (256 - k) blank_capability) (number_of (first_bytes 2 d)) (length_read k (drop 2 d) ∙ min-eq_right l))
      ∙ capabilities_again k (drop 2 d) hc xc)
      (ap (map_bytes 8) active ∙ map_again 8 e he)
      (ap (λ (m : ℕ). write_chosen write_session m (read_chosen blank_session read_session 6 (map_at 8 e) 64 (drop 8 e))) active
      ∙ sessions_again (map_at 8 e) 64 (drop 8 e) (bytes_drop 8 e he) xs)
      ∙ join s a b d e (chosen_length 1 (map_at 8 a) 64) (chosen_length 20 (map_at 4 b) 32) (capabilities_length k (drop 2 d)) (chosen_length 6 (map_at 8 e) 64) refl refl refl
      (at ∙ drop-drop (capabilities_length k (drop 2 d)) 2 d)

  exact_saved : number_of (first_bytes 2 d) ≤ 256 → T (exact_image s) → encode (decode s) ≡ s
  unfolding exact_image
  exact_saved l x =
      let capabilities : Bool = exact_capabilities k (drop 2 d) in
      let sessions : Bool = exact_sessions (map_at 8 e) 64 (drop 8 e) in
      let ends : Bool = eqb size (length s) in
      let y : T (sessions && ends) = and_r capabilities (sessions && ends) x in
      image_again l (and_l capabilities (sessions && ends) x) (and_l sessions ends y)
      ∙ ap (λ (n : ℕ). first_bytes n s) (eqb→eq size (length s) (and_r sessions ends y))
      ∙ first_all s

-- ---- the image of a register that keeps the rules is exact

abbrev exact_count : List ℕ → List ℕ → List ℕ → List ℕ → ℕ → Bool
exact_count s a b d k = exact_parts_lem s a b d k (after_capabilities k (drop 2 d))

abbrev exact_rest : List ℕ → List ℕ → List ℕ → List ℕ → Bool
exact_rest s a b d = exact_count s a b d (min 256 (number_of (first_bytes 2 d)))

exact_parts : (s a b d e : List ℕ) (n k : ℕ) → drop 4 s ≡ a → after_chosen 8 1 64 a ≡ b → after_chosen 4 20 32 b ≡ d
    → number_of (first_bytes 2 d) ≡ n → min 256 n ≡ k → after_capabilities k (drop 2 d) ≡ e → exact_image s ≡ exact_parts_lem s a b d k e
unfolding exact_image
exact_parts s a b d e n k ea eb ed en em ee =
    ap (λ (u : List ℕ). exact_rest s u (after_chosen 8 1 64 u) (after_chosen 4 20 32 (after_chosen 8 1 64 u))) ea
    ∙ ap (λ (u : List ℕ). exact_rest s a u (after_chosen 4 20 32 u)) eb
    ∙ ap (λ (u : List ℕ). exact_rest s a b u) ed
    ∙ ap (λ (u : ℕ). exact_count s a b d (min 256 u)) en
    ∙ ap (λ (u : ℕ). exact_count s a b d u) em
    ∙ ap (λ (u : List ℕ). exact_parts_lem s a b d k u) ee

module _ (r : Register) (h : WellFormed r) where
  created_exact : T (exact_capabilities r.count (drop 2 (capabilities_part r)))
  created_exact =
      subst (λ (n : ℕ). T (exact_capabilities n (drop 2 (capabilities_part r)))) (amount r h)
      (subst (λ (l : List ℕ). T (exact_capabilities (length (created r)) l)) (sym (count_drop r h))
      (capabilities_exact (created r) (sessions_part r) (ranges r h)))

  created_length : capabilities_length r.count (drop 2 (capabilities_part r)) ≡ length (write_capabilities (created r))
  created_length =
      ap (capabilities_length r.count) (count_drop r h)
      ∙ ap (λ (n : ℕ). capabilities_length n (write_capabilities (created r) ++ sessions_part r)) (sym (amount r h))
      ∙ capabilities_length_lem (created r) (sessions_part r) (ranges r h)

  active_exact : T (exact_sessions (map_at 8 (sessions_part r)) 64 (drop 8 (sessions_part r)))
  active_exact =
      let m : ℕ = active_sessions r.sessions in
      sessions_whole m (map_at 8 (sessions_part r)) 64 r.sessions (drop 8 (sessions_part r)) (sessions r h).mask h.session_places
      (drop_at (map_bytes 8 m) (write_chosen write_session m r.sessions) 8 (length-map 8 m))

  length_exact : 26 + chosen_length 1 (map_at 8 (users_part r)) 64 + chosen_length 20 (map_at 4 (roles_part r)) 32 + capabilities_length r.count (drop 2 (capabilities_part r)) + chosen_length 6 (map_at 8 (sessions_part r)) 64 ≡ length (encode r)
  length_exact =
      image_size r
      (chosen_length 1 (map_at 8 (users_part r)) 64) (chosen_length 20 (map_at 4 (roles_part r)) 32) (capabilities_length r.count (drop 2 (capabilities_part r))) (chosen_length 6 (map_at 8 (sessions_part r)) 64)
      h.user_places h.role_places h.session_places
      (ap (λ (m : ℕ). chosen_length 1 m 64) (users r h).mask) (ap (λ (m : ℕ). chosen_length 20 m 32) (roles r h).mask) created_length (ap (λ (m : ℕ). chosen_length 6 m 64) (sessions r h).mask)

  parts : exact_image (encode r) ≡ exact_parts_lem (encode r) (users_part r) (roles_part r) (capabilities_part r) r.count (sessions_part r)
  unfolding encode
  parts =
      exact_parts (encode r) (users_part r) (roles_part r) (capabilities_part r) (sessions_part r) r.count r.count
      (drop_at (bytes_of 4 r.clock) (users_part r) 4 (length-bytes 4 r.clock))
      (users r h).after (roles r h).after (count_back r h) (few r h) (created_after r h)

  image_exact : T (exact_image (encode r))
  image_exact =
      subst T (sym parts)
      (and_i (exact_capabilities r.count (drop 2 (capabilities_part r))) _ created_exact
      (and_i (exact_sessions (map_at 8 (sessions_part r)) 64 (drop 8 (sessions_part r))) _ active_exact (eq→eqb _ _ length_exact)))

-- ---- so exactly such bytes are loaded

count_small : (s : List ℕ) → WellFormed (decode s) → number_of (first_bytes 2 (after_chosen 4 20 32 (after_chosen 8 1 64 (drop 4 s)))) ≤ 256
unfolding decode
count_small s w = w.count

loaded_exact : (s : List ℕ) → T (loads s) → T (well_formed (decode s) && (empty s || exact_image s))
unfolding loads
loaded_exact [] t = t
loaded_exact (b ∷ s) t =
    let w : T (well_formed (decode (b ∷ s))) = and_l (well_formed (decode (b ∷ s))) _ t in
    and_i (well_formed (decode (b ∷ s))) (exact_image (b ∷ s)) w
    (subst (λ (l : List ℕ). T (exact_image l)) (some_saved (b ∷ s) t cons≢nil) (image_exact (decode (b ∷ s)) (formed→ (decode (b ∷ s)) w)))

exact_loaded : (s : List ℕ) → Bytes s → T (well_formed (decode s) && (empty s || exact_image s)) → T (loads s)
unfolding loads
exact_loaded [] h t = t
exact_loaded (b ∷ s) h t =
    let w : T (well_formed (decode (b ∷ s))) = and_l (well_formed (decode (b ∷ s))) _ t in
    saved_loads (b ∷ s) w (exact_saved (b ∷ s) h (count_small (b ∷ s) (formed→ (decode (b ∷ s)) w)) (and_r (well_formed (decode (b ∷ s))) _ t))

pub loads_exact : (s : List ℕ) → Bytes s → loads s ≡ (well_formed (decode s) && (empty s || exact_image s))
loads_exact s h = same_test (loads s) (well_formed (decode s) && (empty s || exact_image s)) (loaded_exact s) (exact_loaded s h)
