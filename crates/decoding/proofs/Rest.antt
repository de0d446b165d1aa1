-- The count, the capabilities and the sessions, read and tested on the way; the image of which they are the rest.
use mathlib.Core.Path.{◌≡◌, refl, sym, ap, ap₂, ◌∙◌}
use mathlib.Core.Bool.{Bool, true, ◌&&◌, and-true, and_assoc}
use mathlib.Core.List.{List, [], ◌++◌, append-nil}
use Prim.Native.Nat.{ℕ, ◌+◌, ◌-◌, ◌*◌, ◌≤◌, ◌<◌, min}
use native.Mathlib.Nat.{sub-zero, add_assoc}
use native.Mathlib.Omega.{arith}
use lib.Dec.{eqb}
use lib.ListN.{length, take, drop, set, replicate, length-set}
use lib.Seq.{drop-drop}
use Rattle.masks.specs.Bytes.{number_of, first_bytes}
use Rattle.model.specs.declared.Role.{Role}
use Rattle.model.specs.declared.Capability.{Capability}
use Rattle.model.specs.declared.Session.{Session}
use Rattle.model.specs.declared.Register.{Register}
use Rattle.model.specs.State.{blank_role, blank_capability, blank_session}
use Rattle.model.specs.Fields.{read_role, read_session, read_capability, capability_length}
use Rattle.model.specs.Image.{read_chosen, chosen_length, read_capabilities, after_capabilities, map_at, after_chosen, decode}
use Rattle.records.specs.Exact.{exact_capability, exact_capabilities, capabilities_length}
use Rattle.decoding.specs.Exact.{read_domain, exact_sessions, exact_image}
use Rattle.fields.proofs.Parts.{fill_done}
use Rattle.records.proofs.Reading.{capability-length_small, capabilities_turn, after_turn, exact_turn, length_turn}
use Rattle.decoding.proofs.Decoding.{after_section, register_of, same_register}

-- ---- the loop over n capabilities, of which i are read

pub record ReadTo (s : List ℕ) (from n : ℕ) (rows : List Capability) (exact : Bool) (at i : ℕ) : Type 0 where
  pub filled : take i rows ++ (read_capabilities (n - i) (drop at s) ++ []) ≡ read_capabilities n (drop from s) ++ []
  pub near : at ≤ from + 48 * i
  pub places : length rows ≡ n
  pub after : after_capabilities (n - i) (drop at s) ≡ after_capabilities n (drop from s)
  pub exactly : (exact && exact_capabilities (n - i) (drop at s)) ≡ exact_capabilities n (drop from s)
  pub reach : at + capabilities_length (n - i) (drop at s) ≡ from + capabilities_length n (drop from s)

pub read_start : (s : List ℕ) (from n : ℕ) (rows : List Capability) → length rows ≡ n → ReadTo s from n rows true from 0
read_start s from n rows l =
    record { filled = rw sub-zero; near = omega arith; places = l; after = rw sub-zero; exactly = rw sub-zero; reach = rw sub-zero }

module _ {s : List ℕ} {from n : ℕ} {rows : List Capability} {exact : Bool} {at i : ℕ} (l : ReadTo s from n rows exact at i) where
  pub read_step : i < n → (c : Capability) (here : Bool) (next : ℕ)
      → c ≡ read_capability (drop at s) → next ≡ at + capability_length (drop at s) → here ≡ exact_capability (drop at s)
      → ReadTo s from n (set rows i c) (exact && here) next (i + 1)
  read_step h c here next ec en eh =
      record {
        filled = capabilities_turn n i at s rows c next _ _ h (omega (arith, l.places)) ec en l.filled;
        near = omega (arith, capability-length_small (drop at s), l.near);
        places = simp length-set l.places;
        after = after_turn n i at s next _ h en l.after;
        exactly = exact_turn n i at s exact here next _ h eh en l.exactly;
        reach = length_turn n i at s next _ h en l.reach;
      }

  module _ (e : n ≤ i) where
    none_left : n - i ≡ 0
    none_left = omega arith

    pub read_rows : rows ≡ read_capabilities n (drop from s)
    read_rows = sym (fill_done rows i (omega (arith, l.places))) ∙ (rw none_left at l.filled) ∙ append-nil (read_capabilities n (drop from s))

    pub read_after : drop at s ≡ after_capabilities n (drop from s)
    read_after = rw none_left at l.after

    pub read_exact : exact ≡ exact_capabilities n (drop from s)
    read_exact = sym (and-true exact) ∙ (rw none_left at l.exactly)

    pub read_reach : at ≡ from + capabilities_length n (drop from s)
    read_reach = let z : at + 0 ≡ from + capabilities_length n (drop from s) = rw none_left at l.reach in omega arith

-- ---- from the count on, which stands at `at`

-- the register with what comes before the count
abbrev pub register_from : ℕ → ℕ → List ℕ → List Role → List ℕ → Register
register_from clock enrolled domains roles passes =
    let count : ℕ = number_of (first_bytes 2 passes) in
    let sessions : List ℕ = after_capabilities (min 256 count) (drop 2 passes) in
    record {
      clock = clock;
      enrolled = enrolled;
      domains = domains;
      roles = roles;
      count = count;
      capabilities = read_capabilities (min 256 count) (drop 2 passes) ++ replicate (256 - min 256 count) blank_capability;
      sessions = read_chosen blank_session read_session 6 (map_at 8 sessions) 64 (drop 8 sessions);
    }

-- each record is exact, and the last ends with the image
abbrev pub exact_from : ℕ → ℕ → List ℕ → Bool
exact_from at size passes =
    let n : ℕ = min 256 (number_of (first_bytes 2 passes)) in
    let sessions : List ℕ = after_capabilities n (drop 2 passes) in
    exact_capabilities n (drop 2 passes)
    && (exact_sessions (map_at 8 sessions) 64 (drop 8 sessions)
    && eqb (at + 2 + capabilities_length n (drop 2 passes) + 8 + chosen_length 6 (map_at 8 sessions) 64) size)

module _ (s : List ℕ) (from n k at m : ℕ) (en : n ≡ number_of (first_bytes 2 (drop from s))) (ek : k ≡ min 256 n)
    (after : drop at s ≡ after_capabilities k (drop (from + 2) s)) (em : m ≡ map_at 8 (drop at s)) where
  abbrev passes : List ℕ
  passes = drop from s

  two : drop 2 passes ≡ drop (from + 2) s
  two = drop-drop 2 from s

  eight : drop 8 (drop at s) ≡ drop (at + 8) s
  eight = drop-drop 8 at s

  there : drop at s ≡ after_capabilities k (drop 2 passes)
  there = after ∙ ap (after_capabilities k) (sym two)

  module _ (t e : ℕ) (ds : List ℕ) (rs : List Role) (cs : List Capability) (ss : List Session) where
    abbrev whole : ℕ → ℕ → List ℕ → Register
    whole n k rest =
        register_of t e ds rs n (read_capabilities k (drop 2 passes) ++ replicate (256 - k) blank_capability) (read_chosen blank_session read_session 6 (map_at 8 rest) 64 (drop 8 rest))

    pub rest_register : cs ≡ read_capabilities k (drop (from + 2) s) ++ replicate (256 - k) blank_capability
        → ss ≡ read_chosen blank_session read_session 6 m 64 (drop (at + 8) s)
        → register_of t e ds rs n cs ss ≡ register_from t e ds rs passes
    rest_register ecs ess =
        same_register refl refl refl refl
        (ecs ∙ ap (λ (l : List ℕ). read_capabilities k l ++ replicate (256 - k) blank_capability) (sym two))
        (ess ∙ ap (λ (x : ℕ). read_chosen blank_session read_session 6 x 64 (drop (at + 8) s)) em ∙ ap (read_chosen blank_session read_session 6 (map_at 8 (drop at s)) 64) (sym eight))
        ∙ ap (whole n k) there
        ∙ ap (λ (j : ℕ). whole n j (after_capabilities j (drop 2 passes))) ek
        ∙ ap (λ (j : ℕ). whole j (min 256 j) (after_capabilities (min 256 j) (drop 2 passes))) en

  module _ (size x : ℕ) (exact kinds : Bool) where
    abbrev test : ℕ → List ℕ → ℕ → Bool
    test k rest j =
        exact_capabilities k (drop 2 passes) && (exact_sessions (map_at 8 rest) 64 (drop 8 rest) && eqb (j + 8 + chosen_length 6 (map_at 8 rest) 64) size)

    pub rest_exact : exact ≡ exact_capabilities k (drop (from + 2) s) → at ≡ from + 2 + capabilities_length k (drop (from + 2) s)
        → kinds ≡ exact_sessions m 64 (drop (at + 8) s) → x ≡ at + 8 + chosen_length 6 m 64
        → ((exact && kinds) && eqb x size) ≡ exact_from from size passes
    rest_exact ee ea es ex =
        and_assoc exact kinds (eqb x size)
        ∙ ap₂ ◌&&◌ (ee ∙ ap (exact_capabilities k) (sym two))
        (ap₂ ◌&&◌ (es ∙ ap₂ (λ (y : ℕ) (l : List ℕ). exact_sessions y 64 l) em (sym eight)) (ap (λ (y : ℕ). eqb y size) (ex ∙ ap (λ (y : ℕ). at + 8 + chosen_length 6 y 64) em)))
        ∙ ap₂ (test k) there (ea ∙ ap (λ (l : List ℕ). from + 2 + capabilities_length k l) (sym two))
        ∙ ap (λ (j : ℕ). test j (after_capabilities j (drop 2 passes)) (from + 2 + capabilities_length j (drop 2 passes))) (ek ∙ ap (min 256) en)

-- ---- the whole image, whose count stands at ca

sum : (ca ra a b c g : ℕ) → ra ≡ 12 + a → ca ≡ ra + 4 + b → ca + 2 + c + 8 + g ≡ 26 + a + b + c + g
sum ca ra a b c g h k = omega arith

module _ (s : List ℕ) (m ra f ca : ℕ) (em : m ≡ map_at 8 (drop 4 s)) (era : ra ≡ 12 + chosen_length 1 m 64) (ef : f ≡ map_at 4 (drop ra s)) (eca : ca ≡ ra + 4 + chosen_length 20 f 32) where
  roles_there : after_chosen 8 1 64 (drop 4 s) ≡ drop ra s
  roles_there = after_section s 8 1 64 4 m ra em (era ∙ add_assoc 4 8 (chosen_length 1 m 64))

  count_there : after_chosen 4 20 32 (drop ra s) ≡ drop ca s
  count_there = after_section s 4 20 32 ra f ca ef (eca ∙ add_assoc ra 4 (chosen_length 20 f 32))

  pub image-register : (t : ℕ) (ds : List ℕ) (rs : List Role) → t ≡ number_of (first_bytes 4 (drop 0 s))
      → ds ≡ read_chosen 0 read_domain 1 m 64 (drop 12 s) → rs ≡ read_chosen blank_role read_role 20 f 32 (drop (ra + 4) s)
      → register_from t m ds rs (drop ca s) ≡ decode s
  unfolding decode
  image-register t ds rs et ed er =
      let first : ds ≡ read_chosen 0 read_domain 1 (map_at 8 (drop 4 s)) 64 (drop 8 (drop 4 s)) = ed ∙ ap₂ (λ (x : ℕ) (l : List ℕ). read_chosen 0 read_domain 1 x 64 l) em (sym (drop-drop 8 4 s)) in
      let second : rs ≡ read_chosen blank_role read_role 20 (map_at 4 (drop ra s)) 32 (drop 4 (drop ra s)) = er ∙ ap₂ (λ (x : ℕ) (l : List ℕ). read_chosen blank_role read_role 20 x 32 l) ef (sym (drop-drop 4 ra s)) in
      ap (λ (x : ℕ). register_from x m ds rs (drop ca s)) et
      ∙ ap₂ (λ (x : ℕ) (l : List ℕ). register_from (number_of (first_bytes 4 s)) x l rs (drop ca s)) em first
      ∙ ap₂ (λ (l : List Role) (d : List ℕ). register_from (number_of (first_bytes 4 s)) (map_at 8 (drop 4 s)) (read_chosen 0 read_domain 1 (map_at 8 (drop 4 s)) 64 (drop 8 (drop 4 s))) l d) second (sym count_there)
      ∙ ap (λ (b : List ℕ). register_from (number_of (first_bytes 4 s)) (map_at 8 (drop 4 s)) (read_chosen 0 read_domain 1 (map_at 8 (drop 4 s)) 64 (drop 8 (drop 4 s))) (read_chosen blank_role read_role 20 (map_at 4 b) 32 (drop 4 b)) (after_chosen 4 20 32 b)) (sym roles_there)

  abbrev from_count : List ℕ → ℕ → Bool
  from_count d x =
      let n : ℕ = min 256 (number_of (first_bytes 2 d)) in
      let rest : List ℕ = after_capabilities n (drop 2 d) in
      exact_capabilities n (drop 2 d)
      && (exact_sessions (map_at 8 rest) 64 (drop 8 rest)
      && eqb (x + capabilities_length n (drop 2 d) + chosen_length 6 (map_at 8 rest) 64) (length s))

  pub image_exact : exact_from ca (length s) (drop ca s) ≡ exact_image s
  unfolding exact_image
  image_exact =
      let d : List ℕ = drop ca s in
      let n : ℕ = min 256 (number_of (first_bytes 2 d)) in
      let rest : List ℕ = after_capabilities n (drop 2 d) in
      let c : ℕ = capabilities_length n (drop 2 d) in
      let g : ℕ = chosen_length 6 (map_at 8 rest) 64 in
      ap (λ (y : ℕ). exact_capabilities n (drop 2 d) && (exact_sessions (map_at 8 rest) 64 (drop 8 rest) && eqb y (length s))) (sum ca ra (chosen_length 1 m 64) (chosen_length 20 f 32) c g era eca)
      ∙ ap₂ (λ (x y : ℕ). from_count d (26 + chosen_length 1 x 64 + chosen_length 20 y 32)) em ef
      ∙ ap (λ (l : List ℕ). from_count l (26 + chosen_length 1 (map_at 8 (drop 4 s)) 64 + chosen_length 20 (map_at 4 (drop ra s)) 32)) (sym count_there)
      ∙ ap (λ (b : List ℕ). from_count (after_chosen 4 20 32 b) (26 + chosen_length 1 (map_at 8 (drop 4 s)) 64 + chosen_length 20 (map_at 4 b) 32)) (sym roles_there)
