-- What holds of images. `proofs/Accepted.antt` proves it: `image_laws`.
use Rattle.std.specs.Prelude.{◌≡◌, ◌⊎◌, ◌↔◌, ◌≢◌, List, [], ℕ, ◌*◌, ◌/◌, ◌%◌, ◌≤◌, ◌<◌, T, length, get_or, replicate}
use Rattle.masks.specs.Masks.{has}
use Rattle.masks.specs.Bytes.{map_bytes}
use Rattle.model.specs.declared.Register.{Register}
use Rattle.model.specs.State.{fresh}
use Rattle.model.specs.Rules.{well_formed}
use Rattle.model.specs.Rulings.{refused}
use Rattle.model.specs.Image.{encode, decode, loads, save_effect}

-- the bytes are the image of a register that keeps the shelf rules
abbrev pub ImageOf : List ℕ → Register → Type 0
ImageOf s r = T (well_formed r) × (encode r ≡ s)

pub record ImageLaws : Type 0 where
  -- what was saved is loaded again as it was
  pub round_trip : (r : Register) → T (well_formed r) → decode (encode r) ≡ r
  -- two registers that keep the shelf rules and have one image are one
  pub injective : (q r : Register) → T (well_formed q) → T (well_formed r) → encode q ≡ encode r → q ≡ r
  -- what is accepted: the empty image, the images of the registers that keep the rules, all of them, and nothing else
  pub accepted : (s : List ℕ) → T (loads s) ↔ ((s ≡ []) ⊎ ((r : Register) × ImageOf s r))
  -- the register loaded is the one whose image it is
  pub loaded : (s : List ℕ) (r : Register) → T (loads s) → ImageOf s r → decode s ≡ r
  -- an accepted image is what its register saves if and only if it has a byte
  pub saved_again : (s : List ℕ) → T (loads s) → (encode (decode s) ≡ s) ↔ (s ≢ [])
  -- so exactly one accepted image is not what its register saves
  pub one_unsaved : (s : List ℕ) → (T (loads s) × (encode (decode s) ≢ s)) ↔ (s ≡ [])
  -- bytes 0 alone are accepted if there are none, or 26
  pub zero_bytes : (n : ℕ) → T (loads (replicate n 0)) ↔ ((n ≡ 0) ⊎ (n ≡ 26))
  -- these two, and no others, load as the fresh register
  pub loaded_fresh : (s : List ℕ) → (T (loads s) × (decode s ≡ fresh)) ↔ ((s ≡ []) ⊎ (s ≡ replicate 26 0))
  -- a saved image has at least 26 bytes, so 1 to 25 bytes are never accepted
  pub least : (r : Register) → 26 ≤ length (encode r)
  pub accepted_least : (s : List ℕ) → T (loads s) → s ≢ [] → 26 ≤ length s
  -- and no area below that has room for one
  pub short_area : (r : Register) (room : ℕ) → T (well_formed r) → room < 26 → (save_effect r room).answer ≡ refused 16
  -- it has at most 13,402
  pub most : (r : Register) → T (well_formed r) → length (encode r) ≤ 13402
  -- "bit maps have item k at bit k mod 8 (lowest is 0) of byte k/8"
  pub map_item : (width mask k : ℕ) → k < 8 * width → has (get_or (map_bytes width mask) (k / 8) 0) (k % 8) ≡ has mask k
