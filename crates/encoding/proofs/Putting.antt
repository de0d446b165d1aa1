-- Loops that write items one after another, those of a mask or all: what such a loop owes.
use mathlib.Core.Path.{◌≡◌, ap}
use mathlib.Core.List.{List}
use Prim.Native.Nat.{ℕ, ◌+◌, ◌-◌, ◌/◌, ◌%◌, ◌≤◌, ◌<◌}
use native.Mathlib.Omega.{arith}
use lib.ListN.{length, drop, get_or, drop_of_length-le}
use borrow.Rule.Slice.PartMut.{put_mid}
use Rattle.masks.specs.Bytes.{front}
use Rattle.model.specs.declared.Capability.{Capability}
use Rattle.model.specs.State.{blank_capability}
use Rattle.model.specs.Fields.{write_capability}
use Rattle.model.specs.Image.{chosen, write_chosen, write_capabilities}
use Rattle.fields.proofs.Writing.{Writing, writing_start, writing_done}
use Rattle.fields.proofs.Putting.{Put, Turn, turn}
use Rattle.encoding.proofs.Turns.{chosen-step, chosen_done, capabilities-step}

-- of the items of a mask those before i are written, and m has the bits from i on
pub record ItemsTo {A : Type 0} (write : A → List ℕ) (mask : ℕ) (l : List A) (s₀ s : List ℕ) (at m i : ℕ) : Type 0 where
  pub below : i ≤ length l
  pub room : length (write_chosen write mask l) ≤ length s₀
  pub writing : Writing (write_chosen write mask l) (write_chosen write m (drop i l)) at s s₀

pub items_start : {A : Type 0} {write : A → List ℕ} {mask : ℕ} {l : List A} {s : List ℕ} → length (write_chosen write mask l) ≤ length s → ItemsTo write mask l s s 0 mask 0
items_start {A} {write} {mask} {l} {s} h = record { below = omega arith; room = h; writing = writing_start (write_chosen write mask l) s }

module _ {A : Type 0} {write : A → List ℕ} {mask : ℕ} {l : List A} {s₀ s : List ℕ} {at m i : ℕ} (f : ItemsTo write mask l s₀ s at m i) where
  -- d stands for an item past the end
  abbrev item : A → List ℕ
  item d = chosen (m % 2) (write (get_or l i d))

  pub items_turn : (d : A) → i < length l → Turn (write_chosen write mask l) (item d) (write_chosen write (m / 2) (drop (i + 1) l)) at s s₀
  items_turn d h = turn _ _ _ _ at s s₀ f.writing f.room (chosen-step write m l i d h)

  pub items_step : (d : A) → i < length l → {n : ℕ} {last : List ℕ} → Put (item d) at s n last → length (put_mid at (length s - at) s last) ≡ length s
      → ItemsTo write mask l s₀ (put_mid at (length s - at) s last) (at + n) (m / 2) (i + 1)
  items_step d h p same =
      record { below = omega arith; room = f.room; writing = (items_turn d h).step p same }

  pub items_done : length l ≤ i → (at ≡ length (write_chosen write mask l)) × (s ≡ front (write_chosen write mask l) s₀)
  items_done h = writing_done (write_chosen write mask l) _ at s s₀ f.writing (chosen_done write m l i h)

-- of the capabilities those before i are written
pub record CapabilitiesTo (cs : List Capability) (s₀ s : List ℕ) (at i : ℕ) : Type 0 where
  pub below : i ≤ length cs
  pub room : length (write_capabilities cs) ≤ length s₀
  pub writing : Writing (write_capabilities cs) (write_capabilities (drop i cs)) at s s₀

pub capabilities_start : {cs : List Capability} {s : List ℕ} → length (write_capabilities cs) ≤ length s → CapabilitiesTo cs s s 0 0
capabilities_start {cs} {s} h = record { below = omega arith; room = h; writing = writing_start (write_capabilities cs) s }

module _ {cs : List Capability} {s₀ s : List ℕ} {at i : ℕ} (f : CapabilitiesTo cs s₀ s at i) where
  abbrev capability : List ℕ
  capability = write_capability (get_or cs i blank_capability)

  pub capabilities_turn : i < length cs → Turn (write_capabilities cs) capability (write_capabilities (drop (i + 1) cs)) at s s₀
  capabilities_turn h = turn _ _ _ _ at s s₀ f.writing f.room (capabilities-step cs i h)

  pub capabilities_next : i < length cs → {k : ℕ} {last : List ℕ} → Put capability at s k last → length (put_mid at (length s - at) s last) ≡ length s
      → CapabilitiesTo cs s₀ (put_mid at (length s - at) s last) (at + k) (i + 1)
  capabilities_next h p same =
      record { below = omega arith; room = f.room; writing = (capabilities_turn h).step p same }

  pub capabilities_passed : length cs ≤ i → (at ≡ length (write_capabilities cs)) × (s ≡ front (write_capabilities cs) s₀)
  capabilities_passed h = writing_done (write_capabilities cs) _ at s s₀ f.writing (ap write_capabilities (drop_of_length-le cs h))
