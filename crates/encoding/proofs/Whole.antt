-- An image section by section, and its length.
use mathlib.Core.Path.{◌≡◌, refl, sym, ap, ◌∙◌}
use mathlib.Core.List.{List, ◌++◌, append_assoc}
use Prim.Native.Nat.{ℕ, ◌+◌, ◌-◌, ◌≤◌}
use native.Mathlib.Omega.{arith}
use lib.ListN.{length, take, length-append}
use borrow.Rule.Slice.PartMut.{put_mid}
use Rattle.masks.specs.Bytes.{bytes_of, map_bytes, front}
use Rattle.model.specs.declared.Capability.{Capability}
use Rattle.model.specs.declared.Register.{Register}
use Rattle.model.specs.Fields.{write_role, write_session}
use Rattle.model.specs.Image.{mask_where, write_chosen, write_capabilities, founded_roles, active_sessions, encode}
use Rattle.encoding.specs.Sections.{mapped, counted_capabilities, is_founded, is_active}
use Rattle.fields.proofs.Numbers.{length-bytes, length-map}
use Rattle.fields.proofs.Parts.{parts_written}
use Rattle.fields.proofs.Putting.{Put}

-- ---- sections

module _ {A : Type 0} (w : ℕ) (write : A → List ℕ) (m : ℕ) (l : List A) where
  pub mapped_size : length (mapped w write m l) ≡ w + length (write_chosen write m l)
  unfolding mapped
  mapped_size = length-append (map_bytes w m) (write_chosen write m l) ∙ rw length-map

  -- a buffer with room for the section has it for the map and the items
  pub mapped_room : {k : ℕ} (n : ℕ) → m ≡ k → length (mapped w write k l) ≤ n → w + length (write_chosen write m l) ≤ n
  mapped_room n e h = omega (arith, mapped_size, rw (← e) at h)

  pub mapped_written : (s : List ℕ) {t last : List ℕ} {q : ℕ} → w + length (write_chosen write m l) ≤ length s → t ≡ front (map_bytes w m) s
      → Put (write_chosen write m l) w t q last → (w + q ≡ length (mapped w write m l)) × (put_mid w (length t - w) t last ≡ front (mapped w write m l) s)
  unfolding mapped
  mapped_written s = parts_written (map_bytes w m) (write_chosen write m l) s refl (length-map w m)

module _ (n : ℕ) (cs : List Capability) where
  pub counted_size : length (counted_capabilities n cs) ≡ 2 + length (write_capabilities (take n cs))
  unfolding counted_capabilities
  counted_size = length-append (bytes_of 2 n) (write_capabilities (take n cs)) ∙ rw length-bytes

  pub counted_written : (s : List ℕ) {t last : List ℕ} {q : ℕ} → 2 + length (write_capabilities (take n cs)) ≤ length s → t ≡ front (bytes_of 2 n) s
      → Put (write_capabilities (take n cs)) 2 t q last → (2 + q ≡ length (counted_capabilities n cs)) × (put_mid 2 (length t - 2) t last ≡ front (counted_capabilities n cs) s)
  unfolding counted_capabilities
  counted_written s = parts_written (bytes_of 2 n) (write_capabilities (take n cs)) s refl (length-bytes 2 n)

-- ---- all of it

module _ (r : Register) where
  abbrev pub users_bytes : List ℕ
  users_bytes = mapped 8 (bytes_of 1) r.enrolled r.domains

  abbrev pub roles_bytes : List ℕ
  roles_bytes = mapped 4 write_role (mask_where is_founded r.roles) r.roles

  abbrev pub capabilities_bytes : List ℕ
  capabilities_bytes = counted_capabilities r.count r.capabilities

  abbrev pub sessions_bytes : List ℕ
  sessions_bytes = mapped 8 write_session (mask_where is_active r.sessions) r.sessions

  pub encode_sections : encode r ≡ bytes_of 4 r.clock ++ (users_bytes ++ (roles_bytes ++ (capabilities_bytes ++ sessions_bytes)))
  unfolding encode founded_roles active_sessions mapped counted_capabilities
  encode_sections = sym (simp append_assoc)

  abbrev pub sections_size_lem : ℕ
  sections_size_lem = 4 + (length users_bytes + (length roles_bytes + (length capabilities_bytes + length sessions_bytes)))

  pub sections_size : length (encode r) ≡ sections_size_lem
  sections_size = ap length encode_sections ∙ simp length-append (omega arith)
