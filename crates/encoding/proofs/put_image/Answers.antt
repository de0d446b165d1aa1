use mathlib.Core.Path.{refl, sym}
use mathlib.Core.List.{List, [], ◌++◌, append-nil}
use Prim.Native.Nat.{ℕ}
use Rattle.masks.specs.Bytes.{bytes_of}
use Rattle.model.specs.Image.{encode}
use Rattle.fields.proofs.Numbers.{length-bytes}
use Rattle.fields.proofs.Writing.{writing_first, writing_done}
use Rattle.fields.proofs.Putting.{turn}
use Rattle.encoding.proofs.Whole.{users_bytes, roles_bytes, capabilities_bytes, sessions_bytes, encode_sections}
use Rattle.encoding.proofs.put_image.Goals as goal

pub returns : goal.returns
returns c =
    let room-all = c.requires.1 in
    let r = c.args.r in
    let s₀ = c.args.s.now in
    let d : List ℕ = sessions_bytes r in
    let cd : List ℕ = capabilities_bytes r ++ d in
    let bcd : List ℕ = roles_bytes r ++ cd in
    let abcd : List ℕ = users_bytes r ++ bcd in
    let four = sym (length-bytes 4 r.clock) in
    let w1 = writing_first (encode r) (bytes_of 4 r.clock) abcd s₀ _ 4 (encode_sections r) four room-all (rw c.from.ensures at c.put.ensures) (search) in
    let w2 = (turn (encode r) abcd (users_bytes r) bcd 4 _ s₀ w1 room-all refl).step c.put_mapped-roles_at.ensures (search) in
    let w3 = (turn (encode r) bcd (roles_bytes r) cd _ _ s₀ w2 room-all refl).step (rw c.mask_of.ensures.0 at c.put_mapped.ensures) (search) in
    let w4 = (turn (encode r) cd (capabilities_bytes r) d _ _ s₀ w3 room-all refl).step (rw c.from-2.ensures at c.put_counted.ensures) (search) in
    let w5 = (turn (encode r) d d [] _ _ s₀ w4 room-all (sym (append-nil d))).step (rw c.mask_of-2.ensures.0 at c.put_mapped-2.ensures) (search) in
    writing_done (encode r) [] _ _ s₀ w5 refl
