-- Amend and revoke keep the shelf rules, and every origin.
use mathlib.Core.Path.{◌≡◌}
use Prim.Native.Nat.{ℕ, ◌≤◌, ◌<◌}
use lib.Dec.{ltb→lt, leb→le}
use Rattle.model.specs.declared.Register.{Register}
use Rattle.model.specs.State.{origin_at, exists}
use Rattle.model.specs.Rulings.{capability, terms_of, Clear}
use Rattle.model.specs.Revocation.{amend_ruling, Change, changed, revoke_ruling}
use Rattle.model.proofs.Settling.{passed}
use Rattle.model.proofs.Kept.{Kept}
use Rattle.model.proofs.Revoking.{revoke_capabilities, revoke_frames}
use Rattle.model.proofs.Amending.{amend_capabilities, amend_frames}
use Rattle.model.proofs.Keeping.{with_capabilities_lem}

pub amend_keeps : (r : Register) (user n : ℕ) (change : Change) → Kept r → Clear (amend_ruling r user n change).guards → Kept (amend_ruling r user n change).after
unfolding amend_ruling exists
amend_keeps r user n change k g =
    let l : n < r.count = ltb→lt _ _ (passed 3 (amend_ruling r user n change).guards g).1.0 in
    let limit : ℕ = changed change (capability r n).use_limit in
    let ok : limit ≤ (terms_of r (origin_at r.capabilities n)).use_limit = leb→le _ _ (passed 11 (amend_ruling r user n change).guards g).0 in
    with_capabilities_lem r _ k
    (amend_frames r.enrolled r.roles r.count r.capabilities k.capabilities n l limit ok)
    (amend_capabilities r.enrolled r.roles r.count r.capabilities k.capabilities n l limit ok)

pub revoke_keeps : (r : Register) (user n : ℕ) → Kept r → Clear (revoke_ruling r user n).guards → Kept (revoke_ruling r user n).after
unfolding revoke_ruling exists
revoke_keeps r user n k g =
    let l : n < r.count = ltb→lt _ _ (passed 3 (revoke_ruling r user n).guards g).1.0 in
    with_capabilities_lem r _ k
    (revoke_frames r.enrolled r.roles r.count r.capabilities k.capabilities n l)
    (revoke_capabilities r.enrolled r.roles r.count r.capabilities k.capabilities n l)

-- ---- origins

pub amend_origins : (r : Register) (user n : ℕ) (change : Change) → Kept r → Clear (amend_ruling r user n change).guards → (i : ℕ) → origin_at (amend_ruling r user n change).after.capabilities i ≡ origin_at r.capabilities i
unfolding amend_ruling exists
amend_origins r user n change k g i =
    (amend_frames r.enrolled r.roles r.count r.capabilities k.capabilities n (ltb→lt _ _ (passed 3 (amend_ruling r user n change).guards g).1.0)
    (changed change (capability r n).use_limit) (leb→le _ _ (passed 11 (amend_ruling r user n change).guards g).0) i).origin

pub revoke_origins : (r : Register) (user n : ℕ) → Kept r → Clear (revoke_ruling r user n).guards → (i : ℕ) → origin_at (revoke_ruling r user n).after.capabilities i ≡ origin_at r.capabilities i
unfolding revoke_ruling exists
revoke_origins r user n k g i =
    (revoke_frames r.enrolled r.roles r.count r.capabilities k.capabilities n (ltb→lt _ _ (passed 3 (revoke_ruling r user n).guards g).1.0) i).origin
