-- A register whose capabilities are put anew keeps the shelf rules.
use mathlib.Core.Path.{◌≡◌}
use mathlib.Core.List.{List}
use Prim.Native.Nat.{ℕ, ◌<◌}
use lib.ListN.{set}
use Rattle.model.specs.declared.Origin.TheVariants.{Capability as ofCapability}
use Rattle.model.specs.declared.Capability.{Capability}
use Rattle.model.specs.declared.Register.{Register}
use Rattle.model.specs.State.{capability_terms, capability_at, origin_at}
use Rattle.model.specs.Setters.{with_capabilities}
use Rattle.model.specs.Rulings.{role, capability, terms_of}
use Rattle.model.proofs.Kept.{OwnKept, CapabilitiesKept, Kept}
use Rattle.model.proofs.Frames.{Frame, role_frame, Claims, Grows, put_capabilities, put_frames, reworked_sessions}

-- ---- a register with other capabilities

pub with_capabilities_lem : (r : Register) (cs' : List Capability) → Kept r → ((i : ℕ) → Frame (capability_at r.capabilities i) (capability_at cs' i))
    → CapabilitiesKept r.enrolled r.roles r.count cs' → Kept (with_capabilities r cs')
with_capabilities_lem r cs' k frames capabilities =
    record {
      clock = k.clock;
      users = k.users;
      roles = k.roles;
      capabilities = capabilities;
      sessions = reworked_sessions r.roles r.roles r.count r.capabilities cs' (λ j. role_frame (role r j)) frames r.enrolled r.sessions k.sessions;
    }

-- one capability put anew
pub put_keeps : (r : Register) (n : ℕ) (d : Capability) → Kept r → n < r.count → Frame (capability r n) d → OwnKept r.enrolled d
    → Claims d (terms_of r (capability r n).origin) → Grows (terms_of r (ofCapability n)) (capability_terms r.roles d)
    → Kept (with_capabilities r (set r.capabilities n d))
put_keeps r n d k l f own claim grow =
    with_capabilities_lem r (set r.capabilities n d) k
    (put_frames r.enrolled r.roles r.count r.capabilities k.capabilities n l d f)
    (put_capabilities r.enrolled r.roles r.count r.capabilities k.capabilities n l d f own claim grow)

-- its origins are as they were
pub put_origins : (r : Register) (n : ℕ) (d : Capability) → Kept r → n < r.count → Frame (capability r n) d → (i : ℕ) → origin_at (set r.capabilities n d) i ≡ origin_at r.capabilities i
put_origins r n d k l f i = (put_frames r.enrolled r.roles r.count r.capabilities k.capabilities n l d f i).origin
