-- Open, check and close keep the shelf rules, and every origin.
use mathlib.Core.Path.{◌≡◌, refl}
use Prim.Native.Nat.{ℕ, suc, ◌<◌}
use native.Mathlib.Nat.{le_refl}
use native.Mathlib.Omega.{arith}
use lib.Dec.{T, ltb→lt}
use lib.ListN.{set}
use Rattle.model.specs.declared.Origin.{Origin}
use Rattle.model.specs.declared.Origin.TheVariants.{Role as ofRole, Capability as ofCapability}
use Rattle.model.specs.declared.Session.{Session}
use Rattle.model.specs.declared.Register.{Register}
use Rattle.model.specs.declared.Context.{Context}
use Rattle.masks.proofs.Truth.{each←}
use Rattle.model.specs.State.{may_use, terms, claims, authority, origin_at, blank_session, exists}
use Rattle.model.specs.Rules.{session_keeps, session_tests, session_blank}
use Rattle.model.specs.Invariant.{Below}
use Rattle.model.specs.Setters.{with_uses, with_capabilities, with_sessions}
use Rattle.model.specs.Rulings.{party_of, capability, terms_of, Clear}
use Rattle.model.specs.Sessions.{open_ruling, used, check_ruling, close_ruling, new_session}
use Rattle.model.proofs.Settling.{passed}
use Rattle.model.proofs.Kept.{OwnKept, Kept}
use Rattle.model.proofs.Places.{session-set}
use Rattle.model.proofs.Tree.{there-exists, rooted}
use Rattle.model.proofs.Frames.{framed, grows_refl}
use Rattle.model.proofs.Keeping.{put_keeps, put_origins}

pub close_keeps : (r : Register) (s : ℕ) → Kept r → Clear (close_ruling r s).guards → Kept (close_ruling r s).after
unfolding close_ruling session_keeps session_blank
close_keeps r s k g =
    record {
      clock = k.clock;
      users = k.users;
      roles = k.roles;
      capabilities = k.capabilities;
      sessions = session-set r.enrolled r.roles r.count r.capabilities r.sessions s blank_session (ltb→lt _ _ (passed 2 (close_ruling r s).guards g).0) k.sessions tt;
    }

pub check_keeps : (r : Register) (s p : ℕ) (at : Context) → Kept r → Clear (check_ruling r s p at).guards → Kept (check_ruling r s p at).after
unfolding check_ruling
check_keeps r s p at k g = k

used_keeps : (r : Register) (o : Origin) → Kept r → T (exists r.roles r.count o) → T (may_use (party_of r o)) → Kept (with_capabilities r (used r.capabilities o))
unfolding exists terms authority
used_keeps r (ofRole j) k h u = k
used_keeps r (ofCapability n) k h u =
    let l : n < r.count = ltb→lt _ _ h in
    let o : OwnKept r.enrolled (capability r n) = (k.capabilities.capability n l).own in
    let f : Below (claims (capability r n)) (terms_of r (capability r n).origin) = (k.capabilities.capability n l).fits in
    put_keeps r n (with_uses (capability r n) (suc (capability r n).uses)) k l
    (framed (capability r n) refl)
    (record { creator = o.creator; life = o.life; holders = o.holders; hops = o.hops; hop_limit = o.hop_limit; uses = omega (arith, ltb→lt (capability r n).uses (capability r n).use_limit u, (rooted r.enrolled r.roles r.count r.capabilities k.capabilities (suc n) n (le_refl (suc n)) l).3.use_limit) })
    (record { grants = f.grants; lendable = f.lendable; use_limit = f.use_limit; revoked = f.revoked })
    (grows_refl (terms_of r (ofCapability n)))

pub open_keeps : (r : Register) (s user : ℕ) (o : Origin) (at : Context) → Kept r → Clear (open_ruling r s user o at).guards → Kept (open_ruling r s user o at).after
unfolding open_ruling session_keeps
open_keeps r s user o at k g =
    let x : Session = new_session user o at in
    let gs = (open_ruling r s user o at).guards in
    let exists-o : T (exists r.roles r.count o) = there-exists r.roles r.capabilities r.count o (passed 3 gs g).1.0 in
    used_keeps (with_sessions r (set r.sessions s x)) o
    (record {
      clock = k.clock;
      users = k.users;
      roles = k.roles;
      capabilities = k.capabilities;
      sessions =
          session-set r.enrolled r.roles r.count r.capabilities r.sessions s x
          (ltb→lt _ _ (passed 2 gs g).0)
          k.sessions
          (each← (session_tests r.enrolled r.roles r.count r.capabilities x) (
            (passed 2 gs g).1.0,
            (
              (passed 2 gs g).1.1.0,
              (
                (passed 2 gs g).1.1.1.0,
                ((passed 3 gs g).0, (exists-o, ((passed 9 gs g).0, tt))),
              ),
            ),
          ));
    })
    exists-o
    (passed 10 gs g).0

-- ---- origins

used_origins : (r : Register) (o : Origin) → Kept r → T (exists r.roles r.count o) → (i : ℕ) → origin_at (used r.capabilities o) i ≡ origin_at r.capabilities i
unfolding exists
used_origins r (ofRole j) k h i = refl
used_origins r (ofCapability n) k h i = put_origins r n (with_uses (capability r n) (suc (capability r n).uses)) k (ltb→lt _ _ h) (framed (capability r n) refl) i

pub open_origins : (r : Register) (s user : ℕ) (o : Origin) (at : Context) → Kept r → Clear (open_ruling r s user o at).guards → (i : ℕ) → origin_at (open_ruling r s user o at).after.capabilities i ≡ origin_at r.capabilities i
unfolding open_ruling
open_origins r s user o at k g = used_origins r o k (there-exists r.roles r.capabilities r.count o (passed 3 (open_ruling r s user o at).guards g).1.0)
