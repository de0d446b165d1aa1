-- Allow, lend and hand keep the shelf rules, and every origin.
use mathlib.Core.Path.{◌≡◌, refl, sym, ap, ◌∙◌}
use Prim.Native.Nat.{ℕ, suc, ◌<◌}
use native.Mathlib.Nat.{le_refl}
use lib.Bits.{bit_or}
use lib.Dec.{T, ltb→lt}
use Rattle.model.specs.declared.Origin.TheVariants.{Capability as ofCapability}
use Rattle.model.specs.declared.Register.{Register}
use Rattle.masks.specs.Masks.{within, including}
use Rattle.masks.proofs.MaskLaws.{within_refl, within_or, within_or_l, within_or_mono, ones_including, including-within}
use Rattle.model.specs.State.{terms, claims, authority, lent_authority, origin_at, exists}
use Rattle.model.specs.Invariant.{Below}
use Rattle.model.specs.Setters.{with_permissions, with_lent, with_holders}
use Rattle.model.specs.Rulings.{capability, terms_of, Clear}
use Rattle.model.specs.Delegation.{allow_ruling, lend_ruling, hand_ruling}
use Rattle.model.proofs.Settling.{passed}
use Rattle.model.proofs.Kept.{OwnKept, Kept}
use Rattle.model.proofs.Frames.{framed, own_framed, grows_refl}
use Rattle.model.proofs.Keeping.{put_keeps, put_origins}
use Rattle.model.proofs.Authority.{lend_mono, lent_mono}

pub allow_keeps : (r : Register) (user n mask : ℕ) → Kept r → Clear (allow_ruling r user n mask).guards → Kept (allow_ruling r user n mask).after
unfolding allow_ruling exists terms authority
allow_keeps r user n mask k g =
    let l : n < r.count = ltb→lt _ _ (passed 3 (allow_ruling r user n mask).guards g).1.0 in
    let h : Below (claims (capability r n)) (terms_of r (capability r n).origin) = (k.capabilities.capability n l).fits in
    put_keeps r n (with_permissions (capability r n) (bit_or (capability r n).permissions mask)) k l
    (framed (capability r n) refl)
    (own_framed (capability r n) refl (k.capabilities.capability n l).own)
    (record {
      grants = within_or (capability r n).permissions mask _ h.grants (passed 11 (allow_ruling r user n mask).guards g).0;
      lendable = h.lendable;
      use_limit = h.use_limit;
      revoked = h.revoked;
    })
    (record {
      grants = within_or_mono (capability r n).permissions _ _ _ (within_or_l (capability r n).permissions mask) (within_refl (lent_authority r.roles (capability r n).lent));
      lendable = within_refl _;
      use_limit = le_refl _;
      revoked = λ t. t;
    })

pub lend_keeps : (r : Register) (user n mask : ℕ) → Kept r → Clear (lend_ruling r user n mask).guards → Kept (lend_ruling r user n mask).after
unfolding lend_ruling exists terms authority
lend_keeps r user n mask k g =
    let l : n < r.count = ltb→lt _ _ (passed 3 (lend_ruling r user n mask).guards g).1.0 in
    let h : Below (claims (capability r n)) (terms_of r (capability r n).origin) = (k.capabilities.capability n l).fits in
    let w : T (within (capability r n).lent (bit_or (capability r n).lent mask)) = within_or_l (capability r n).lent mask in
    put_keeps r n (with_lent (capability r n) (bit_or (capability r n).lent mask)) k l
    (framed (capability r n) refl)
    (own_framed (capability r n) refl (k.capabilities.capability n l).own)
    (record {
      grants = h.grants;
      lendable = within_or (capability r n).lent mask _ h.lendable (passed 11 (lend_ruling r user n mask).guards g).0;
      use_limit = h.use_limit;
      revoked = h.revoked;
    })
    (record {
      grants = within_or_mono (capability r n).permissions _ (capability r n).permissions _ (within_refl (capability r n).permissions)
          (lent_mono r.roles _ _ w);
      lendable = lend_mono r.roles _ _ w;
      use_limit = le_refl _;
      revoked = λ t. t;
    })

pub hand_keeps : (r : Register) (user receiver n : ℕ) → Kept r → Clear (hand_ruling r user receiver n).guards → Kept (hand_ruling r user receiver n).after
unfolding hand_ruling exists terms authority
hand_keeps r user receiver n k g =
    let l : n < r.count = ltb→lt _ _ (passed 3 (hand_ruling r user receiver n).guards g).1.1.0 in
    let o : OwnKept r.enrolled (capability r n) = (k.capabilities.capability n l).own in
    let h : Below (claims (capability r n)) (terms_of r (capability r n).origin) = (k.capabilities.capability n l).fits in
    put_keeps r n (with_holders (capability r n) (including (capability r n).holders receiver) (suc (capability r n).hops)) k l
    (framed (capability r n) refl)
    (record {
      creator = o.creator;
      life = o.life;
      holders = including-within (capability r n).holders receiver r.enrolled o.holders (passed 3 (hand_ruling r user receiver n).guards g).1.0;
      hops = ap suc o.hops ∙ sym (ones_including receiver (capability r n).holders (passed 4 (hand_ruling r user receiver n).guards g));
      hop_limit = ltb→lt _ _ (passed 10 (hand_ruling r user receiver n).guards g).0;
      uses = o.uses;
    })
    (record { grants = h.grants; lendable = h.lendable; use_limit = h.use_limit; revoked = h.revoked })
    (grows_refl (terms_of r (ofCapability n)))

-- ---- origins

pub allow_origins : (r : Register) (user n mask : ℕ) → Kept r → Clear (allow_ruling r user n mask).guards → (i : ℕ) → origin_at (allow_ruling r user n mask).after.capabilities i ≡ origin_at r.capabilities i
unfolding allow_ruling exists
allow_origins r user n mask k g =
    put_origins r n (with_permissions (capability r n) (bit_or (capability r n).permissions mask)) k (ltb→lt _ _ (passed 3 (allow_ruling r user n mask).guards g).1.0) (framed (capability r n) refl)

pub lend_origins : (r : Register) (user n mask : ℕ) → Kept r → Clear (lend_ruling r user n mask).guards → (i : ℕ) → origin_at (lend_ruling r user n mask).after.capabilities i ≡ origin_at r.capabilities i
unfolding lend_ruling exists
lend_origins r user n mask k g =
    put_origins r n (with_lent (capability r n) (bit_or (capability r n).lent mask)) k (ltb→lt _ _ (passed 3 (lend_ruling r user n mask).guards g).1.0) (framed (capability r n) refl)

pub hand_origins : (r : Register) (user receiver n : ℕ) → Kept r → Clear (hand_ruling r user receiver n).guards → (i : ℕ) → origin_at (hand_ruling r user receiver n).after.capabilities i ≡ origin_at r.capabilities i
unfolding hand_ruling exists
hand_origins r user receiver n k g =
    put_origins r n (with_holders (capability r n) (including (capability r n).holders receiver) (suc (capability r n).hops)) k (ltb→lt _ _ (passed 3 (hand_ruling r user receiver n).guards g).1.1.0) (framed (capability r n) refl)
