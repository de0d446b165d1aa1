-- Create keeps the shelf rules.
use mathlib.Core.Path.{◌≡◌, refl, sym, ap, ap₂, ◌∙◌, subst}
use mathlib.Core.Logic.{◌⊎◌, inl, inr, ◌≢◌}
use mathlib.Core.Bool.{Bool, true, false, cond}
use mathlib.Core.List.{List}
use Prim.Native.Nat.{ℕ, suc, ◌+◌, ◌≤◌, ◌<◌, zero-le}
use native.Mathlib.Nat.{eq-or-lt_of_le, le_of_suc-le-suc, add-zero}
use native.Mathlib.Omega.{arith}
use lib.Dec.{T, not_T, eqb, lt→ltb, ltb→lt, leb→le, eqb→eq, eqb_refl, lit<}
use lib.ListN.{set, length, length-set}
use lib.Seq.{get_or-set_same, get_or-set_other}
use Rattle.model.specs.declared.Origin.{Origin}
use Rattle.model.specs.declared.Origin.TheVariants.{Role as ofRole, Capability as ofCapability}
use Rattle.model.specs.declared.Role.{Role}
use Rattle.model.specs.declared.Capability.{Capability}
use Rattle.model.specs.declared.Register.{Register}
use Rattle.model.specs.declared.Context.{Context}
use Rattle.model.specs.declared.Plan.{Plan}
use Rattle.masks.specs.Tests.{count_below}
use Rattle.masks.proofs.MaskLaws.{ones_zero}
use Rattle.model.specs.State.{party, may_create, new_capability, capability_terms, Terms, terms, claims, authority, capability_at, origin_at, blank_capability, exists}
use Rattle.model.specs.Lineage.{children, is_parent}
use Rattle.model.specs.Rules.{earlier}
use Rattle.model.specs.Setters.{with_creations}
use Rattle.model.specs.Delegation.{create_ruling, creation_counted}
use Rattle.model.specs.Rulings.{terms_of, Clear}
use Rattle.masks.proofs.Truth.{T→true, T→false}
use Rattle.masks.proofs.Bounded.{set_cases, count_below_ext, count_below_none}
use Rattle.masks.proofs.MaskLaws.{within_zero}
use Rattle.model.proofs.Settling.{passed}
use Rattle.model.specs.Invariant.{Below}
use Rattle.model.proofs.Kept.{below→, OwnKept, CapabilityKept, CapabilitiesKept, Kept}
use Rattle.model.proofs.Tree.{there-exists, falls}
use Rattle.model.proofs.Parts.{same_sessions}

-- one creation more, for the origin
abbrev one_more : Origin → ℕ → ℕ
one_more o i = cond (is_parent i o) 1 0

counted_at : (cs : List Capability) (o : Origin) (i : ℕ) → ((k : ℕ) → o ≡ ofCapability k → k < length cs)
    → capability_at (creation_counted cs o) i ≡ with_creations (capability_at cs i) ((capability_at cs i).creations + one_more o i)
counted_at cs (ofRole k) i h = ap (λ (x : ℕ). with_creations (capability_at cs i) x) (sym (add-zero _))
counted_at cs (ofCapability m) i h = cases (set_cases cs m new blank_capability i (h m refl))
  where
    new : Capability
    new = with_creations (capability_at cs m) (suc (capability_at cs m).creations)

    plus_one : (a : ℕ) → suc a ≡ a + cond (eqb m m) 1 0
    plus_one a = sym (ap (λ (b : Bool). a + cond b 1 0) (T→true (eqb m m) (eqb_refl m)) ∙ omega arith)

    plus_none : (a : ℕ) → i ≢ m → a ≡ a + cond (eqb m i) 1 0
    plus_none a e = sym (ap (λ (b : Bool). a + cond b 1 0) (T→false (eqb m i) (not_T (eqb m i) (λ t. e (sym (eqb→eq m i t))))) ∙ add-zero a)

    cases : ((i ≡ m) × (capability_at (set cs m new) i ≡ new)) ⊎ ((i ≢ m) × (capability_at (set cs m new) i ≡ capability_at cs i))
        → capability_at (set cs m new) i ≡ with_creations (capability_at cs i) ((capability_at cs i).creations + one_more (ofCapability m) i)
    cases (inl e) =
        e.1
        ∙ subst
        (λ (j : ℕ). new ≡ with_creations (capability_at cs j) ((capability_at cs j).creations + cond (eqb m j) 1 0))
        (sym e.0)
        (ap (λ (x : ℕ). with_creations (capability_at cs m) x) (plus_one (capability_at cs m).creations))
    cases (inr e) = e.1 ∙ ap (λ (x : ℕ). with_creations (capability_at cs i) x) (plus_none (capability_at cs i).creations e.0)

counted_length : (cs : List Capability) (o : Origin) → length (creation_counted cs o) ≡ length cs
counted_length cs (ofRole k) = refl
counted_length cs (ofCapability m) = length-set cs m _

module _
    (enrolled : ℕ) (roles : List Role) (count : ℕ) (cs : List Capability) (kept : CapabilitiesKept enrolled roles count cs) (room : count < 256)
    (o : Origin) (o-there : T (exists roles count o)) (may : T (may_create (party roles cs o)))
    (c : Capability) (c-origin : c.origin ≡ o) (c-creations : c.creations ≡ 0) (c-fits : Below (claims c) (terms roles cs o)) (c-own : OwnKept enrolled c) where
  abbrev pub created : List Capability
  created = set (creation_counted cs o) count c

  o_falls : (k : ℕ) → o ≡ ofCapability k → k < count
  unfolding exists
  o_falls k e = ltb→lt _ _ (subst (λ (x : Origin). T (exists roles count x)) e o-there)

  created_in_lem : count < length (creation_counted cs o)
  created_in_lem = omega (arith, counted_length cs o, kept.amount)

  created_length : length created ≡ 256
  created_length = length-set (creation_counted cs o) count c ∙ counted_length cs o ∙ kept.amount

  created_new : capability_at created count ≡ c
  created_new = get_or-set_same (creation_counted cs o) count c blank_capability created_in_lem

  created_old : (i : ℕ) → i ≢ count → capability_at created i ≡ with_creations (capability_at cs i) ((capability_at cs i).creations + one_more o i)
  created_old i e =
      get_or-set_other (creation_counted cs o) count i c blank_capability e ∙ counted_at cs o i (λ k q. omega (arith, o_falls k q, kept.amount))

  pub still_present : (x : Origin) → T (exists roles count x) → T (exists roles (suc count) x)
  unfolding exists
  still_present (ofRole k) h = h
  still_present (ofCapability k) h = lt→ltb k (suc count) (omega (arith, ltb→lt k count h))

  pub same_terms : (x : Origin) → T (exists roles count x) → terms roles created x ≡ terms roles cs x
  unfolding exists terms authority
  same_terms (ofRole k) h = refl
  same_terms (ofCapability k) h =
      ap (λ (y : Capability). capability_terms roles y) (created_old k (λ e. omega (arith, ltb→lt k count h)))

  -- one more child for the origin of the new pass
  created_children : (i : ℕ) → children (suc count) created i ≡ children count cs i + one_more o i
  unfolding children count_below
  created_children i =
      ap₂ (λ (x : ℕ) (b : Bool). x + cond b 1 0)
      (count_below_ext count _ _ (λ k l. ap (λ (y : Capability). is_parent i y.origin) (created_old k (λ e. omega arith))))
      (ap (λ (y : Capability). is_parent i y.origin) created_new ∙ ap (is_parent i) c-origin)

  -- nothing is cut from the new pass yet
  no_child : (x : Origin) → ((k : ℕ) → x ≡ ofCapability k → k < count) → is_parent count x ≡ false
  no_child (ofRole k) h = refl
  no_child (ofCapability k) h = T→false (eqb k count) (not_T (eqb k count) (λ t. omega (arith, h k refl, eqb→eq k count t)))

  none_yet : children count cs count ≡ 0
  unfolding children
  none_yet = count_below_none count _ (λ k l. no_child (origin_at cs k) (λ j e. omega (arith, falls enrolled roles count cs kept k j l e)))

  below_limit : (i : ℕ) (x : Origin) → T (may_create (party roles cs x)) → T (is_parent i x) → (capability_at cs i).creations < (capability_at cs i).creation_limit
  below_limit i (ofRole k) h t = absurd t
  below_limit i (ofCapability m) h t =
      subst (λ (j : ℕ). (capability_at cs j).creations < (capability_at cs j).creation_limit) (eqb→eq m i t) (ltb→lt _ _ h)

  limit_kept : (i : ℕ) → i < count → (b : Bool) → is_parent i o ≡ b → (capability_at cs i).creations + cond b 1 0 ≤ (capability_at cs i).creation_limit
  limit_kept i l true e = omega (arith, below_limit i o may (subst T (sym e) tt))
  limit_kept i l false e = omega (arith, (kept.capability i l).creation_limit)

  old_kept : (i : ℕ) → i < count → CapabilityKept enrolled roles (suc count) created i (with_creations (capability_at cs i) ((capability_at cs i).creations + one_more o i))
  old_kept i l =
      let old : CapabilityKept enrolled roles count cs i (capability_at cs i) = kept.capability i l in
      record {
        placed = old.placed;
        origin_there = still_present (origin_at cs i) old.origin_there;
        fits =
            subst
            (λ (t : Terms). Below (claims (with_creations (capability_at cs i) ((capability_at cs i).creations + one_more o i))) t)
            (sym (same_terms (origin_at cs i) old.origin_there))
            old.fits;
        creations_counted = ap (λ (x : ℕ). x + one_more o i) old.creations_counted ∙ sym (created_children i);
        creation_limit = limit_kept i l (is_parent i o) refl;
        own =
            record { creator = old.own.creator; life = old.own.life; holders = old.own.holders; hops = old.own.hops; hop_limit = old.own.hop_limit; uses = old.own.uses };
      }

  new_kept : CapabilityKept enrolled roles (suc count) created count c
  unfolding earlier exists
  new_kept =
      record {
        placed = subst (λ (x : Origin). T (earlier count x)) (sym c-origin) (earlier_o o o-there);
        origin_there = subst (λ (x : Origin). T (exists roles (suc count) x)) (sym c-origin) (still_present o o-there);
        fits = subst (λ (x : Origin). Below (claims c) (terms roles created x)) (sym c-origin) (subst (λ (t : Terms). Below (claims c) t) (sym (same_terms o o-there)) c-fits);
        creations_counted = c-creations ∙ sym (created_children count ∙ ap₂ (λ (x : ℕ) (b : Bool). x + cond b 1 0) none_yet (no_child o o_falls));
        creation_limit = omega (arith, c-creations);
        own = c-own;
      }
    where
      earlier_o : (x : Origin) → T (exists roles count x) → T (earlier count x)
      earlier_o (ofRole k) h = tt
      earlier_o (ofCapability k) h = h

  pub created_capabilities : CapabilitiesKept enrolled roles (suc count) created
  created_capabilities =
      record {
        amount = created_length;
        enough = room;
        capability = λ i l. one i (eq-or-lt_of_le (le_of_suc-le-suc l));
        blank = λ i l g.
            created_old i (λ e. omega arith)
            ∙ ap₂ (λ (x : Capability) (b : Bool). with_creations x (x.creations + cond b 1 0)) (kept.blank i (omega arith) g) (beyond i (omega arith) o o_falls);
      }
    where
      one : (i : ℕ) → (i ≡ count) ⊎ (i < count) → CapabilityKept enrolled roles (suc count) created i (capability_at created i)
      one i (inl e) =
          subst
          (λ (j : ℕ). CapabilityKept enrolled roles (suc count) created j (capability_at created j))
          (sym e)
          (subst (λ (y : Capability). CapabilityKept enrolled roles (suc count) created count y) (sym created_new) new_kept)
      one i (inr l) =
          subst (λ (y : Capability). CapabilityKept enrolled roles (suc count) created i y) (sym (created_old i (λ e. omega arith))) (old_kept i l)

      beyond : (i : ℕ) → count ≤ i → (x : Origin) → ((k : ℕ) → x ≡ ofCapability k → k < count) → is_parent i x ≡ false
      beyond i l (ofRole k) h = refl
      beyond i l (ofCapability k) h = T→false (eqb k i) (not_T (eqb k i) (λ t. omega (arith, h k refl, eqb→eq k i t)))

pub create_keeps : (r : Register) (user : ℕ) (o : Origin) (at : Context) (plan : Plan) → Kept r → Clear (create_ruling r user o at plan).guards
    → Kept (create_ruling r user o at plan).after
unfolding create_ruling
create_keeps r user o at plan k g =
    let c : Capability = new_capability user o plan in
    let rs = (create_ruling r user o at plan).guards in
    let o-there : T (exists r.roles r.count o) = there-exists r.roles r.capabilities r.count o (passed 3 rs g).1.0 in
    let room : r.count < 256 = ltb→lt _ _ (passed 12 rs g).0 in
    let fits : Below (claims c) (terms_of r o) = below→ _ _ (passed 11 rs g).0 in
    let own : OwnKept r.enrolled c =
    record {
      creator = (passed 3 rs g).0;
      life = leb→le _ _ (passed 2 rs g).1.1.1.1.1.1.1.1.1.1.1.0;
      holders = within_zero r.enrolled;
      hops = sym ones_zero;
      hop_limit = zero-le;
      uses = lit< tt;
    } in
    record {
      clock = k.clock;
      users = k.users;
      roles = k.roles;
      capabilities = created_capabilities r.enrolled r.roles r.count r.capabilities k.capabilities room o o-there (passed 10 rs g).0 c refl refl fits own;
      sessions =
          same_sessions r.roles r.roles r.count (suc r.count) r.capabilities _
          (still_present r.enrolled r.roles r.count r.capabilities k.capabilities room o o-there (passed 10 rs g).0 c refl refl fits own)
          (same_terms r.enrolled r.roles r.count r.capabilities k.capabilities room o o-there (passed 10 rs g).0 c refl refl fits own)
          r.enrolled r.sessions k.sessions;
    }

-- the new pass has the origin named; the others keep theirs
pub create_origins : (r : Register) (user : ℕ) (o : Origin) (at : Context) (plan : Plan) → Kept r → Clear (create_ruling r user o at plan).guards
    → (i : ℕ) → i < suc r.count
    → origin_at (create_ruling r user o at plan).after.capabilities i ≡ cond (eqb r.count i) o (origin_at r.capabilities i)
unfolding create_ruling exists
create_origins r user o at plan k g i l = cases (eq-or-lt_of_le (le_of_suc-le-suc l))
  where
    c : Capability
    c = new_capability user o plan

    cs' : List Capability
    cs' = set (creation_counted r.capabilities o) r.count c

    room : r.count < 256
    room = ltb→lt _ _ (passed 12 (create_ruling r user o at plan).guards g).0

    o_falls' : (x : Origin) → T (exists r.roles r.count x) → (j : ℕ) → x ≡ ofCapability j → j < length r.capabilities
    o_falls' x h j e = omega (arith, ltb→lt j r.count (subst (λ (y : Origin). T (exists r.roles r.count y)) e h), k.capabilities.amount)

    cases : (i ≡ r.count) ⊎ (i < r.count) → origin_at cs' i ≡ cond (eqb r.count i) o (origin_at r.capabilities i)
    cases (inl e) =
        subst
        (λ (j : ℕ). origin_at cs' j ≡ cond (eqb r.count j) o (origin_at r.capabilities j))
        (sym e)
        (ap (λ (x : Capability). x.origin) (get_or-set_same (creation_counted r.capabilities o) r.count c blank_capability (omega (arith, room, counted_length r.capabilities o, k.capabilities.amount)))
        ∙ sym (ap (λ (b : Bool). cond b o (origin_at r.capabilities r.count)) (T→true (eqb r.count r.count) (eqb_refl r.count))))
    cases (inr h) =
        ap (λ (x : Capability). x.origin)
        (get_or-set_other (creation_counted r.capabilities o) r.count i c blank_capability (λ e. omega arith)
        ∙ counted_at r.capabilities o i (o_falls' o (there-exists r.roles r.capabilities r.count o (passed 3 (create_ruling r user o at plan).guards g).1.0)))
        ∙ sym (ap (λ (b : Bool). cond b o (origin_at r.capabilities i)) (T→false (eqb r.count i) (not_T (eqb r.count i) (λ t. omega (arith, eqb→eq r.count i t)))))
