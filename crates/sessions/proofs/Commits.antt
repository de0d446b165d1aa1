-- Each call on sessions over the elements that it names, put back, is the call of the model.
use mathlib.Core.Path.{◌≡◌, refl, ap, ap₂, ◌∙◌}
use mathlib.Core.Bool.{Bool, false, cond}
use mathlib.Core.List.{List, [], ◌∷◌}
use Prim.Native.Nat.{ℕ, ◌%◌, ◌<◌}
use lib.Dec.{T, ltb, ltb→lt}
use lib.ListN.{drop, set}
use lib.Seq.{set-get_or}
use Rattle.masks.specs.Tests.{each}
use Rattle.masks.proofs.Truth.{each_at, each→}
use Rattle.model.specs.declared.Origin.{Origin}
use Rattle.model.specs.declared.Origin.TheVariants.{Role as ofRole, Capability as ofCapability}
use Rattle.model.specs.declared.Named.{Named}
use Rattle.model.specs.declared.Context.{Context}
use Rattle.model.specs.declared.Capability.{Capability}
use Rattle.model.specs.declared.Role.{Role}
use Rattle.model.specs.declared.Session.{Session}
use Rattle.model.specs.declared.Register.{Register}
use Rattle.model.specs.declared.LocalRequest.TheVariants.{Open}
use Rattle.model.specs.State.{Party, Terms, context_of, role_at, capability_at, session_at, terms, admitted, in_context}
use Rattle.model.specs.Rules.{is_session, is_user, is_permission, is_origin, well_formed}
use Rattle.model.specs.Invariant.{OriginInRange}
use Rattle.model.specs.Setters.{with_capabilities}
use Rattle.model.specs.Rulings.{Outcome, party_of, terms_of}
use Rattle.model.specs.Sessions.{session, putting_session, used, new_session, permitting, permits, opening_session, checking, closing, open_ruling, check_ruling, close_ruling}
use Rattle.model.specs.Calls.{check, close, ruling, settled}
use Rattle.model.specs.Requests.{local_call, named_origin}
use Rattle.model.proofs.Rules.{formed→}
use Rattle.model.proofs.RuleFacts.{origin←}
use Rattle.model.proofs.Settling.{passed, settle_ranged, settle_same}
use Rattle.slots.specs.declared.Slots.{Slots}
use Rattle.slots.specs.Guards.{first_number}
use Rattle.slots.proofs.GuardLaws.{ranged_same}
use Rattle.slots.specs.Slots.{Places, look, lifted, with_session_slots}
use Rattle.origins.specs.declared.authority.RoleColumns.{RoleColumns}
use Rattle.origins.specs.Authority.{Columns, granted_by, lendable_by}
use Rattle.origins.specs.Numbers.{role_held, capability_held, named_in}
use Rattle.origins.specs.Terms.{party_in, slot_terms}
use Rattle.origins.proofs.Laws.{in_range_lem, named_exact, held_placed, placed_party, placed_terms}
use Rattle.slots.specs.Terms.{OnPlaced, used_in}
use Rattle.slots.proofs.SlotLaws.{put_same, put-session, ranged_commit}
use Rattle.sessions.specs.Sessions.{close_decision, permits_in, check_answer, check_decision, opening_on, opening_tests, open_decision}

-- ---- close

pub close_commit : (r : Register) (p : Places) (s : ℕ) → p.session ≡ s % 64 → lifted r p (close_decision (look r p) s) ≡ settled r (close s)
unfolding close_decision settled ruling close_ruling
close_commit r p s e =
    let ts : List Bool = is_session s ∷ [] in
    let at : T (each ts) → p.session ≡ s = λ t. e ∙ in_range_lem s 64 (each_at ts t 0) in
    ranged_commit r p ts (closing (session r p.session) s) _ (with_session_slots (look r p) (look r p).capability) (putting_session r s) refl refl
    (λ t. ap (λ (j : ℕ). closing (session r j) s) (at t))
    (λ t g x. put-session r p _ x ∙ simp set-get_or (ap (λ (j : ℕ). putting_session r j x) (at t)))

-- ---- check

-- what may be lent is not read
unlent : (tick : ℕ) (y : Party) (o : Origin) (x : Role) (c : Capability) (grants lendable user q : ℕ) (at : Context)
    → permitting tick y (slot_terms o x c grants 0) user q at ≡ permitting tick y (slot_terms o x c grants lendable) user q at
unfolding slot_terms admitted
unlent tick y (ofRole k) x c grants lendable user q at = refl
unlent tick y (ofCapability n) x c grants lendable user q at = refl

-- what an origin permits, from its element
origin_permits : (r : Register) (p : Places) (columns : RoleColumns) (s : Session) (q : ℕ) (at : Context) → Columns columns r.roles → OriginInRange s.on → OnPlaced p s.on
    → permits_in r.clock s (look r p).role (look r p).capability columns q at ≡ permits r s.on s.user q at
unfolding permits_in permits
origin_permits r p columns s q at h l e =
    let ranged = origin← s.on l in
    let x : Role = (look r p).role in
    let c : Capability = (look r p).capability in
    ap each (unlent r.clock (party_in s.on x c) s.on x c (granted_by columns s.on c) (lendable_by columns s.on c) s.user q at)
    ∙ ap₂ (λ (y : Party) (t : Terms). each (permitting r.clock y t s.user q at))
    (placed_party r.roles r.capabilities s.on p.role p.capability ranged e)
    (placed_terms columns r.roles h r.capabilities s.on p.role p.capability ranged e)

-- the answer to a check, by the session and what it is on, read from the register
pub check_answered : (r : Register) (p : Places) (columns : RoleColumns) (s q : ℕ) (at : Context) → T (well_formed r) → Columns columns r.roles
    → p.session ≡ s % 64 → OnPlaced p (session_at r.sessions (s % 64)).on
    → record { answer = check_answer r.clock (session_at r.sessions p.session) (role_at r.roles p.role) (capability_at r.capabilities p.capability) columns s q at; after = r }
    ≡ settled r (check s q at)
unfolding check_answer settled ruling check_ruling
check_answered r p columns s q at w h e o =
    let ts : List Bool = is_session s ∷ is_permission q ∷ in_context at ∷ [] in
    settle_same r (checking (session r p.session) false s q at).guards _
    ∙ settle_ranged r 2 ts _ _ _ _ _ _
    (λ t. rw (e, in_range_lem s 64 (each_at ts t 0)))
    (λ g.
    let i : s % 64 ≡ s = in_range_lem s 64 g.0.0 in (
      rw (e, i) (ap (λ (b : Bool). cond b 1 0)
          (origin_permits r p columns (session_at r.sessions s) q at h ((formed→ r w).sessions s (ltb→lt s 64 g.0.0) (passed 3 (check_ruling r s q at).guards g).0).on_range (rw i at o))),
      refl,
    ))

-- the same, where o is the answer and the places are those that the session's own numbers give
pub check_done : (r : Register) (columns : RoleColumns) (n q : ℕ) (at : Context) (i j : ℕ) (o : Outcome) → T (well_formed r) → Columns columns r.roles
    → (let on = (session_at r.sessions (n % 64)).on in (i ≡ role_held on) × (j ≡ capability_held on)) → j < 256
    → o ≡ check_answer r.clock (session_at r.sessions (n % 64)) (role_at r.roles (i % 32)) (capability_at r.capabilities j) columns n q at
    → record { answer = o; after = r } ≡ settled r (check n q at)
check_done r columns n q at i j o k column held few e =
    ap (λ (z : Outcome). record { answer = z; after = r }) e
    ∙ check_answered r (record { user = 0; role = i % 32; parent = 0; capability = j; session = n % 64 }) columns n q at k column refl (held_placed (session_at r.sessions (n % 64)).on i j held.0 held.1 few)

pub check_commit : (r : Register) (p : Places) (columns : RoleColumns) (s q : ℕ) (at : Context) → T (well_formed r) → Columns columns r.roles
    → p.session ≡ s % 64 → OnPlaced p (session_at r.sessions (s % 64)).on
    → lifted r p (check_decision (look r p) columns s q at) ≡ settled r (check s q at)
check_commit r p columns s q at w h e o =
    ap (λ (z : Register). record { answer = (check_decision (look r p) columns s q at).answer; after = z }) (put_same r p)
    ∙ check_answered r p columns s q at w h e o

-- ---- open

-- the tests with the origin as it is named
pub open_agrees : (v : Slots) (s user : ℕ) (on : Named) (at : Context) {k : ℕ} {o : Origin} → k ≡ first_number (opening_tests v o s user on at) → o ≡ named_in on
    → k ≡ first_number (opening_on v (named_origin on) s user at).guards
open_agrees v s user on at e m =
    let ts : List Bool = is_session s ∷ is_user user ∷ is_origin (named_origin on) ∷ in_context at ∷ [] in
    e ∙ ranged_same 2 ts _ _ (λ h. ap (λ (x : Origin). drop 1 (opening_on v x s user at).guards) (m ∙ named_exact on (each_at ts h 2)))

-- a session made from numbers in their ranges
pub session_ranged : (user : ℕ) (at : Context) (o : Origin) → T (is_user user) → T (in_context at)
    → new_session (user % 64) o (context_of (at.hour % 24) (at.place % 16) (at.device % 16)) ≡ new_session user o at
unfolding in_context
session_ranged user at o u c =
    let f = each→ (ltb at.hour 24 ∷ ltb at.place 16 ∷ ltb at.device 16 ∷ []) c in
    rw (in_range_lem user 64 u, in_range_lem at.hour 24 f.0, in_range_lem at.place 16 f.1.0, in_range_lem at.device 16 f.1.1.0)

module _ (r : Register) (p : Places) (s user : ℕ) (at : Context) where
  opening_placed : (o : Origin) → p.session ≡ s → OnPlaced p o → T (is_origin o)
      → opening_on (look r p) o s user at ≡ opening_session r.clock r.enrolled r.count (session r s) (party_of r o) (terms_of r o) s user o at
  unfolding slot_terms terms admitted
  opening_placed (ofRole k) e n l = rw (e, n, in_range_lem k 32 l)
  opening_placed (ofCapability k) e n l = rw (e, n, in_range_lem k 256 l)

  used_placed : (o : Origin) → OnPlaced p o → T (is_origin o)
      → set r.capabilities p.capability (used_in o (capability_at r.capabilities p.capability)) ≡ used r.capabilities o
  used_placed (ofRole k) n l = simp set-get_or
  used_placed (ofCapability k) n l = rw (n, in_range_lem k 256 l)

  pub open_commit : (o : Named) → p.session ≡ s % 64 → OnPlaced p (named_origin o) → lifted r p (open_decision (look r p) s user o at) ≡ settled r (local_call (Open s user o at))
  unfolding open_decision settled ruling open_ruling
  open_commit o e n =
      let ts : List Bool = is_session s ∷ is_user user ∷ is_origin (named_origin o) ∷ in_context at ∷ [] in
      let here : T (each ts) → p.session ≡ s = λ t. e ∙ in_range_lem s 64 (each_at ts t 0) in
      ranged_commit r p ts (opening_on (look r p) (named_origin o) s user at) _ _ _ refl refl
      (λ t. opening_placed (named_origin o) (here t) n (each_at ts t 2))
      (λ t g x. put-session r p _ x ∙ ap₂ (λ (cs : List Capability) (j : ℕ). putting_session (with_capabilities r cs) j x) (used_placed (named_origin o) n (each_at ts t 2)) (here t))
