-- Every request over the elements that it names, put back, is the call of the model.
use mathlib.Core.Path.{◌≡◌, refl, ap, ◌∙◌}
use Prim.Native.Nat.{ℕ, ◌%◌}
use lib.Dec.{T}
use Rattle.model.specs.declared.Origin.{Origin}
use Rattle.model.specs.declared.Origin.TheVariants.{Role as ofRole, Capability as ofCapability}
use Rattle.model.specs.declared.Named.{Named}
use Rattle.model.specs.declared.Named.TheVariants.{Role as nameRole, Capability as nameCapability}
use Rattle.model.specs.declared.LocalRequest.{LocalRequest}
use Rattle.model.specs.declared.LocalRequest.TheVariants.{Enrol, Found, Grant, Appoint, Dismiss, Clock, Create, Allow, Lend, Hand, Open, Check, Close}
use Rattle.model.specs.declared.Register.{Register}
use Rattle.model.specs.State.{capability_at, session_at}
use Rattle.model.specs.Rules.{well_formed}
use Rattle.model.specs.Calls.{settled}
use Rattle.model.specs.Requests.{local_call, named_origin}
use Rattle.slots.specs.declared.Slots.{Slots}
use Rattle.slots.specs.declared.Decision.{Decision}
use Rattle.slots.specs.Slots.{Places, look, ruled_of, lifted}
use Rattle.slots.specs.Terms.{OriginPlaced, OnPlaced}
use Rattle.origins.specs.Numbers.{role_held, capability_held}
use Rattle.origins.specs.declared.authority.RoleColumns.{RoleColumns}
use Rattle.origins.specs.Authority.{Columns}
use Rattle.places.specs.declared.Names.{Names}
use Rattle.places.specs.Requests.{names_of, places_in, capability_place, role_place, parent_place, role_in, capability_in}
use Rattle.administration.proofs.Commits.{enrol_commit, found_commit, grant_commit, appoint_commit, dismiss_commit, clock_commit}
use Rattle.creation.proofs.Commits.{create_commit}
use Rattle.giving.proofs.Commits.{hand_commit, allow_commit, lend_commit}
use Rattle.sessions.proofs.Commits.{close_commit, check_commit, open_commit}
use Rattle.dispatch.specs.Decide.{decide_of}

-- where an origin, or what a session is on, is followed to
origin_placed : (p : Places) (o : Origin) → p.role ≡ role_held o % 32 → p.parent ≡ capability_held o % 256 → OriginPlaced p o
origin_placed p (ofRole k) a b = a
origin_placed p (ofCapability n) a b = b

on_placed : (p : Places) (o : Origin) → p.role ≡ role_held o % 32 → p.capability ≡ capability_held o % 256 → OnPlaced p o
on_placed p (ofRole k) a b = a
on_placed p (ofCapability n) a b = b

named_placed : (p : Places) (o : Named) → p.role ≡ role_in o % 32 → p.parent ≡ capability_in o % 256 → OriginPlaced p (named_origin o)
named_placed p (nameRole k) a b = a
named_placed p (nameCapability n) a b = b

session_placed : (p : Places) (o : Named) → p.role ≡ role_in o % 32 → p.capability ≡ capability_in o % 256 → OnPlaced p (named_origin o)
session_placed p (nameRole k) a b = a
session_placed p (nameCapability n) a b = b

pub one_commit : (r : Register) (column : RoleColumns) (q : LocalRequest) → T (well_formed r) → Columns column r.roles
    → lifted r (places_in r (names_of q)) (decide_of (look r (places_in r (names_of q))) column q) ≡ settled r (local_call q)
one_commit r column (Enrol user domain) k h = enrol_commit r _ user domain refl
one_commit r column (Found role domain hours places devices) k h = found_commit r _ role domain hours places devices refl
one_commit r column (Grant role permission) k h = grant_commit r _ role permission refl
one_commit r column (Appoint user role) k h = appoint_commit r _ user role refl refl
one_commit r column (Dismiss user role) k h = dismiss_commit r _ user role refl
one_commit r column (Clock tick) k h = clock_commit r _ tick
one_commit r column (Create user origin at plan) k h =
    let p : Places = places_in r (names_of (Create user origin at plan)) in
    create_commit r p column user origin at plan h refl (named_placed p origin refl refl)
one_commit r column (Allow user n mask) k h =
    let p : Places = places_in r (names_of (Allow user n mask)) in
    allow_commit r p column user n mask k h refl (origin_placed p (capability_at r.capabilities (n % 256)).origin refl refl)
one_commit r column (Lend user n mask) k h =
    let p : Places = places_in r (names_of (Lend user n mask)) in
    lend_commit r p column user n mask k h refl (origin_placed p (capability_at r.capabilities (n % 256)).origin refl refl)
one_commit r column (Hand user receiver n) k h = hand_commit r _ user receiver n refl
one_commit r column (Open s user on at) k h =
    let p : Places = places_in r (names_of (Open s user on at)) in
    open_commit r p s user at on refl (session_placed p on refl refl)
one_commit r column (Check s permission at) k h =
    let p : Places = places_in r (names_of (Check s permission at)) in
    check_commit r p column s permission at k h refl (on_placed p (session_at r.sessions (s % 64)).on refl refl)
one_commit r column (Close s) k h = close_commit r _ s refl

-- what was decided over the elements at the places of a request, and put back there
pub committed : (r : Register) (p : Places) (column : RoleColumns) (q : LocalRequest) (d : Decision) → T (well_formed r) → Columns column r.roles
    → p ≡ places_in r (names_of q) → ruled_of d ≡ decide_of (look r p) column q → lifted r p (ruled_of d) ≡ settled r (local_call q)
committed r p column q d k h e ed =
    ap (lifted r p) ed
    ∙ ap (λ (p : Places). lifted r p (decide_of (look r p) column q)) e
    ∙ one_commit r column q k h

-- the same by the contracts of the parts: where the code found the elements
module _ (r : Register) (m : Names) (un sn cn rn pn : ℕ) where
  abbrev pub placed : Places
  placed = record { user = un; role = rn; parent = pn; capability = cn; session = sn }

  -- each place is the one that the names say
  pub record AtPlaces : Type 0 where
    pub user : un ≡ m.user % 64
    pub session : sn ≡ m.session % 64
    pub capability : cn ≡ capability_place m.follow m.capability (session_at r.sessions sn).on r.count % 256
    pub role : rn ≡ role_place m.follow m.role (session_at r.sessions sn).on (capability_at r.capabilities cn).origin % 32
    pub parent : pn ≡ parent_place m.follow m.parent (capability_at r.capabilities cn).origin % 256

  pub found : (q : LocalRequest) → m ≡ names_of q → AtPlaces → placed ≡ places_in r (names_of q)
  found q em f = same ∙ ap (places_in r) em
    where
      same : placed ≡ places_in r m
      same = rw (f.role, f.parent, f.capability, f.session, f.user) refl

  pub commit : (column : RoleColumns) (q : LocalRequest) (v : Slots) (d : Decision) → T (well_formed r) → Columns column r.roles
      → m ≡ names_of q → AtPlaces → v ≡ look r placed → ruled_of d ≡ decide_of v column q → lifted r placed (ruled_of d) ≡ settled r (local_call q)
  commit column q v d k h em f ev ed =
      committed r placed column q d k h (found q em f) (ed ∙ ap (λ (w : Slots). decide_of w column q) ev)
