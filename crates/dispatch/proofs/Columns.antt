-- The columns of the roles stay in step with the register where a request changes no role.
use mathlib.Core.Path.{◌≡◌, refl, sym, ap, ◌∙◌, subst}
use mathlib.Core.Bool.{false}
use mathlib.Core.List.{List}
use Prim.Native.Nat.{ℕ}
use lib.Dec.{T}
use lib.ListN.{set}
use lib.Seq.{set-get_or}
use Rattle.model.specs.declared.LocalRequest.{LocalRequest}
use Rattle.model.specs.declared.LocalRequest.TheVariants.{Enrol, Found, Grant, Appoint, Dismiss, Clock, Create, Allow, Lend, Hand, Open, Check, Close}
use Rattle.model.specs.declared.Register.{Register}
use Rattle.model.specs.Rules.{well_formed}
use Rattle.model.specs.Calls.{settled}
use Rattle.model.specs.Requests.{local_call}
use Rattle.model.specs.Rulings.{Effect, Guard, settle}
use Rattle.model.proofs.Settling.{Settled, accepted, declined, settle_cases}
use Rattle.origins.specs.declared.authority.RoleColumns.{RoleColumns}
use Rattle.origins.specs.Authority.{Columns}
use Rattle.slots.specs.declared.Slots.{Slots}
use Rattle.slots.specs.declared.Decision.{Decision}
use Rattle.slots.specs.Slots.{Places, look, put, ruled_of}
use Rattle.places.specs.Requests.{names_of, changes_role, places_in}
use Rattle.administration.specs.Administration.{enrol_decision, clock_decision}
use Rattle.creation.specs.Creation.{create_decision}
use Rattle.giving.specs.Giving.{allow_decision, lend_decision, hand_decision}
use Rattle.sessions.specs.Sessions.{open_decision, close_decision}
use Rattle.dispatch.specs.Decide.{decide_of}
use Rattle.dispatch.proofs.Commits.{one_commit}

-- a call that puts other elements than the role leaves it
settle-role : (v w : Slots) (gs : List Guard) (n : ℕ) → w.role ≡ v.role → (settle v gs n w).after.role ≡ v.role
settle-role v w gs n e = cases (settle_cases v gs n w)
  where
    cases : Settled v gs n w (settle v gs n w) → (settle v gs n w).after.role ≡ v.role
    cases (accepted c p) = ap (λ (x : Effect Slots). x.after.role) p ∙ e
    cases (declined m p) = ap (λ (x : Effect Slots). x.after.role) p

role_stays : (v : Slots) (column : RoleColumns) (q : LocalRequest) → changes_role (names_of q).follow ≡ false → (decide_of v column q).after.role ≡ v.role
unfolding enrol_decision clock_decision create_decision allow_decision lend_decision hand_decision open_decision close_decision
role_stays v column (Enrol user domain) e = settle-role v _ _ _ refl
role_stays v column (Found role domain hours places devices) e = absurd (subst T e tt)
role_stays v column (Grant role permission) e = absurd (subst T e tt)
role_stays v column (Appoint user role) e = absurd (subst T e tt)
role_stays v column (Dismiss user role) e = absurd (subst T e tt)
role_stays v column (Clock tick) e = settle-role v _ _ _ refl
role_stays v column (Create user origin at plan) e = settle-role v _ _ _ refl
role_stays v column (Allow user n mask) e = settle-role v _ _ _ refl
role_stays v column (Lend user n mask) e = settle-role v _ _ _ refl
role_stays v column (Hand user receiver n) e = settle-role v _ _ _ refl
role_stays v column (Open s user on at) e = settle-role v _ _ _ refl
role_stays v column (Check s permission at) e = refl
role_stays v column (Close s) e = settle-role v _ _ _ refl

-- what was decided, put back
pub columns_kept : (r : Register) (p : Places) (column : RoleColumns) (q : LocalRequest) (d : Decision) → Columns column r.roles → ruled_of d ≡ decide_of (look r p) column q → changes_role (names_of q).follow ≡ false
    → Columns column (set r.roles p.role d.slots.role)
columns_kept r p column q d h e f =
    let same : d.slots.role ≡ (look r p).role = ap (λ (x : Effect Slots). x.after.role) e ∙ role_stays (look r p) column q f in
    subst (Columns column) (sym (ap (set r.roles p.role) same ∙ set-get_or r.roles p.role _)) h

-- a request that changes no role leaves the columns as they are
pub columns_stay : (r : Register) (columns : RoleColumns) (q : LocalRequest) → T (well_formed r) → Columns columns r.roles → changes_role (names_of q).follow ≡ false
    → Columns columns (settled r (local_call q)).after.roles
unfolding put
columns_stay r columns q k h f =
    let p = places_in r (names_of q) in
    let same : (decide_of (look r p) columns q).after.role ≡ (look r p).role = role_stays (look r p) columns q f in
    subst (Columns columns)
    (sym (ap (set r.roles p.role) same ∙ set-get_or r.roles p.role _) ∙ ap (λ (x : Effect Register). x.after.roles) (one_commit r columns q k h)) h
