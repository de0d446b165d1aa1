-- Document 01, "The calls": the sixteen from enrol to close, and same, as one step over calls with arguments of any size.
use Rattle.std.specs.Prelude.{[], ◌∷◌, ℕ}
use Rattle.model.specs.declared.Origin.{Origin}
use Rattle.model.specs.declared.Register.{Register}
use Rattle.model.specs.declared.Context.{Context}
use Rattle.model.specs.declared.Plan.{Plan}
use Rattle.model.specs.Rules.{well_formed}
use Rattle.model.specs.Rulings.{Effect, Ruling, ◌unless◌, settle, ruled}
use Rattle.model.specs.Administration.{enrol_ruling, found_ruling, grant_ruling, withdraw_ruling, appoint_ruling, dismiss_ruling, clock_ruling}
use Rattle.model.specs.Delegation.{create_ruling, allow_ruling, lend_ruling, hand_ruling}
use Rattle.model.specs.Sessions.{open_ruling, check_ruling, close_ruling}
use Rattle.model.specs.Revocation.{Change, amend_ruling, revoke_ruling}
use Rattle.model.specs.Comparison.{same_ruling}

-- `opening` is the call open, whose word is a keyword here
pub data Call : Type 0 where
  enrol : (user domain : ℕ) → Call
  found : (role domain hours places devices : ℕ) → Call
  grant : (role permission : ℕ) → Call
  withdraw : (role permission : ℕ) → Call
  appoint : (user role : ℕ) → Call
  dismiss : (user role : ℕ) → Call
  clock : (tick : ℕ) → Call
  create : (user : ℕ) (origin : Origin) (at : Context) (plan : Plan) → Call
  allow : (user capability permissions : ℕ) → Call
  lend : (user capability roles : ℕ) → Call
  hand : (user receiver capability : ℕ) → Call
  opening : (session user : ℕ) (on : Origin) (at : Context) → Call
  check : (session permission : ℕ) (at : Context) → Call
  amend : (user capability : ℕ) (change : Change) → Call
  revoke : (user capability : ℕ) → Call
  close : (session : ℕ) → Call
  same : (first second : ℕ) → Call

unfoldable pub ruling : Register → Call → Ruling Register
ruling r (enrol user domain) = enrol_ruling r user domain
ruling r (found k domain hours places devices) = found_ruling r k domain hours places devices
ruling r (grant k p) = grant_ruling r k p
ruling r (withdraw k p) = withdraw_ruling r k p
ruling r (appoint user k) = appoint_ruling r user k
ruling r (dismiss user k) = dismiss_ruling r user k
ruling r (clock tick) = clock_ruling r tick
ruling r (create user o at plan) = create_ruling r user o at plan
ruling r (allow user n mask) = allow_ruling r user n mask
ruling r (lend user n mask) = lend_ruling r user n mask
ruling r (hand user receiver n) = hand_ruling r user receiver n
ruling r (opening s user o at) = open_ruling r s user o at
ruling r (check s p at) = check_ruling r s p at
ruling r (amend user n change) = amend_ruling r user n change
ruling r (revoke user n) = revoke_ruling r user n
ruling r (close s) = close_ruling r s
ruling r (same m n) = same_ruling r m n

-- the call on a register that is known to keep the shelf rules
unfoldable pub settled : Register → Call → Effect Register
settled r c = ruled r (ruling r c)

-- "The first that applies is answered: 15 (the register handed in breaks a shelf rule), then .."
unfoldable pub step : Register → Call → Effect Register
step r c = settle r (15 unless (well_formed r ∷ []) ∷ (ruling r c).guards) (ruling r c).result (ruling r c).after
