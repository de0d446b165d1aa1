-- Intermediate: the code's own terms, proved to come to the definitions of `model`.
-- A request decided over the elements that it names.
use Rattle.std.specs.Prelude.{ℕ, Result}
use Rattle.model.specs.declared.Refusal.{Refusal}
use Rattle.model.specs.declared.Register.{Register}
use Rattle.model.specs.declared.LocalRequest.{LocalRequest}
use Rattle.model.specs.declared.LocalRequest.TheVariants.{Enrol, Found, Grant, Appoint, Dismiss, Clock, Create, Allow, Lend, Hand, Open, Check, Close}
use Rattle.model.specs.Requests.{outcome_of}
use Rattle.model.specs.Rulings.{Effect}
use Rattle.origins.specs.declared.authority.RoleColumns.{RoleColumns}
use Rattle.slots.specs.declared.Slots.{Slots}
use Rattle.administration.specs.Administration.{enrol_decision, found_decision, grant_decision, appoint_decision, dismiss_decision, clock_decision}
use Rattle.creation.specs.Creation.{create_decision}
use Rattle.giving.specs.Giving.{allow_decision, lend_decision, hand_decision}
use Rattle.sessions.specs.Sessions.{open_decision, check_decision, close_decision}

-- by the columns of the roles
abbrev pub decide_of : Slots → RoleColumns → LocalRequest → Effect Slots
decide_of v column (Enrol user domain) = enrol_decision v user domain
decide_of v column (Found role domain hours places devices) = found_decision v role domain hours places devices
decide_of v column (Grant role permission) = grant_decision v role permission
decide_of v column (Appoint user role) = appoint_decision v user role
decide_of v column (Dismiss user role) = dismiss_decision v user role
decide_of v column (Clock tick) = clock_decision v tick
decide_of v column (Create user origin at plan) = create_decision v column user origin at plan
decide_of v column (Allow user capability permissions) = allow_decision v column user capability permissions
decide_of v column (Lend user capability roles) = lend_decision v column user capability roles
decide_of v column (Hand user receiver capability) = hand_decision v user receiver capability
decide_of v column (Open session user on at) = open_decision v session user on at
decide_of v column (Check session permission at) = check_decision v column session permission at
decide_of v column (Close session) = close_decision v session

-- the register and the answer that a request leaves
abbrev pub performed : Result ℕ Refusal → Register → Effect Register
performed answer r = record { answer = outcome_of answer; after = r }
