-- What the program's requests and answers mean: "a definition gives this paper's number and values for each case of that
-- enum. The promises use that definition."
use Rattle.std.proofs.Math.Option.{Option, none, some}
use Rattle.std.specs.Prelude.{ℕ, Option as Maybe, Some, None, Result, Ok, Err}
use Rattle.model.specs.declared.Origin.{Origin}
use Rattle.model.specs.declared.Origin.TheVariants.{Role as ofRole, Capability as ofCapability}
use Rattle.model.specs.declared.Refusal.{Refusal}
use Rattle.model.specs.declared.Refusal.TheVariants.{Malformed, Range, Missing, Unchanged, Domain, Forbidden, Revoked, Expired, Context, Exhausted, Exceeds, Full, Past, Image, Broken, Room}
use Rattle.model.specs.declared.Reply.{Reply}
use Rattle.model.specs.declared.Register.{Register}
use Rattle.model.specs.declared.Named.{Named}
use Rattle.model.specs.declared.Named.TheVariants.{Role as nameRole, Capability as nameCapability}
use Rattle.model.specs.declared.Change.{Change as ChangeBy}
use Rattle.model.specs.declared.Change.TheVariants.{Raise, Lower}
use Rattle.model.specs.declared.Request.{Request}
use Rattle.model.specs.declared.Request.TheVariants.{Local, Tree}
use Rattle.model.specs.declared.LocalRequest.{LocalRequest}
use Rattle.model.specs.declared.LocalRequest.TheVariants.{Enrol, Found, Grant, Appoint, Dismiss, Clock, Create, Allow, Lend, Hand, Open, Check, Close}
use Rattle.model.specs.declared.TreeRequest.{TreeRequest}
use Rattle.model.specs.declared.TreeRequest.TheVariants.{Withdraw, Amend, Revoke, Same}
use Rattle.model.specs.Rulings.{Outcome, value, refused, Effect}
use Rattle.model.specs.Revocation.{Change, raise, lower}
use Rattle.model.specs.Calls.{Call, enrol, found, grant, withdraw, appoint, dismiss, clock, create, allow, lend, hand, opening, check, amend, revoke, close, same}

-- the document's number of each refusal
abbrev pub refusal_number : Refusal → ℕ
refusal_number Malformed = 1
refusal_number Range = 2
refusal_number Missing = 3
refusal_number Unchanged = 4
refusal_number Domain = 5
refusal_number Forbidden = 6
refusal_number Revoked = 7
refusal_number Expired = 8
refusal_number Context = 9
refusal_number Exhausted = 10
refusal_number Exceeds = 11
refusal_number Full = 12
refusal_number Past = 13
refusal_number Image = 14
refusal_number Broken = 15
refusal_number Room = 16

abbrev pub outcome_of : Result ℕ Refusal → Outcome
outcome_of (Ok v) = value v
outcome_of (Err why) = refused (refusal_number why)

abbrev pub effect_of : Reply → Effect Register
effect_of reply = record { answer = outcome_of reply.answer; after = reply.register }

abbrev pub named_origin : Named → Origin
named_origin (nameRole k) = ofRole k
named_origin (nameCapability n) = ofCapability n

abbrev pub change_of : ChangeBy → Change
change_of (Raise d) = raise d
change_of (Lower d) = lower d

abbrev pub local_call : LocalRequest → Call
local_call (Enrol user domain) = enrol user domain
local_call (Found role domain hours places devices) = found role domain hours places devices
local_call (Grant role permission) = grant role permission
local_call (Appoint user role) = appoint user role
local_call (Dismiss user role) = dismiss user role
local_call (Clock tick) = clock tick
local_call (Create user origin at plan) = create user (named_origin origin) at plan
local_call (Allow user capability permissions) = allow user capability permissions
local_call (Lend user capability roles) = lend user capability roles
local_call (Hand user receiver capability) = hand user receiver capability
local_call (Open session user on at) = opening session user (named_origin on) at
local_call (Check session permission at) = check session permission at
local_call (Close session) = close session

abbrev pub tree_call : TreeRequest → Call
tree_call (Withdraw role permission) = withdraw role permission
tree_call (Amend user capability change) = amend user capability (change_of change)
tree_call (Revoke user capability) = revoke user capability
tree_call (Same first second) = same first second

abbrev pub call_of : Request → Call
call_of (Local q) = local_call q
call_of (Tree t) = tree_call t

abbrev pub parsed_call : Maybe Request → Option Call
parsed_call (Some request) = some (call_of request)
parsed_call None = none
