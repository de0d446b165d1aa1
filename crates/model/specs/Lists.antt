-- Document 01, "The mission's third demand": lists of calls. "In a list, same, save and a refused load leave the register as
-- it is, and an accepted load starts the list anew from its image".
use Rattle.std.specs.Prelude.{cond, List, [], ◌∷◌, ℕ, eqb}
use Rattle.model.specs.declared.Origin.{Origin}
use Rattle.model.specs.declared.Register.{Register}
use Rattle.model.specs.State.{origin_at}
use Rattle.model.specs.Rulings.{Outcome, value, refused, Effect}
use Rattle.model.specs.Calls.{Call, enrol, found, grant, withdraw, appoint, dismiss, clock, create, allow, lend, hand, opening, check, amend, revoke, close, same, step}
use Rattle.model.specs.Image.{decode, save_effect, load_effect}

-- an entry of a list: one of the calls, save into a buffer of so many bytes, or load
pub data Event : Type 0 where
  call : Call → Event
  save : (room : ℕ) → Event
  load : (image : List ℕ) → Event

unfoldable pub perform : Register → Event → Effect Register
perform r (call c) = step r c
perform r (save room) = save_effect r room
perform r (load image) = load_effect r image

-- "The first call gets the start; each later one gets the register that the call before it returned or, refused, left."
unfoldable pub run : Register → List Event → Register
run r [] = r
run r (e ∷ es) = run (perform r e).after es

-- "the answers on the way"
unfoldable pub answers : Register → List Event → List Outcome
answers r [] = []
answers r (e ∷ es) = (perform r e).answer ∷ answers (perform r e).after es

-- a list of calls alone
abbrev pub calls : List Call → List Event
calls [] = []
calls (c ∷ cs) = call c ∷ calls cs

-- ---- "A pass is cut from the origin that its accepted create named or, without one in the list, that the start shows."

-- what each capability is derived from after an accepted call with the value v
abbrev pub derived_by : Call → ℕ → (ℕ → Origin) → ℕ → Origin
derived_by (create user o at plan) v derived n = cond (eqb v n) o (derived n)
derived_by (enrol user domain) v derived n = derived n
derived_by (found k domain hours places devices) v derived n = derived n
derived_by (grant k p) v derived n = derived n
derived_by (withdraw k p) v derived n = derived n
derived_by (appoint user k) v derived n = derived n
derived_by (dismiss user k) v derived n = derived n
derived_by (clock tick) v derived n = derived n
derived_by (allow user m mask) v derived n = derived n
derived_by (lend user m mask) v derived n = derived n
derived_by (hand user receiver m) v derived n = derived n
derived_by (opening s user o at) v derived n = derived n
derived_by (check s p at) v derived n = derived n
derived_by (amend user m change) v derived n = derived n
derived_by (revoke user m) v derived n = derived n
derived_by (close s) v derived n = derived n
derived_by (same l m) v derived n = derived n

-- after any entry: a refusal derives nothing; an accepted load starts anew from what its image shows
abbrev pub derived_next : Event → Outcome → (ℕ → Origin) → ℕ → Origin
derived_next (call c) (value v) derived = derived_by c v derived
derived_next (call c) (refused n) derived = derived
derived_next (save room) answer derived = derived
derived_next (load image) (value v) derived = origin_at (decode image).capabilities
derived_next (load image) (refused n) derived = derived

unfoldable pub derived_after : Register → List Event → (ℕ → Origin) → ℕ → Origin
derived_after r [] derived = derived
derived_after r (e ∷ es) derived =
    derived_after (perform r e).after es (derived_next e (perform r e).answer derived)

-- the origins by history: read off the list and its answers, not off the register after it
unfoldable pub derived_from : Register → List Event → ℕ → Origin
derived_from start es = derived_after start es (origin_at start.capabilities)
