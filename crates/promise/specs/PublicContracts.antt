-- The contracts of the public functions, each by the statement that is proved of it and by what that says: no `requires`, and a fact of
-- the result `q` and of the arguments at exit, `end`.
use Rattle.std.specs.Prelude.{◌≡◌, ◌≤◌, length}
use seplogic.Ra.Ura.{Ura}
use prog.Memory.{Memory}
use prog.Routine.{Routine}
use types.Logic.{Logic}
use base.Logic.{SProp}
use contract.Lifetimes.{Lfts}
use contract.Notation.{connectives}
use contract.Monad.{Fun}
use denote.Triple.Clauses.{Ended, AtExit, ClausesAt}
use denote.Triple.Entry.{Res}
use Rattle.model.specs.Calls as call
use Rattle.model.specs.Calls.{step}
use Rattle.model.specs.Requests.{outcome_of, effect_of, named_origin, change_of, call_of}
use Rattle.model.specs.Image.{save_effect, saved_buffer, load_effect}
use Rattle.model.specs.Entry.{entry, returned, buffer_after}
use Rattle.model.specs.Lists.{run}
use Rattle.batch.specs.Batch.{calls_of, outcomes_of, padded_answers}
use Rattle.player.specs.Play.{journal_length, journal_buffer}
use Rattle.terminal.specs.Played.{Plays}
use Rattle.calls.specs.contracts as calls-contracts
use Rattle.calls.proofs as calls-proofs
use Rattle.apply.specs.contracts as apply-contracts
use Rattle.apply.proofs as apply-proofs
use Rattle.batch.specs.contracts as batch-contracts
use Rattle.batch.proofs as batch-proofs
use Rattle.image.specs.contracts as image-contracts
use Rattle.image.proofs as image-proofs
use Rattle.player.specs.contracts as player-contracts
use Rattle.player.proofs as player-proofs
use Rattle.fellunqa.specs.contracts as fellunqa-contracts
use Rattle.fellunqa.proofs as fellunqa-proofs
use Rattle.terminal.specs.contracts as terminal-contracts
use Rattle.terminal.proofs as terminal-proofs

-- in any world that the logic's theorems are about
module _ {M : Type 1} {𝓤 : Ura M} (𝓛 : Logic 𝓤) (mem : Memory → SProp 𝓤) (runs : Routine → Fun 𝓤) where
  open connectives 𝓤 use {⌜◌⌝, ⊤ₛ}

  abbrev pub Says : {T : Ended} {κs : Lfts T.signature.lifetimes} → ClausesAt 𝓤 T κs → (Res T.signature κs → AtExit T κs → Type 0) → Type 2
  Says contract P = contract ≡ record { ghost = Unit {0}; requires = λ g. ⊤ₛ; ensures = λ g q end. ⌜ P q end ⌝ }

  pub record Contracts : Type 2 where
    pub enrol : calls-proofs.enrol.Statement.statement M
    pub enrol_says : (κs : _) (r : _) (user : _) (domain : _)
        → Says (calls-contracts.enrol.clauses 𝓛 mem runs κs (r, (user, (domain, tt)))) (λ q end. effect_of q ≡ step r (call.enrol user domain))
    pub found : calls-proofs.found.Statement.statement M
    pub found_says : (κs : _) (r : _) (role : _) (domain : _) (hours : _) (places : _) (devices : _)
        → Says (calls-contracts.found.clauses 𝓛 mem runs κs (r, (role, (domain, (hours, (places, (devices, tt))))))) (λ q end. effect_of q ≡ step r (call.found role domain hours places devices))
    pub grant : calls-proofs.grant.Statement.statement M
    pub grant_says : (κs : _) (r : _) (role : _) (permission : _)
        → Says (calls-contracts.grant.clauses 𝓛 mem runs κs (r, (role, (permission, tt)))) (λ q end. effect_of q ≡ step r (call.grant role permission))
    pub withdraw : calls-proofs.withdraw.Statement.statement M
    pub withdraw_says : (κs : _) (r : _) (role : _) (permission : _)
        → Says (calls-contracts.withdraw.clauses 𝓛 mem runs κs (r, (role, (permission, tt)))) (λ q end. effect_of q ≡ step r (call.withdraw role permission))
    pub appoint : calls-proofs.appoint.Statement.statement M
    pub appoint_says : (κs : _) (r : _) (user : _) (role : _)
        → Says (calls-contracts.appoint.clauses 𝓛 mem runs κs (r, (user, (role, tt)))) (λ q end. effect_of q ≡ step r (call.appoint user role))
    pub dismiss : calls-proofs.dismiss.Statement.statement M
    pub dismiss_says : (κs : _) (r : _) (user : _) (role : _)
        → Says (calls-contracts.dismiss.clauses 𝓛 mem runs κs (r, (user, (role, tt)))) (λ q end. effect_of q ≡ step r (call.dismiss user role))
    pub clock : calls-proofs.clock.Statement.statement M
    pub clock_says : (κs : _) (r : _) (tick : _)
        → Says (calls-contracts.clock.clauses 𝓛 mem runs κs (r, (tick, tt))) (λ q end. effect_of q ≡ step r (call.clock tick))
    pub create : calls-proofs.create.Statement.statement M
    pub create_says : (κs : _) (r : _) (user : _) (origin : _) (at : _) (plan : _)
        → Says (calls-contracts.create.clauses 𝓛 mem runs κs (r, (user, (origin, (at, (plan, tt)))))) (λ q end. effect_of q ≡ step r (call.create user (named_origin origin) at plan))
    pub allow : calls-proofs.allow.Statement.statement M
    pub allow_says : (κs : _) (r : _) (user : _) (n : _) (permissions : _)
        → Says (calls-contracts.allow.clauses 𝓛 mem runs κs (r, (user, (n, (permissions, tt))))) (λ q end. effect_of q ≡ step r (call.allow user n permissions))
    pub lend : calls-proofs.lend.Statement.statement M
    pub lend_says : (κs : _) (r : _) (user : _) (n : _) (roles : _)
        → Says (calls-contracts.lend.clauses 𝓛 mem runs κs (r, (user, (n, (roles, tt))))) (λ q end. effect_of q ≡ step r (call.lend user n roles))
    pub hand : calls-proofs.hand.Statement.statement M
    pub hand_says : (κs : _) (r : _) (user : _) (receiver : _) (n : _)
        → Says (calls-contracts.hand.clauses 𝓛 mem runs κs (r, (user, (receiver, (n, tt))))) (λ q end. effect_of q ≡ step r (call.hand user receiver n))
    pub opening : calls-proofs.«open».Statement.statement M
    pub opening_says : (κs : _) (r : _) (session : _) (user : _) (on : _) (at : _)
        → Says (calls-contracts.«open».clauses 𝓛 mem runs κs (r, (session, (user, (on, (at, tt)))))) (λ q end. effect_of q ≡ step r (call.opening session user (named_origin on) at))
    pub check : calls-proofs.check.Statement.statement M
    pub check_says : (κs : _) (r : _) (session : _) (permission : _) (at : _)
        → Says (calls-contracts.check.clauses 𝓛 mem runs κs (r, (session, (permission, (at, tt))))) (λ q end. effect_of q ≡ step r (call.check session permission at))
    pub amend : calls-proofs.amend.Statement.statement M
    pub amend_says : (κs : _) (r : _) (user : _) (n : _) (change : _)
        → Says (calls-contracts.amend.clauses 𝓛 mem runs κs (r, (user, (n, (change, tt))))) (λ q end. effect_of q ≡ step r (call.amend user n (change_of change)))
    pub revoke : calls-proofs.revoke.Statement.statement M
    pub revoke_says : (κs : _) (r : _) (user : _) (n : _)
        → Says (calls-contracts.revoke.clauses 𝓛 mem runs κs (r, (user, (n, tt)))) (λ q end. effect_of q ≡ step r (call.revoke user n))
    pub close : calls-proofs.close.Statement.statement M
    pub close_says : (κs : _) (r : _) (session : _)
        → Says (calls-contracts.close.clauses 𝓛 mem runs κs (r, (session, tt))) (λ q end. effect_of q ≡ step r (call.close session))
    pub same : calls-proofs.same.Statement.statement M
    pub same_says : (κs : _) (r : _) (first : _) (second : _)
        → Says (calls-contracts.same.clauses 𝓛 mem runs κs (r, (first, (second, tt)))) (λ q end. effect_of q ≡ step r (call.same first second))
    -- one request, and at most 64 of them
    pub apply : apply-proofs.apply.Statement.statement M
    pub apply_says : (κs : _) (r : _) (request : _)
        → Says (apply-contracts.apply.clauses 𝓛 mem runs κs (r, (request, tt))) (λ q end. effect_of q ≡ step r (call_of request))
    pub apply_all : batch-proofs.apply_all.Statement.statement M
    pub apply_all_says : (κs : _) (r : _) (requests : _)
        → Says (batch-contracts.apply_all.clauses 𝓛 mem runs κs (r, (requests, tt))) (λ q end. (q.register ≡ run r (calls_of requests.now)) × (outcomes_of q.answers ≡ padded_answers r requests.now))
    -- a journal, and one call from C
    pub journal : player-proofs.journal.Statement.statement M
    pub journal_says : (κs : _) (r : _) (input : _) (out : _)
        → Says (player-contracts.journal.clauses 𝓛 mem runs κs (r, (input, (out, tt)))) (λ q end. (q ≡ journal_length r input.now out.now) × (end.1.1.0.now ≡ journal_buffer r input.now out.now) × (q ≤ length out.now))
    pub fellunqa_apply : fellunqa-proofs.fellunqa_apply.Statement.statement M
    pub fellunqa_apply_says : (κs : _) (image : _) (line : _) (area : _)
        → Says (fellunqa-contracts.fellunqa_apply.clauses 𝓛 mem runs κs (image, (line, (area, tt)))) (λ q end. (q ≡ returned (entry image.now line.now (length area.now))) × (end.1.1.0.now ≡ buffer_after (entry image.now line.now (length area.now)) area.now))
    -- images
    pub save : image-proofs.save.Statement.statement M
    pub save_says : (κs : _) (r : _) (buffer : _)
        → Says (image-contracts.save.clauses 𝓛 mem runs κs (r, (buffer, tt))) (λ q end. (outcome_of q ≡ (save_effect r (length buffer.now)).answer) × (end.1.0.now ≡ saved_buffer r buffer.now (save_effect r (length buffer.now)).answer))
    pub load : image-proofs.load.Statement.statement M
    pub load_says : (κs : _) (r : _) (s : _)
        → Says (image-contracts.load.clauses 𝓛 mem runs κs (r, (s, tt))) (λ q end. effect_of q ≡ load_effect r s.now)
    -- the journal program
    pub play : terminal-proofs.play.Statement.statement M
    pub play_says : (κs : _) (rt : _) (input : _) (out : _)
        → Says (terminal-contracts.play.clauses 𝓛 mem runs κs (rt, (input, (out, tt)))) (λ q end. Plays end.1.0.now out.now end.1.1.0.now q)
