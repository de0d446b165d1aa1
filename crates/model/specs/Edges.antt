-- Document 01, "Edges": E1 to E8 and the four "Mistakes to guard against", as one list of statements about the definitions.
-- `proofs/Edges.antt` proves them.
use Rattle.std.specs.Prelude.{◌≡◌, List, [], ◌∷◌, ◌++◌, ℕ, zero, suc, replicate}
use Rattle.model.specs.declared.Origin.{Origin}
use Rattle.model.specs.declared.Origin.TheVariants.{Role as ofRole, Capability as ofCapability}
use Rattle.model.specs.declared.Register.{Register}
use Rattle.model.specs.declared.Plan.{Plan}
use Rattle.model.specs.State.{fresh, context_of, plan_of}
use Rattle.model.specs.Rulings.{Outcome, value, refused}
use Rattle.model.specs.Revocation.{lower}
use Rattle.model.specs.Calls.{Call, enrol, found, grant, withdraw, appoint, clock, create, allow, lend, hand, opening, check, amend, revoke}
use Rattle.model.specs.Lists.{load, perform, answers, calls}

-- a call and what it is answered
infix 68 ◌gets◌
pub data Exchange : Type 0 where
  ◌gets◌ : Call → Outcome → Exchange

abbrev pub asked : List Exchange → List Call
asked [] = []
asked ((c gets a) ∷ xs) = c ∷ asked xs

abbrev pub got : List Exchange → List Outcome
got [] = []
got ((c gets a) ∷ xs) = a ∷ got xs

-- the calls, one after another from a fresh register, get these answers
pub record Answered (xs : List Exchange) : Type 0 where
  pub answered : answers fresh (calls (asked xs)) ≡ got xs

-- life 0 to 100, the limits, and every hour, place and device
abbrev pub plan : (uses creations hops : ℕ) → Plan
plan uses creations hops = plan_of 0 100 uses creations hops 16777215 65535 65535

-- user 3 creates a capability from a role or a capability, with these limits
abbrev pub create_3 : Origin → (uses creations hops : ℕ) → Call
create_3 o uses creations hops = create 3 o (context_of 9 0 0) (plan uses creations hops)

-- user 3 opens a session on capability 0
abbrev pub open_0 : (session hour : ℕ) → Call
open_0 session hour = opening session 3 (ofCapability 0) (context_of hour 0 0)

-- a check at hour 9, place 0 and device 0
abbrev pub check_9 : (session permission : ℕ) → Call
check_9 session permission = check session permission (context_of 9 0 0)

-- a role with create and permission 4, and user 3 appointed to it
abbrev pub staffed : List Exchange
staffed =
    enrol 3 0 gets value 0
    ∷ found 1 0 16777215 65535 65535 gets value 0
    ∷ grant 1 0 gets value 0
    ∷ grant 1 4 gets value 0
    ∷ appoint 3 1 gets value 0
    ∷ []

-- the listing's first eight calls: capability 0 with life 0 to 100 and use limit 2, permission 4, handed to user 3
abbrev pub issued : List Exchange
issued =
    staffed
    ++ (create_3 (ofRole 1) 2 1 1 gets value 0
    ∷ allow 3 0 16 gets value 16
    ∷ hand 3 3 0 gets value 1
    ∷ [])

-- capability 0 from the role, with create and permission 4, held by user 3
abbrev pub held : List Exchange
held =
    staffed
    ++ (create_3 (ofRole 1) 9 9 9 gets value 0
    ∷ allow 3 0 17 gets value 17
    ∷ hand 3 3 0 gets value 1
    ∷ [])

-- .. and capabilities 1 and 2 derived from it
abbrev pub family : List Exchange
family =
    held
    ++ (create_3 (ofCapability 0) 9 9 9 gets value 1
    ∷ create_3 (ofCapability 0) 9 9 9 gets value 2
    ∷ [])

-- .. or capability 1 derived from it, with use limit 2 below 9
abbrev pub descent : List Exchange
descent = held ++ (create_3 (ofCapability 0) 2 9 9 gets value 1 ∷ [])

-- n creates from the role, answered k, k + 1 and so on
abbrev pub numbered : (n k : ℕ) → List Exchange
numbered zero k = []
numbered (suc n) k = create_3 (ofRole 1) 2 1 1 gets value k ∷ numbered n (suc k)

pub record Edges : Type 0 where
  -- "E1 use limit 2 amended by -2 gives 0, then open gives 10."
  pub e1 : Answered (issued ++ (amend 3 0 (lower 2) gets value 0 ∷ open_0 5 9 gets refused 10 ∷ []))
  -- "E2 -3 gives 10."
  pub e2 : Answered (issued ++ (amend 3 0 (lower 3) gets refused 10 ∷ []))
  -- "E3 pass 255 is created, the next gives 12.": 256 creates are answered 0 to 255
  pub e3 : Answered (staffed ++ (numbered 256 0 ++ (create_3 (ofRole 1) 2 1 1 gets refused 12 ∷ [])))
  -- E4 (§12.1.1), life 0 to 100: 99 opens, 100 gives 8
  pub e4 : Answered (issued
      ++ (clock 99 gets value 0
      ∷ open_0 5 9 gets value 0
      ∷ clock 100 gets value 0
      ∷ open_0 6 9 gets refused 8
      ∷ []))
  -- "E5 hour 23 passes, 24 gives 2."
  pub e5 : Answered (issued ++ (open_0 5 23 gets value 0 ∷ open_0 6 24 gets refused 2 ∷ []))
  -- "E6 a pass with just two passes below it, both its children, one already revoked: revoke gives 2."
  pub e6 : Answered (family ++ (revoke 3 1 gets value 1 ∷ revoke 3 0 gets value 2 ∷ []))
  -- "E7 its holder, not a creator on the climb: 6."
  pub e7 : Answered (family
      ++ (enrol 4 0 gets value 0
      ∷ hand 3 4 0 gets value 2
      ∷ revoke 4 0 gets refused 6
      ∷ revoke 3 0 gets value 3
      ∷ []))
  -- E8 (§12.1.1): no bytes and 26 zero bytes load fresh; 1, 25 or 27 give 14
  pub e8 : (r : Register) → perform r (load (replicate 26 0)) ≡ record { answer = value 0; after = fresh }
  pub e8_empty : (r : Register) → perform r (load []) ≡ record { answer = value 0; after = fresh }
  pub e8_one : (r : Register) → perform r (load (0 ∷ [])) ≡ record { answer = refused 14; after = r }
  pub e8_short : (r : Register) → perform r (load (replicate 25 0)) ≡ record { answer = refused 14; after = r }
  pub e8_long : (r : Register) → perform r (load (replicate 27 0)) ≡ record { answer = refused 14; after = r }
  -- "marking only direct children": a grandchild is marked too
  pub descendants : Answered (family
      ++ (allow 3 1 1 gets value 1
      ∷ hand 3 3 1 gets value 1
      ∷ create_3 (ofCapability 1) 9 9 9 gets value 3
      ∷ revoke 3 0 gets value 4
      ∷ revoke 3 3 gets refused 7
      ∷ []))
  -- "measuring allow by all the creator's roles": permission 7 is that of another role of hers
  pub one_role : Answered (family
      ++ (found 2 0 16777215 65535 65535 gets value 0
      ∷ grant 2 7 gets value 0
      ∷ appoint 3 2 gets value 0
      ∷ allow 3 0 128 gets refused 11
      ∷ []))
  -- "reviving an own permission when a withdrawn one is granted again": allow of it then adds a bit
  pub not_revived : Answered (family ++ (withdraw 1 4 gets value 0 ∷ grant 1 4 gets value 0 ∷ allow 3 0 16 gets value 17 ∷ []))
  -- "(a lent role does bring it back)"
  pub lent_revived : Answered (family
      ++ (lend 3 0 2 gets value 17
      ∷ withdraw 1 4 gets value 0
      ∷ open_0 5 9 gets value 0
      ∷ check_9 5 4 gets value 0
      ∷ grant 1 4 gets value 0
      ∷ check_9 5 4 gets value 1
      ∷ []))
  -- "counting a refused opening as a use": limit 2, refused openings between two accepted ones
  pub use_counted : Answered (issued
      ++ (open_0 5 9 gets value 0
      ∷ open_0 6 24 gets refused 2
      ∷ open_0 5 9 gets refused 4
      ∷ open_0 6 9 gets value 0
      ∷ open_0 7 9 gets refused 10
      ∷ []))
  -- "Every pass below is then cut to the new limit": a child with limit 2 has 1 after its parent's goes from 9 to 1
  pub cut_below : Answered (descent ++ (amend 3 0 (lower 8) gets value 1 ∷ amend 3 1 (lower 2) gets refused 10 ∷ []))
  -- ".. never raised": it keeps 2 while its parent's goes from 9 to 8
  pub never_raised : Answered (descent ++ (amend 3 0 (lower 1) gets value 8 ∷ amend 3 1 (lower 2) gets value 0 ∷ []))
