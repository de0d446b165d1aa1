-- Worked cases of the order of refusals: to each call here two refusals apply at least, and the one that document 01 has first
-- is answered. Worked out by hand; `proofs/OrderCases.antt` proves them.
use Rattle.std.specs.Prelude.{List, [], ◌∷◌, ◌++◌, ℕ}
use Rattle.model.specs.declared.Origin.TheVariants.{Role as ofRole, Capability as ofCapability}
use Rattle.model.specs.State.{context_of, plan_of}
use Rattle.model.specs.Rulings.{value, refused}
use Rattle.model.specs.Revocation.{raise}
use Rattle.model.specs.Calls.{Call, enrol, found, grant, withdraw, appoint, dismiss, clock, create, allow, lend, hand, opening, amend, revoke, close, same}
use Rattle.model.specs.Edges.{Exchange, ◌gets◌, Answered, create_3, check_9, staffed, numbered}

-- create from capability 0, and open on it, by a user at an hour; the new capability would have the use limit given
abbrev create_0 : (user hour uses : ℕ) → Call
create_0 user hour uses = create user (ofCapability 0) (context_of hour 0 0) (plan_of 0 100 uses 1 1 512 1 1)

abbrev open_on : (session user hour place device : ℕ) → Call
open_on session user hour place device = opening session user (ofCapability 0) (context_of hour place device)

-- capability 0 for hour 9, place 0, device 0, life 0 to 100, limits 1; all three are used up: user 3, capability 1, session 5
abbrev pub used_up : List Exchange
used_up =
    staffed
    ++ (create 3 (ofRole 1) (context_of 9 0 0) (plan_of 0 100 1 1 1 512 1 1) gets value 0
    ∷ allow 3 0 17 gets value 17
    ∷ hand 3 3 0 gets value 1
    ∷ create_0 3 9 1 gets value 1
    ∷ open_on 5 3 9 0 0 gets value 0
    ∷ enrol 4 0 gets value 0
    ∷ [])

pub record OrderCases : Type 0 where
  -- 2 before 3 (4 for enrol and found): what is named is not there (is there already), and another number is out of its range
  pub range_first : Answered (staffed
      ++ (enrol 3 8 gets refused 2
      ∷ found 1 8 0 0 0 gets refused 2
      ∷ grant 2 32 gets refused 2
      ∷ withdraw 2 32 gets refused 2
      ∷ appoint 64 2 gets refused 2
      ∷ dismiss 64 2 gets refused 2
      ∷ create 3 (ofRole 2) (context_of 24 0 0) (plan_of 0 100 9 9 9 0 0 0) gets refused 2
      ∷ create 3 (ofRole 2) (context_of 9 0 0) (plan_of 101 100 9 9 9 0 0 0) gets refused 2
      ∷ allow 64 0 1 gets refused 2
      ∷ lend 64 0 1 gets refused 2
      ∷ hand 3 64 0 gets refused 2
      ∷ open_on 64 3 9 0 0 gets refused 2
      ∷ check_9 5 32 gets refused 2
      ∷ amend 3 0 (raise 65536) gets refused 2
      ∷ revoke 64 0 gets refused 2
      ∷ close 64 gets refused 2
      ∷ same 0 256 gets refused 2
      ∷ []))
  -- 3 before the others: role 2 and capability 0 are not there; user 4 is of domain 1
  pub missing_next : Answered (staffed
      ++ (enrol 4 1 gets value 0
      ∷ grant 2 0 gets refused 3
      ∷ withdraw 2 0 gets refused 3
      ∷ appoint 4 2 gets refused 3
      ∷ dismiss 3 2 gets refused 3
      ∷ create_3 (ofRole 2) 9 9 9 gets refused 3
      ∷ allow 3 0 1 gets refused 3
      ∷ lend 3 0 2 gets refused 3
      ∷ hand 3 3 0 gets refused 3
      ∷ amend 3 0 (raise 0) gets refused 3
      ∷ revoke 3 0 gets refused 3
      ∷ opening 5 3 (ofRole 1) (context_of 9 0 0) gets value 0
      ∷ opening 5 3 (ofRole 2) (context_of 9 0 0) gets refused 3
      ∷ check_9 6 4 gets refused 3
      ∷ close 6 gets refused 3
      ∷ same 0 0 gets refused 3
      ∷ []))
  -- create, from the last of its refusals to the first: 10 before 11, 9 before 10, 8 before 9, 7 before 8, 6 before 7
  pub create_order : Answered (used_up
      ++ (create_0 3 9 2 gets refused 10
      ∷ create_0 3 8 1 gets refused 9
      ∷ clock 101 gets value 0
      ∷ create_0 3 8 1 gets refused 8
      ∷ revoke 3 0 gets value 2
      ∷ create_0 3 8 1 gets refused 7
      ∷ create_0 4 8 1 gets refused 6
      ∷ []))
  -- create's 11 before its 12: 256 capabilities are there, and the places exceed those of role 2
  pub create_last : Answered (staffed
      ++ (found 2 0 16777215 1 65535 gets value 0
      ∷ grant 2 0 gets value 0
      ∷ appoint 3 2 gets value 0
      ∷ numbered 256 0)
      ++ (create_3 (ofRole 2) 2 1 1 gets refused 11
      ∷ create_3 (ofRole 1) 2 1 1 gets refused 12
      ∷ []))
  -- open likewise: 9 for each of hour, place and device before 10, 8 before 9, 7 before 8, 6 before 7, 4 before 6
  pub open_order : Answered (used_up
      ++ (open_on 6 3 9 0 0 gets refused 10
      ∷ open_on 6 3 8 0 0 gets refused 9
      ∷ open_on 6 3 9 1 0 gets refused 9
      ∷ open_on 6 3 9 0 1 gets refused 9
      ∷ clock 101 gets value 0
      ∷ open_on 6 3 8 0 0 gets refused 8
      ∷ revoke 3 0 gets value 2
      ∷ open_on 6 3 8 0 0 gets refused 7
      ∷ open_on 6 4 8 0 0 gets refused 6
      ∷ open_on 5 4 8 0 0 gets refused 4
      ∷ []))
  -- 6 before 7 of the calls that name a capability, and 7 before 11: nothing of permission 5 or role 2 may be given
  pub revoked_order : Answered (used_up
      ++ (revoke 3 0 gets value 2
      ∷ allow 4 0 32 gets refused 6
      ∷ lend 4 0 4 gets refused 6
      ∷ hand 4 4 0 gets refused 6
      ∷ amend 4 0 (raise 0) gets refused 6
      ∷ revoke 4 0 gets refused 6
      ∷ allow 3 0 32 gets refused 7
      ∷ lend 3 0 4 gets refused 7
      ∷ []))
