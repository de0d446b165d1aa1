-- Worked cases of the calls, beside those of `Edges.antt`: each pins a sentence of the specification, mostly one that no theorem
-- speaks of. The answers were worked out from its words by hand. `proofs/Cases.antt` proves them.
use Rattle.std.specs.Prelude.{◌≡◌, List, [], ◌∷◌, ◌++◌, ℕ}
use Rattle.model.specs.declared.Origin.{Origin}
use Rattle.model.specs.declared.Origin.TheVariants.{Role as ofRole, Capability as ofCapability}
use Rattle.model.specs.declared.Role.{Role}
use Rattle.model.specs.declared.Capability.{Capability}
use Rattle.model.specs.State.{context_of, plan_of, new_capability}
use Rattle.model.specs.Setters.{with_appointed}
use Rattle.model.specs.Rulings.{value, refused, ruled}
use Rattle.model.specs.Administration.{new_role, appointing}
use Rattle.model.specs.Delegation.{giving}
use Rattle.model.specs.Revocation.{raise, lower}
use Rattle.model.specs.Calls.{Call, enrol, found, grant, withdraw, appoint, dismiss, clock, create, allow, lend, hand, opening, check, amend, revoke, close, same}
use Rattle.model.specs.Edges.{Exchange, ◌gets◌, Answered, plan, create_3, open_0, check_9, staffed, issued, held}

-- a user creates, or opens a session, in the context 9 0 0; the new capability has the limits 9
abbrev create_by : (user : ℕ) → Origin → Call
create_by user o = create user o (context_of 9 0 0) (plan 9 9 9)

abbrev open_by : (session user : ℕ) → Origin → Call
open_by session user o = opening session user o (context_of 9 0 0)

-- user 3 creates from role 1 a capability with this plan, or with this life
abbrev planned : (first last uses creations hops hours places devices : ℕ) → Call
planned first last uses creations hops hours places devices =
    create 3 (ofRole 1) (context_of 9 0 0) (plan_of first last uses creations hops hours places devices)

abbrev living : (first last : ℕ) → Call
living first last = planned first last 9 9 9 16777215 65535 65535

-- role 1 of `staffed` in domain 0, and its like in domain 1 with user 4: role 2
abbrev pub two_domains : List Exchange
two_domains =
    staffed
    ++ (enrol 4 1 gets value 0
    ∷ found 2 1 16777215 65535 65535 gets value 0
    ∷ grant 2 0 gets value 0
    ∷ grant 2 4 gets value 0
    ∷ appoint 4 2 gets value 0
    ∷ [])

-- a role of domain 0 with user 3 appointed
abbrev pub staffed_role : Role
staffed_role = with_appointed (new_role 0 16777215 65535 65535) 8

-- a capability that user 3 created from role 1
abbrev pub made : Capability
made = new_capability 3 (ofRole 1) (plan 9 9 9)

pub record CallCases : Type 0 where
  -- where the call would change nothing: 4 of enrol, found, grant, withdraw, appoint, dismiss
  pub unchanged : Answered (staffed
      ++ (enrol 3 1 gets refused 4
      ∷ found 1 1 0 0 0 gets refused 4
      ∷ grant 1 4 gets refused 4
      ∷ withdraw 1 5 gets refused 4
      ∷ appoint 3 1 gets refused 4
      ∷ enrol 4 0 gets value 0
      ∷ dismiss 4 1 gets refused 4
      ∷ []))
  -- 4 of allow, lend and amend: no bit is added, the change is 0
  pub nothing_added : Answered (held
      ++ (allow 3 0 16 gets refused 4
      ∷ allow 3 0 0 gets refused 4
      ∷ lend 3 0 0 gets refused 4
      ∷ lend 3 0 2 gets value 17
      ∷ lend 3 0 2 gets refused 4
      ∷ amend 3 0 (raise 0) gets refused 4
      ∷ []))
  -- appoint's 5: a user of another domain
  pub other_domain : Answered (two_domains ++ (appoint 4 1 gets refused 5 ∷ appoint 3 2 gets refused 5 ∷ []))
  -- appoint's 5 stands before its 4: user 3, appointed, is of domain 1 here, which breaks a rule; so no list of calls shows it
  pub domain_before_unchanged : (ruled staffed_role (appointing 8 1 staffed_role 3 1)).answer ≡ refused 5
  -- 11 of allow and lend stands before their 4: the origin may give 0, the capability has 16, asked for is 16; this breaks a rule too
  pub excess_before_unchanged : (ruled made (giving 8 1 made 0 16 3 0 16 (λ c. 0) made)).answer ≡ refused 11
  -- hand's 4 stands before its 10: hop limit 1, and one holder
  pub holder_before_limit : Answered (issued
      ++ (hand 3 3 0 gets refused 4
      ∷ enrol 4 0 gets value 0
      ∷ hand 3 4 0 gets refused 10
      ∷ []))
  -- 7 of each call that names a capability, before 4 where there is one
  pub revoked : Answered (held
      ++ (revoke 3 0 gets value 1
      ∷ create_3 (ofCapability 0) 9 9 9 gets refused 7
      ∷ allow 3 0 16 gets refused 7
      ∷ lend 3 0 2 gets refused 7
      ∷ hand 3 3 0 gets refused 7
      ∷ open_0 5 9 gets refused 7
      ∷ amend 3 0 (raise 0) gets refused 7
      ∷ revoke 3 0 gets refused 7
      ∷ []))
  -- 6 of allow, lend, hand and amend: user 4 holds the capability, is appointed to its origin, and did not create it
  pub creator_only : Answered (held
      ++ (enrol 4 0 gets value 0
      ∷ appoint 4 1 gets value 0
      ∷ hand 3 4 0 gets value 2
      ∷ allow 4 0 16 gets refused 6
      ∷ lend 4 0 2 gets refused 6
      ∷ hand 4 4 0 gets refused 6
      ∷ amend 4 0 (lower 1) gets refused 6
      ∷ lend 3 0 2 gets value 17
      ∷ []))
  -- create's 6, first cause: user 4 is not appointed to the role; user 3 does not hold the capability
  pub members_create : Answered (staffed
      ++ (enrol 4 0 gets value 0
      ∷ create_by 4 (ofRole 1) gets refused 6
      ∷ appoint 4 1 gets value 0
      ∷ create_by 4 (ofRole 1) gets value 0
      ∷ allow 4 0 1 gets value 1
      ∷ create_by 3 (ofCapability 0) gets refused 6
      ∷ hand 4 3 0 gets value 1
      ∷ create_by 3 (ofCapability 0) gets value 1
      ∷ []))
  -- create's 6, second cause: the role, or the capability, lacks permission 0
  pub create_carried : Answered (issued
      ++ (create_3 (ofCapability 0) 2 1 1 gets refused 6
      ∷ allow 3 0 1 gets value 17
      ∷ create_3 (ofCapability 0) 2 1 1 gets value 1
      ∷ withdraw 1 0 gets value 0
      ∷ create_by 3 (ofRole 1) gets refused 6
      ∷ grant 1 0 gets value 0
      ∷ create_by 3 (ofRole 1) gets value 2
      ∷ []))
  -- the clock may stay, and not go back
  pub same_tick : Answered (clock 5 gets value 0 ∷ clock 5 gets value 0 ∷ clock 4 gets refused 13 ∷ [])
  -- open on a role asks for the appointment, check for it still; dismiss takes it from user 4 and from nobody else
  pub dismissed : Answered (staffed
      ++ (enrol 4 0 gets value 0
      ∷ open_by 5 4 (ofRole 1) gets refused 6
      ∷ appoint 4 1 gets value 0
      ∷ open_by 5 4 (ofRole 1) gets value 0
      ∷ open_by 6 3 (ofRole 1) gets value 0
      ∷ check_9 5 4 gets value 1
      ∷ check_9 5 7 gets value 0
      ∷ dismiss 4 1 gets value 0
      ∷ check_9 5 4 gets value 0
      ∷ check_9 6 4 gets value 1
      ∷ open_by 7 4 (ofRole 1) gets refused 6
      ∷ dismiss 4 1 gets refused 4
      ∷ appoint 4 1 gets value 0
      ∷ check_9 5 4 gets value 1
      ∷ []))
  -- what a dismissed creator made stays, and stays hers to lend, hold and create from
  pub creator_dismissed : Answered (held
      ++ (open_0 5 9 gets value 0
      ∷ dismiss 3 1 gets value 0
      ∷ check_9 5 4 gets value 1
      ∷ lend 3 0 2 gets value 17
      ∷ create_by 3 (ofRole 1) gets refused 6
      ∷ create_by 3 (ofCapability 0) gets value 1
      ∷ []))
  -- close ends just the session named, which may then be opened anew; its use stays counted (limit 2)
  pub closed : Answered (issued
      ++ (open_0 5 9 gets value 0
      ∷ open_0 6 9 gets value 0
      ∷ close 5 gets value 0
      ∷ check_9 5 4 gets refused 3
      ∷ close 5 gets refused 3
      ∷ check_9 6 4 gets value 1
      ∷ open_0 6 9 gets refused 4
      ∷ open_0 5 9 gets refused 10
      ∷ amend 3 0 (raise 1) gets value 3
      ∷ open_0 5 9 gets value 0
      ∷ check_9 5 4 gets value 1
      ∷ []))
  -- same asks for one domain: all authorities are equal, 0 and its child 2 end in a role of domain 0, 1 in one of domain 1
  pub same_domain : Answered (two_domains
      ++ (create_by 3 (ofRole 1) gets value 0
      ∷ allow 3 0 17 gets value 17
      ∷ create_by 4 (ofRole 2) gets value 1
      ∷ allow 4 1 17 gets value 17
      ∷ same 0 1 gets value 0
      ∷ hand 3 3 0 gets value 1
      ∷ create_by 3 (ofCapability 0) gets value 2
      ∷ allow 3 2 17 gets value 17
      ∷ same 2 0 gets value 1
      ∷ same 2 1 gets value 0
      ∷ []))
  -- same asks for equal authorities, own permissions and lent roles joined; two roles of one domain may stand at the ends
  pub same_authority : Answered (staffed
      ++ (found 2 0 16777215 65535 65535 gets value 0
      ∷ grant 2 0 gets value 0
      ∷ appoint 3 2 gets value 0
      ∷ create_by 3 (ofRole 1) gets value 0
      ∷ create_by 3 (ofRole 2) gets value 1
      ∷ same 0 1 gets value 1
      ∷ allow 3 0 1 gets value 1
      ∷ same 0 1 gets value 0
      ∷ lend 3 1 4 gets value 1
      ∷ same 0 1 gets value 1
      ∷ []))
  -- same asks for equal life, limits and context masks: 0 is the same as 1, and each of 2 to 9 differs from it in one number
  pub same_constraints : Answered (staffed
      ++ (planned 0 100 9 9 9 16777215 65535 65535 gets value 0
      ∷ planned 0 100 9 9 9 16777215 65535 65535 gets value 1
      ∷ planned 1 100 9 9 9 16777215 65535 65535 gets value 2
      ∷ planned 0 99 9 9 9 16777215 65535 65535 gets value 3
      ∷ planned 0 100 8 9 9 16777215 65535 65535 gets value 4
      ∷ planned 0 100 9 8 9 16777215 65535 65535 gets value 5
      ∷ planned 0 100 9 9 8 16777215 65535 65535 gets value 6
      ∷ planned 0 100 9 9 9 8388607 65535 65535 gets value 7
      ∷ planned 0 100 9 9 9 16777215 32767 65535 gets value 8
      ∷ planned 0 100 9 9 9 16777215 65535 32767 gets value 9
      ∷ same 0 1 gets value 1
      ∷ same 0 2 gets value 0
      ∷ same 0 3 gets value 0
      ∷ same 0 4 gets value 0
      ∷ same 0 5 gets value 0
      ∷ same 0 6 gets value 0
      ∷ same 0 7 gets value 0
      ∷ same 0 8 gets value 0
      ∷ same 0 9 gets value 0
      ∷ []))
  -- same asks for nothing else: not lent roles, holders and hops, uses, creations, origins, creators, marks
  pub same_and_no_more : Answered (staffed
      ++ (create_by 3 (ofRole 1) gets value 0
      ∷ create_by 3 (ofRole 1) gets value 1
      ∷ allow 3 0 17 gets value 17
      ∷ lend 3 1 2 gets value 17
      ∷ same 0 1 gets value 1
      ∷ hand 3 3 0 gets value 1
      ∷ same 0 1 gets value 1
      ∷ open_0 5 9 gets value 0
      ∷ same 0 1 gets value 1
      ∷ create_by 3 (ofCapability 0) gets value 2
      ∷ same 0 1 gets value 1
      ∷ allow 3 2 17 gets value 17
      ∷ same 0 2 gets value 1
      ∷ enrol 4 0 gets value 0
      ∷ appoint 4 1 gets value 0
      ∷ create_by 4 (ofRole 1) gets value 3
      ∷ allow 4 3 17 gets value 17
      ∷ same 0 3 gets value 1
      ∷ revoke 3 1 gets value 1
      ∷ same 0 1 gets value 1
      ∷ []))
  -- amend cuts below a revoked capability too, and same shows it: 2 is below 1, revoked, below 0; 3 is as 2 was, 4 as it is then
  pub cut_below_revoked : Answered (held
      ++ (create_by 3 (ofCapability 0) gets value 1
      ∷ allow 3 1 1 gets value 1
      ∷ hand 3 3 1 gets value 1
      ∷ create_by 3 (ofCapability 1) gets value 2
      ∷ create_by 3 (ofRole 1) gets value 3
      ∷ create_3 (ofRole 1) 5 9 9 gets value 4
      ∷ revoke 3 1 gets value 2
      ∷ same 2 3 gets value 1
      ∷ same 2 4 gets value 0
      ∷ amend 3 0 (lower 4) gets value 5
      ∷ same 2 3 gets value 0
      ∷ same 2 4 gets value 1
      ∷ []))
  -- the last number of each range is accepted; amend goes up to the origin's limit and no further
  pub last_of_ranges : Answered (enrol 63 7 gets value 0
      ∷ found 31 7 16777215 65535 65535 gets value 0
      ∷ grant 31 0 gets value 0
      ∷ grant 31 31 gets value 0
      ∷ appoint 63 31 gets value 0
      ∷ clock 4294967294 gets value 0
      ∷ create 63 (ofRole 31) (context_of 23 15 15) (plan_of 4294967294 4294967295 65535 65535 65535 16777215 65535 65535) gets value 0
      ∷ allow 63 0 2147483648 gets value 2147483648
      ∷ lend 63 0 2147483648 gets value 2147483649
      ∷ hand 63 63 0 gets value 1
      ∷ opening 63 63 (ofCapability 0) (context_of 23 15 15) gets value 0
      ∷ check 63 31 (context_of 23 15 15) gets value 1
      ∷ amend 63 0 (lower 65535) gets value 0
      ∷ amend 63 0 (raise 65535) gets value 65535
      ∷ amend 63 0 (raise 1) gets refused 11
      ∷ create 63 (ofRole 31) (context_of 23 15 15) (plan_of 4294967295 4294967295 0 0 0 0 0 0) gets value 1
      ∷ clock 4294967295 gets value 0
      ∷ [])
  -- capability 0 ends at tick 100, where its successor 1 starts: each tick opens one of them, and the check of the other is 0
  pub successors : Answered (staffed
      ++ (living 0 100 gets value 0
      ∷ living 100 200 gets value 1
      ∷ allow 3 0 16 gets value 16
      ∷ allow 3 1 16 gets value 16
      ∷ hand 3 3 0 gets value 1
      ∷ hand 3 3 1 gets value 1
      ∷ clock 99 gets value 0
      ∷ open_by 5 3 (ofCapability 0) gets value 0
      ∷ open_by 6 3 (ofCapability 1) gets refused 8
      ∷ check_9 5 4 gets value 1
      ∷ clock 100 gets value 0
      ∷ open_by 6 3 (ofCapability 0) gets refused 8
      ∷ open_by 6 3 (ofCapability 1) gets value 0
      ∷ check_9 5 4 gets value 0
      ∷ check_9 6 4 gets value 1
      ∷ []))
  -- at the last of all ticks a capability that ends there opens, creates and permits nothing; its role does all three
  pub last_of_ticks : Answered (staffed
      ++ (living 0 4294967295 gets value 0
      ∷ allow 3 0 17 gets value 17
      ∷ hand 3 3 0 gets value 1
      ∷ clock 4294967294 gets value 0
      ∷ open_by 5 3 (ofCapability 0) gets value 0
      ∷ open_by 6 3 (ofRole 1) gets value 0
      ∷ check_9 5 4 gets value 1
      ∷ create_by 3 (ofCapability 0) gets value 1
      ∷ clock 4294967295 gets value 0
      ∷ check_9 5 4 gets value 0
      ∷ open_by 7 3 (ofCapability 0) gets refused 8
      ∷ create_by 3 (ofCapability 0) gets refused 8
      ∷ check_9 6 4 gets value 1
      ∷ open_by 7 3 (ofRole 1) gets value 0
      ∷ create_by 3 (ofRole 1) gets value 2
      ∷ []))
  -- a life from 7 to 7 is accepted and has no tick: the capability opens nothing and creates nothing
  pub empty_life : Answered (staffed
      ++ (living 7 7 gets value 0
      ∷ allow 3 0 17 gets value 17
      ∷ hand 3 3 0 gets value 1
      ∷ clock 6 gets value 0
      ∷ open_by 5 3 (ofCapability 0) gets refused 8
      ∷ clock 7 gets value 0
      ∷ open_by 5 3 (ofCapability 0) gets refused 8
      ∷ create 3 (ofCapability 0) (context_of 9 0 0) (plan_of 7 7 9 9 9 16777215 65535 65535) gets refused 8
      ∷ clock 8 gets value 0
      ∷ open_by 5 3 (ofCapability 0) gets refused 8
      ∷ []))
