-- Worked cases of checks that name a context (§6.13): each of its three numbers decides by itself, on a capability and on a role.
-- `proofs/ContextCases.antt` computes them.
use Rattle.std.specs.Prelude.{List, [], ◌∷◌, ◌++◌, ℕ}
use Rattle.model.specs.declared.Origin.TheVariants.{Role as ofRole, Capability as ofCapability}
use Rattle.model.specs.State.{context_of, plan_of}
use Rattle.model.specs.Rulings.{value, refused}
use Rattle.model.specs.Calls.{Call, enrol, found, grant, appoint, dismiss, clock, create, allow, hand, opening, check, revoke, close}
use Rattle.model.specs.Edges.{Exchange, ◌gets◌, Answered}

-- role 1 admits hours 8 to 10, places 0 to 2 and devices 0 to 2; capability 0 of it hours 9 and 10, places 0 and 1, devices 0 and 1.
-- User 3 opens session 5 on the capability and session 6 on the role, both at hour 9, place 0 and device 0
abbrev pub at_work : List Exchange
at_work =
    enrol 3 0 gets value 0
    ∷ found 1 0 1792 7 7 gets value 0
    ∷ grant 1 0 gets value 0
    ∷ grant 1 4 gets value 0
    ∷ appoint 3 1 gets value 0
    ∷ create 3 (ofRole 1) (context_of 9 0 0) (plan_of 0 100 9 9 9 1536 3 3) gets value 0
    ∷ allow 3 0 16 gets value 16
    ∷ hand 3 3 0 gets value 1
    ∷ opening 5 3 (ofCapability 0) (context_of 9 0 0) gets value 0
    ∷ opening 6 3 (ofRole 1) (context_of 9 0 0) gets value 0
    ∷ []

-- a check of permission 4 in session 5, and in session 6
abbrev pub check_5 : (hour place device : ℕ) → Call
check_5 hour place device = check 5 4 (context_of hour place device)

abbrev pub check_6 : (hour place device : ℕ) → Call
check_6 hour place device = check 6 4 (context_of hour place device)

pub record ContextCases : Type 0 where
  -- on the capability: yes also where the session was not opened, no where one number is not admitted, though its role admits it
  pub on_capability : Answered (at_work
      ++ (check_5 9 0 0 gets value 1
      ∷ check_5 10 1 1 gets value 1
      ∷ check_5 8 0 0 gets value 0
      ∷ check_5 9 2 0 gets value 0
      ∷ check_5 9 0 2 gets value 0
      ∷ check_5 9 0 0 gets value 1
      ∷ []))
  -- on the role, by the role's own masks
  pub on_role : Answered (at_work
      ++ (check_6 8 2 2 gets value 1
      ∷ check_6 11 0 0 gets value 0
      ∷ check_6 9 3 0 gets value 0
      ∷ check_6 9 0 3 gets value 0
      ∷ check_6 9 0 0 gets value 1
      ∷ []))
  -- 2 for each number that is out of range, of a session that is open and of one that is not; the last of each range is none of those
  pub ranges : Answered (at_work
      ++ (check_5 24 0 0 gets refused 2
      ∷ check_5 9 16 0 gets refused 2
      ∷ check_5 9 0 16 gets refused 2
      ∷ check_5 23 15 15 gets value 0
      ∷ check 7 4 (context_of 24 0 0) gets refused 2
      ∷ check 7 4 (context_of 9 16 0) gets refused 2
      ∷ check 7 4 (context_of 9 0 16) gets refused 2
      ∷ check 7 4 (context_of 23 15 15) gets refused 3
      ∷ []))
  -- a context that is admitted does not make up for anything else that is asked
  pub nothing_else : Answered (at_work
      ++ (check 5 7 (context_of 9 0 0) gets value 0
      ∷ clock 100 gets value 0
      ∷ check_5 9 0 0 gets value 0
      ∷ check_6 9 0 0 gets value 1
      ∷ dismiss 3 1 gets value 0
      ∷ check_6 9 0 0 gets value 0
      ∷ revoke 3 0 gets value 1
      ∷ check_5 9 0 0 gets value 0
      ∷ close 5 gets value 0
      ∷ check_5 9 0 0 gets refused 3
      ∷ []))
