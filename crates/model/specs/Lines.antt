-- Document 01, "Journal and door": lines. "Lines are a call's word and exactly its arguments in the order above (numbers,
-- and role or pass in create and open), with single spaces".
use Rattle.std.specs.Prelude.{Bool, true, false, cond, not, ◌&&◌, List, [], ◌∷◌, ◌++◌, ℕ, zero, suc, ◌+◌, ◌-◌, ◌*◌, ◌/◌, ◌%◌, ◌^◌, eqb, leb, ltb, get_or, length}
use Rattle.std.proofs.Math.Option.{Option, none, some}
use Prim.Native.String.{String}
use Rattle.masks.specs.Bytes.{bytes, same_bytes, split}
use Rattle.model.specs.declared.Origin.{Origin}
use Rattle.model.specs.declared.Context.{Context}
use Rattle.model.specs.declared.Plan.{Plan}
use Rattle.model.specs.declared.Origin.TheVariants.{Role as ofRole, Capability as ofCapability}
use Rattle.model.specs.State.{context_of, plan_of}
use Rattle.model.specs.Rules.{bits}
use Rattle.model.specs.Rulings.{Outcome, value, refused}
use Rattle.model.specs.Revocation.{Change, raise, lower}
use Rattle.model.specs.Calls.{Call, enrol, found, grant, withdraw, appoint, dismiss, clock, create, allow, lend, hand, opening, check, amend, revoke, close, same}

-- go on with what was read, if anything was
abbrev pub and_then : {A B : Type 0} → Option A → (A → Option B) → Option B
and_then none k = none
and_then (some a) k = k a

-- ---- "Numbers are 0 to 4,294,967,295 without leading zeros"

abbrev pub is_digit : ℕ → Bool
is_digit b = leb 48 b && leb b 57

-- the number whose digits are those of n and then w, where that has 32 bits
abbrev pub digits : ℕ → List ℕ → Option ℕ
digits n [] = some n
digits n (b ∷ w) =
    let next : ℕ = n * 10 + (b - 48) in
    let rest : Option ℕ = digits next w in
    cond (is_digit b && bits 32 next) rest none

-- a lone 0, or digits of which the first is no 0
abbrev pub numeral : List ℕ → Option ℕ
numeral [] = none
numeral (b ∷ w) = cond (eqb b 48 && not (eqb (length w) 0)) none (digits 0 (b ∷ w))

-- ---- "only amend's change may bear a minus, and -0 is malformed"

abbrev pub negative : Option ℕ → Option Change
negative none = none
negative (some zero) = none
negative (some (suc d)) = some (lower (suc d))

abbrev pub change_in : List ℕ → Option Change
change_in [] = none
change_in (b ∷ w) = cond (eqb b 45) (negative (numeral w)) (and_then (numeral (b ∷ w)) (λ d. some (raise d)))

-- ---- arguments

-- exactly k numbers
abbrev pub numbers : ℕ → List (List ℕ) → Option (List ℕ)
numbers zero [] = some []
numbers zero (w ∷ ws) = none
numbers (suc k) [] = none
numbers (suc k) (w ∷ ws) = and_then (numeral w) (λ n. and_then (numbers k ws) (λ rest. some (n ∷ rest)))

-- number i of those read
abbrev pub nth : List ℕ → ℕ → ℕ
nth v i = get_or v i 0

-- an hour, a place and a device, from number i of those read on
abbrev pub context_in : (i : ℕ) → List ℕ → Context
context_in i v = context_of (nth v i) (nth v (suc i)) (nth v (suc (suc i)))

-- "its number, hour place device, first last, use creation hop limits, hours places devices"
abbrev pub plan_in : List ℕ → Plan
plan_in v = plan_of (nth v 4) (nth v 5) (nth v 6) (nth v 7) (nth v 8) (nth v 9) (nth v 10) (nth v 11)

-- a call whose arguments are k numbers
abbrev pub of_numbers : ℕ → (List ℕ → Call) → List (List ℕ) → Option Call
of_numbers k build args = and_then (numbers k args) (λ v. some (build v))

-- `role` or `pass`, and the number after it
abbrev pub origin_in : List ℕ → ℕ → Option Origin
origin_in w n = cond (same_bytes w (bytes "role")) (some (ofRole n)) (cond (same_bytes w (bytes "pass")) (some (ofCapability n)) none)

-- "create user, role or pass, its number, hour place device, first last, use creation hop limits, hours places devices"
abbrev pub create_in : List (List ℕ) → Option Call
create_in [] = none
create_in (user ∷ []) = none
create_in (user ∷ kind ∷ rest) =
    and_then (numeral user) (λ u.
    and_then (numbers 12 rest) (λ v.
    and_then (origin_in kind (nth v 0)) (λ o. some (create u o (context_in 1 v) (plan_in v)))))

-- "open session user, role or pass, number, hour place device"
abbrev pub open_in : List (List ℕ) → Option Call
open_in [] = none
open_in (session ∷ []) = none
open_in (session ∷ user ∷ []) = none
open_in (session ∷ user ∷ kind ∷ rest) =
    and_then (numeral session) (λ s.
    and_then (numeral user) (λ u.
    and_then (numbers 4 rest) (λ v.
    and_then (origin_in kind (nth v 0)) (λ o. some (opening s u o (context_in 1 v))))))

-- "amend user pass change"
abbrev pub amend_in : List (List ℕ) → Option Call
amend_in [] = none
amend_in (user ∷ []) = none
amend_in (user ∷ capability ∷ []) = none
amend_in (user ∷ capability ∷ change ∷ []) =
    and_then (numeral user) (λ u. and_then (numeral capability) (λ n. and_then (change_in change) (λ c. some (amend u n c))))
amend_in (user ∷ capability ∷ change ∷ more ∷ rest) = none

-- ---- requests

pub record Form : Type 0 where
  pub word : List ℕ
  pub read : List (List ℕ) → Option Call

abbrev form : String → (List (List ℕ) → Option Call) → Form
form w f = record { word = bytes w; read = f }

-- a call's word with the reader of its arguments; "save and load are no journal words"
unfoldable pub forms : List Form
forms =
    form "enrol" (of_numbers 2 (λ v. enrol (nth v 0) (nth v 1)))
    ∷ form "found" (of_numbers 5 (λ v. found (nth v 0) (nth v 1) (nth v 2) (nth v 3) (nth v 4)))
    ∷ form "grant" (of_numbers 2 (λ v. grant (nth v 0) (nth v 1)))
    ∷ form "withdraw" (of_numbers 2 (λ v. withdraw (nth v 0) (nth v 1)))
    ∷ form "appoint" (of_numbers 2 (λ v. appoint (nth v 0) (nth v 1)))
    ∷ form "dismiss" (of_numbers 2 (λ v. dismiss (nth v 0) (nth v 1)))
    ∷ form "clock" (of_numbers 1 (λ v. clock (nth v 0)))
    ∷ form "create" create_in
    ∷ form "allow" (of_numbers 3 (λ v. allow (nth v 0) (nth v 1) (nth v 2)))
    ∷ form "lend" (of_numbers 3 (λ v. lend (nth v 0) (nth v 1) (nth v 2)))
    ∷ form "hand" (of_numbers 3 (λ v. hand (nth v 0) (nth v 1) (nth v 2)))
    ∷ form "open" open_in
    ∷ form "check" (of_numbers 5 (λ v. check (nth v 0) (nth v 1) (context_in 2 v)))
    ∷ form "amend" amend_in
    ∷ form "revoke" (of_numbers 2 (λ v. revoke (nth v 0) (nth v 1)))
    ∷ form "close" (of_numbers 1 (λ v. close (nth v 0)))
    ∷ form "same" (of_numbers 2 (λ v. same (nth v 0) (nth v 1)))
    ∷ []

-- "Request words are compared byte by byte."
abbrev pub by_word : List ℕ → List (List ℕ) → List Form → Option Call
by_word w args [] = none
by_word w args (f ∷ fs) = elim (same_bytes w f.word) [ true ↦ f.read args | false ↦ by_word w args fs ]

abbrev pub request : List (List ℕ) → Option Call
request [] = none
request (w ∷ args) = by_word w args forms

-- a line without its line feed: "The first word of a line is the part of that line before its first space, or all of it
-- without one"
unfoldable pub parse : List ℕ → Option Call
parse line = request (split 32 line)

-- ---- answers

-- n as k decimal digits
abbrev pub digits_of : ℕ → ℕ → List ℕ
digits_of zero n = []
digits_of (suc k) n = (48 + n / 10 ^ k % 10) ∷ digits_of k n

-- how many digits n has, up to f + 1 of them
abbrev pub digit_count : ℕ → ℕ → ℕ
digit_count zero n = 1
digit_count (suc f) n = let more : ℕ = suc (digit_count f (n / 10)) in cond (ltb n 10) 1 more

-- a number below 10 ^ 10 in decimal
unfoldable pub decimal : ℕ → List ℕ
decimal n = digits_of (digit_count 9 n) n

-- "prints ok and the value, or no and the number, one line for each line"
unfoldable pub answer_line : List ℕ → ℕ → List ℕ
answer_line w n = w ++ ((32 ∷ []) ++ (decimal n ++ (10 ∷ [])))

abbrev pub printed : Outcome → List ℕ
printed (value v) = answer_line (bytes "ok") v
printed (refused n) = answer_line (bytes "no") n
