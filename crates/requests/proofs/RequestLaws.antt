-- The arguments of create and open, by their readers.
use mathlib.Core.Path.{◌≡◌, refl}
use mathlib.Core.List.{List, [], ◌∷◌}
use mathlib.Core.Option.{Option, none, some}
use Prim.Native.Nat.{ℕ, suc}
use native.Mathlib.Omega.{arith}
use Rattle.model.specs.Lines.{and_then, numeral, numbers, nth, context_in, plan_in, origin_in, create_in, open_in}
use Rattle.model.specs.Calls.{Call, create, opening}
use Rattle.model.specs.declared.Origin.{Origin}
use Rattle.text.specs.Readers.{first_number, first_name}

-- `role` or `pass` with the first of k + 1 numbers, which the call f says nothing more of
named_then : (k : ℕ) (kind : List ℕ) (ws : List (List ℕ)) (f g : Origin → List ℕ → Call) → ((on : Origin) (n : ℕ) (v : List ℕ) → f on (n ∷ v) ≡ g on v)
    → and_then (numbers (suc k) ws) (λ v. and_then (origin_in kind (nth v 0)) (λ on. some (f on v)))
    ≡ and_then (first_name (kind ∷ ws)) (λ r. and_then (numbers k r.1) (λ v. some (g r.0 v)))
named_then k kind [] f g e = refl
named_then k kind (w ∷ ws) f g e = grind (arith, e)

-- the words after a number d
abbrev rest_of : Option ℕ → List (List ℕ) → Option (ℕ × List (List ℕ))
rest_of d ws = and_then d (λ n. some (n, ws))

-- what the words after the user of create ask for, and those after the session and the user of open
abbrev pub created : ℕ → List (List ℕ) → Option Call
created u ws = and_then (first_name ws) (λ on. and_then (numbers 11 on.1) (λ v. some (create u on.0 (context_in 0 v) (plan_in (0 ∷ v)))))

abbrev pub opened : ℕ → ℕ → List (List ℕ) → Option Call
opened s u ws = and_then (first_name ws) (λ on. and_then (numbers 3 on.1) (λ v. some (opening s u on.0 (context_in 0 v))))

pub create_by : (ws : List (List ℕ)) → create_in ws ≡ and_then (first_number ws) (λ u. created u.0 u.1)
create_by [] = refl
create_by (user ∷ []) = grind arith
create_by (user ∷ kind ∷ rest) = cases (numeral user)
  where
    cases : (d : Option ℕ)
        → and_then d (λ u. and_then (numbers 12 rest) (λ v. and_then (origin_in kind (nth v 0)) (λ on. some (create u on (context_in 1 v) (plan_in v)))))
        ≡ and_then (rest_of d (kind ∷ rest)) (λ u. created u.0 u.1)
    cases none = refl
    cases (some u) =
        named_then 11 kind rest (λ on v. create u on (context_in 1 v) (plan_in v)) (λ on v. create u on (context_in 0 v) (plan_in (0 ∷ v))) (λ on n v. refl)

pub open_by : (ws : List (List ℕ)) → open_in ws ≡ and_then (first_number ws) (λ s. and_then (first_number s.1) (λ u. opened s.0 u.0 u.1))
open_by [] = refl
open_by (session ∷ []) = grind arith
open_by (session ∷ user ∷ []) = grind arith
open_by (session ∷ user ∷ kind ∷ rest) = first (numeral session)
  where
    second : (s : ℕ) (e : Option ℕ)
        → and_then e (λ u. and_then (numbers 4 rest) (λ v. and_then (origin_in kind (nth v 0)) (λ on. some (opening s u on (context_in 1 v)))))
        ≡ and_then (rest_of e (kind ∷ rest)) (λ u. opened s u.0 u.1)
    second s none = refl
    second s (some u) = named_then 3 kind rest (λ on v. opening s u on (context_in 1 v)) (λ on v. opening s u on (context_in 0 v)) (λ on n v. refl)

    first : (d : Option ℕ)
        → and_then d (λ s. and_then (numeral user) (λ u. and_then (numbers 4 rest) (λ v. and_then (origin_in kind (nth v 0)) (λ on. some (opening s u on (context_in 1 v))))))
        ≡ and_then (rest_of d (user ∷ kind ∷ rest)) (λ s. and_then (first_number s.1) (λ u. opened s.0 u.0 u.1))
    first none = refl
    first (some s) = second s (numeral user)
