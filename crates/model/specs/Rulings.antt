-- Document 01, "The calls": "A call answers a value or a refusal. .. The first that applies is answered".
use Rattle.std.specs.Prelude.{Bool, true, false, not, List, [], ◌∷◌, ℕ, T}
use Rattle.masks.specs.Tests.{each, Each}
use Rattle.model.specs.declared.Origin.{Origin}
use Rattle.model.specs.declared.Role.{Role}
use Rattle.model.specs.declared.Capability.{Capability}
use Rattle.model.specs.declared.Register.{Register}
use Rattle.model.specs.declared.Context.{Context}
use Rattle.model.specs.State.{role_at, capability_at, session_at, Party, party, Terms, terms, admitted}

-- "A call answers a value or a refusal. A refusal is its number alone"
pub data Outcome : Type 0 where
  value : ℕ → Outcome
  refused : ℕ → Outcome

-- what a call answers, and what it leaves: a register, or the few elements of one that it names
pub record Effect (A : Type 0) : Type 0 where
  pub answer : Outcome
  pub after : A

-- refused with the number n unless all the tests pass, or when the test passes
infix 68 ◌unless◌ ◌when◌
pub data Guard : Type 0 where
  ◌unless◌ : ℕ → List Bool → Guard
  ◌when◌ : ℕ → Bool → Guard

abbrev pub applies : Guard → Bool
applies (n unless ts) = not (each ts)
applies (n when t) = t

abbrev pub number : Guard → ℕ
number (n unless ts) = n
number (n when t) = n

-- what is known where a guard does not apply, and where none of a list does
abbrev pub Fact : Guard → Type 0
Fact (n unless ts) = Each ts
Fact (n when t) = T (not t)

abbrev pub Clear : List Guard → Type 0
Clear [] = Unit {0}
Clear (q ∷ rest) = Fact q × Clear rest

-- a call's refusals in their order, its value, and the register, or the elements, after it
pub record Ruling (A : Type 0) : Type 0 where
  pub guards : List Guard
  pub result : ℕ
  pub after : A

-- the ruling on a part of a state, put into the state
abbrev pub into : {A B : Type 0} → (A → B) → Ruling A → Ruling B
into f q = record { guards = q.guards; result = q.result; after = f q.after }

-- "The first that applies is answered"; refused, the register stays untouched
unfoldable pub settle : {A : Type 0} → A → List Guard → ℕ → A → Effect A
settle r [] v s = record { answer = value v; after = s }
settle r (q ∷ rest) v s =
    elim (applies q) [
      | true ↦ record { answer = refused (number q); after = r }
      | false ↦ settle r rest v s
    ]

-- the answer alone: it does not look at the registers
abbrev pub verdict : List Guard → ℕ → Outcome
verdict [] v = value v
verdict (q ∷ rest) v = elim (applies q) [ true ↦ refused (number q) | false ↦ verdict rest v ]

abbrev pub ruled : {A : Type 0} → A → Ruling A → Effect A
ruled r q = settle r q.guards q.result q.after

-- ---- short names

-- "a session not open"
abbrev pub opened : Register → ℕ → Bool
opened r s = (session_at r.sessions s).active

abbrev pub role : Register → ℕ → Role
role r k = role_at r.roles k

abbrev pub capability : Register → ℕ → Capability
capability r n = capability_at r.capabilities n

abbrev pub party_of : Register → Origin → Party
party_of r o = party r.roles r.capabilities o

abbrev pub terms_of : Register → Origin → Terms
terms_of r o = terms r.roles r.capabilities o

-- the role or the capability admits the context (§3.3.4)
abbrev pub admits : Register → Origin → Context → Bool
admits r o at = admitted (terms_of r o) at
