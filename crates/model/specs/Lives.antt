-- Lives (§3.3.2, §3.3.3) as laws over every tick, and what the calls make of them. `proofs/Lives.antt` proves them.
use Rattle.std.specs.Prelude.{◌≡◌, ◌⊎◌, ◌↔◌, List, ℕ, ◌≤◌, ◌<◌, T}
use Rattle.model.specs.declared.Origin.{Origin}
use Rattle.model.specs.declared.Origin.TheVariants.{Role as ofRole, Capability as ofCapability}
use Rattle.model.specs.declared.Capability.{Capability}
use Rattle.model.specs.declared.Register.{Register}
use Rattle.model.specs.declared.Context.{Context}
use Rattle.model.specs.declared.Plan.{Plan}
use Rattle.model.specs.State.{in_life, capability_at, session_at}
use Rattle.model.specs.Rulings.{value}
use Rattle.model.specs.Calls.{create, opening}
use Rattle.model.specs.Theorem.{asked, Yes}

-- capability n of a list, and whether it is in life at a tick
module _ (cs : List Capability) where
  abbrev pub InLife : (n tick : ℕ) → Type 0
  InLife n tick = T (in_life cs (ofCapability n) tick)

  abbrev pub first_of : ℕ → ℕ
  first_of n = (capability_at cs n).first

  abbrev pub last_of : ℕ → ℕ
  last_of n = (capability_at cs n).last

pub record LifeLaws : Type 0 where
  -- a capability is in life from its first tick on and before its last, and at no other tick
  pub half_open : (cs : List Capability) (n tick : ℕ) → InLife cs n tick ↔ ((first_of cs n ≤ tick) × (tick < last_of cs n))
  -- a role is at every tick
  pub role_always : (cs : List Capability) (k tick : ℕ) → T (in_life cs (ofRole k) tick)
  -- of two capabilities, one of which ends where the other starts or before, never are both
  pub never_both : (cs : List Capability) (m n tick : ℕ) → last_of cs m ≤ first_of cs n → InLife cs m tick → ¬ InLife cs n tick
  -- where one ends and the other starts at the same tick, no tick between is without either
  pub no_gap : (cs : List Capability) (m n tick : ℕ) → last_of cs m ≡ first_of cs n → first_of cs m ≤ tick → tick < last_of cs n
      → InLife cs m tick ⊎ InLife cs n tick
  -- one whose first tick is its last is at none
  pub never_in_life : (cs : List Capability) (n tick : ℕ) → first_of cs n ≡ last_of cs n → ¬ InLife cs n tick
  -- containment of the numbers (§3.4.1) is containment of the ticks
  pub life_within : (cs : List Capability) (lower upper tick : ℕ) → first_of cs upper ≤ first_of cs lower → last_of cs lower ≤ last_of cs upper
      → InLife cs lower tick → InLife cs upper tick
  -- whatever reads the clock against a life: an accepted create or open, or a check that says yes, is within it, of any register
  pub create_alive : (r : Register) (user : ℕ) (o : Origin) (at : Context) (plan : Plan) (v : ℕ) → asked r (create user o at plan) ≡ value v
      → T (in_life r.capabilities o r.clock)
  pub open_alive : (r : Register) (s user : ℕ) (o : Origin) (at : Context) (v : ℕ) → asked r (opening s user o at) ≡ value v
      → T (in_life r.capabilities o r.clock)
  pub check_alive : (r : Register) (s p : ℕ) (at : Context) → Yes r s p at → T (in_life r.capabilities (session_at r.sessions s).on r.clock)
