-- What the theory knows of a life: `in-life→`, `in-life←` and `life-above`; the laws of `specs/Lives.antt` follow from them.
use mathlib.Core.Path.{◌≡◌, ap}
use mathlib.Core.Logic.{◌⊎◌, inl, inr}
use mathlib.Core.List.{List}
use Prim.Native.Nat.{ℕ, ◌≤◌, ◌<◌}
use native.Mathlib.Nat.{le_trans}
use native.Mathlib.Decide.{dec_lt}
use native.Mathlib.Omega.{arith}
use lib.Dec.{T, leb→le, le→leb, ltb→lt, lt→ltb}
use Rattle.masks.proofs.Truth.{each→, each←}
use Rattle.model.specs.declared.Origin.{Origin}
use Rattle.model.specs.declared.Origin.TheVariants.{Role as ofRole, Capability as ofCapability}
use Rattle.model.specs.declared.Capability.{Capability}
use Rattle.model.specs.declared.Register.{Register}
use Rattle.model.specs.declared.Context.{Context}
use Rattle.model.specs.declared.Plan.{Plan}
use Rattle.model.specs.State.{capability_at, session_at, lives, life_tests, in_life}
use Rattle.model.specs.Rulings.{value, party_of}
use Rattle.model.specs.Delegation.{create_ruling}
use Rattle.model.specs.Sessions.{open_ruling, check_ruling, permits, permit_tests}
use Rattle.model.specs.Calls.{create, opening, check, ruling}
use Rattle.model.specs.Theorem.{asked, Yes}
use Rattle.model.specs.Lives.{InLife, first_of, last_of, LifeLaws}
use Rattle.model.proofs.Settling.{passed, step_value, one_yes}

module _ (cs : List Capability) where
  pub in-life→ : (n tick : ℕ) → InLife cs n tick → (first_of cs n ≤ tick) × (tick < last_of cs n)
  in-life→ n tick h =
      let at = each→ (life_tests (capability_at cs n) tick) h in
      (leb→le _ _ at.0, ltb→lt _ _ at.1.0)

  pub in-life← : (n tick : ℕ) → (first_of cs n ≤ tick) × (tick < last_of cs n) → InLife cs n tick
  in-life← n tick h = each← (life_tests (capability_at cs n) tick) (le→leb _ _ h.0, (lt→ltb _ _ h.1, tt))

  -- what is in life lies below what is in life
  pub life_above : (lower upper tick : ℕ) → first_of cs upper ≤ first_of cs lower → last_of cs lower ≤ last_of cs upper
      → InLife cs lower tick → InLife cs upper tick
  life_above lower upper tick f l h =
      let at = in-life→ lower tick h in
      in-life← upper tick (le_trans f at.0, le_trans at.1 l)

  apart : (m n tick : ℕ) → last_of cs m ≤ first_of cs n → InLife cs m tick → ¬ InLife cs n tick
  apart m n tick l g h = omega (arith, l, (in-life→ m tick g).1, (in-life→ n tick h).0)

  adjoining : (m n tick : ℕ) → last_of cs m ≡ first_of cs n → first_of cs m ≤ tick → tick < last_of cs n → InLife cs m tick ⊎ InLife cs n tick
  adjoining m n tick e f l = cases (dec_lt tick (last_of cs m))
    where
      cases : Dec (tick < last_of cs m) → InLife cs m tick ⊎ InLife cs n tick
      cases (yes g) = inl (in-life← m tick (f, g))
      cases (no g) = inr (in-life← n tick (omega (arith, e, g), l))

-- what a call asks of a role or a capability is what `inLife` says of it
asked_life : (r : Register) (o : Origin) → T (lives (party_of r o) r.clock) → T (in_life r.capabilities o r.clock)
asked_life r (ofRole k) h = tt
asked_life r (ofCapability n) h = h

create_alive : (r : Register) (user : ℕ) (o : Origin) (at : Context) (plan : Plan) (v : ℕ) → asked r (create user o at plan) ≡ value v
    → T (in_life r.capabilities o r.clock)
unfolding ruling create_ruling
create_alive r user o at plan v e =
    asked_life r o (passed 8 (create_ruling r user o at plan).guards (step_value r (create user o at plan) e).0).0

open_alive : (r : Register) (s user : ℕ) (o : Origin) (at : Context) (v : ℕ) → asked r (opening s user o at) ≡ value v
    → T (in_life r.capabilities o r.clock)
unfolding ruling open_ruling
open_alive r s user o at v e = asked_life r o (passed 8 (open_ruling r s user o at).guards (step_value r (opening s user o at) e).0).0

check_alive : (r : Register) (s p : ℕ) (at : Context) → Yes r s p at → T (in_life r.capabilities (session_at r.sessions s).on r.clock)
unfolding ruling check_ruling permits
check_alive r s p at e =
    let x = session_at r.sessions s in
    asked_life r x.on (each→ (permit_tests r x.on x.user p at) (one_yes (permits r x.on x.user p at) (ap value (step_value r (check s p at) e).1))).1.1.0

pub life_laws : LifeLaws
life_laws =
    record {
      half_open = λ cs n tick. (in-life→ cs n tick, in-life← cs n tick);
      role_always = λ cs k tick. tt;
      never_both = apart;
      no_gap = adjoining;
      never_in_life = λ cs n tick e h. apart cs n n tick (omega (arith, e)) h h;
      life_within = life_above;
      create_alive = create_alive;
      open_alive = open_alive;
      check_alive = check_alive;
    }
