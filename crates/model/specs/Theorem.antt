-- The guarantee of §7.2: one claim about every list of calls, refused ones included, from any register that keeps the rules
-- (§4). `proofs/ListTheorem.antt` proves it. Lists may contain same, save and load too.
-- What runs is such a list (`Runs.antt`): `JournalRuns` by the contracts of `player::journal` and, from a fresh register, of
-- `terminal::play`, `BatchesRun` by that of `batch::apply_all`, `EntryReturns` and `EntryRuns` by that of
-- `fellunqa::fellunqa_apply`; a list's save and load are `image::save` and `image::load`. Crate `promise` has all of it in one record.
use Rattle.std.specs.Prelude.{◌≡◌, ◌↔◌, ◌≢◌, not, List, ℕ, suc, ◌≤◌, ◌<◌, T}
use Rattle.masks.specs.Masks.{has, within}
use Rattle.model.specs.declared.Origin.{Origin}
use Rattle.model.specs.declared.Origin.TheVariants.{Role as ofRole, Capability as ofCapability}
use Rattle.model.specs.declared.Register.{Register}
use Rattle.model.specs.declared.Context.{Context}
use Rattle.model.specs.State.{fresh, authority, role_authority, in_life, session_at}
use Rattle.model.specs.Lineage.{Descends, Reaches}
use Rattle.model.specs.Rules.{well_formed}
use Rattle.model.specs.Setters.{with_revoked, with_capabilities}
use Rattle.model.specs.Rulings.{Outcome, value, refused, role, capability, opened, admits}
use Rattle.model.specs.Calls.{Call, check, revoke, step}
use Rattle.model.specs.Lists.{Event, perform, run, derived_from}

-- what a call answers, and the register after it
abbrev pub asked : Register → Call → Outcome
asked r c = (step r c).answer

abbrev pub next : Register → Call → Register
next r c = (step r c).after

-- yes is a check's value 1 (§6.13.2)
abbrev pub Yes : Register → (s p : ℕ) → Context → Type 0
Yes r s p at = asked r (check s p at) ≡ value 1

-- ---- containment: "A mask lies within another that it does not exceed, a life within one that starts no later and ends no
-- earlier, a limit within one at least as large."
pub record Contained (r : Register) (lower upper : ℕ) : Type 0 where
  pub authority_within : T (within (authority r.roles (capability r lower)) (authority r.roles (capability r upper)))
  pub first : (capability r upper).first ≤ (capability r lower).first
  pub last : (capability r lower).last ≤ (capability r upper).last
  pub hours : T (within (capability r lower).hours (capability r upper).hours)
  pub places : T (within (capability r lower).places (capability r upper).places)
  pub devices : T (within (capability r lower).devices (capability r upper).devices)
  pub use_limit : (capability r lower).use_limit ≤ (capability r upper).use_limit
  pub creation_limit : (capability r lower).creation_limit ≤ (capability r upper).creation_limit
  pub hop_limit : (capability r lower).hop_limit ≤ (capability r upper).hop_limit
  -- it is revoked if the upper is
  pub revoked : T (capability r upper).revoked → T (capability r lower).revoked

-- ---- exact checks

-- capability m grants permission p, is not revoked, is in life, and admits the context
pub record Sound (r : Register) (p : ℕ) (at : Context) (m : ℕ) : Type 0 where
  pub grants : T (has (authority r.roles (capability r m)) p)
  pub unrevoked : T (not (capability r m).revoked)
  pub alive : T (in_life r.capabilities (ofCapability m) r.clock)
  pub admitting : T (admits r (ofCapability m) at)

-- role k grants permission p, is in life, and admits the context; it is never revoked
pub record RoleSound (r : Register) (p : ℕ) (at : Context) (k : ℕ) : Type 0 where
  pub grants : T (has (role_authority r.roles k) p)
  pub alive : T (in_life r.capabilities (ofRole k) r.clock)
  pub admitting : T (admits r (ofRole k) at)

-- the user holds capability n, every capability on its lineage is sound, and the lineage reaches a role that is sound
pub record Entitled (r : Register) (derived : ℕ → Origin) (user p : ℕ) (at : Context) (n : ℕ) : Type 0 where
  pub holder : T (has (capability r n).holders user)
  pub lineage : (m : ℕ) → Descends derived n m → Sound r p at m
  pub ends : (k : ℕ) × Reaches derived (suc n) n k × RoleSound r p at k

-- ---- exact revokes

-- capability i is unmarked, and from the named capability n downward
pub record Due (r : Register) (derived : ℕ → Origin) (n i : ℕ) : Type 0 where
  pub unmarked : T (not (capability r i).revoked)
  pub descends : Descends derived i n

-- v of the numbers below n satisfy P
pub data CountOf (P : ℕ → Type 0) : (n v : ℕ) → Type 0 where
  none : CountOf P 0 0
  counted : {n v : ℕ} → P n → CountOf P n v → CountOf P (suc n) (suc v)
  skipped : {n v : ℕ} → ¬ P n → CountOf P n v → CountOf P (suc n) v

-- the same check, of the same session and permission in the same context, is answered differently just before and just after (§7.2.5)
abbrev pub ChangesCheck : Register → Register → (s p : ℕ) → Context → Type 0
ChangesCheck r r' s p at = asked r (check s p at) ≢ asked r' (check s p at)

-- session s is on a capability that is due
abbrev pub OnDue : Register → (ℕ → Origin) → ℕ → ℕ → Type 0
OnDue r derived n s = (i : ℕ) × ((session_at r.sessions s).on ≡ ofCapability i) × Due r derived n i

-- what an accepted revoke of capability n with the value v does, from r to r'
pub record Revokes (r r' : Register) (derived : ℕ → Origin) (n v : ℕ) : Type 0 where
  -- it marks exactly the unmarked capabilities from the named one downward
  pub marks : (i : ℕ) → i < r.count → (T (not (capability r i).revoked) × T (capability r' i).revoked) ↔ Due r derived n i
  -- its value is the number of those that are due
  pub counts : CountOf (Due r derived n) r.count v
  -- the checks it changes are exactly the yes answers of sessions on those
  pub checks : (s p : ℕ) (at : Context) → ChangesCheck r r' s p at ↔ (Yes r s p at × OnDue r derived n s)
  -- nothing else changes: no mark is taken away, no other field of a capability, no other part of the register
  pub keeps_marks : (i : ℕ) → i < r.count → T (capability r i).revoked → T (capability r' i).revoked
  pub marks_only : (i : ℕ) → i < r.count → capability r' i ≡ with_revoked (capability r i) (capability r' i).revoked
  pub capabilities_only : r' ≡ with_capabilities r r'.capabilities

-- ---- the claim about a register r after a list, where `derived` is the derivation by history

pub record Guarantee (r : Register) (derived : ℕ → Origin) : Type 0 where
  -- the register keeps the shelf rules
  pub formed : T (well_formed r)
  -- where one capability is derived from another, directly or through others, it is contained in it
  pub containment : (lower upper : ℕ) → lower < r.count → Descends derived lower upper → Contained r lower upper
  -- the lineage of capability n reaches a founded role in at most n + 1 steps
  pub bounded : (n : ℕ) → n < r.count → (k : ℕ) × Reaches derived (suc n) n k × T (role r k).founded
  -- and no other role
  pub one_end : (n j k : ℕ) → Reaches derived (suc n) n j → Reaches derived (suc n) n k → j ≡ k
  -- a session on a capability is told yes for a permission in a context exactly when it is entitled to it there
  pub exact_check : (s p n : ℕ) (at : Context) → T (opened r s) → (session_at r.sessions s).on ≡ ofCapability n
      → Yes r s p at ↔ Entitled r derived (session_at r.sessions s).user p at n
  -- if an accepted revoke comes next
  pub exact_revoke : (user n v : ℕ) → asked r (revoke user n) ≡ value v → Revokes r (next r (revoke user n)) derived n v

-- the third demand
abbrev pub ListTheorem : Type 0
ListTheorem =
    (start : Register) (events : List Event) → T (well_formed start) → Guarantee (run start events) (derived_from start events)

-- and it has a start
abbrev pub FreshStart : Type 0
FreshStart = T (well_formed fresh)

-- ---- each answer by itself (§5.1.2, §5.1.3)

-- a value has 32 bits, and a refusal is one of the numbers of §5.2.1
abbrev pub InBounds : Outcome → Type 0
InBounds (value v) = v ≤ 4294967295
InBounds (refused n) = (1 ≤ n) × (n ≤ 16)

-- of any register, also one that breaks a rule
pub record EachAnswer : Type 0 where
  pub in_bounds : (r : Register) (c : Call) → InBounds (asked r c)
  -- whatever is refused, a save or a load too, leaves the register as it was
  pub refused_stays : (r : Register) (e : Event) (n : ℕ) → (perform r e).answer ≡ refused n → (perform r e).after ≡ r
