-- What same (§6.17) tells of two capabilities, and what whoever gives one of them up may rely on. `proofs/Alike.antt` proves it.
use Rattle.std.specs.Prelude.{◌≡◌, ◌↔◌, not, List, map, ℕ, suc, ◌<◌, T}
use Rattle.masks.specs.Masks.{has}
use Rattle.model.specs.declared.Origin.TheVariants.{Capability as ofCapability}
use Rattle.model.specs.declared.Register.{Register}
use Rattle.model.specs.declared.Context.{Context}
use Rattle.model.specs.State.{authority, origin_at, session_at}
use Rattle.model.specs.Lineage.{Descends, Reaches}
use Rattle.model.specs.Rules.{well_formed}
use Rattle.model.specs.Rulings.{value, role, capability, opened}
use Rattle.model.specs.Comparison.{domain_of}
use Rattle.model.specs.Calls.{clock, opening, check, revoke, same}
use Rattle.model.specs.Lists.{run, calls}
use Rattle.model.specs.Theorem.{asked, next}

-- §6.17.2: capabilities m and n have one domain, and authority, life, limits and context masks are equal
pub record Agree (r : Register) (m n : ℕ) : Type 0 where
  pub domain : domain_of r m ≡ domain_of r n
  pub authority_equal : authority r.roles (capability r m) ≡ authority r.roles (capability r n)
  pub first : (capability r m).first ≡ (capability r n).first
  pub last : (capability r m).last ≡ (capability r n).last
  pub use_limit : (capability r m).use_limit ≡ (capability r n).use_limit
  pub creation_limit : (capability r m).creation_limit ≡ (capability r n).creation_limit
  pub hop_limit : (capability r m).hop_limit ≡ (capability r n).hop_limit
  pub hours : (capability r m).hours ≡ (capability r n).hours
  pub places : (capability r m).places ≡ (capability r n).places
  pub devices : (capability r m).devices ≡ (capability r n).devices

-- same answers 1
abbrev pub Same : Register → ℕ → ℕ → Type 0
Same r m n = asked r (same m n) ≡ value 1

-- the user holds capability n, which is not revoked
pub record Held (r : Register) (user n : ℕ) : Type 0 where
  pub holder : T (has (capability r n).holders user)
  pub unrevoked : T (not (capability r n).revoked)

-- session s is open, of this user, on capability n, which the user holds and which is not revoked
pub record Serves (r : Register) (s user n : ℕ) : Type 0 where
  pub active : T (opened r s)
  pub whose : (session_at r.sessions s).user ≡ user
  pub on : (session_at r.sessions s).on ≡ ofCapability n
  pub held : Held r user n

-- two sessions of one user, on capabilities that same finds equal; both are held, and neither is revoked
pub record Paired (r : Register) (m n s t user : ℕ) : Type 0 where
  pub equal : Same r m n
  pub one : Serves r s user m
  pub other : Serves r t user n

-- every check of session t in r', in any context, is answered as it is of session s in r; what a check names beside its session
-- stands here alone
abbrev pub ChecksAs : (r : Register) (s : ℕ) (r' : Register) (t : ℕ) → Type 0
ChecksAs r s r' t = (p : ℕ) (at : Context) → asked r' (check t p at) ≡ asked r (check s p at)

-- capability n has a use left
abbrev pub UsesLeft : Register → ℕ → Type 0
UsesLeft r n = (capability r n).uses < (capability r n).use_limit

pub record AlikeLaws : Type 0 where
  -- §6.17.2, §6.17.3: of two capabilities that are there, 1 exactly if they agree, else 0
  pub told_one : (r : Register) (m n : ℕ) → T (well_formed r) → m < r.count → n < r.count → Same r m n ↔ Agree r m n
  pub told_zero : (r : Register) (m n : ℕ) → T (well_formed r) → m < r.count → n < r.count → (asked r (same m n) ≡ value 0) ↔ (¬ Agree r m n)
  -- §3.1.3: the domain is that of the role which the lineage reaches
  pub domain_reached : (r : Register) (n k : ℕ) → Reaches (origin_at r.capabilities) (suc n) n k → domain_of r n ≡ (role r k).domain
  -- §6.17.4: an equivalence on the capabilities of a register; the order of the two never matters, not even to a refusal
  pub reflexive : (r : Register) (n : ℕ) → T (well_formed r) → n < r.count → Same r n n
  pub symmetric : (r : Register) (m n : ℕ) → asked r (same m n) ≡ asked r (same n m)
  pub transitive : (r : Register) (l m n : ℕ) → Same r l m → Same r m n → Same r l n
  -- §6.17.5: with uses left of both, whoever holds both is answered the same to an open on either
  pub opens_alike : (r : Register) (m n user : ℕ) → Same r m n → Held r user m → Held r user n → UsesLeft r m → UsesLeft r n
      → (s : ℕ) (at : Context) → asked r (opening s user (ofCapability m) at) ≡ asked r (opening s user (ofCapability n) at)
  -- §6.17.5: where same is 1 of the capabilities that two sessions of one user are on, their checks are answered alike
  pub checks_now : (r : Register) (m n s t user : ℕ) → Paired r m n s t user → ChecksAs r s r t
  -- and so they are after any clock calls, refused ones among them, which leave the two as they are here
  pub paired_later : (r : Register) (m n s t user : ℕ) → Paired r m n s t user
      → (ticks : List ℕ) → Paired (run r (calls (map clock ticks))) m n s t user
  pub checks_later : (r : Register) (m n s t user : ℕ) → Paired r m n s t user
      → (ticks : List ℕ) → let later : Register = run r (calls (map clock ticks)) in ChecksAs later s later t
  -- §6.17.6: where m is revoked and n does not descend from it, the checks of t are answered as those of s were
  pub checks_given_up : (r : Register) (m n s t user : ℕ) → Paired r m n s t user
      → ¬ Descends (origin_at r.capabilities) n m
      → (revoker v : ℕ) → asked r (revoke revoker m) ≡ value v → ChecksAs r s (next r (revoke revoker m)) t
