-- Intermediate: `proofs/Revoking.antt` and `Amending.antt` prove that these sweeps come to revoke and amend of `Revocation.antt`.
-- Revoke and amend as one rising sweep each, which is how the program does them.
use Rattle.std.specs.Prelude.{Bool, cond, ◌||◌, List, [], ℕ, min, eqb}
use Rattle.model.specs.declared.Origin.{Origin}
use Rattle.model.specs.declared.Capability.{Capability}
use Rattle.model.specs.State.{party, bare_terms}
use Rattle.model.specs.Setters.{with_revoked, with_use_limit}

abbrev pub origin_revoked : List Capability → Origin → Bool
origin_revoked cs o = (bare_terms (party [] cs o)).revoked

-- revoked, or the capability named, or derived from one that is revoked by now
abbrev pub mark_one : ℕ → ℕ → List Capability → Capability → Capability
mark_one n i cs c = with_revoked c (c.revoked || (eqb i n || origin_revoked cs c.origin))

abbrev pub origin_limit : List Capability → Origin → ℕ
origin_limit cs o = (bare_terms (party [] cs o)).use_limit

-- the capability named gets the limit; any other is cut to what its origin has by now
abbrev pub limit_one : ℕ → ℕ → ℕ → List Capability → Capability → Capability
limit_one n limit i cs c =
    with_use_limit c (cond (eqb i n) limit (min c.use_limit (origin_limit cs c.origin)))
