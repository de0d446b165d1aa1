-- Intermediate: the code's own terms, proved to come to the definitions of `model`.
-- What stands at an origin, read from the register.
use Rattle.std.specs.Prelude.{◌≡◌, ℕ, T}
use Rattle.model.specs.declared.Origin.{Origin}
use Rattle.model.specs.declared.Context.{Context}
use Rattle.model.specs.declared.Register.{Register}
use Rattle.model.specs.State.{party, terms, admitted}
use Rattle.model.specs.Rules.{is_origin}
use Rattle.origins.specs.declared.authority.RoleColumns.{RoleColumns}
use Rattle.origins.specs.declared.standing.Party.{Party as PartyRead}
use Rattle.origins.specs.Authority.{Columns}
use Rattle.origins.specs.Standing.{standing}
use Rattle.origins.specs.Terms.{slot_terms, column_terms}

-- p is what stands at the origin o, where o is in its range: the party, its terms by the columns, and, without columns, the contexts
-- that it admits
pub record PartyAt (r : Register) (o : Origin) (p : PartyRead) : Type 0 where
  pub stands : T (is_origin o) → standing p ≡ party r.roles r.capabilities o
  pub allows : (columns : RoleColumns) → T (is_origin o) → Columns columns r.roles
      → column_terms columns p.origin p.role.now p.capability.now ≡ terms r.roles r.capabilities o
  pub admits : (grants lendable : ℕ) (at : Context) → T (is_origin o)
      → admitted (slot_terms p.origin p.role.now p.capability.now grants lendable) at ≡ admitted (terms r.roles r.capabilities o) at
