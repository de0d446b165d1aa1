-- Intermediate: the code's own terms, proved to come to the definitions of `model`.
-- Amend's refusals by what the change asks for.
use Rattle.std.specs.Prelude.{List, ℕ}
use Rattle.model.specs.declared.Capability.{Capability}
use Rattle.model.specs.Rulings.{Guard}
use Rattle.model.specs.Revocation.{amend_guards}
use Rattle.tree.specs.declared.amending.Amendment.{Amendment}

abbrev pub amendment_guards : (enrolled count user n : ℕ) → Capability → Amendment → ℕ → List Guard
amendment_guards enrolled count user n c a bound = amend_guards enrolled count c user n a.ranged a.zero a.below a.limit bound
