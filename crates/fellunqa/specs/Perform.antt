-- Intermediate: the code's own terms, proved to come to the definitions of `model`.
-- A call on a register that keeps the rules, as the entry point returns it, and an answer as C is given it.
use Rattle.std.specs.Prelude.{ℕ, ℤ, pos, neg_ℤ}
use Rattle.model.specs.declared.Register.{Register}
use Rattle.model.specs.Rulings.{Outcome, value, refused}
use Rattle.model.specs.Calls.{Call, settled}
use Rattle.model.specs.Entry.{Return, answered}

unfoldable pub performed : ℕ → Register → Call → Return
performed room r c = answered room (settled r c).answer (settled r c).after

-- the value, or the refusal as a negative number
abbrev pub to_c : Outcome → ℤ
to_c (value v) = pos v
to_c (refused n) = neg_ℤ (pos n)
