-- Intermediate: the code's own terms, proved to come to the definitions of `model`.
-- What is to be done for a line of a journal.
use Rattle.std.specs.Prelude.{◌≡◌, Bool, true, List, ℕ, Result, Ok, Err}
use Rattle.std.proofs.Math.Option.{some}
use Rattle.model.specs.declared.Register.{Register}
use Rattle.model.specs.declared.Refusal.{Refusal}
use Rattle.model.specs.Rules.{well_formed}
use Rattle.model.specs.Rulings.{refused}
use Rattle.model.specs.Calls.{Call, check}
use Rattle.model.specs.Lines.{parse}
use Rattle.model.specs.Requests.{refusal_number, local_call, tree_call}
use Rattle.model.specs.Journal.{line_effect}
use Rattle.player.specs.declared.step.Step.{Step}
use Rattle.player.specs.declared.step.Step.TheVariants.{Check, One, Tree}

-- the call that a step performs
abbrev pub call_in : Step → Call
call_in (Check s q context) = check s q context
call_in (One q) = local_call q
call_in (Tree t) = tree_call t

-- on any register of which the test of the rules says `formed`: the line is refused, or it is the request's call
abbrev pub Fits : Bool → List ℕ → Result Step Refusal → Type 0
Fits formed line (Err why) = (r : Register) → well_formed r ≡ formed → record { answer = refused (refusal_number why); after = r } ≡ line_effect r line
Fits formed line (Ok step) = (formed ≡ true) × (parse line ≡ some (call_in step))
