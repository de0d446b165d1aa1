-- A list of requests as a list of calls, and the answers to it as outcomes.
use Rattle.std.specs.Prelude.{List, map, ◌++◌, ℕ, ◌-◌, take, replicate, length, Result}
use Rattle.model.specs.declared.Refusal.{Refusal}
use Rattle.model.specs.declared.Request.{Request}
use Rattle.model.specs.declared.Register.{Register}
use Rattle.model.specs.Rulings.{Outcome, value}
use Rattle.model.specs.Requests.{call_of, outcome_of}
use Rattle.model.specs.Lists.{Event, calls, answers}

-- the calls of the first 64 requests, of all where there are no more
abbrev pub calls_of : List Request → List Event
calls_of requests = calls (map call_of (take 64 requests))

abbrev pub outcomes_of : List (Result ℕ Refusal) → List Outcome
outcomes_of told = map outcome_of told

-- the answers to the first 64 requests, and `value 0` in the places after them, 64 in all
abbrev pub padded_answers : Register → List Request → List Outcome
padded_answers start requests = answers start (calls_of requests) ++ replicate (64 - length requests) (value 0)
