-- The document's listing, played by the definitions, with the test of the shelf rules before each call.
use mathlib.Core.Path.{refl}
use Rattle.model.specs.Calls.{step}
use Rattle.model.specs.Lines.{forms, parse, decimal, answer_line}
use Rattle.model.specs.Journal.{line_effect, transcript, journal}
use Rattle.model.specs.Listing.{Listing}
use Rattle.model.proofs.Edges.{calls_compute, rules_compute}

pub listing_played : Listing
unfolding calls_compute rules_compute step forms parse decimal answer_line line_effect transcript journal
listing_played = record { played = refl }
