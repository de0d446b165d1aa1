-- Intermediate: the code's own terms, proved to come to the definitions of `model`.
-- What stands at an origin, as it was read.
use Rattle.model.specs.State.{Party}
use Rattle.origins.specs.Terms.{party_in}
use Rattle.origins.specs.declared.standing.Party.{Party as PartyRead}

abbrev pub standing : PartyRead → Party
standing p = party_in p.origin p.role.now p.capability.now
