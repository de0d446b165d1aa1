-- The worked cases of journal lines, computed.
use mathlib.Core.Path.{refl}
use Rattle.model.specs.Calls.{step}
use Rattle.model.specs.Lines.{forms, parse, decimal, answer_line}
use Rattle.model.specs.Journal.{line_effect, transcript, journal}
use Rattle.model.specs.JournalCases.{JournalCases}
use Rattle.model.proofs.Edges.{calls_compute, rules_compute}

pub journal_cases : JournalCases
unfolding calls_compute rules_compute step forms parse decimal answer_line line_effect transcript journal
journal_cases =
    record {
      words = refl;
      largest = record { played = refl };
      leading_zero = record { played = refl };
      minus = record { played = refl };
      user_first = record { played = refl };
      malformed = record { played = refl };
      unended = refl;
      nothing = refl;
      longest = refl;
      too_long = refl;
    }
