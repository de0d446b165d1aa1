-- The worked cases of the calls, computed.
use mathlib.Core.Path.{refl}
use Rattle.model.specs.Cases.{CallCases}
use Rattle.model.proofs.Edges.{calls_compute, quick, computed}

pub call_cases : CallCases
unfolding calls_compute quick
call_cases =
    record {
      unchanged = computed refl;
      nothing_added = computed refl;
      other_domain = computed refl;
      domain_before_unchanged = refl;
      excess_before_unchanged = refl;
      holder_before_limit = computed refl;
      revoked = computed refl;
      creator_only = computed refl;
      members_create = computed refl;
      create_carried = computed refl;
      same_tick = computed refl;
      dismissed = computed refl;
      creator_dismissed = computed refl;
      closed = computed refl;
      same_domain = computed refl;
      same_authority = computed refl;
      same_constraints = computed refl;
      same_and_no_more = computed refl;
      cut_below_revoked = computed refl;
      last_of_ranges = computed refl;
      successors = computed refl;
      last_of_ticks = computed refl;
      empty_life = computed refl;
    }
