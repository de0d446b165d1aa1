-- Each contract is the one that the function's proof is of.
use mathlib.Core.Path.{refl}
use seplogic.Ra.Ura.{Ura}
use prog.Memory.{Memory}
use prog.Routine.{Routine}
use types.Logic.{Logic}
use base.Logic.{SProp}
use contract.Monad.{Fun}
use Rattle.calls.proofs as calls-proofs
use Rattle.apply.proofs as apply-proofs
use Rattle.batch.proofs as batch-proofs
use Rattle.image.proofs as image-proofs
use Rattle.player.proofs as player-proofs
use Rattle.fellunqa.proofs as fellunqa-proofs
use Rattle.terminal.proofs as terminal-proofs
use Rattle.promise.specs.PublicContracts.{Contracts}

pub contracts : {M : Type 1} {𝓤 : Ura M} (𝓛 : Logic 𝓤) (mem : Memory → SProp 𝓤) (runs : Routine → Fun 𝓤) → Contracts 𝓛 mem runs
contracts 𝓛 mem runs =
    record {
      enrol = calls-proofs.enrol.Met.met;
      enrol_says = λ κs r user domain. refl;
      found = calls-proofs.found.Met.met;
      found_says = λ κs r role domain hours places devices. refl;
      grant = calls-proofs.grant.Met.met;
      grant_says = λ κs r role permission. refl;
      withdraw = calls-proofs.withdraw.Met.met;
      withdraw_says = λ κs r role permission. refl;
      appoint = calls-proofs.appoint.Met.met;
      appoint_says = λ κs r user role. refl;
      dismiss = calls-proofs.dismiss.Met.met;
      dismiss_says = λ κs r user role. refl;
      clock = calls-proofs.clock.Met.met;
      clock_says = λ κs r tick. refl;
      create = calls-proofs.create.Met.met;
      create_says = λ κs r user origin at plan. refl;
      allow = calls-proofs.allow.Met.met;
      allow_says = λ κs r user n permissions. refl;
      lend = calls-proofs.lend.Met.met;
      lend_says = λ κs r user n roles. refl;
      hand = calls-proofs.hand.Met.met;
      hand_says = λ κs r user receiver n. refl;
      opening = calls-proofs.«open».Met.met;
      opening_says = λ κs r session user on at. refl;
      check = calls-proofs.check.Met.met;
      check_says = λ κs r session permission at. refl;
      amend = calls-proofs.amend.Met.met;
      amend_says = λ κs r user n change. refl;
      revoke = calls-proofs.revoke.Met.met;
      revoke_says = λ κs r user n. refl;
      close = calls-proofs.close.Met.met;
      close_says = λ κs r session. refl;
      same = calls-proofs.same.Met.met;
      same_says = λ κs r first second. refl;
      apply = apply-proofs.apply.Met.met;
      apply_says = λ κs r request. refl;
      apply_all = batch-proofs.apply_all.Met.met;
      apply_all_says = λ κs r requests. refl;
      journal = player-proofs.journal.Met.met;
      journal_says = λ κs r input out. refl;
      fellunqa_apply = fellunqa-proofs.fellunqa_apply.Met.met;
      fellunqa_apply_says = λ κs image line area. refl;
      save = image-proofs.save.Met.met;
      save_says = λ κs r buffer. refl;
      load = image-proofs.load.Met.met;
      load_says = λ κs r s. refl;
      play = terminal-proofs.play.Met.met;
      play_says = λ κs rt input out. refl;
    }
