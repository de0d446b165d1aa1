-- The image of the register with one of everything, and the worked cases of the entry point, computed.
use mathlib.Core.Path.{◌≡◌, refl, ap, ◌∙◌}
use mathlib.Core.Bool.{Bool}
use mathlib.Core.List.{[], ◌∷◌}
use Prim.Native.Nat.{ℕ}
use lib.Dec.{ltb}
use lib.ListN.{length, replicate}
use Rattle.masks.proofs.Truth.{T→true}
use Rattle.model.specs.declared.Register.{Register}
use Rattle.model.specs.State.{fresh}
use Rattle.model.specs.Rules.{well_formed}
use Rattle.model.specs.Rulings.{Outcome, value, ◌unless◌, ◌when◌, settle}
use Rattle.model.specs.Calls.{step}
use Rattle.model.specs.Lines.{forms, parse}
use Rattle.model.specs.Image.{encode, save_effect, saved_buffer}
use Rattle.model.specs.Entry.{entry}
use Rattle.model.specs.Lists.{save, perform, calls}
use Rattle.model.specs.Edges.{asked}
use Rattle.model.specs.ImageCases.{everything, full, ImageCases, EntryCases}
use Rattle.model.proofs.Edges.{calls_compute, rules_compute, image_compute, quick, computed, quick_run, run_computed, fresh_formed}
use Rattle.model.proofs.Kept.{Kept}
use Rattle.model.proofs.Rules.{kept→, kept←}
use Rattle.model.proofs.Running.{run_keeps}

-- save, where the rules are known to be kept and need no test
save_alone : Register → ℕ → Outcome
save_alone r room = (settle r (16 when ltb room (length (encode r)) ∷ []) (length (encode r)) r).answer

save_quick : (r : Register) (room : ℕ) → Kept r → (perform r (save room)).answer ≡ save_alone r room
unfolding perform save_effect settle save_alone
save_quick r room k =
    ap (λ (b : Bool). (settle r (15 unless (b ∷ []) ∷ 16 when ltb room (length (encode r)) ∷ []) (length (encode r)) r).answer) (T→true (well_formed r) (kept← r k))

pub image_cases : ImageCases
unfolding calls_compute rules_compute image_compute quick quick_run save_alone
image_cases =
    record {
      accepted = computed refl;
      encoded = ap encode quickly ∙ refl;
      loaded = refl;
      saved = save_quick full 149 kept ∙ ap (λ (r : Register). save_alone r 149) quickly ∙ refl;
      saved_short = save_quick full 148 kept ∙ ap (λ (r : Register). save_alone r 148) quickly ∙ refl;
      saved_fresh = save_quick fresh 26 (kept→ fresh fresh_formed);
      saved_nowhere = save_quick fresh 0 (kept→ fresh fresh_formed);
      saved_into = ap (λ (r : Register). saved_buffer r (replicate 151 7) (value 149)) quickly ∙ refl;
    }
  where
    quickly : full ≡ quick_run fresh (asked everything)
    quickly = run_computed (asked everything)

    kept : Kept full
    kept = run_keeps fresh (calls (asked everything)) (kept→ fresh fresh_formed)

pub entry_cases : EntryCases
unfolding calls_compute rules_compute image_compute step forms parse entry
entry_cases =
    record {
      room = refl;
      room_short = refl;
      own_before_room = refl;
      line_before_room = refl;
      image_before_line = refl;
      new_client = refl;
      new_client_room = refl;
      new_client_own = refl;
      new_client_line = refl;
      one_byte = refl;
      unended = refl;
      two_lines = refl;
      negative = refl;
      untouched = refl;
      positive = refl;
      filled = refl;
    }
