-- What is printed, by what load answers.
use mathlib.Core.Path.{◌≡◌, refl, sym, ap, ◌∙◌}
use mathlib.Core.List.{List}
use Prim.Native.Nat.{ℕ}
use Rattle.std.specs.Prelude.{Ok, Err}
use Rattle.model.specs.declared.Register.{Register}
use Rattle.model.specs.declared.Refusal.{Refusal}
use Rattle.model.specs.declared.Reply.{Reply}
use Rattle.model.specs.Rulings.{Outcome, Effect}
use Rattle.model.specs.Requests.{refusal_number, outcome_of, effect_of}
use Rattle.model.specs.Image.{decode, load_effect}
use Rattle.image.proofs.Calls.{load_said, load_unsaid}
use Rattle.player.specs.Play.{journal_length, journal_buffer}
use Rattle.measured.specs.Measured.{played_length, played_buffer}

module _ (image lines out : List ℕ) (before : Register) (q : Reply) (found : effect_of q ≡ load_effect before image) where
  answer_is : {o : Outcome} → outcome_of q.answer ≡ o → o ≡ (load_effect before image).answer
  answer_is e = sym e ∙ ap (λ (x : Effect Register). x.answer) found

  pub not_played : (why : Refusal) → q.answer ≡ Err why → (0 ≡ played_length image lines out) × (out ≡ played_buffer image lines out)
  unfolding played_length played_buffer
  not_played why h = rw (load_unsaid before image (refusal_number why) (answer_is (ap outcome_of h))) (refl, refl)

  pub is_played : (v : ℕ) → q.answer ≡ Ok v → (journal_length q.register lines out ≡ played_length image lines out) × (journal_buffer q.register lines out ≡ played_buffer image lines out)
  unfolding played_length played_buffer
  is_played v h =
      let said = load_said before image v (answer_is (ap outcome_of h)) in
      let read : q.register ≡ decode image = ap (λ (x : Effect Register). x.after) found ∙ said.1 in
      rw said.0 (ap (λ (r : Register). journal_length r lines out) read, ap (λ (r : Register). journal_buffer r lines out) read)
