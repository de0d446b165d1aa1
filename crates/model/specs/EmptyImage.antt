-- The empty image, which has no bytes, is a new client (§8.5.3): it stands for the fresh register, in a list and at the entry
-- point. `proofs/EmptyImage.antt` proves it. Crate `image` adds that no other accepted image is saved as other bytes (Laws.antt).
use Rattle.std.specs.Prelude.{◌≡◌, ◌≢◌, List, [], ◌∷◌, ◌++◌, ℕ, T, replicate}
use Rattle.model.specs.declared.Register.{Register}
use Rattle.model.specs.State.{fresh}
use Rattle.model.specs.Rulings.{value}
use Rattle.model.specs.Image.{encode, decode, loads}
use Rattle.model.specs.Entry.{entry}
use Rattle.model.specs.Lists.{Event, load, run, answers, derived_from}
use Rattle.model.specs.Theorem.{Guarantee}
use Rattle.model.specs.Runs.{Invocation, chain, chain_calls, chain_answers}

pub record EmptyImage : Type 0 where
  -- it is accepted, and read as the fresh register, which saves 26 bytes
  pub accepted : T (loads [])
  pub read : decode [] ≡ fresh
  pub saved : encode fresh ≡ replicate 26 0
  -- a list in which it is loaded starts anew there from the fresh register, whatever stood before, a broken register too
  pub list_register : (r : Register) (before after : List Event) → run r (before ++ (load [] ∷ after)) ≡ run fresh after
  pub list_answers : (r : Register) (before after : List Event)
      → answers r (before ++ (load [] ∷ after)) ≡ answers r before ++ (value 0 ∷ answers fresh after)
  pub list_derived : (r : Register) (before after : List Event) → derived_from r (before ++ (load [] ∷ after)) ≡ derived_from fresh after
  pub list_guaranteed : (r : Register) (before after : List Event) →
      let events : List Event = before ++ (load [] ∷ after) in
      Guarantee (run r events) (derived_from r events)
  -- the entry point returns and writes the same for it as for the image of the fresh register
  pub entry_same : (line : List ℕ) (room : ℕ) → entry [] line room ≡ entry (encode fresh) line room
  -- so a chain of calls from C may begin with it: the same list, the same returns, and once an image is kept, the same image
  pub calls_of_chain : (is : List Invocation) → chain_calls [] is ≡ chain_calls (encode fresh) is
  pub answers_of_chain : (is : List Invocation) → chain_answers [] is ≡ chain_answers (encode fresh) is
  pub chain_image : (is : List Invocation) → chain [] is ≢ [] → chain [] is ≡ chain (encode fresh) is
