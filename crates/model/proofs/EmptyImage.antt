-- The empty image is the fresh register to load, to lists, to the entry point and to chains of calls.
use mathlib.Core.Path.{◌≡◌, refl, sym, ap, ◌∙◌, subst}
use mathlib.Core.Logic.{◌≢◌}
use mathlib.Core.List.{List, [], ◌∷◌, ◌++◌}
use mathlib.Core.Option.{Option}
use Prim.Native.Nat.{ℕ}
use lib.ListN.{length}
use Rattle.masks.specs.Bytes.{split}
use Rattle.model.specs.declared.Origin.{Origin}
use Rattle.model.specs.declared.Register.{Register}
use Rattle.model.specs.State.{fresh, origin_at}
use Rattle.model.specs.Rulings.{Outcome, value, Effect}
use Rattle.model.specs.Calls.{Call}
use Rattle.model.specs.Image.{encode, decode}
use Rattle.model.specs.Entry.{Return, declined, done, sole_line, entry}
use Rattle.model.specs.Lists.{Event, load, run, answers, derived_next, derived_after, derived_from}
use Rattle.model.specs.Theorem.{Guarantee}
use Rattle.model.specs.Runs.{Invocation, invoked, image_after, chain, call_answered, answer_returned, add_for, chain_calls, chain_answers}
use Rattle.model.specs.EmptyImage.{EmptyImage}
use Rattle.model.proofs.ListTheorem.{list_theorem}
use Rattle.model.proofs.Edges.{rules_compute, calls_compute, image_compute, fresh_formed, edges}
use Rattle.model.proofs.Runs.{batches_run}

read_fresh : decode [] ≡ fresh
unfolding image_compute
read_fresh = refl

-- ---- in a list

run_anew : (r : Register) (es : List Event) → run r (load [] ∷ es) ≡ run fresh es
unfolding run
run_anew r es = ap (λ (q : Effect Register). run q.after es) (edges.e8_empty r)

answers_anew : (r : Register) (es : List Event) → answers r (load [] ∷ es) ≡ value 0 ∷ answers fresh es
unfolding answers
answers_anew r es = ap (λ (q : Effect Register). q.answer ∷ answers q.after es) (edges.e8_empty r)

derived_anew : (r : Register) (es : List Event) (d : ℕ → Origin) → derived_after r (load [] ∷ es) d ≡ derived_from fresh es
unfolding derived_after derived_from
derived_anew r es d =
    ap (λ (q : Effect Register). derived_after q.after es (derived_next (load []) q.answer d)) (edges.e8_empty r)
    ∙ ap (λ (q : Register). derived_after fresh es (origin_at q.capabilities)) read_fresh

module _ (r : Register) (before after : List Event) where
  abbrev events : List Event
  events = before ++ (load [] ∷ after)

  list_register : run r events ≡ run fresh after
  list_register = batches_run.register r before (load [] ∷ after) ∙ run_anew (run r before) after

  list_answers : answers r events ≡ answers r before ++ (value 0 ∷ answers fresh after)
  list_answers = batches_run.answered r before (load [] ∷ after) ∙ ap (λ (l : List Outcome). answers r before ++ l) (answers_anew (run r before) after)

  list_derived : derived_from r events ≡ derived_from fresh after
  list_derived = batches_run.derived r before (load [] ∷ after) ∙ derived_anew (run r before) after (derived_from r before)

  list_guaranteed : Guarantee (run r events) (derived_from r events)
  list_guaranteed =
      subst (λ (q : Register). Guarantee q (derived_from r events)) (sym list_register)
      (subst (λ (d : ℕ → Origin). Guarantee (run fresh after) d) (sym list_derived) (list_theorem fresh after fresh_formed))

-- ---- at the entry point

entry_same : (line : List ℕ) (room : ℕ) → entry [] line room ≡ entry (encode fresh) line room
unfolding calls_compute rules_compute image_compute entry
entry_same line room = refl

-- what is kept of a call on either image comes to the same wherever the two images do
kept_same : {A : Type 0} (f : List ℕ → A) (area : List ℕ) (q : Return) → f [] ≡ f (encode fresh) → f (image_after [] area q) ≡ f (image_after (encode fresh) area q)
kept_same f area (declined n) e = e
kept_same f area (done v new) e = refl

module _ (i : Invocation) (more : List Invocation) where
  abbrev said : Option Call
  said = sole_line (split 10 i.line)

  abbrev calls_after : Return → List ℕ → List Call
  calls_after q kept = add_for (call_answered q said) (λ c. c) (chain_calls kept more)

  abbrev answers_after : Return → List ℕ → List Outcome
  answers_after q kept = add_for (call_answered q said) (λ c. answer_returned q) (chain_answers kept more)

  -- what follows from a call's return and from what is kept of it is the same on both images
  by_return : {A : Type 0} (f : Return → List ℕ → A) → ((q : Return) → f q [] ≡ f q (encode fresh))
      → f (invoked [] i) (image_after [] i.area (invoked [] i)) ≡ f (invoked (encode fresh) i) (image_after (encode fresh) i.area (invoked (encode fresh) i))
  by_return f h =
      let q : Return = invoked [] i in
      kept_same (f q) i.area q (h q)
      ∙ ap (λ (x : Return). f x (image_after (encode fresh) i.area x)) (entry_same i.line (length i.area))

calls_of_chain : (is : List Invocation) → chain_calls [] is ≡ chain_calls (encode fresh) is
unfolding chain_calls
calls_of_chain [] = refl
calls_of_chain (i ∷ more) = by_return i more (calls_after i more) (λ q. ap (λ (l : List Call). add_for (call_answered q (said i more)) (λ c. c) l) (calls_of_chain more))

answers_of_chain : (is : List Invocation) → chain_answers [] is ≡ chain_answers (encode fresh) is
unfolding chain_answers
answers_of_chain [] = refl
answers_of_chain (i ∷ more) =
    by_return i more (answers_after i more) (λ q. ap (λ (l : List Outcome). add_for (call_answered q (said i more)) (λ c. answer_returned q) l) (answers_of_chain more))

chain_image : (is : List Invocation) → chain [] is ≢ [] → chain [] is ≡ chain (encode fresh) is
unfolding chain
chain_image [] n = absurd (n refl)
chain_image (i ∷ more) n =
    by_kept (invoked [] i) (chain_image more) n
    ∙ ap (λ (q : Return). chain (image_after (encode fresh) i.area q) more) (entry_same i.line (length i.area))
  where
    by_kept : (q : Return) → (chain [] more ≢ [] → chain [] more ≡ chain (encode fresh) more)
        → chain (image_after [] i.area q) more ≢ [] → chain (image_after [] i.area q) more ≡ chain (image_after (encode fresh) i.area q) more
    by_kept (declined k) h = h
    by_kept (done v new) h = λ m. refl

pub empty_image : EmptyImage
unfolding calls_compute rules_compute image_compute
empty_image =
    record {
      accepted = tt;
      read = read_fresh;
      saved = refl;
      list_register = list_register;
      list_answers = list_answers;
      list_derived = list_derived;
      list_guaranteed = list_guaranteed;
      entry_same = entry_same;
      calls_of_chain = calls_of_chain;
      answers_of_chain = answers_of_chain;
      chain_image = chain_image;
    }
