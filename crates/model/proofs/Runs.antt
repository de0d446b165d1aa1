-- A journal and batches are lists; what one call from C returns.
use mathlib.Core.Path.{◌≡◌, refl, sym, ap, ◌∙◌, subst}
use mathlib.Core.Bool.{Bool, true, false, not, cond}
use mathlib.Core.List.{List, [], ◌∷◌, ◌++◌, map, append_assoc}
use mathlib.Core.Option.{Option, none, some}
use Prim.Native.Nat.{ℕ, ◌+◌, ◌≤◌}
use borrow.Author.Tests.{le-leb, lt-leb, leb-true, leb-false}
use native.Mathlib.Omega.{arith}
use lib.Dec.{T, leb, lit≤}
use lib.ListN.{length}
use Rattle.masks.specs.Bytes.{split}
use Rattle.masks.proofs.Truth.{true→T}
use Rattle.model.specs.declared.Origin.{Origin}
use Rattle.model.specs.declared.Register.{Register}
use Rattle.model.specs.State.{fresh, origin_at}
use Rattle.model.specs.Rulings.{Outcome, value, refused}
use Rattle.model.specs.Calls.{Call, step}
use Rattle.model.specs.Image.{encode, decode, loads}
use Rattle.model.specs.Lines.{parse, printed}
use Rattle.model.specs.Journal.{requested, line_effect, unended, transcript, journal}
use Rattle.model.specs.Entry.{Return, declined, done, sole_line, answered, called, entry}
use Rattle.model.specs.Lists.{Event, perform, calls, run, answers, derived_next, derived_after, derived_from}
use Rattle.model.specs.Theorem.{asked, next, Guarantee}
use Rattle.model.specs.Runs.{lines_of, last_of, calls_among, list_of, interleaved, line_answers, printed_all, JournalRuns, BatchesRun, Accepted, Declined, no_image, no_call, not_accepted, no_room, ReturnInBounds, EntryReturns}
use Rattle.model.proofs.Rules.{kept←}
use Rattle.model.proofs.Running.{loads_kept}
use Rattle.model.proofs.EachAnswer.{Own, own_answer}
use Rattle.model.proofs.ListTheorem.{list_theorem}
use Rattle.model.proofs.Edges.{fresh_formed}

-- ---- a journal

-- one line, and the lines after it
line_more : (r : Register) (q : Option Call) (qs : List (Option Call)) (rest : Register → List ℕ) →
    let r' : Register = (requested r q).after in
    printed (requested r q).answer ++ (printed_all (interleaved qs (answers r' (calls (calls_among qs)))) ++ rest (run r' (calls (calls_among qs))))
    ≡ printed_all (interleaved (q ∷ qs) (answers r (calls (calls_among (q ∷ qs))))) ++ rest (run r (calls (calls_among (q ∷ qs))))
unfolding run answers perform
line_more r none qs rest = sym (append_assoc (printed (refused 1)) _ _)
line_more r (some c) qs rest = sym (append_assoc (printed (step r c).answer) _ _)

transcript_more : (r : Register) (line : List ℕ) (lines : List (List ℕ)) (part : List ℕ) (more : List (List ℕ))
    → transcript r (line ∷ (lines ++ (part ∷ more))) ≡ printed (line_effect r line).answer ++ transcript (line_effect r line).after (lines ++ (part ∷ more))
unfolding transcript
transcript_more r line [] part more = refl
transcript_more r line (x ∷ lines) part more = refl

lines_list : (r : Register) (lines : List (List ℕ)) (part : List ℕ) (more : List (List ℕ))
    → transcript r (lines ++ (part ∷ more)) ≡ printed_all (line_answers r lines) ++ transcript (run r (list_of lines)) (part ∷ more)
unfolding run answers line_effect
lines_list r [] part more = refl
lines_list r (line ∷ lines) part more =
    transcript_more r line lines part more
    ∙ ap (λ (l : List ℕ). printed (line_effect r line).answer ++ l) (lines_list (line_effect r line).after lines part more)
    ∙ line_more r (parse line) (map parse lines) (λ q. transcript q (part ∷ more))

-- the lines and the last part are the parts
parts_again : (part : List ℕ) (more : List (List ℕ)) → lines_of (part ∷ more) ++ (last_of (part ∷ more) ∷ []) ≡ part ∷ more
parts_again part [] = refl
parts_again part (x ∷ more) = ap (λ (l : List (List ℕ)). part ∷ l) (parts_again x more)

transcript_list : (r : Register) (parts : List (List ℕ)) → transcript r parts ≡ printed_all (line_answers r (lines_of parts)) ++ unended (last_of parts)
unfolding transcript answers
transcript_list r [] = refl
transcript_list r (part ∷ more) = ap (transcript r) (sym (parts_again part more)) ∙ lines_list r (lines_of (part ∷ more)) (last_of (part ∷ more)) []

pub journal_runs : JournalRuns
unfolding journal
journal_runs =
    record {
      output = λ r input h. rw (le-leb _ _ h, journal) (transcript_list r (split 10 input));
      longer = λ r input h. rw (lt-leb _ _ h, journal);
      register = lines_list;
      guaranteed = λ lines. list_theorem fresh (list_of lines) fresh_formed;
    }

-- ---- batches

run-append : (r : Register) (first second : List Event) → run r (first ++ second) ≡ run (run r first) second
unfolding run
run-append r [] second = refl
run-append r (e ∷ first) second = run-append (perform r e).after first second

answers-append : (r : Register) (first second : List Event) → answers r (first ++ second) ≡ answers r first ++ answers (run r first) second
unfolding run answers
answers-append r [] second = refl
answers-append r (e ∷ first) second = ap (λ (l : List Outcome). (perform r e).answer ∷ l) (answers-append (perform r e).after first second)

derived_append : (r : Register) (first second : List Event) (d : ℕ → Origin)
    → derived_after r (first ++ second) d ≡ derived_after (run r first) second (derived_after r first d)
unfolding run derived_after
derived_append r [] second d = refl
derived_append r (e ∷ first) second d = derived_append (perform r e).after first second (derived_next e (perform r e).answer d)

pub batches_run : BatchesRun
unfolding derived_from
batches_run =
    record {
      register = run-append;
      answered = answers-append;
      derived = λ r first second. derived_append r first second (origin_at r.capabilities);
      guaranteed = λ r first second h.
          subst
          (λ (d : ℕ → Origin). Guarantee (run (run r first) second) d)
          (derived_append r first second (origin_at r.capabilities))
          (subst (λ (z : Register). Guarantee z (derived_from r (first ++ second))) (run-append r first second) (list_theorem r (first ++ second) h));
    }

-- ---- one call from C

module _ (image line : List ℕ) (room : ℕ) where
  -- why q is returned
  abbrev Why : Return → Type 0
  Why (declined n) = Declined image line room n
  Why (done v new) = (c : Call) × Accepted image line room v new c

  module _ (l : T (loads image)) (c : Call) (e : sole_line (split 10 line) ≡ some c) where
    -- a value of a call, by whether there is room
    by_room : (v : ℕ) → asked (decode image) c ≡ value v → (b : Bool) → leb (length (encode (next (decode image) c)) + 2) room ≡ b
        → Why (cond b (done v (encode (next (decode image) c))) (declined 16))
    by_room v a true h = (c, record { loaded = l; said = e; answer = a; saved = refl; fits = leb-true _ _ h })
    by_room v a false h = no_room l c v e a (leb-false _ _ h) refl

    by_answer : (a : Outcome) → asked (decode image) c ≡ a → Why (answered room a (next (decode image) c))
    by_answer (refused n) h = not_accepted l c e h
    by_answer (value v) h = by_room v h _ refl

  by_line : T (loads image) → (q : Option Call) → sole_line (split 10 line) ≡ q → Why (called room (decode image) q)
  by_line l none e = no_call l e refl
  by_line l (some c) e = by_answer l c e _ refl

  by_image : (b : Bool) → loads image ≡ b
      → Why (elim b as (λ x. Return) [ true ↦ called room (decode image) (sole_line (split 10 line)) | false ↦ declined 14 ])
  by_image true e = by_line (true→T (loads image) e) _ refl
  by_image false e = no_image (subst (λ (t : Bool). T (not t)) (sym e) tt) refl

  why : Why (entry image line room)
  unfolding entry
  why = by_image (loads image) refl

  -- what a return is, by why
  bounded_return : (q : Return) → Why q → ReturnInBounds q
  bounded_return (declined n) (no_image l e) = subst (λ (k : ℕ). ReturnInBounds (declined k)) (sym e) (lit≤ tt, lit≤ tt, λ f. omega (arith, f))
  bounded_return (declined n) (no_call l s e) = subst (λ (k : ℕ). ReturnInBounds (declined k)) (sym e) (lit≤ tt, lit≤ tt, λ f. omega (arith, f))
  bounded_return (declined n) (no_room l c v s a m e) = subst (λ (k : ℕ). ReturnInBounds (declined k)) (sym e) (lit≤ tt, lit≤ tt, λ f. omega (arith, f))
  bounded_return (declined n) (not_accepted l c s a) =
      let own : (1 ≤ n) × (n ≤ 13) = subst Own a (own_answer (decode image) c (kept← (decode image) (loads_kept image l))) in
      (own.0, omega (arith, own.1), λ f. omega (arith, own.1, f))
  bounded_return (done v new) (c, a) = subst Own a.answer (own_answer (decode image) c (kept← (decode image) (loads_kept image a.loaded)))

pub entry_returns : EntryReturns
entry_returns =
    record {
      value_returned = λ image line new room v e. subst (Why image line room) e (why image line room);
      refusal_returned = λ image line room n e. subst (Why image line room) e (why image line room);
      return_in_bounds = λ image line room. bounded_return image line room (entry image line room) (why image line room);
    }
