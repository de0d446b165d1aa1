-- A chain of calls from C is a list: an image that is returned is read again as the register that it was written of.
use mathlib.Core.Path.{◌≡◌, refl, sym, ap, ap₂, ◌∙◌, subst}
use mathlib.Core.Logic.{inr, ◌≢◌}
use mathlib.Core.Bool.{Bool, true, false, cond}
use mathlib.Core.List.{List, [], ◌∷◌, ◌++◌, append_assoc}
use mathlib.Core.Option.{Option, none, some}
use Prim.Native.Nat.{ℕ, ◌≤◌}
use native.Mathlib.Omega.{arith}
use lib.Dec.{T, T_not, eqb}
use lib.ListN.{length, take, drop}
use lib.Seq.{drop_at, take_at}
use Rattle.masks.specs.Bytes.{bytes_of, split}
use Rattle.model.specs.declared.Register.{Register}
use Rattle.model.specs.Rulings.{Outcome, value, refused}
use Rattle.model.specs.Calls.{Call}
use Rattle.model.specs.Image.{encode, decode, loads}
use Rattle.model.specs.Entry.{Return, declined, done, sole_line, buffer_after}
use Rattle.model.specs.Lists.{call, calls, perform, run, answers, derived_from}
use Rattle.model.specs.Theorem.{asked, next, Guarantee}
use Rattle.model.specs.Runs.{Accepted, Declined, no_image, no_call, not_accepted, no_room, Invocation, invoked, image_in, image_after, chain, call_answered, answer_returned, add_for, chain_calls, chain_answers, chain_list, EachRefused, EntryRuns}
use Rattle.model.proofs.Rules.{kept←}
use Rattle.model.proofs.Running.{step_keeps, loads_kept}
use Rattle.model.proofs.EachAnswer.{each_answer}
use Rattle.model.proofs.ListTheorem.{list_theorem}
use Rattle.model.proofs.Runs.{entry_returns}
use Rattle.image.specs.Laws.{ImageOf}
use Rattle.image.proofs.Accepted.{some_bytes, image_laws}
use Rattle.fields.proofs.Numbers.{length-bytes, number_back}

-- ---- one call

-- a refused call leaves the register as it was
call_stays : (r : Register) (c : Call) {n : ℕ} → asked r c ≡ refused n → next r c ≡ r
unfolding perform
call_stays r c {n} e = each_answer.refused_stays r (call c) n e

-- an image at the front of an area, behind its length, is read from it
image_read : (new area : List ℕ) (v : ℕ) → length new ≤ 13402 → image_in (buffer_after (done v new) area) ≡ new
image_read new area v h =
    let n : ℕ = length new in
    let rest : List ℕ = drop (length (bytes_of 2 n ++ new)) area in
    ap image_in (append_assoc (bytes_of 2 n) new rest)
    ∙ ap (λ (k : ℕ). take k (drop 2 (bytes_of 2 n ++ (new ++ rest)))) (number_back 2 n (new ++ rest) (omega arith))
    ∙ ap (take n) (drop_at (bytes_of 2 n) (new ++ rest) 2 (length-bytes 2 n))
    ∙ take_at new rest n refl

module _ (image line new : List ℕ) (room v : ℕ) (c : Call) (a : Accepted image line room v new c) where
  image_of : ImageOf new (next (decode image) c)
  image_of = (kept← _ (step_keeps (decode image) c (loads_kept image a.loaded)), sym a.saved)

  new_loads : T (loads new)
  new_loads = (image_laws.accepted new).1 (inr (next (decode image) c, image_of))

  new_register : decode new ≡ next (decode image) c
  new_register = image_laws.loaded new (next (decode image) c) new_loads image_of

  new_small : length new ≤ 13402
  new_small = subst (λ (s : List ℕ). length s ≤ 13402) (sym a.saved) (image_laws.most (next (decode image) c) image_of.0)

  new_some : new ≢ []
  new_some e = some_bytes _ (sym a.saved ∙ e)

-- ---- a chain

-- what is kept is `kept`, and what follows it; the list and its answers start from the image
abbrev Goes : (image kept : List ℕ) (more : List Invocation) (cs : List Call) (answered : List Outcome) → Type 0
Goes image kept more cs answered =
    T (loads (chain kept more)) × (decode (chain kept more) ≡ run (decode image) (calls cs)) × (answers (decode image) (calls cs) ≡ answered)

abbrev Chained : (image : List ℕ) (is : List Invocation) → Type 0
Chained image is = Goes image image is (chain_calls image is) (chain_answers image is)

-- a call before a chain on the image that is kept of it
call_before : (image kept : List ℕ) (c : Call) (a : Outcome) (more : List Invocation) → asked (decode image) c ≡ a → decode kept ≡ next (decode image) c
    → Chained kept more → Goes image kept more (c ∷ chain_calls kept more) (a ∷ chain_answers kept more)
unfolding run answers perform
call_before image kept c a more ea e h = (
  h.0,
  h.1 ∙ ap (λ (r : Register). run r (chain_list kept more)) e,
  ap₂ (λ (o : Outcome) (r : Register). o ∷ answers r (chain_list kept more)) ea (sym e) ∙ ap (λ (l : List Outcome). a ∷ l) h.2,
)

-- one call more, by what it returned
module _ (image : List ℕ) (i : Invocation) (more : List Invocation) (ih : (kept : List ℕ) → T (loads kept) → Chained kept more) where
  abbrev line : List ℕ
  line = i.line

  abbrev room : ℕ
  room = length i.area

  abbrev More : List ℕ → Return → Option Call → Type 0
  More kept q s = Goes image kept more (add_for (call_answered q s) (λ c. c) (chain_calls kept more)) (add_for (call_answered q s) (λ c. answer_returned q) (chain_answers kept more))

  -- a refusal, by its cause; that of a call is the list's, but for 16
  refused_more : (n : ℕ) → T (loads image) → Declined image line room n → More image (declined n) (sole_line (split 10 line))
  refused_more n h (no_image l e) = absurd (T_not (loads image) l h)
  refused_more n h (no_call l s e) = subst (More image (declined n)) (sym s) (ih image h)
  refused_more n h (no_room l c v s a m e) =
      subst (More image (declined n)) (sym s) (subst (λ (k : ℕ). More image (declined k) (some c)) (sym e) (ih image h))
  refused_more n h (not_accepted l c s a) = subst (More image (declined n)) (sym s) (by_number (eqb n 16))
    where
      before : Goes image image more (c ∷ chain_calls image more) (refused n ∷ chain_answers image more)
      before = call_before image image c (refused n) more a (sym (call_stays (decode image) c a)) (ih image h)

      by_number : (b : Bool) → let q : Option Call = cond b none (some c) in
          Goes image image more (add_for q (λ c. c) (chain_calls image more)) (add_for q (λ c. refused n) (chain_answers image more))
      by_number true = ih image h
      by_number false = before

  accepted_more : (v : ℕ) (new : List ℕ) (c : Call) → Accepted image line room v new c
      → More (image_in (buffer_after (done v new) i.area)) (done v new) (sole_line (split 10 line))
  accepted_more v new c a =
      subst (λ (kept : List ℕ). More kept (done v new) (sole_line (split 10 line))) (sym (image_read new i.area v (new_small image line new room v c a)))
      (subst
      (More new (done v new))
      (sym a.said)
      (call_before image new c (value v) more a.answer (new_register image line new room v c a) (ih new (new_loads image line new room v c a))))

  call_more : (q : Return) → invoked image i ≡ q → T (loads image) → More (image_after image i.area q) q (sole_line (split 10 line))
  call_more (declined n) e h = refused_more n h (entry_returns.refusal_returned image line room n e)
  call_more (done v new) e h =
      let found : (c : Call) × Accepted image line room v new c = entry_returns.value_returned image line new room v e in
      accepted_more v new found.0 found.1

chained : (image : List ℕ) (is : List Invocation) → T (loads image) → Chained image is
unfolding chain chain_calls chain_answers run answers
chained image [] h = (h, refl, refl)
chained image (i ∷ more) h = call_more image i more (λ kept l. chained kept more l) (invoked image i) refl h

-- ---- a chain that ends with the empty image

-- refused calls leave what is kept
refused_chain : (image : List ℕ) (is : List Invocation) → EachRefused image is → chain image is ≡ image
unfolding chain
refused_chain image [] h = refl
refused_chain image (i ∷ more) h = ap (λ (q : Return). chain (image_after image i.area q) more) h.0.1 ∙ refused_chain image more h.1

abbrev BeganEmpty : List ℕ → List Invocation → Type 0
BeganEmpty image is = (image ≡ []) × EachRefused image is

empty_more : (image : List ℕ) (i : Invocation) (more : List Invocation) → ((kept : List ℕ) → T (loads kept) → chain kept more ≡ [] → BeganEmpty kept more)
    → T (loads image) → (q : Return) → invoked image i ≡ q → chain (image_after image i.area q) more ≡ [] → BeganEmpty image (i ∷ more)
empty_more image i more ih h (declined n) e c = let p : BeganEmpty image more = ih image h c in (p.0, ((n, e), p.1))
empty_more image i more ih h (done v new) e c =
    let line : List ℕ = i.line in
    let room : ℕ = length i.area in
    let found : (c : Call) × Accepted image line room v new c = entry_returns.value_returned image line new room v e in
    let here : chain new more ≡ [] = ap (λ (s : List ℕ). chain s more) (sym (image_read new i.area v (new_small image line new room v found.0 found.1))) ∙ c in
    absurd (new_some image line new room v found.0 found.1 (ih new (new_loads image line new room v found.0 found.1) here).0)

empty-chain : (image : List ℕ) (is : List Invocation) → T (loads image) → chain image is ≡ [] → BeganEmpty image is
unfolding chain
empty-chain image [] h e = (e, tt)
empty-chain image (i ∷ more) h e = empty_more image i more (λ kept l. empty-chain kept more l) h (invoked image i) refl e

pub entry_runs : EntryRuns
entry_runs =
    record {
      accepted = λ image line area new v e.
          let room : ℕ = length area in
          let found : (c : Call) × Accepted image line room v new c = entry_returns.value_returned image line new room v e in
          let c : Call = found.0 in
          let a : Accepted image line room v new c = found.1 in
          (c, a, image_read new area v (new_small image line new room v c a), new_loads image line new room v c a, new_register image line new room v c a);
      loaded = λ image is h. (chained image is h).0;
      register = λ image is h. (chained image is h).1;
      saved = λ image is h. (
        (λ e n. some_bytes _ (sym e ∙ n)),
        (λ n. sym ((image_laws.saved_again (chain image is) (chained image is h).0).1 n) ∙ ap encode (chained image is h).1),
      );
      still_empty = λ image is h. (empty-chain image is h, λ p. refused_chain image is p.1 ∙ p.0);
      answered = λ image is h. (chained image is h).2;
      guaranteed = λ image is h.
          subst
          (λ (r : Register). Guarantee r (derived_from (decode image) (chain_list image is)))
          (sym (chained image is h).1)
          (list_theorem (decode image) (chain_list image is) (kept← _ (loads_kept image h)));
    }
