-- What is done of a list of requests, one step further.
use mathlib.Core.Path.{◌≡◌, refl, sym, ap, ap₂, ◌∙◌, subst}
use mathlib.Core.Bool.{false}
use mathlib.Core.List.{List, [], ◌∷◌, ◌++◌, map}
use Prim.Native.Nat.{ℕ, suc, ◌+◌, ◌-◌, ◌≤◌, ◌<◌, min}
use mathlib.Core.Logic.{◌⊎◌, inl, inr}
use native.Mathlib.Nat.{eq-or-lt_of_le}
use native.Mathlib.Numerals.{add-one}
use native.Mathlib.Omega.{arith}
use lib.Dec.{T}
use lib.ListN.{length, take, get_or, set, replicate, length-map}
use lib.Seq.{take-suc, take_all, length-take-le, append_snoc, set-append_seam}
use Rattle.std.specs.Prelude.{Result}
use Rattle.std.proofs.lemmas.List.{map-set, map-append, length-replicate, replicate-append-replicate}
use Rattle.model.specs.declared.Refusal.{Refusal}
use Rattle.model.specs.declared.Request.{Request}
use Rattle.model.specs.declared.Register.{Register}
use Rattle.model.specs.Rules.{well_formed}
use Rattle.model.specs.Rulings.{Outcome, value, refused, Effect}
use Rattle.model.specs.Calls.{Call, settled, step}
use Rattle.model.specs.Requests.{call_of, outcome_of}
use Rattle.model.specs.Lists.{Event, call, calls, perform, run, answers}
use Rattle.model.proofs.Settling.{step-settled, broken}
use Rattle.model.proofs.Rules.{kept→, kept←}
use Rattle.model.proofs.Running.{run_keeps}
use Rattle.model.proofs.Runs.{batches_run}
use Rattle.batch.specs.Batch.{calls_of, outcomes_of, padded_answers}

-- ---- answers stored one after the other

-- the answers so far, and `value 0` in the places from i on
abbrev pub padded : List Outcome → ℕ → List Outcome
padded done i = done ++ replicate (64 - i) (value 0)

pub stored : (told : List (Result ℕ Refusal)) (t : Result ℕ Refusal) (done : List Outcome) (i : ℕ) → length done ≡ i → i < 64 → outcomes_of told ≡ padded done i
    → outcomes_of (set told i t) ≡ padded (done ++ outcome_of t ∷ []) (i + 1)
stored told t done i amount l e =
    let o = outcome_of t in
    let rest : List Outcome = replicate (64 - (i + 1)) (value 0) in
    let one : 64 - i ≡ suc (64 - (i + 1)) = omega arith in
    map-set outcome_of told i t
    ∙ ap (λ (x : List Outcome). set x i o) (e ∙ ap (λ (k : ℕ). done ++ replicate k (value 0)) one)
    ∙ ap (λ (k : ℕ). set (done ++ value 0 ∷ rest) k o) (sym amount)
    ∙ set-append_seam done (value 0) rest o
    ∙ sym (append_snoc done o rest)

-- ---- the calls of the first i requests

abbrev pub first_calls : ℕ → List Request → List Event
first_calls i requests = calls (map call_of (take i requests))

calls-append : (cs ds : List Call) → calls (cs ++ ds) ≡ calls cs ++ calls ds
calls-append [] ds = refl
calls-append (c ∷ cs) ds = ap (λ (es : List Event). call c ∷ es) (calls-append cs ds)

length-calls : (cs : List Call) → length (calls cs) ≡ length cs
length-calls [] = refl
length-calls (c ∷ cs) = ap suc (length-calls cs)

length-answers : (r : Register) (es : List Event) → length (answers r es) ≡ length es
unfolding answers
length-answers r [] = refl
length-answers r (e ∷ es) = ap suc (length-answers (perform r e).after es)

one_call : (requests : List Request) (i : ℕ) (d : Request) → i < length requests
    → first_calls (i + 1) requests ≡ first_calls i requests ++ call (call_of (get_or requests i d)) ∷ []
one_call requests i d l =
    ap (λ (k : ℕ). first_calls k requests) (add-one i)
    ∙ ap (λ (x : List Request). calls (map call_of x)) (take-suc requests i d l)
    ∙ ap calls (map-append call_of (take i requests) _)
    ∙ calls-append (map call_of (take i requests)) _

amount_answered : (start : Register) (requests : List Request) (i : ℕ) → i ≤ length requests → length (answers start (first_calls i requests)) ≡ i
amount_answered start requests i l =
    length-answers start _ ∙ length-calls _ ∙ length-map (take i requests) call_of ∙ length-take-le i requests l

-- ---- a loop over the requests

-- after i of them
pub record Playing (start : Register) (requests : List Request) (r : Register) (told : List (Result ℕ Refusal)) (i : ℕ) : Type 0 where
  pub register : r ≡ run start (first_calls i requests)
  pub outcomes : outcomes_of told ≡ padded (answers start (first_calls i requests)) i

-- before the first
pub playing_start : (start : Register) (requests : List Request) (told : List (Result ℕ Refusal)) → outcomes_of told ≡ replicate 64 (value 0) → Playing start requests start told 0
unfolding run answers
playing_start start requests told e = record { register = refl; outcomes = e }

module _ (start : Register) (requests : List Request) (r : Register) (told : List (Result ℕ Refusal)) (i : ℕ) (p : Playing start requests r told i) where
  pub playing_formed : T (well_formed start) → T (well_formed r)
  playing_formed k = subst (λ (x : Register). T (well_formed x)) (sym p.register) (kept← _ (run_keeps start _ (kept→ start k)))

  pub playing_more : T (well_formed start) → (d : Request) (z : Effect Register) (t : Result ℕ Refusal) → i < length requests → i < 64
      → z ≡ settled r (call_of (get_or requests i d)) → outcome_of t ≡ z.answer → Playing start requests z.after (set told i t) (i + 1)
  unfolding run answers perform
  playing_more k d z t l small e o =
      let c = call_of (get_or requests i d) in
      let before : List Event = first_calls i requests in
      let now : Register = run start before in
      let one = one_call requests i d l in
      let same : step now c ≡ z = ap (λ (x : Register). step x c) (sym p.register) ∙ step-settled r c (playing_formed k) ∙ sym e in
      record {
        register = sym (ap (run start) one ∙ batches_run.register start before _ ∙ ap (λ (x : Effect Register). x.after) same);
        outcomes =
            stored told t (answers start before) i (amount_answered start requests i (omega arith)) small p.outcomes
            ∙ ap (λ (x : List Outcome). padded x (i + 1))
            (ap (λ (x : Outcome). answers start before ++ x ∷ []) (o ∙ ap (λ (x : Effect Register). x.answer) (sym same))
            ∙ sym (ap (answers start) one ∙ batches_run.answered start before _));
      }

-- all of them
pub playing_done : (start : Register) (requests : List Request) (r : Register) (told : List (Result ℕ Refusal)) (i : ℕ) → Playing start requests r told i
    → i ≡ length requests → length requests ≤ 64 → (r ≡ run start (calls_of requests)) × (outcomes_of told ≡ padded_answers start requests)
playing_done start requests r told i p e l =
    let all : take i requests ≡ take 64 requests = take_all i requests (omega arith) ∙ sym (take_all 64 requests l) in
    let same : first_calls i requests ≡ calls_of requests = ap (λ (x : List Request). calls (map call_of x)) all in (
      p.register ∙ ap (run start) same,
      p.outcomes ∙ ap₂ (λ (x : List Event) (k : ℕ). padded (answers start x) k) same e,
    )

-- ---- a register that breaks a rule

run_broken : (r : Register) (cs : List Call) → well_formed r ≡ false → run r (calls cs) ≡ r
unfolding run perform
run_broken r [] e = refl
run_broken r (c ∷ cs) e = ap (λ (z : Effect Register). run z.after (calls cs)) (sym (broken r c e)) ∙ run_broken r cs e

answers_broken : (r : Register) (cs : List Call) → well_formed r ≡ false → answers r (calls cs) ≡ replicate (length cs) (refused 15)
unfolding answers perform
answers_broken r [] e = refl
answers_broken r (c ∷ cs) e =
    ap (λ (z : Effect Register). z.answer ∷ answers z.after (calls cs)) (sym (broken r c e))
    ∙ ap (λ (x : List Outcome). refused 15 ∷ x) (answers_broken r cs e)

-- refusals stored one after the other
pub refused_more : (told : List (Result ℕ Refusal)) (t : Result ℕ Refusal) (i : ℕ) → outcome_of t ≡ refused 15 → i < 64 → outcomes_of told ≡ padded (replicate i (refused 15)) i
    → outcomes_of (set told i t) ≡ padded (replicate (i + 1) (refused 15)) (i + 1)
refused_more told t i o l e =
    stored told t (replicate i (refused 15)) i (length-replicate i (refused 15)) l e
    ∙ ap (λ (x : Outcome). padded (replicate i (refused 15) ++ x ∷ []) (i + 1)) o
    ∙ ap (λ (x : List Outcome). padded x (i + 1)) (replicate-append-replicate i 1 (refused 15))

-- ---- the whole

module _ (start : Register) (requests : List Request) (n : ℕ) (amount : n ≡ min (length requests) 64) where
  -- the first n are the first 64
  first_all : take n requests ≡ take 64 requests
  first_all = let low : n ≤ 64 = omega arith in cases (eq-or-lt_of_le low)
    where
      cases : (n ≡ 64) ⊎ (n < 64) → take n requests ≡ take 64 requests
      cases (inl e) = ap (λ (k : ℕ). take k requests) e
      cases (inr l) = take_all n requests (omega arith) ∙ sym (take_all 64 requests (omega arith))

  few : length (take n requests) ≡ n
  few = length-take-le n requests (omega arith)

  -- every request is refused
  pub all_broken : (told : List (Result ℕ Refusal)) → well_formed start ≡ false → outcomes_of told ≡ padded (replicate n (refused 15)) n
      → (start ≡ run start (calls_of requests)) × (outcomes_of told ≡ padded_answers start requests)
  all_broken told e o =
      let cs : List Call = map call_of (take 64 requests) in
      let size : n ≡ length cs = sym (length-map (take 64 requests) call_of ∙ ap length (sym first_all) ∙ few) in
      let rest : 64 - n ≡ 64 - length requests = omega arith in (
        sym (run_broken start cs e),
        o
            ∙ ap₂ (λ (x : List Outcome) (k : ℕ). x ++ replicate k (value 0))
            (ap (λ (k : ℕ). replicate k (refused 15)) size ∙ sym (answers_broken start cs e)) rest,
      )

  -- what is said of the first n is said of all
  pub all_formed : (first : List Request) (r : Register) (told : List (Result ℕ Refusal)) → first ≡ take n requests
      → (r ≡ run start (calls_of first)) × (outcomes_of told ≡ padded_answers start first)
      → (r ≡ run start (calls_of requests)) × (outcomes_of told ≡ padded_answers start requests)
  all_formed first r told e h =
      let short : length first ≡ n = ap length e ∙ few in
      let same : calls_of first ≡ calls_of requests = ap (λ (x : List Request). calls (map call_of x)) (take_all 64 first (omega arith) ∙ e ∙ first_all) in
      let rest : 64 - length first ≡ 64 - length requests = omega arith in
      (h.0 ∙ ap (run start) same, h.1 ∙ ap₂ (λ (x : List Event) (k : ℕ). answers start x ++ replicate k (value 0)) same rest)
