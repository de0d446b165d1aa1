-- What runs is a list of calls, so that `ListTheorem` speaks of it: a journal, batches one after the other, and a chain of calls
-- from C. `proofs/Runs.antt` proves the first two and `EntryReturns`; crate `promise`, above the round trip of images, `EntryRuns`.
use Rattle.std.specs.Prelude.{◌≡◌, ◌↔◌, ◌≢◌, not, cond, List, [], ◌∷◌, ◌++◌, map, ℕ, ◌+◌, ◌≤◌, ◌<◌, T, eqb, length, take, drop}
use Rattle.std.proofs.Math.Option.{Option, none, some}
use Rattle.masks.specs.Bytes.{number_of, first_bytes, split}
use Rattle.model.specs.declared.Register.{Register}
use Rattle.model.specs.State.{fresh}
use Rattle.model.specs.Rules.{well_formed}
use Rattle.model.specs.Rulings.{Outcome, value, refused}
use Rattle.model.specs.Calls.{Call}
use Rattle.model.specs.Image.{encode, decode, loads}
use Rattle.model.specs.Lines.{parse, printed}
use Rattle.model.specs.Journal.{unended, transcript, journal}
use Rattle.model.specs.Entry.{Return, declined, done, sole_line, entry, buffer_after}
use Rattle.model.specs.Lists.{Event, calls, run, answers, derived_after, derived_from}
use Rattle.model.specs.Theorem.{asked, next, Guarantee}

-- ---- a journal: `player::journal`

-- of the parts between line feeds, the lines: all but the last, which no line feed ends
abbrev pub lines_of : List (List ℕ) → List (List ℕ)
lines_of [] = []
lines_of (part ∷ []) = []
lines_of (part ∷ other ∷ more) = part ∷ lines_of (other ∷ more)

abbrev pub last_of : List (List ℕ) → List ℕ
last_of [] = []
last_of (part ∷ []) = part
last_of (part ∷ other ∷ more) = last_of (other ∷ more)

-- the calls of the lines that parse
abbrev pub calls_among : List (Option Call) → List Call
calls_among [] = []
calls_among (none ∷ more) = calls_among more
calls_among (some c ∷ more) = c ∷ calls_among more

abbrev pub list_of : List (List ℕ) → List Event
list_of lines = calls (calls_among (map parse lines))

-- an answer for each line, in their order: 1 to a malformed one, to any other the next of those that its call gets
abbrev pub interleaved : List (Option Call) → List Outcome → List Outcome
interleaved [] told = []
interleaved (none ∷ more) told = refused 1 ∷ interleaved more told
interleaved (some c ∷ more) [] = []
interleaved (some c ∷ more) (a ∷ told) = a ∷ interleaved more told

abbrev pub line_answers : Register → List (List ℕ) → List Outcome
line_answers r lines = interleaved (map parse lines) (answers r (list_of lines))

abbrev pub printed_all : List Outcome → List ℕ
printed_all [] = []
printed_all (a ∷ more) = printed a ++ printed_all more

pub record JournalRuns : Type 0 where
  -- the answers to its lines, and 1 where something follows the last line feed
  pub output : (r : Register) (input : List ℕ) → length input ≤ 32768
      → journal r input ≡ printed_all (line_answers r (lines_of (split 10 input))) ++ unended (last_of (split 10 input))
  -- a longer input is not performed
  pub longer : (r : Register) (input : List ℕ) → 32768 < length input → journal r input ≡ printed (refused 1)
  -- behind any lines of it stands the register of their list: what follows is answered on that
  pub register : (r : Register) (lines : List (List ℕ)) (part : List ℕ) (more : List (List ℕ))
      → transcript r (lines ++ (part ∷ more)) ≡ printed_all (line_answers r lines) ++ transcript (run r (list_of lines)) (part ∷ more)
  -- so the guarantee holds behind any lines of the program, which starts fresh
  pub guaranteed : (lines : List (List ℕ)) → Guarantee (run fresh (list_of lines)) (derived_from fresh (list_of lines))

-- ---- batches, as of `batch::apply_all`: one after the other they are one list

pub record BatchesRun : Type 0 where
  pub register : (r : Register) (first second : List Event) → run r (first ++ second) ≡ run (run r first) second
  pub answered : (r : Register) (first second : List Event) → answers r (first ++ second) ≡ answers r first ++ answers (run r first) second
  -- the origins by history go on from those of the first
  pub derived : (r : Register) (first second : List Event) → derived_from r (first ++ second) ≡ derived_after (run r first) second (derived_from r first)
  -- so the guarantee holds behind the second
  pub guaranteed : (r : Register) (first second : List Event) → T (well_formed r)
      → Guarantee (run (run r first) second) (derived_after (run r first) second (derived_from r first))

-- ---- calls from C: `fellunqa::fellunqa_apply`

-- call c is what the line says; on the register of `image` it has the value v, and `new` is the image of the register after it
pub record Accepted (image line : List ℕ) (room v : ℕ) (new : List ℕ) (c : Call) : Type 0 where
  pub loaded : T (loads image)
  pub said : sole_line (split 10 line) ≡ some c
  pub answer : asked (decode image) c ≡ value v
  pub saved : new ≡ encode (next (decode image) c)
  pub fits : length new + 2 ≤ room

-- why a refusal is returned (§11.2.1)
pub data Declined (image line : List ℕ) (room n : ℕ) : Type 0 where
  no_image : T (not (loads image)) → n ≡ 14 → Declined image line room n
  no_call : T (loads image) → sole_line (split 10 line) ≡ none → n ≡ 1 → Declined image line room n
  not_accepted : T (loads image) → (c : Call) → sole_line (split 10 line) ≡ some c → asked (decode image) c ≡ refused n → Declined image line room n
  no_room : T (loads image) → (c : Call) (v : ℕ) → sole_line (split 10 line) ≡ some c → asked (decode image) c ≡ value v
      → room < length (encode (next (decode image) c)) + 2 → n ≡ 16 → Declined image line room n

abbrev pub ReturnInBounds : Return → Type 0
ReturnInBounds (declined n) = (1 ≤ n) × (n ≤ 16) × (n ≢ 15)
ReturnInBounds (done v new) = v ≤ 4294967295

pub record EntryReturns : Type 0 where
  -- a return of a value is of a call that the line says
  pub value_returned : (image line new : List ℕ) (room v : ℕ) → entry image line room ≡ done v new → (c : Call) × Accepted image line room v new c
  -- a return of a refusal has one of four causes
  pub refusal_returned : (image line : List ℕ) (room n : ℕ) → entry image line room ≡ declined n → Declined image line room n
  -- a value has 32 bits, and a refusal is never 0: C tells one from the other by the sign. It never gets 15
  pub return_in_bounds : (image line : List ℕ) (room : ℕ) → ReturnInBounds (entry image line room)

-- one call from C: a line, and the area that is lent
pub record Invocation : Type 0 where
  pub line : List ℕ
  pub area : List ℕ

abbrev pub invoked : List ℕ → Invocation → Return
invoked image i = entry image i.line (length i.area)

-- the image in an area: two bytes are its length
abbrev pub image_in : List ℕ → List ℕ
image_in area = take (number_of (first_bytes 2 area)) (drop 2 area)

-- what C keeps: accepted, the image in the area; refused, the one that it had
abbrev pub image_after : List ℕ → List ℕ → Return → List ℕ
image_after image area (declined n) = image
image_after image area (done v new) = image_in (buffer_after (done v new) area)

abbrev pub kept_image : List ℕ → Invocation → List ℕ
kept_image image i = image_after image i.area (invoked image i)

-- each call is on the image that was kept before it
unfoldable pub chain : List ℕ → List Invocation → List ℕ
chain image [] = image
chain image (i ∷ more) = chain (kept_image image i) more

-- the call whose own answer is returned (§7.3.3): the one that the line says, unless 16 stands in the place of its value
abbrev pub call_answered : Return → Option Call → Option Call
call_answered q none = none
call_answered (declined n) (some c) = cond (eqb n 16) none (some c)
call_answered (done v new) (some c) = some c

-- what is returned, as an answer
abbrev pub answer_returned : Return → Outcome
answer_returned (declined n) = refused n
answer_returned (done v new) = value v

-- an item more where there is such a call
abbrev pub add_for : {A : Type 0} → Option Call → (Call → A) → List A → List A
add_for none item l = l
add_for (some c) item l = item c ∷ l

abbrev pub call_by : List ℕ → Invocation → Option Call
call_by image i = call_answered (invoked image i) (sole_line (split 10 i.line))

-- the list of a chain: these calls, refused ones too
unfoldable pub chain_calls : List ℕ → List Invocation → List Call
chain_calls image [] = []
chain_calls image (i ∷ more) = add_for (call_by image i) (λ c. c) (chain_calls (kept_image image i) more)

-- and what is returned to them
unfoldable pub chain_answers : List ℕ → List Invocation → List Outcome
chain_answers image [] = []
chain_answers image (i ∷ more) = add_for (call_by image i) (λ c. answer_returned (invoked image i)) (chain_answers (kept_image image i) more)

abbrev pub chain_list : List ℕ → List Invocation → List Event
chain_list image is = calls (chain_calls image is)

-- each call is refused on this image
abbrev pub EachRefused : List ℕ → List Invocation → Type 0
EachRefused image [] = Unit {0}
EachRefused image (i ∷ more) = ((n : ℕ) × (invoked image i ≡ declined n)) × EachRefused image more

pub record EntryRuns : Type 0 where
  -- a return of a value leaves in the area an image that is accepted, and its register is the call's
  pub accepted : (image line area new : List ℕ) (v : ℕ) → entry image line (length area) ≡ done v new
      → (c : Call) × Accepted image line (length area) v new c × (image_in (buffer_after (done v new) area) ≡ new) × T (loads new) × (decode new ≡ next (decode image) c)
  -- from an accepted image, the last image of a chain is accepted, and its register is that of the list
  pub loaded : (image : List ℕ) (is : List Invocation) → T (loads image) → T (loads (chain image is))
  pub register : (image : List ℕ) (is : List Invocation) → T (loads image) → decode (chain image is) ≡ run (decode image) (chain_list image is)
  -- it is what that register saves, unless it is the empty one
  pub saved : (image : List ℕ) (is : List Invocation) → T (loads image)
      → (chain image is ≡ encode (run (decode image) (chain_list image is))) ↔ (chain image is ≢ [])
  -- and that it is just where the chain begins with the empty image and every call is refused
  pub still_empty : (image : List ℕ) (is : List Invocation) → T (loads image) → (chain image is ≡ []) ↔ ((image ≡ []) × EachRefused image is)
  -- what is returned to these calls are the list's answers, values and refusals
  pub answered : (image : List ℕ) (is : List Invocation) → T (loads image) → answers (decode image) (chain_list image is) ≡ chain_answers image is
  -- so the guarantee holds of what C keeps
  pub guaranteed : (image : List ℕ) (is : List Invocation) → T (loads image) → Guarantee (decode (chain image is)) (derived_from (decode image) (chain_list image is))
