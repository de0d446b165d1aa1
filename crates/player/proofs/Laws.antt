-- What a line comes to; that it keeps what the test of the rules says; printing into parts; a turn of the loop.
use mathlib.Core.Path.{◌≡◌, refl, sym, ap, ◌∙◌}
use mathlib.Core.Bool.{Bool, true, false}
use mathlib.Core.List.{List, ◌++◌}
use mathlib.Core.Option.{Option, none, some}
use Rattle.std.specs.Prelude.{Option as Maybe, Some, None}
use Prim.Native.Nat.{ℕ, ◌+◌, ◌-◌, ◌≤◌, ◌<◌}
use native.Mathlib.Omega.{arith}
use borrow.Author.Tests.{le-leb, lt-leb}
use borrow.Rule.Slice.PartMut.{put_mid}
use lib.Dec.{T}
use lib.ListN.{length, take, drop, length-append}
use Rattle.buffers.proofs.Parts.{placed, placed_append, tail, tail_back, length_tail}
use Rattle.masks.specs.Bytes.{front, split}
use Rattle.masks.proofs.Truth.{T→true, true→T}
use Rattle.model.specs.declared.Register.{Register}
use Rattle.model.specs.declared.Request.{Request}
use Rattle.model.specs.Rules.{well_formed}
use Rattle.model.specs.Rulings.{Outcome, refused, Effect}
use Rattle.model.specs.Calls.{Call, settled, step}
use Rattle.model.specs.Requests.{call_of, parsed_call}
use Rattle.model.specs.Lines.{parse, printed}
use Rattle.model.specs.Journal.{requested, line_effect, transcript, journal}
use Rattle.model.proofs.Settling.{step-settled, broken}
use Rattle.model.proofs.Rules.{kept→, kept←}
use Rattle.model.proofs.Running.{step_keeps}
use Rattle.text.specs.Parts.{before}
use Rattle.player.proofs.Room.{parse_short}
use Rattle.player.proofs.Transcripts.{transcript-line, transcript_last}
use Rattle.answers.specs.Writing.{printed_into, filled}
use Rattle.answers.proofs.WriteLaws.{into_room, filled_room}
use Rattle.player.specs.Play.{journal_length, journal_buffer}

-- ---- one line

-- one shorter than a request's word
pub line_short : (r : Register) (line : List ℕ) → length line < 4 → record { answer = refused 1; after = r } ≡ line_effect r line
unfolding line_effect
line_short r line h = ap (requested r) (sym (parse_short line (omega (arith, h))))

module _ (r : Register) (line : List ℕ) (q : Maybe Request) (e : parsed_call q ≡ parse line) where
  pub line_none : q ≡ None → record { answer = refused 1; after = r } ≡ line_effect r line
  unfolding line_effect
  line_none g = ap (requested r) (sym (ap parsed_call g) ∙ e)

  pub line_broken : (p : Request) → q ≡ Some p → well_formed r ≡ false → record { answer = refused 15; after = r } ≡ line_effect r line
  unfolding line_effect
  line_broken p g k = broken r (call_of p) k ∙ ap (requested r) (sym (ap parsed_call g) ∙ e)

-- a line that was parsed says its request's call
pub line_says : (line : List ℕ) (q : Maybe Request) → parsed_call q ≡ parse line → (p : Request) → q ≡ Some p → parse line ≡ some (call_of p)
line_says line q e p g = sym e ∙ ap parsed_call g

-- the call of a line, settled on a register that keeps the rules
pub line_done : (r : Register) (line : List ℕ) (c : Call) (z : Effect Register) → parse line ≡ some c → T (well_formed r) → z ≡ settled r c → z ≡ line_effect r line
unfolding line_effect
line_done r line c z e k h = h ∙ sym (step-settled r c k) ∙ ap (requested r) (sym e)

-- ---- the test of the rules says the same after a line

step_formed : (r : Register) (c : Call) (b : Bool) → well_formed r ≡ b → well_formed (step r c).after ≡ b
step_formed r c true e = T→true (well_formed (step r c).after) (kept← (step r c).after (step_keeps r c (kept→ r (true→T (well_formed r) e))))
step_formed r c false e = ap (λ (z : Effect Register). well_formed z.after) (sym (broken r c e)) ∙ e

pub line_formed : (r : Register) (line : List ℕ) → well_formed (line_effect r line).after ≡ well_formed r
unfolding line_effect
line_formed r line = cases (parse line)
  where
    cases : (o : Option Call) → well_formed (requested r o).after ≡ well_formed r
    cases none = refl
    cases (some c) = step_formed r c (well_formed r) refl

pub formed_after : (r : Register) (line : List ℕ) (z : Effect Register) {formed : Bool} → formed ≡ well_formed r → z ≡ line_effect r line → formed ≡ well_formed z.after
formed_after r line z h e = h ∙ sym (line_formed r line) ∙ ap (λ (y : Effect Register). well_formed y.after) (sym e)

-- ---- printing into the part of the output that follows what is printed

module _ (at : ℕ) (o : Outcome) (s : List ℕ) (room : at + length (printed o) ≤ length s) where
  fits : length (printed o) ≤ length (take (length s - at) (drop at s))
  fits = omega (arith, length_tail at s)

  -- the answer printed at `at`
  pub answer_last : (last : List ℕ) → last ≡ printed_into (printed o) (take (length s - at) (drop at s)) → put_mid at (length s - at) s last ≡ placed at (printed o) s
  answer_last last e = tail_back at (printed o) s last (e ∙ into_room (printed o) _ fits)

  -- and the texts after it
  pub answer_step : (ys whole last : List ℕ) → placed at (printed o ++ ys) s ≡ whole → last ≡ printed_into (printed o) (take (length s - at) (drop at s))
      → placed (at + length (printed o)) ys (put_mid at (length s - at) s last) ≡ whole
  answer_step ys whole last h e = ap (placed (at + length (printed o)) ys) (answer_last last e) ∙ placed_append at (printed o) ys s room ∙ h

  -- how many bytes it takes
  pub answer_size : {n : ℕ} → n ≡ filled (printed o) (take (length s - at) (drop at s)) → n ≡ length (printed o)
  answer_size e = e ∙ filled_room (printed o) _ fits

-- ---- a turn of the loop

-- `whole` is printed of the whole input, into out₀: with r, what is still to be printed of the rest stands after `to` bytes
pub record Playing (whole out₀ : List ℕ) (r : Register) (out rest : List ℕ) (to : ℕ) : Type 0 where
  pub text : placed to (transcript r (split 10 rest)) out ≡ front whole out₀
  pub size : to + length (transcript r (split 10 rest)) ≡ length whole
  pub kept : length out ≡ length out₀
  pub room : length whole ≤ length out₀

-- what the printer says of the m bytes of the answer o, and of what it left
abbrev pub Shown : List ℕ → ℕ → Outcome → ℕ → List ℕ → Type 0
Shown out to o m last =
    let part = take (length out - to) (drop to out) in (m ≡ filled (printed o) part) × (last ≡ printed_into (printed o) part)

module _ (whole out₀ : List ℕ) (r : Register) (out rest : List ℕ) (to : ℕ) (p : Playing whole out₀ r out rest to) where
  -- there is room for what is left
  pub left_fits : to + length (transcript r (split 10 rest)) ≤ length out
  left_fits = omega (arith, p.size, p.room, p.kept)

  pub to_within : to ≤ length out
  to_within = omega (arith, left_fits)

  -- the line of n bytes, answered o with the register next, of which m bytes are printed: no sum wraps, and the invariant goes on
  module _ (n : ℕ) (line : n ≡ length (before 10 rest)) (more : n < length rest) (o : Outcome) (next : Register)
      (effect : record { answer = o; after = next } ≡ line_effect r (take n rest)) (m : ℕ) (last : List ℕ) (shown : Shown out to o m last) where
    left : transcript r (split 10 rest) ≡ printed o ++ transcript next (split 10 (drop (n + 1) rest))
    left =
        transcript-line r rest n line more
        ∙ ap (λ (z : Effect Register). printed z.answer ++ transcript z.after (split 10 (drop (n + 1) rest))) (sym effect)

    sum : length (transcript r (split 10 rest)) ≡ length (printed o) + length (transcript next (split 10 (drop (n + 1) rest)))
    sum = ap length left ∙ length-append (printed o) _

    fit : to + length (printed o) ≤ length out
    fit = omega (arith, left_fits, sum)

    count : m ≡ length (printed o)
    count = answer_size to o out fit shown.0

    pub played_fits : to + m ≤ length out
    played_fits = omega (arith, fit, count)

    turn : length (put_mid to (length out - to) out last) ≡ length out
        → Playing whole out₀ next (put_mid to (length out - to) out last) (drop (n + 1) rest) (to + m)
    turn same =
        record {
          text = rw count (answer_step to o out fit _ _ last (rw left at p.text) shown.1);
          size = omega (arith, count, sum, p.size);
          kept = same ∙ p.kept;
          room = p.room;
        }

    pub played : {formed : Bool} → formed ≡ well_formed r → length (put_mid to (length out - to) out last) ≡ length out
        → Playing whole out₀ next (put_mid to (length out - to) out last) (take (length rest - (n + 1)) (drop (n + 1) rest)) (to + m) × (formed ≡ well_formed next)
    played formed same = (rw (tail (n + 1) rest) (turn same), formed_after r _ _ formed effect)

  -- a last line without its line feed: its refusal is all that is left, and there is room for that
  module _ (n : ℕ) (line : n ≡ length (before 10 rest)) (all : n ≡ length rest) (some : 0 < length rest) where
    pub unended_room : to + length (printed (refused 1)) ≤ length out
    unended_room = omega (arith, left_fits, ap length (transcript_last r rest n line all some))

-- ---- the whole journal

pub journal_long : (r : Register) (input : List ℕ) → 32768 < length input → journal r input ≡ printed (refused 1)
unfolding journal
journal_long r input l =
    ap (λ (b : Bool). elim b as (λ x. List ℕ) [ true ↦ transcript r (split 10 input) | false ↦ printed (refused 1) ]) (lt-leb (length input) 32768 l)

pub journal_short : (r : Register) (input : List ℕ) → length input ≤ 32768 → journal r input ≡ transcript r (split 10 input)
unfolding journal
journal_short r input l =
    ap (λ (b : Bool). elim b as (λ x. List ℕ) [ true ↦ transcript r (split 10 input) | false ↦ printed (refused 1) ]) (le-leb (length input) 32768 l)

module _ (r : Register) (input out : List ℕ) where
  pub no_room : length out < 163840 → (0 ≡ journal_length r input out) × (out ≡ journal_buffer r input out)
  unfolding journal_length journal_buffer
  no_room h = rw (lt-leb 163840 (length out) h) (refl, refl)

  pub with_room : 163840 ≤ length out → (text : List ℕ) → journal r input ≡ text
      → (length text ≡ journal_length r input out) × (front text out ≡ journal_buffer r input out)
  unfolding journal_length journal_buffer
  with_room h text e = rw (le-leb 163840 (length out) h) (ap length (sym e), ap (λ (x : List ℕ). front x out) (sym e))
