-- What a played journal leaves in an output with room, and where a transfer stands after one more call.
use borrow.Rule.Slice.PartMut.{put_mid}
use Rattle.std.proofs.Common.{◌≡◌, ℕ, ◌+◌, ◌-◌, ◌≤◌, List, ◌++◌, length, take, drop, Option, ap, arith}
use Rattle.std.specs.Io.KnownBytes.{Appends, Consumes}
use Rattle.std.proofs.KnownBytes.{Appends-trans, Consumes-trans}
use Rattle.std.proofs.Math.Seq.{take-add}
use Rattle.std.proofs.lemmas.List.{take_all, drop_at, length-drop, take-append-le}
use Rattle.std.proofs.lemmas.Slice.{take-put_mid_below}
use Rattle.masks.specs.Bytes.{front}
use Rattle.model.specs.declared.Register.{Register}
use Rattle.model.specs.State.{fresh}
use Rattle.model.specs.Journal.{program}
use Rattle.player.specs.Play.{journal_length, journal_buffer}
use Rattle.std.proofs.lemmas.Grind.{common_steps}

-- a journal on a register that is fresh is the program
pub program_length : (r : Register) (input out : List ℕ) → r ≡ fresh → 163840 ≤ length out
    → journal_length r input out ≡ length (program input)
unfolding journal_length
program_length r input out e h = grind (arith, common_steps)

pub program_output : (r : Register) (input out : List ℕ) → r ≡ fresh → 163840 ≤ length out
    → journal_buffer r input out ≡ front (program input) out
unfolding journal_buffer
program_output r input out e h = grind (arith, common_steps)

-- ---- one call over what is left of a transfer

-- the first bytes of a room, after a part from `at` on was read into
pub front_read : (at m k : ℕ) (xs ys : List ℕ) → at ≤ length xs → m ≤ length ys → take (at + m) (put_mid at k xs ys) ≡ take at xs ++ take m ys
front_read at m k xs ys a b = rw (take-add at m (put_mid at k xs ys), take-put_mid_below at k xs ys at (omega arith) a) (ap (λ (l : List ℕ). take at xs ++ l) after)
  where
    after : take m (drop at (put_mid at k xs ys)) ≡ take m ys
    after = grind (arith, common_steps, take-append-le, drop_at)

pub reads_on : (p q r : Option (List ℕ)) (at m k : ℕ) (xs ys : List ℕ) → at ≤ length xs → m ≤ length ys → Consumes p q (take at xs)
    → Consumes q r (take m ys) → Consumes p r (take (at + m) (put_mid at k xs ys))
reads_on p q r at m k xs ys a b h i = rw (front_read at m k xs ys a b) (Consumes-trans p q r (take at xs) (take m ys) h i)

pub writes_on : (p q r : Option (List ℕ)) (at m : ℕ) (xs : List ℕ) → at ≤ length xs → Appends p q (take at xs)
    → Appends q r (take m (take (length xs - at) (drop at xs))) → Appends p r (take (at + m) xs)
writes_on p q r at m xs a h i =
    let left : take (length xs - at) (drop at xs) ≡ drop at xs = take_all (length xs - at) (drop at xs) (omega (arith, length-drop {A = ℕ})) in
    rw take-add (Appends-trans p q r (take at xs) (take m (drop at xs)) h (rw left at i))
