-- Sections read from bytes and written again are the bytes that were read, where they are exact; and what is written is exact.
use mathlib.Core.Path.{◌≡◌, refl, ap, subst}
use mathlib.Core.Bool.{Bool, true, false}
use mathlib.Core.List.{List, [], ◌∷◌, ◌++◌, append_assoc, append-nil}
use Prim.Native.Nat.{ℕ, zero, suc, ◌*◌, ◌/◌, ◌%◌, ◌^◌, ◌<◌}
use native.Mathlib.Nat.{pow-suc, zero-mul, one-mul}
use native.Mathlib.Omega.{arith}
use lib.Dec.{T}
use lib.ListN.{length, drop}
use lib.Seq.{drop_at}
use Rattle.masks.specs.Bytes.{bytes_of, first_bytes}
use Rattle.masks.proofs.Truth.{and_l, and_r, and_i}
use Rattle.model.specs.declared.Role.{Role}
use Rattle.model.specs.declared.Session.{Session}
use Rattle.model.specs.State.{blank_role, blank_session}
use Rattle.model.specs.Fields.{bit, role_of, write_role, read_role, session_of, write_session, read_session}
use Rattle.model.specs.Image.{mask_where, chosen, write_chosen, item_or, read_chosen, chosen_length, founded_roles, active_sessions}
use Rattle.fields.specs.Codes.{Bytes}
use Rattle.records.specs.Exact.{exact_session}
use Rattle.decoding.specs.Exact.{read_domain, exact_sessions}
use Rattle.fields.proofs.Reading.{bytes_drop}
use Rattle.fields.proofs.ExactFields.{first_join, number_again}
use Rattle.records.proofs.Records.{session_size}
use Rattle.records.proofs.ExactRecords.{role_again, session_again}
use Rattle.records.proofs.ExactWriting.{session_exact}
use Rattle.encoding.proofs.Lengths.{item-length}

-- ---- a section read and written again

module _ {A : Type 0} (blank : A) (write : A → List ℕ) (read : List ℕ → A) (w : ℕ) where
  -- the item at the front of t by its bit
  abbrev Again : ℕ → List ℕ → Type 0
  Again zero t = Unit {0}
  Again (suc b) t = write (read t) ≡ first_bytes w t

  abbrev AllAgain : ℕ → ℕ → List ℕ → Type 0
  AllAgain m zero t = Unit {0}
  AllAgain m (suc k) t = Again (m % 2) t × AllAgain (m / 2) k (drop (m % 2 * w) t)

  item_again : (b : ℕ) (t : List ℕ) → b < 2 → Again b t → chosen b (write (item_or blank read b t)) ≡ first_bytes (b * w) t
  item_again zero t l h = rw zero-mul
  item_again (suc zero) t l h = rw one-mul h
  item_again (suc (suc b)) t l h = absurd (omega arith)

  chosen_again : (m k : ℕ) (t : List ℕ) → AllAgain m k t → write_chosen write m (read_chosen blank read w m k t) ≡ first_bytes (chosen_length w m k) t
  chosen_again m zero t h = refl
  chosen_again m (suc k) t h =
      let two : m % 2 < 2 = omega arith in
      rw (item_again (m % 2) t two h.0, chosen_again (m / 2) k (drop (m % 2 * w) t) h.1)
      (first_join (m % 2 * w) (chosen_length w (m / 2) k) t)

  all_again : ((t : List ℕ) → Bytes t → write (read t) ≡ first_bytes w t) → (m k : ℕ) (t : List ℕ) → Bytes t → AllAgain m k t
  all_again f m zero t h = tt
  all_again f m (suc k) t h = (by_bit (m % 2), all_again f (m / 2) k (drop (m % 2 * w) t) (bytes_drop (m % 2 * w) t h))
    where
      by_bit : (b : ℕ) → Again b t
      by_bit zero = tt
      by_bit (suc b) = f t h

  -- what has a bit passes and what has none does not: so the mask is that of the items that pass
  where_again : (p : A → Bool) → p blank ≡ false → ((t : List ℕ) → p (read t) ≡ true)
      → (m k : ℕ) (t : List ℕ) → m < 2 ^ k → mask_where p (read_chosen blank read w m k t) ≡ m
  where_again p none some m zero t l = omega arith
  where_again p none some m (suc k) t l =
      let half : m / 2 < 2 ^ k = let x : m < 2 ^ k * 2 = rw pow-suc at l in omega arith in
      let two : m % 2 < 2 = omega arith in
      rw (by_bit (m % 2) two, where_again p none some (m / 2) k (drop (m % 2 * w) t) half) (omega arith)
    where
      by_bit : (b : ℕ) → b < 2 → bit (p (item_or blank read b t)) ≡ b
      by_bit zero h = ap bit none
      by_bit (suc zero) h = ap bit (some t)
      by_bit (suc (suc b)) h = omega arith

pub domains_again : (m k : ℕ) (t : List ℕ) → Bytes t → write_chosen (bytes_of 1) m (read_chosen 0 read_domain 1 m k t) ≡ first_bytes (chosen_length 1 m k) t
domains_again m k t h = chosen_again 0 (bytes_of 1) read_domain 1 m k t (all_again 0 (bytes_of 1) read_domain 1 (number_again 1) m k t h)

pub roles_again : (m k : ℕ) (t : List ℕ) → Bytes t → write_chosen write_role m (read_chosen blank_role read_role 20 m k t) ≡ first_bytes (chosen_length 20 m k) t
roles_again m k t h = chosen_again blank_role write_role read_role 20 m k t (all_again blank_role write_role read_role 20 role_again m k t h)

each-session : (m k : ℕ) (t : List ℕ) → Bytes t → T (exact_sessions m k t) → AllAgain blank_session write_session read_session 6 m k t
each-session m zero t h e = tt
each-session m (suc k) t h e =
    let u : List ℕ = drop (m % 2 * 6) t in
    let x : Bool = item_or true exact_session (m % 2) t in
    (by_bit (m % 2) (and_l x (exact_sessions (m / 2) k u) e), each-session (m / 2) k u (bytes_drop (m % 2 * 6) t h) (and_r x (exact_sessions (m / 2) k u) e))
  where
    by_bit : (b : ℕ) → T (item_or true exact_session b t) → Again blank_session write_session read_session 6 b t
    by_bit zero g = tt
    by_bit (suc b) g = session_again t h g

pub sessions_again : (m k : ℕ) (t : List ℕ) → Bytes t → T (exact_sessions m k t)
    → write_chosen write_session m (read_chosen blank_session read_session 6 m k t) ≡ first_bytes (chosen_length 6 m k) t
sessions_again m k t h e = chosen_again blank_session write_session read_session 6 m k t (each-session m k t h e)

-- the masks of roles founded and of sessions active are those that were read

pub founded_again : (m : ℕ) (t : List ℕ) → m < 2 ^ 32 → founded_roles (read_chosen blank_role read_role 20 m 32 t) ≡ m
unfolding founded_roles read_role role_of
founded_again m t l = where_again blank_role write_role read_role 20 (λ (x : Role). x.founded) refl (λ u. refl) m 32 t l

pub active_again : (m : ℕ) (t : List ℕ) → m < 2 ^ 64 → active_sessions (read_chosen blank_session read_session 6 m 64 t) ≡ m
unfolding active_sessions read_session session_of
active_again m t l = where_again blank_session write_session read_session 6 (λ (x : Session). x.active) refl (λ u. refl) m 64 t l

-- ---- what is written is exact

sessions_exact : (m : ℕ) (l : List Session) (rest : List ℕ) → T (exact_sessions m (length l) (write_chosen write_session m l ++ rest))
sessions_exact m [] rest = tt
sessions_exact m (x ∷ l) rest =
    let s : List ℕ = write_chosen write_session (m / 2) l ++ rest in
    let two : m % 2 < 2 = omega arith in
    rw (append_assoc (chosen (m % 2) (write_session x)) (write_chosen write_session (m / 2) l) rest, drop_at (chosen (m % 2) (write_session x)) s (m % 2 * 6) (item-length write_session 6 session_size (m % 2) x two))
    (and_i (item_or true exact_session (m % 2) (chosen (m % 2) (write_session x) ++ s)) (exact_sessions (m / 2) (length l) s) (by_bit (m % 2) s) (sessions_exact (m / 2) l rest))
  where
    by_bit : (b : ℕ) (s : List ℕ) → T (item_or true exact_session b (chosen b (write_session x) ++ s))
    by_bit zero s = tt
    by_bit (suc b) s = session_exact x s

pub sessions_whole : (m n k : ℕ) (l : List Session) (t : List ℕ) → n ≡ m → length l ≡ k → t ≡ write_chosen write_session m l → T (exact_sessions n k t)
sessions_whole m n k l t en ek et =
    rw (en, et, ← ek) (subst (λ (s : List ℕ). T (exact_sessions m (length l) s)) (append-nil (write_chosen write_session m l)) (sessions_exact m l []))
