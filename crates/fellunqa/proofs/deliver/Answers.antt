use mathlib.Core.Path.{◌≡◌, refl, sym, ap, ◌∙◌}
use mathlib.Core.List.{◌++◌}
use Prim.Native.Nat.{ℕ, ◌+◌, ◌-◌, ◌≤◌, ◌<◌}
use native.Mathlib.Omega.{arith}
use borrow.Rule.Slice.PartMut.{put_mid, put_same}
use lib.ListN.{length}
use Rattle.buffers.proofs.Parts.{length_tail, tail_back}
use Rattle.masks.specs.Bytes.{bytes_of, front}
use Rattle.std.specs.Prelude.{Err}
use Rattle.model.specs.Rulings.{refused}
use Rattle.model.specs.Requests.{outcome_of}
use Rattle.model.specs.Image.{encode, saved_buffer}
use Rattle.fellunqa.proofs.Laws.{head_last, save_said, save_unsaid, fitted_room, fitted_none, leaves_by}
use borrow.Author.Rules.{rules}
use Rattle.fellunqa.proofs.deliver.Goals as goal

pub returns-in_err-n : goal.returns-in_err-n
returns-in_err-n c =
    let a = c.args in
    let out = a.area.now in
    let e : c.from_residual.result ≡ Err c.in_err-n.field-0.0 = search rules in
    let said = save_unsaid a.formed.register (search) _ _ c.in_err-n.ensures.0 in
    let short : length out < length (encode a.formed.register) + 2 = omega (arith, length_tail 2 out, said.1) in
    let kept = c.in_err-n.ensures.1 ∙ ap (saved_buffer a.formed.register _) (sym c.in_err-n.ensures.0) in
    let same = leaves_by out _ _ (fitted_none (length out) a.v (encode a.formed.register) short) in
    (ap outcome_of e ∙ ap refused said.0 ∙ same.0, ap (put_mid 2 (length out - 2) out) kept ∙ put_same 2 (length out - 2) out ∙ same.1)

pub returns : goal.returns
returns c =
    let a = c.args in
    let out = a.area.now in
    let n = c.from.result in
    let said = save_said a.formed.register (search) _ _ c.in_ok-n.ensures.0 in
    let fits : length (encode a.formed.register) + 2 ≤ length out = omega (arith, length_tail 2 out, said.1) in
    let two : 2 ≤ length out = omega (arith, fits) in
    let same = leaves_by out _ _ (fitted_room (length out) a.v (encode a.formed.register) fits) in
    let after = tail_back 2 (encode a.formed.register) out _ (c.in_ok-n.ensures.1 ∙ ap (saved_buffer a.formed.register _) (sym c.in_ok-n.ensures.0)) in (
      same.0,
      c.put.ensures
          ∙ ap (front (bytes_of 2 n)) after
          ∙ head_last (bytes_of 2 n) (encode a.formed.register) out 2 refl two
          ∙ ap (λ (k : ℕ). front (bytes_of 2 k ++ encode a.formed.register) out) (omega (arith, c.from.ensures, said.0))
          ∙ same.1,
    )
