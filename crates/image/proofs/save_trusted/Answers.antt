use Rattle.std.proofs.Common.{arith}
use Rattle.model.proofs.Rules.{formed→}
use Rattle.encoding.proofs.Lengths.{image_most, image_small}
use Rattle.image.proofs.Calls.{save_short, save_done}
use Rattle.image.proofs.save_trusted.Goals.{else-room-most-via-then-room-most+else-room-image_length, else-room-most-via-else-room-most}
use Rattle.image.proofs.save_trusted.Goals as goal

pub returns-then-room-image_length : goal.returns-then-room-image_length
returns-then-room-image_length c =
    let w = save_short c.args.formed.register c.args.buffer.now c.args.formed.kept (omega (arith, c.image_length.ensures, c.if-room-image_length.true)) in
    (w.answer, w.leaves)

pub put_image-requires : goal.put_image-requires
put_image-requires c =
    let f = formed→ c.args.formed.register c.args.formed.kept in (
      f.count,
      elim c.else-room-most.branch [
        | else-room-most-via-then-room-most+else-room-image_length w ↦ omega (arith, w.image_length.ensures, w.if-room-image_length.false)
        | else-room-most-via-else-room-most w ↦ omega (arith, image_most c.args.formed.register f, w.if-room-most.false, c.from.ensures)
      ],
    )

pub overflow_cast-result : goal.overflow_cast-result
overflow_cast-result c = omega (arith, image_small c.args.formed.register (formed→ c.args.formed.register c.args.formed.kept), c.put_image.ensures.0)

pub returns : goal.returns
returns c =
    let f = formed→ c.args.formed.register c.args.formed.kept in
    let w =
    save_done c.args.formed.register c.args.buffer.now c.args.formed.kept
    (elim c.else-room-most.branch [
      | else-room-most-via-then-room-most+else-room-image_length w ↦ omega (arith, w.image_length.ensures, w.if-room-image_length.false)
      | else-room-most-via-else-room-most w ↦ omega (arith, image_most c.args.formed.register f, w.if-room-most.false, c.from.ensures)
    ])
    _ c.put_image.ensures.0 _ c.put_image.ensures.1 in
    (w.answer, w.leaves)
