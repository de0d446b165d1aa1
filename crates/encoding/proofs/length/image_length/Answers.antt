use mathlib.Core.Path.{ap, ◌∙◌}
use native.Mathlib.Omega.{arith}
use lib.Count.{ones}
use Rattle.model.proofs.Rules.{formed→}
use Rattle.encoding.proofs.Lengths.{length_start, length-step, length_fits, length_done}
use Rattle.encoding.proofs.length.image_length.Goals as goal

pub shared_ref_as_front-c-items : goal.shared_ref_as_front-c-items
shared_ref_as_front-c-items c = rw c.from.ensures (formed→ c.args.formed.register c.args.formed.kept).count

pub loop-c-init : goal.loop-c-init
loop-c-init c =
    length_start (formed→ c.args.formed.register c.args.formed.kept) c.items.ensures.0
    (c.items-founded.ensures.0 ∙ ap ones c.mask_of.ensures.0) (c.items-active.ensures.0 ∙ ap ones c.mask_of-2.ensures.0) c.from.ensures

pub overflow_add-n-in-loop-c : goal.overflow_add-n-in-loop-c
overflow_add-n-in-loop-c c = omega (arith, length_fits (length-step c.loop-c.invariant c.loop-c-test.true c.capability_length-n.ensures))

pub loop-c-preserved : goal.loop-c-preserved
loop-c-preserved c = length-step c.loop-c.invariant c.loop-c-test.true c.capability_length-n.ensures

pub returns : goal.returns
returns c = length_done c.loop-c.invariant c.loop-c-test.false
