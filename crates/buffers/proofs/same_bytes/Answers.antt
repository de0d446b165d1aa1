use Rattle.std.proofs.Common.{rules, tests}
use Rattle.std.proofs.lemmas.Iterator.{YieldsList-from_slice, YieldsList-from_zip, same_from_all}
use Rattle.std.proofs.lemmas.Slice.Eq.{compares_Decides}
use Rattle.masks.specs.Bytes.{same_bytes}
use Rattle.buffers.proofs.Comparing.{decided}
use Rattle.buffers.proofs.same_bytes.Goals as goal

pub returns-then-a-b : goal.returns-then-a-b
returns-then-a-b c =
    let a = c.args.a.now in
    let b = c.args.b.now in
    decided c.all.result (same_bytes a b)
    (same_from_all c.all.new.self _ _ _ _ c.all.ensures.ran (YieldsList-from_zip (YieldsList-from_slice a cc) (YieldsList-from_slice b cc)) (search rules) (λ x q k. search (rules, tests)) (λ x q k. search (rules, tests)))
    (compares_Decides same_bytes (search rules) a b)
