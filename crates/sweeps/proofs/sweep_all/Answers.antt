use mathlib.Core.Path.{◌≡◌, ap, ◌∙◌}
use native.Mathlib.Omega.{arith}
use lib.ListN.{length}
use Rattle.sweeps.proofs.SweepLaws.{sweep_more, sweep_done, count_more, one_le, newly_step, swept_step, after_amount}
use Rattle.sweeps.proofs.sweep_all.Goals as goal

pub overflow_add-marks : goal.overflow_add-marks
overflow_add-marks c = omega (arith, one_le _ c.newly-marks.ensures)

pub loop-i-preserved : goal.loop-i-preserved
loop-i-preserved c =
    let l = c.loop-i in
    let a = c.roles_after-roles in
    let amount : length a.result ≡ 32 = ap length a.ensures ∙ after_amount c.args.r.roles c.args.s ∙ c.requires in
    let d = swept_step _ l.next.capabilities _ c.columns_of-columns.ensures amount c.args.s l.i _ _ (c.from.ensures ∙ c.capability_held.ensures) c.swept-d.ensures in
    record {
      within = omega (arith, one_le _ c.newly-marks.ensures);
      swept = sweep_more _ _ l.next l.i _ l.invariant.swept d;
      counted = count_more _ l.i _ l.invariant.counted c.newly-marks.ensures (newly_step _ l.i _ l.next _ l.invariant.swept d);
    }

pub returns : goal.returns
returns c =
    let l = c.loop-i in
    sweep_done c.args.r c.args.s _ l.next l.marks l.i _ (search) l.invariant.swept l.invariant.counted (omega arith) c.sweep_value.ensures
