use Rattle.std.proofs.Common.{rules}
use Rattle.requests.proofs.QuickLaws.{check_right}
use Rattle.requests.proofs.checks.check_of.Goals as goal

pub returns : goal.returns
returns c =
    check_right c.args.line.now _ c.same_bytes.ensures c.if-not-same_bytes.false _ _ _ _ _ _ _ _ _ c.in_ok-device.rest.now
    c.in_ok-session.ensures.0 c.in_ok-permission.ensures.0 c.in_ok-hour.ensures.0 c.in_ok-place.ensures.0 c.in_ok-device.ensures.0 (search rules)
