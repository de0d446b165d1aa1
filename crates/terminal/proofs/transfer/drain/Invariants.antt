-- No more was written than was lent, and the writer holds it after what it held.
use Rattle.std.proofs.Common.{length, take, ◌≤◌}
use Rattle.std.specs.Io.KnownBytes.{Appends}
use Rattle.terminal.proofs.transfer.drain.Given as goal

abbrev pub invariant-loop : goal.invariant-loop
invariant-loop g l = record {
  in_bounds : l.count ≤ length l.bytes;
  bytes : Appends (g.W.Write.contents l.initial.output) (g.W.Write.contents l.output) (take l.count l.bytes);
}
