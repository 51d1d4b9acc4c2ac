use Rattle.std.proofs.Common.{length, ◌≤◌}
use Rattle.std.specs.Io.KnownBytes.{Consumes}
use Rattle.input_limit.specs.Limits.{input_limit}
use Rattle.commands.proofs.streams.read_all.Given as goal

abbrev pub invariant-loop : goal.invariant-loop
invariant-loop g l = record {
  read : Consumes (g.R.Read.remaining l.fn.reader) (g.R.Read.remaining l.reader) l.bytes.items;
  few : length l.bytes.items ≤ input_limit;
  turns : l.counter ≤ length l.bytes.items;
}
