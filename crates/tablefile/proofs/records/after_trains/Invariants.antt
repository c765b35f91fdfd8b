-- A turn passes one train record, of at most 257 bytes.
use Rattle.std.proofs.Common.{◌≡◌, ◌+◌, ◌*◌, ◌≤◌}
use Rattle.rules.specs.File.{trains_from}
use Rattle.tablefile.proofs.records.after_trains.Given as goal

abbrev pub invariant-loop : goal.invariant-loop
invariant-loop l = (l.at ≡ trains_from l.bytes l.counter) × (l.at ≤ 2048 + 257 * l.counter)
