use Rattle.std.proofs.Common.{◌≡◌, length, refl, rules}
use Rattle.rules.specs.Line.{around_train}
use Rattle.rules.proofs.Rows.{length_mapped}
use Rattle.traincomputer.specs.Sight.{around_in}
use Rattle.running.proofs.steps.Moving.new.Goals as goal

pub invariant_of-result : goal.invariant_of-result
invariant_of-result c =
    let l = c.args.line in
    let k = c.of-columns.result in
    let made = c.of-columns.ensures in
    let shown : around_in k.a k.b k.ways k.kinds l.routes ≡ around_train l.table l.routes = rw (made.track, made.way, made.points) refl in
    let places : length l.trains ≡ 16 = search (rules, length_mapped) in
    record { shown = shown; sound = c.requires; places = places; looked = rw shown at c.views-seen.ensures }
