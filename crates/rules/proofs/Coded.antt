-- An error's code is never 0, so that a result whose code is 0 is no error.
use Rattle.std.specs.Prelude.{◌≢◌}
use Rattle.std.proofs.Common.{arith}
use Rattle.rules.specs.declared.errors.FileError.{FileError}
use Rattle.rules.specs.declared.errors.FileError.TheVariants.{TooShort, NoMark, UnknownVersion, BadCounts, WrongLength, BadSegment, BadBox, BadListing, Loop, BadRouteShape, NoSuchSegment, SharedStart, NoSuchTrain, NoRoom, NotFollowing, StartAgainstWay}
use Rattle.rules.specs.declared.errors.StepError.{StepError}
use Rattle.rules.specs.declared.errors.StepError.TheVariants as Step
use Rattle.rules.specs.declared.errors.Denial.{Denial}
use Rattle.rules.specs.declared.errors.Denial.TheVariants as No
use Rattle.rules.specs.Errors.{refusal_of, step_code, denial_code}

pub file_coded : (e : FileError) → (refusal_of e).code ≢ 0
file_coded TooShort = λ z. omega arith
file_coded NoMark = λ z. omega arith
file_coded UnknownVersion = λ z. omega arith
file_coded BadCounts = λ z. omega arith
file_coded WrongLength = λ z. omega arith
file_coded BadSegment = λ z. omega arith
file_coded BadBox = λ z. omega arith
file_coded BadListing = λ z. omega arith
file_coded Loop = λ z. omega arith
file_coded BadRouteShape = λ z. omega arith
file_coded (NoSuchSegment at) = λ z. omega arith
file_coded SharedStart = λ z. omega arith
file_coded NoSuchTrain = λ z. omega arith
file_coded NoRoom = λ z. omega arith
file_coded (NotFollowing at) = λ z. omega arith
file_coded StartAgainstWay = λ z. omega arith

pub step_coded : (e : StepError) → step_code e ≢ 0
step_coded Step.Malformed = λ z. omega arith
step_coded Step.NoSuchTrain = λ z. omega arith
step_coded Step.MessageOpen = λ z. omega arith
step_coded Step.RouteEnds = λ z. omega arith
step_coded Step.NotAddressed = λ z. omega arith
step_coded Step.RecordedAlready = λ z. omega arith
step_coded Step.NotReserved = λ z. omega arith
step_coded Step.WrongSpan = λ z. omega arith
step_coded Step.NothingUnderWay = λ z. omega arith
step_coded Step.BadLine = λ z. omega arith
step_coded Step.NotRecorded = λ z. omega arith
step_coded Step.RadioIdle = λ z. omega arith

pub denial_coded : (d : Denial) → denial_code d ≢ 0
denial_coded No.Taken = λ z. omega arith
denial_coded No.SensorActive = λ z. omega arith
denial_coded No.LockTaken = λ z. omega arith
denial_coded No.NotBothReserved = λ z. omega arith
denial_coded No.AgainstWay = λ z. omega arith
