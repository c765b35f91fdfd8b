-- The papers' numbers of errors, and what a function's result says in them.
use Rattle.std.specs.Prelude.{ℕ, Result, Ok, Err}
use Rattle.rules.specs.Ends.{Refusal}
use Rattle.rules.specs.Ends.{FileOutcome}
use Rattle.rules.specs.Ends.{Effect}
use Rattle.rules.specs.Ends.Effect.{Refused, Changed}
use Rattle.rules.specs.declared.Line.{Line}
use Rattle.rules.specs.declared.Changed.{Changed as Change}
use Rattle.rules.specs.declared.errors.FileError.{FileError}
use Rattle.rules.specs.declared.errors.FileError.TheVariants.{TooShort, NoMark, UnknownVersion, BadCounts, WrongLength, BadSegment, BadBox, BadListing, Loop, BadRouteShape, NoSuchSegment, SharedStart, NoSuchTrain, NoRoom, NotFollowing, StartAgainstWay}
use Rattle.rules.specs.declared.errors.StepError.{StepError}
use Rattle.rules.specs.declared.errors.StepError.TheVariants as Step
use Rattle.rules.specs.declared.errors.Denial.{Denial}
use Rattle.rules.specs.declared.errors.Denial.TheVariants as No
use Rattle.rules.specs.Placing.{without_place}
use Rattle.rules.specs.Line.{empty_line}

-- Why a call on a table or its file is refused: the code and, with 11 and 28, train and place.
abbrev pub refusal_of : FileError → Refusal
refusal_of TooShort = without_place 1
refusal_of NoMark = without_place 2
refusal_of UnknownVersion = without_place 3
refusal_of BadCounts = without_place 4
refusal_of WrongLength = without_place 5
refusal_of BadSegment = without_place 6
refusal_of BadBox = without_place 7
refusal_of BadListing = without_place 8
refusal_of Loop = without_place 9
refusal_of BadRouteShape = without_place 10
refusal_of (NoSuchSegment at) = record { code = 11; train = at.train; place = at.place }
refusal_of SharedStart = without_place 12
refusal_of NoSuchTrain = without_place 14
refusal_of NoRoom = without_place 26
refusal_of (NotFollowing at) = record { code = 28; train = at.train; place = at.place }
refusal_of StartAgainstWay = without_place 32

-- Why a call with this result is refused; code 0 where it is not.
abbrev pub refused : {A : Type 0} → Result A FileError → Refusal
refused (Ok a) = without_place 0
refused (Err e) = refusal_of e

-- The same with the line to which a call leads: the empty record where it is refused.
abbrev pub outcome : Result Line FileError → FileOutcome
outcome (Ok l) = record { refusal = without_place 0; line = l }
outcome (Err e) = record { refusal = refusal_of e; line = empty_line }

-- The code of a refused step, and of a result that may be a refusal; 0 where it is none.
abbrev pub step_code : StepError → ℕ
step_code Step.Malformed = 13
step_code Step.NoSuchTrain = 14
step_code Step.MessageOpen = 15
step_code Step.RouteEnds = 16
step_code Step.NotAddressed = 17
step_code Step.RecordedAlready = 18
step_code Step.NotReserved = 19
step_code Step.WrongSpan = 20
step_code Step.NothingUnderWay = 21
step_code Step.BadLine = 27
step_code Step.NotRecorded = 29
step_code Step.RadioIdle = 30

abbrev pub step_refused : {A : Type 0} → Result A StepError → ℕ
step_refused (Ok a) = 0
step_refused (Err e) = step_code e

-- What a step does.
abbrev pub effect_of : Result Change StepError → Effect
effect_of (Ok c) = Changed c.code c.train c.switchbox
effect_of (Err e) = Refused (step_code e)

-- A box's no, and its answer: 0 is a yes.
abbrev pub denial_code : Denial → ℕ
denial_code No.Taken = 22
denial_code No.SensorActive = 23
denial_code No.LockTaken = 24
denial_code No.NotBothReserved = 25
denial_code No.AgainstWay = 31

abbrev pub answer_of : {A : Type 0} → Result A Denial → ℕ
answer_of (Ok a) = 0
answer_of (Err d) = denial_code d
