-- Laws of tests and of rows of codes.
pub mod Tests
-- Laws of tests over numbered records, and of lists counted from 1.
pub mod Rows
-- The test of code 9 says yes exactly where a loop exists.
pub mod Loop
-- The stem side of a box is the one case that is so, where the ends of its stem are at two boxes (code 6).
pub mod StemSides
-- The codes of errors are not 0.
pub mod Coded
-- Laws of refusals.
pub mod Refusals
-- The search through a table's routes finds the first place at fault.
pub mod RouteFault
-- What holds of an accepted table.
pub mod Accepted
-- On a track without a loop a route passes each segment and each box once.
pub mod Routes
-- How the boxes of an accepted table join its segments.
pub mod Boxes
-- When a file is accepted, and when a table record is written.
pub mod Files
-- The conditions on a table look only at its used part.
pub mod UsedPart
-- The bytes of the table record of an accepted file are the file's own.
pub mod WriteBack
-- The table record of a written file is the table's used part.
pub mod ReadBack
-- Reading and writing, one after the other.
pub mod RoundTrip
-- What putting back one train and one box of a line changes.
pub mod Frames
-- What the record check looks for.
pub mod Sound
-- A step by row Step: 13, 14, or its effect put back.
pub mod Steps
-- What a step does to a line, one case a way of ending.
pub mod StepKinds
-- What the rows of codes of a step say.
pub mod StepRows
-- What a train has recorded, where it records a holding and where it drops the record.
pub mod Holdings
-- Trains and boxes that fit together, and what a change of one train and one box must observe; then a granted request, a give-back,
-- Enter and Clear, on a line without messages.
pub mod Change
pub mod Requesting
pub mod Giving
pub mod Entering
pub mod Clearing
-- The box that a step concerns is one of the table.
pub mod Concerned
-- A line with its trains' messages taken away, as the settled line and the atomic line have it.
pub mod Settled
-- Kinds 1 to 4 and 7 to 10 leave a train where it stands.
pub mod Staying
-- The invariant holds on the start line of every accepted table.
pub mod Start
-- What is kept after an event, and which requests have been granted by it.
pub mod Kept
-- What each step is on the settled line and on the atomic one, and what those of a give-back are.
pub mod SettledSteps
pub mod GivingSteps
-- What was granted is answered yes again, and nothing changes.
pub mod Again
-- What a box does not have for a train.
pub mod Unheld
-- Each step is, on the atomic line, the atomic steps that it adds to the order.
pub mod Simulates
-- A box stays sound at a grant, an Enter and a Clear.
pub mod SoundBoxes
-- Every step keeps the invariant.
pub mod Keeps
-- What a step does to places, positions, table and routes.
pub mod Moves
-- Demand 3.
pub mod Demand3
-- Calls that begin with the record check, where it finds nothing.
pub mod Checked
-- No step is answered 23.
pub mod Occupied
-- No train covers a segment against its way.
pub mod Along
-- What a train has given back is not its own until it asks for it again.
pub mod Returned
-- A request that was granted is answered yes again, and changes the boxes at most once.
pub mod Repeats
-- What else holds after every list of steps.
pub mod Consequences
-- Steps in a list of bytes, their answers, and runs of a file and steps.
pub mod Runs
-- How much of its file and its input the program has to read, and how much room it needs.
pub mod Enough
-- Opens all definitions, for proofs that compute.
pub mod Computing
-- The cases of 01.
pub mod Cases
-- The examples of demand 3.
pub mod Examples
