-- The paper as definitions, in reading order.
-- Refusals, outcomes and effects.
pub mod Ends
-- Rows of codes and lists counted from 1.
pub mod Rows
-- The line: records by number, the track, the ways of segments, boxes, directions.
pub mod Track
-- Codes 3, 4, 6 to 12, 28 and 32: a table is accepted. Each condition stands once, over the track and the other parts that it asks
-- for; `condition_rows` and `table_code` put a table's own parts in.
pub mod Loop
pub mod Network
pub mod StemSide
pub mod Placing
-- Codes 11 and 28 once more, in plain words.
pub mod RouteFault
-- Codes 1 to 5 and 26: the table file, read and written.
pub mod File
-- The line record, its start, and what stands around a train.
pub mod Line
-- Steps of kinds 1 to 10, codes 13 to 25 and 29 to 31.
pub mod Steps
-- The numbers of the errors that functions answer.
pub mod Errors
-- Code 27: the check of a line record.
pub mod Record
-- Demand 3: lists of steps, atomic steps, and the claim.
pub mod History
pub mod Atomic
pub mod Safety
-- What holds between any two steps.
pub mod Invariant
-- What else holds after every list of steps.
pub mod Consequences
-- A run of a table file and steps.
pub mod Run
-- What the program prints.
pub mod Printout
-- The cases of 01, and one for each code and each condition.
pub mod Cases
pub mod FileCases
pub mod StepCases
pub mod RadioCases
pub mod RunCases
pub mod RecordCases
pub mod OneWayCases
pub mod AllCases
-- Examples of what demand 3 says.
pub mod Examples
