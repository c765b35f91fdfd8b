-- Cases of messages that are lost and sent again (02, ticket 5): what is answered, what is left of trains and boxes, and the order, with
-- code 30. Records that 27 looks at and ones that no steps reach are in RecordCases.
use Rattle.std.specs.Prelude.{ℕ, List, [], ◌∷◌, ◌++◌, replicate}
use Rattle.rules.specs.Steps.{Step}
use Rattle.rules.specs.Printout.{bytes_of}
use Rattle.rules.specs.Cases.{answers_to, train_after, box_after, printed, order_of, atomic_box_after, Case, ◌gives◌, step_of, table_s, opposed, merging, asked}
use Rattle.rules.specs.StepCases.{crossing, lock_kept, ready}

-- What is under way of train i is lost, and its request is sent again.
unfoldable pub lost_again : ℕ → List Step
lost_again i = step_of 9 i 0 ∷ step_of 10 i 0 ∷ []

-- A request of train i that is lost before its box hears it; one whose answer is lost, up to the box's second answer.
unfoldable pub unheard : ℕ → ℕ → ℕ → List Step
unheard kind i b = step_of kind i b ∷ lost_again i ++ (step_of 3 i 0 ∷ step_of 4 i 0 ∷ [])

unfoldable pub untold : ℕ → ℕ → ℕ → List Step
untold kind i b = step_of kind i b ∷ step_of 3 i 0 ∷ lost_again i ++ (step_of 3 i 0 ∷ [])

-- Train 1 of `merging` takes 4 and the lock of box 3, over which it leaves. Train 2's request for 4 was denied, and that answer is lost.
unfoldable pub denied_then_free : List Step
denied_then_free =
    asked 1 1 3 ++ asked 1 1 4 ++ asked 2 1 3
    ++ (step_of 1 2 3 ∷ step_of 3 2 0 ∷ step_of 9 2 0 ∷ step_of 5 1 0 ∷ step_of 6 1 0 ∷ step_of 10 2 0 ∷ step_of 3 2 0 ∷ step_of 4 2 0 ∷ [])

-- Train 1 of `opposed` gives 2 back at box 2, and the yes is lost. Meanwhile train 2 reserves 2 at both ends, locks box 3 and enters 2. Train
-- 1 sends again and hears.
unfoldable pub taken_meanwhile : List Step
taken_meanwhile =
    asked 1 1 2
    ++ (step_of 7 1 2 ∷ step_of 3 1 0 ∷ step_of 9 1 0 ∷ [])
    ++ asked 1 2 3 ++ asked 1 2 2 ++ asked 2 2 3
    ++ (step_of 5 2 0 ∷ step_of 10 1 0 ∷ step_of 3 1 0 ∷ step_of 4 1 0 ∷ [])

-- The same with the lock of box 3, on `merging`: train 1 gives it back, and train 2 gets it before train 1 sends again.
unfoldable pub locked_meanwhile : List Step
locked_meanwhile =
    lock_kept
    ++ (step_of 8 1 3 ∷ step_of 3 1 0 ∷ step_of 9 1 0 ∷ [])
    ++ asked 1 2 3 ++ asked 2 2 3
    ++ (step_of 10 1 0 ∷ step_of 3 1 0 ∷ step_of 4 1 0 ∷ [])

unfoldable pub radio_cases : List Case
radio_cases =
    -- A reservation lost before the box hears it: the box holds nothing for it until it is sent again and answered.
    answers_to opposed (unheard 1 1 2) gives (replicate 5 0)
    ∷ box_after opposed (step_of 1 1 2 ∷ lost_again 1) 2 gives (0 ∷ 1 ∷ 0 ∷ 1 ∷ 0 ∷ 0 ∷ [])
    ∷ box_after opposed (unheard 1 1 2) 2 gives (0 ∷ 1 ∷ 0 ∷ 1 ∷ 1 ∷ 0 ∷ [])
    ∷ order_of opposed (step_of 1 1 2 ∷ lost_again 1) gives (0 ∷ [])
    ∷ order_of opposed (unheard 1 1 2) gives (0 ∷ 1 ∷ 1 ∷ 2 ∷ [])
    -- Granted, and the yes lost: sent again it is a yes again, the box is as it was, and the order has it once. Heard, it is recorded (18).
    ∷ answers_to opposed (untold 1 1 2 ++ (step_of 4 1 0 ∷ step_of 1 1 2 ∷ [])) gives (replicate 6 0 ++ (18 ∷ []))
    ∷ box_after opposed (step_of 1 1 2 ∷ step_of 3 1 0 ∷ step_of 9 1 0 ∷ []) 2 gives (0 ∷ 1 ∷ 0 ∷ 1 ∷ 1 ∷ 0 ∷ [])
    ∷ box_after opposed (untold 1 1 2) 2 gives (0 ∷ 1 ∷ 0 ∷ 1 ∷ 1 ∷ 0 ∷ [])
    ∷ order_of opposed (untold 1 1 2) gives (0 ∷ 1 ∷ 1 ∷ 2 ∷ [])
    -- Until the yes is heard nothing is recorded: Enter is refused (19), however often the box has said yes.
    ∷ answers_to table_s (asked 1 1 2 ++ asked 1 1 3 ++ untold 2 1 2 ++ (step_of 5 1 0 ∷ step_of 4 1 0 ∷ step_of 5 1 0 ∷ []))
    gives (replicate 11 0 ++ (19 ∷ 0 ∷ 0 ∷ []))
    -- The same for a lock, and one lost before its box hears it. The position is the one that was set.
    ∷ answers_to merging (asked 1 2 3 ++ untold 2 2 3) gives (replicate 8 0)
    ∷ box_after merging (asked 1 2 3 ++ untold 2 2 3) 3 gives (0 ∷ 2 ∷ 2 ∷ 2 ∷ 1 ∷ 2 ∷ [])
    ∷ order_of merging (asked 1 2 3 ++ untold 2 2 3) gives (0 ∷ 1 ∷ 2 ∷ 3 ∷ 2 ∷ 2 ∷ 3 ∷ [])
    ∷ box_after merging (asked 1 2 3 ++ (step_of 2 2 3 ∷ lost_again 2)) 3 gives (0 ∷ 1 ∷ 0 ∷ 2 ∷ 1 ∷ 2 ∷ [])
    ∷ box_after merging (asked 1 2 3 ++ unheard 2 2 3) 3 gives (0 ∷ 2 ∷ 2 ∷ 2 ∷ 1 ∷ 2 ∷ [])
    -- A no lost, and asked again when the other train has left: yes. It stands in the order at that grant.
    ∷ answers_to merging denied_then_free gives (replicate 10 0 ++ (22 ∷ replicate 6 0))
    ∷ box_after merging denied_then_free 3 gives (0 ∷ 1 ∷ 0 ∷ 2 ∷ 0 ∷ 2 ∷ [])
    ∷ order_of merging denied_then_free gives (0 ∷ 1 ∷ 1 ∷ 3 ∷ 1 ∷ 1 ∷ 4 ∷ 2 ∷ 1 ∷ 3 ∷ 5 ∷ 1 ∷ 0 ∷ 6 ∷ 1 ∷ 0 ∷ 1 ∷ 2 ∷ 3 ∷ [])
    -- A no lost and asked again too early is a no again, of a lock too: 25 here, and 24 while another has it.
    ∷ answers_to opposed (asked 1 1 2 ++ untold 1 2 2 ++ (step_of 4 2 0 ∷ [])) gives (0 ∷ 0 ∷ 0 ∷ 0 ∷ 22 ∷ 0 ∷ 0 ∷ 22 ∷ 22 ∷ [])
    ∷ answers_to table_s (untold 2 1 2) gives (0 ∷ 25 ∷ 0 ∷ 0 ∷ 25 ∷ [])
    ∷ answers_to merging (asked 1 1 3 ++ asked 2 1 3 ++ untold 2 2 3) gives (replicate 6 0 ++ (0 ∷ 24 ∷ 0 ∷ 0 ∷ 24 ∷ []))
    -- A give-back lost before the box hears it: the box frees when it answers, and the order has it there. The train has nothing recorded (29).
    ∷ answers_to opposed (asked 1 1 2 ++ unheard 7 1 2 ++ (step_of 7 1 2 ∷ [])) gives (replicate 8 0 ++ (29 ∷ []))
    ∷ box_after opposed (asked 1 1 2 ++ (step_of 7 1 2 ∷ lost_again 1)) 2 gives (0 ∷ 1 ∷ 0 ∷ 1 ∷ 1 ∷ 0 ∷ [])
    ∷ box_after opposed (asked 1 1 2 ++ unheard 7 1 2) 2 gives (0 ∷ 1 ∷ 0 ∷ 1 ∷ 0 ∷ 0 ∷ [])
    ∷ atomic_box_after opposed (asked 1 1 2 ++ (step_of 7 1 2 ∷ lost_again 1)) 2 gives (0 ∷ 1 ∷ 0 ∷ 1 ∷ 1 ∷ 0 ∷ [])
    ∷ order_of opposed (asked 1 1 2 ++ unheard 7 1 2) gives (0 ∷ 1 ∷ 1 ∷ 2 ∷ 7 ∷ 1 ∷ 2 ∷ [])
    -- A give-back whose yes is lost, and what it gave back is free still: sent again it is a yes, and nothing changes.
    ∷ answers_to opposed (asked 1 1 2 ++ untold 7 1 2 ++ (step_of 4 1 0 ∷ [])) gives (replicate 9 0)
    ∷ box_after opposed (asked 1 1 2 ++ untold 7 1 2) 2 gives (0 ∷ 1 ∷ 0 ∷ 1 ∷ 0 ∷ 0 ∷ [])
    ∷ order_of opposed (asked 1 1 2 ++ untold 7 1 2) gives (0 ∷ 1 ∷ 1 ∷ 2 ∷ 7 ∷ 1 ∷ 2 ∷ [])
    ∷ answers_to merging (lock_kept ++ untold 8 1 3 ++ (step_of 4 1 0 ∷ [])) gives (replicate 15 0)
    ∷ box_after merging (lock_kept ++ untold 8 1 3) 3 gives (0 ∷ 1 ∷ 0 ∷ 0 ∷ 1 ∷ 2 ∷ [])
    -- A give-back whose yes is lost, and what it gave back taken meanwhile: sent again it is a yes, and train 2 keeps it. Train 1 is then
    -- answered 22 at both ends, and may not enter.
    ∷ answers_to opposed (taken_meanwhile ++ asked 1 1 2 ++ asked 1 1 3 ++ (step_of 5 1 0 ∷ []))
    gives (replicate 19 0 ++ (0 ∷ 22 ∷ 22 ∷ 0 ∷ 22 ∷ 22 ∷ 19 ∷ []))
    ∷ train_after opposed taken_meanwhile 2 gives (2 ∷ 4 ∷ [])
    ∷ box_after opposed taken_meanwhile 2 gives (0 ∷ 1 ∷ 0 ∷ 1 ∷ 2 ∷ 0 ∷ [])
    ∷ order_of opposed taken_meanwhile gives (0 ∷ 1 ∷ 1 ∷ 2 ∷ 7 ∷ 1 ∷ 2 ∷ 1 ∷ 2 ∷ 3 ∷ 1 ∷ 2 ∷ 2 ∷ 2 ∷ 2 ∷ 3 ∷ 5 ∷ 2 ∷ 0 ∷ [])
    -- The same with a lock.
    ∷ answers_to merging locked_meanwhile gives (replicate 21 0)
    ∷ box_after merging locked_meanwhile 3 gives (0 ∷ 2 ∷ 2 ∷ 2 ∷ 1 ∷ 2 ∷ [])
    ∷ order_of merging locked_meanwhile gives (0 ∷ 1 ∷ 1 ∷ 3 ∷ 2 ∷ 1 ∷ 3 ∷ 7 ∷ 1 ∷ 3 ∷ 8 ∷ 1 ∷ 3 ∷ 1 ∷ 2 ∷ 3 ∷ 2 ∷ 2 ∷ 3 ∷ [])
    -- 30: nothing to lose, with no message and with one that is lost; nothing to repeat, with none, and while one is sent or answered.
    ∷ answers_to table_s (step_of 9 1 0 ∷ step_of 10 1 0 ∷ []) gives (30 ∷ 30 ∷ [])
    ∷ answers_to table_s (step_of 1 1 2 ∷ step_of 10 1 0 ∷ step_of 9 1 0 ∷ step_of 9 1 0 ∷ []) gives (0 ∷ 30 ∷ 0 ∷ 30 ∷ [])
    ∷ answers_to table_s (step_of 1 1 2 ∷ step_of 3 1 0 ∷ step_of 10 1 0 ∷ step_of 9 1 0 ∷ step_of 9 1 0 ∷ step_of 10 1 0 ∷ step_of 10 1 0 ∷ [])
    gives (0 ∷ 0 ∷ 30 ∷ 0 ∷ 30 ∷ 0 ∷ 30 ∷ [])
    ∷ answers_to table_s (asked 1 1 2 ++ (step_of 9 1 0 ∷ step_of 10 1 0 ∷ step_of 9 2 0 ∷ [])) gives (0 ∷ 0 ∷ 0 ∷ 30 ∷ 30 ∷ 30 ∷ [])
    -- Lost: 21 for kinds 3 and 4, 15 for every request and give-back, wherever it is made.
    ∷ answers_to table_s (asked 1 1 3 ++ (step_of 1 1 2 ∷ step_of 9 1 0 ∷ step_of 3 1 0 ∷ step_of 4 1 0 ∷ [])) gives (replicate 5 0 ++ (21 ∷ 21 ∷ []))
    ∷ answers_to table_s
    (asked 1 1 3
    ++ (step_of 1 1 2 ∷ step_of 9 1 0 ∷ step_of 1 1 2 ∷ step_of 1 1 9 ∷ step_of 2 1 2 ∷ step_of 7 1 3 ∷ step_of 8 1 2 ∷ []))
    gives (replicate 5 0 ++ replicate 5 15)
    -- A train may clear its tail while its message is lost, and hears a yes for the same segment afterwards.
    ∷ answers_to table_s (crossing ++ (step_of 1 1 4 ∷ step_of 9 1 0 ∷ step_of 6 1 0 ∷ step_of 10 1 0 ∷ step_of 3 1 0 ∷ step_of 4 1 0 ∷ step_of 1 1 4 ∷ []))
    gives (replicate 16 0 ++ (18 ∷ []))
    -- A give-back lost leaves Enter refused (19), and the same may be asked for only when the answer to it is heard.
    ∷ answers_to table_s (ready ++ (step_of 7 1 2 ∷ step_of 9 1 0 ∷ step_of 5 1 0 ∷ step_of 1 1 2 ∷ step_of 10 1 0 ∷ step_of 3 1 0 ∷ step_of 4 1 0 ∷ step_of 1 1 2 ∷ []))
    gives (replicate 11 0 ++ (19 ∷ 15 ∷ 0 ∷ 0 ∷ 0 ∷ 0 ∷ []))
    -- Kind 10 and code 30 in a printout.
    ∷ printed table_s (1 ∷ 1 ∷ 2 ∷ 10 ∷ 1 ∷ 0 ∷ 9 ∷ 1 ∷ 0 ∷ [])
    gives
    (bytes_of "1 1 1 0\n2 10 1 30\n3 9 1 0\ntrain 1 1 0\ntrain 2 4 0\nbox 1 0 0 0\nbox 2 0 1 0\nbox 3 0 1 0\nbox 4 0 0 0\n")
    ∷ []
