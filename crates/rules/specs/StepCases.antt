-- Cases of steps beside 01's own: for codes 13 to 22, 25 and 29 and each condition behind them, for each plausible error, for atomic
-- steps and their order, and for the printout. 24 is among 01's own, and stops atomic steps here; 23 is among `made_up_cases`.
use Rattle.std.specs.Prelude.{ℕ, List, [], ◌∷◌, ◌++◌, replicate}
use Rattle.rules.specs.Steps.{Step}
use Rattle.rules.specs.Printout.{bytes_of}
use Rattle.rules.specs.Cases.{joined_at, answers_to, train_after, places_of, box_after, printed, printed_up_to, order_of, atomic_answers_to, atomic_box_after, decimal_of, steps_taken, Case, ◌gives◌, step_of, track, table_s, opposed, short_route, merging, contest, passage, asked}
use Rattle.rules.specs.FileCases.{linked}

-- Train 1 of table S crosses box 2.
unfoldable pub crossing : List Step
crossing = asked 1 1 2 ++ asked 1 1 3 ++ asked 2 1 2 ++ (step_of 5 1 0 ∷ [])

-- One train, with the route 1, 3, 4.
unfoldable pub right_route : List ℕ
right_route = track 1 ++ (0 ∷ 3 ∷ 1 ∷ 3 ∷ 4 ∷ [])

-- The same train after it has passed onto 3, with the lock of box 3, entering 4.
unfoldable pub farther : List Step
farther = passage ++ asked 1 1 3 ++ asked 1 1 4 ++ asked 2 1 3 ++ (step_of 5 1 0 ∷ [])

unfoldable pub refusal_cases : List Case
refusal_cases =
    -- 13: kinds 0, 11 and 255, and a box byte in each of the kinds 3 to 6, 9 and 10, all before 14.
    answers_to table_s (step_of 0 0 0 ∷ step_of 11 1 0 ∷ step_of 255 3 0 ∷ []) gives (13 ∷ 13 ∷ 13 ∷ [])
    ∷ answers_to table_s (step_of 3 9 1 ∷ step_of 4 1 1 ∷ step_of 5 1 255 ∷ step_of 6 1 1 ∷ step_of 9 1 1 ∷ step_of 10 9 2 ∷ [])
    gives (replicate 6 13)
    -- 14: trains 0, 3 and 255, in each of the kinds 1 to 6, 9 and 10.
    ∷ answers_to table_s
    (step_of 1 0 2 ∷ step_of 2 3 2 ∷ step_of 3 3 0 ∷ step_of 4 0 0 ∷ step_of 5 3 0 ∷ step_of 6 255 0 ∷ step_of 9 3 0 ∷ step_of 10 0 0 ∷ [])
    gives (replicate 8 14)
    -- 15 before 17: a message is open.
    ∷ answers_to table_s (step_of 1 1 2 ∷ step_of 1 1 3 ∷ step_of 2 1 9 ∷ []) gives (0 ∷ 15 ∷ 15 ∷ [])
    -- 16 before 17: no next.
    ∷ answers_to short_route (step_of 1 1 9 ∷ step_of 2 1 9 ∷ []) gives (16 ∷ 16 ∷ [])
    ∷ answers_to right_route (farther ++ (step_of 6 1 0 ∷ step_of 1 1 4 ∷ step_of 5 1 0 ∷ [])) gives (replicate 22 0 ++ (16 ∷ 16 ∷ []))
    -- 17: a lock elsewhere than at the box ahead, and at a box ahead that is no point; a reservation at no end of next.
    ∷ answers_to table_s (step_of 2 1 3 ∷ step_of 1 1 0 ∷ step_of 1 1 1 ∷ step_of 1 1 5 ∷ []) gives (17 ∷ 17 ∷ 17 ∷ 17 ∷ [])
    ∷ answers_to linked (step_of 2 1 2 ∷ []) gives (17 ∷ [])
    ∷ answers_to table_s (crossing ++ (step_of 2 1 2 ∷ step_of 2 1 3 ∷ [])) gives (replicate 10 0 ++ (17 ∷ 0 ∷ []))
    -- 18: each of the three holdings, and for the lock 17 before it.
    ∷ answers_to table_s (asked 1 1 2 ++ (step_of 1 1 2 ∷ step_of 1 1 3 ∷ [])) gives (0 ∷ 0 ∷ 0 ∷ 18 ∷ 0 ∷ [])
    ∷ answers_to table_s (asked 1 1 3 ++ (step_of 1 1 3 ∷ step_of 1 1 2 ∷ [])) gives (0 ∷ 0 ∷ 0 ∷ 18 ∷ 0 ∷ [])
    ∷ answers_to table_s (asked 1 1 2 ++ asked 2 1 2 ++ (step_of 2 1 2 ∷ step_of 2 1 3 ∷ [])) gives (replicate 6 0 ++ (18 ∷ 17 ∷ []))
    -- 19 with one end of next alone: at a link, and at a point with the lock.
    ∷ answers_to linked (asked 1 1 2 ++ (step_of 5 1 0 ∷ [])) gives (0 ∷ 0 ∷ 0 ∷ 19 ∷ [])
    ∷ answers_to linked (asked 1 1 3 ++ (step_of 5 1 0 ∷ [])) gives (0 ∷ 0 ∷ 0 ∷ 19 ∷ [])
    ∷ answers_to table_s (asked 1 1 2 ++ asked 2 1 2 ++ (step_of 5 1 0 ∷ [])) gives (replicate 6 0 ++ (19 ∷ []))
    -- 19 until the far end is heard, 15 before 18, and 20 before 16 where there is no next.
    ∷ answers_to linked
    (asked 1 1 2
    ++ (step_of 1 1 3 ∷ step_of 5 1 0 ∷ step_of 3 1 0 ∷ step_of 5 1 0 ∷ step_of 1 1 2 ∷ step_of 4 1 0 ∷ step_of 5 1 0 ∷ step_of 5 1 0 ∷ []))
    gives (0 ∷ 0 ∷ 0 ∷ 0 ∷ 19 ∷ 0 ∷ 19 ∷ 15 ∷ 0 ∷ 0 ∷ 20 ∷ [])
    -- 19 until the lock is heard.
    ∷ answers_to table_s
    (asked 1 1 2
    ++ asked 1 1 3
    ++ (step_of 5 1 0 ∷ step_of 2 1 2 ∷ step_of 5 1 0 ∷ step_of 3 1 0 ∷ step_of 5 1 0 ∷ step_of 4 1 0 ∷ step_of 5 1 0 ∷ []))
    gives (replicate 6 0 ++ (19 ∷ 0 ∷ 19 ∷ 0 ∷ 19 ∷ 0 ∷ 0 ∷ []))
    -- The far end may be heard first.
    ∷ answers_to linked (asked 1 1 3 ++ asked 1 1 2 ++ (step_of 5 1 0 ∷ [])) gives (replicate 7 0)
    -- A link needs no lock.
    ∷ answers_to linked (asked 1 1 2 ++ asked 1 1 3 ++ (step_of 5 1 0 ∷ step_of 6 1 0 ∷ [])) gives (replicate 8 0)
    -- 20: Enter while crossing.
    ∷ answers_to table_s (crossing ++ (step_of 5 1 0 ∷ [])) gives (replicate 10 0 ++ (20 ∷ []))
    -- 21: nothing sent, nothing to hear.
    ∷ answers_to table_s (step_of 3 1 0 ∷ step_of 4 1 0 ∷ step_of 1 1 2 ∷ step_of 4 1 0 ∷ step_of 3 1 0 ∷ step_of 3 1 0 ∷ [])
    gives (21 ∷ 21 ∷ 0 ∷ 21 ∷ 0 ∷ 21 ∷ [])
    -- 25: next is another's.
    ∷ answers_to merging (asked 1 1 3 ++ asked 2 2 3) gives (0 ∷ 0 ∷ 0 ∷ 0 ∷ 25 ∷ 25 ∷ [])
    ∷ []

-- Both trains ask for segment 2 at box 2; the second is answered first.
unfoldable pub crossed : List Step
crossed = step_of 1 1 2 ∷ step_of 1 2 2 ∷ step_of 3 2 0 ∷ step_of 3 1 0 ∷ step_of 4 1 0 ∷ step_of 4 2 0 ∷ []

unfoldable pub box_cases : List Case
box_cases =
    -- Box 2 of table S: stem 1 and left 2 are joined at 1, stem 1 and right 3 at 2, either way round, and nothing else.
    joined_at table_s 2 1 1 2 gives (1 ∷ [])
    ∷ joined_at table_s 2 1 2 1 gives (1 ∷ [])
    ∷ joined_at table_s 2 1 1 3 gives (0 ∷ [])
    ∷ joined_at table_s 2 1 2 3 gives (0 ∷ [])
    ∷ joined_at table_s 2 2 1 3 gives (1 ∷ [])
    ∷ joined_at table_s 2 2 3 1 gives (1 ∷ [])
    ∷ joined_at table_s 2 2 1 2 gives (0 ∷ [])
    ∷ joined_at table_s 2 2 3 2 gives (0 ∷ [])
    ∷ joined_at table_s 2 0 1 2 gives (0 ∷ [])
    -- The start: the border behind a train holds nothing.
    ∷ box_after table_s [] 1 gives (replicate 6 0)
    ∷ box_after table_s [] 2 gives (0 ∷ 1 ∷ 0 ∷ 1 ∷ 0 ∷ 0 ∷ [])
    -- The box decides when it answers, not when it is asked.
    ∷ answers_to opposed crossed gives (0 ∷ 0 ∷ 0 ∷ 22 ∷ 22 ∷ 0 ∷ [])
    ∷ box_after opposed (step_of 1 1 2 ∷ []) 2 gives (0 ∷ 1 ∷ 0 ∷ 1 ∷ 0 ∷ 0 ∷ [])
    -- Crossing: the box is sensed, locked, and holds both segments; the next segment may be asked for.
    ∷ train_after table_s crossing 1 gives (2 ∷ 1 ∷ [])
    ∷ box_after table_s crossing 2 gives (1 ∷ 1 ∷ 1 ∷ 1 ∷ 1 ∷ 0 ∷ [])
    ∷ answers_to table_s (crossing ++ (step_of 1 1 3 ∷ [])) gives (replicate 11 0)
    -- Standing on 2: a reservation at box 3 is one of the new next.
    ∷ answers_to table_s (passage ++ (step_of 1 1 3 ∷ [])) gives (replicate 12 0)
    -- Farther along the route: the tail is the segment before the front, and Clear passes the box between them.
    ∷ train_after right_route farther 1 gives (4 ∷ 3 ∷ [])
    ∷ box_after right_route farther 3 gives (1 ∷ 2 ∷ 1 ∷ 1 ∷ 0 ∷ 1 ∷ [])
    ∷ train_after right_route (farther ++ (step_of 6 1 0 ∷ [])) 1 gives (4 ∷ 0 ∷ [])
    ∷ box_after right_route (farther ++ (step_of 6 1 0 ∷ [])) 3 gives (0 ∷ 2 ∷ 0 ∷ 0 ∷ 0 ∷ 0 ∷ [])
    ∷ box_after right_route (farther ++ (step_of 6 1 0 ∷ [])) 4 gives (0 ∷ 0 ∷ 0 ∷ 1 ∷ 0 ∷ 0 ∷ [])
    -- Clear keeps the position, the third segment's holder, what is recorded of next, and the message.
    ∷ box_after right_route passage 2 gives (0 ∷ 2 ∷ 0 ∷ 0 ∷ 0 ∷ 0 ∷ [])
    ∷ box_after table_s (asked 1 2 2 ++ passage) 2 gives (0 ∷ 1 ∷ 0 ∷ 0 ∷ 0 ∷ 2 ∷ [])
    ∷ answers_to table_s (crossing ++ asked 1 1 4 ++ (step_of 6 1 0 ∷ step_of 1 1 4 ∷ [])) gives (replicate 14 0 ++ (18 ∷ []))
    ∷ answers_to table_s (crossing ++ (step_of 1 1 4 ∷ step_of 6 1 0 ∷ step_of 3 1 0 ∷ step_of 4 1 0 ∷ [])) gives (replicate 14 0)
    -- A lock sets the position: box 3 to right, for a train from the branch and for one from the stem.
    ∷ box_after merging (asked 1 2 3 ++ asked 2 2 3) 3 gives (0 ∷ 2 ∷ 2 ∷ 2 ∷ 1 ∷ 2 ∷ [])
    ∷ box_after table_s (asked 1 2 3 ++ asked 2 2 3) 3 gives (0 ∷ 2 ∷ 2 ∷ 2 ∷ 0 ∷ 2 ∷ [])
    -- What is refused or denied leaves the boxes as they were.
    ∷ box_after merging contest 3 gives (1 ∷ 1 ∷ 1 ∷ 1 ∷ 1 ∷ 2 ∷ [])
    -- The places by accepted moves alone: at the start, crossing, after Clear, and with a refused Enter and Clear beside.
    ∷ places_of table_s [] gives (1 ∷ 1 ∷ 1 ∷ 1 ∷ [])
    ∷ places_of table_s (step_of 6 1 0 ∷ crossing ++ (step_of 5 2 0 ∷ [])) gives (2 ∷ 2 ∷ 1 ∷ 1 ∷ [])
    ∷ places_of table_s passage gives (2 ∷ 1 ∷ 1 ∷ 1 ∷ [])
    -- The order has what was granted, when it was granted, and the moves; the atomic line has the same box.
    ∷ order_of merging contest gives (0 ∷ 1 ∷ 1 ∷ 3 ∷ 1 ∷ 1 ∷ 4 ∷ 2 ∷ 1 ∷ 3 ∷ 5 ∷ 1 ∷ 0 ∷ [])
    ∷ atomic_box_after merging contest 3 gives (1 ∷ 1 ∷ 1 ∷ 1 ∷ 1 ∷ 2 ∷ [])
    ∷ order_of opposed crossed gives (0 ∷ 1 ∷ 2 ∷ 2 ∷ [])
    ∷ order_of table_s (step_of 1 1 2 ∷ step_of 1 1 3 ∷ step_of 3 1 0 ∷ []) gives (0 ∷ 1 ∷ 1 ∷ 2 ∷ [])
    ∷ order_of table_s (step_of 1 1 2 ∷ step_of 1 2 2 ∷ step_of 3 1 0 ∷ step_of 3 2 0 ∷ []) gives (0 ∷ 1 ∷ 1 ∷ 2 ∷ 1 ∷ 2 ∷ 2 ∷ [])
    ∷ order_of table_s passage gives (0 ∷ 1 ∷ 1 ∷ 2 ∷ 1 ∷ 1 ∷ 3 ∷ 2 ∷ 1 ∷ 2 ∷ 5 ∷ 1 ∷ 0 ∷ 6 ∷ 1 ∷ 0 ∷ [])
    ∷ []

-- Train 1 of `merging` takes what it needs to enter 4, in atomic steps.
unfoldable pub taking : List Step
taking = step_of 1 1 3 ∷ step_of 1 1 4 ∷ step_of 2 1 3 ∷ []

-- The start of `merging` as numbers: its trains, and its boxes 1 to 4.
unfoldable pub merging_numbers : List ℕ
merging_numbers =
    (0 ∷ 2 ∷ 1 ∷ 1 ∷ replicate 7 0)
    ++ (0 ∷ 2 ∷ 1 ∷ 1 ∷ replicate 7 0)
    ++ replicate 6 0
    ++ (0 ∷ 1 ∷ 0 ∷ 0 ∷ 0 ∷ 0 ∷ [])
    ++ (0 ∷ 1 ∷ 0 ∷ 0 ∷ 1 ∷ 2 ∷ [])
    ++ replicate 6 0

-- After `taking`: train 1 has all three recorded, with no message; box 3 is locked for it, and both ends hold 4 for it.
unfoldable pub taken_numbers : List ℕ
taken_numbers =
    (0 ∷ 2 ∷ 1 ∷ 1 ∷ 1 ∷ 1 ∷ 1 ∷ replicate 4 0)
    ++ (0 ∷ 2 ∷ 1 ∷ 1 ∷ replicate 7 0)
    ++ replicate 6 0
    ++ (0 ∷ 1 ∷ 0 ∷ 0 ∷ 0 ∷ 0 ∷ [])
    ++ (0 ∷ 1 ∷ 1 ∷ 1 ∷ 1 ∷ 2 ∷ [])
    ++ (0 ∷ 0 ∷ 0 ∷ 1 ∷ 0 ∷ 0 ∷ [])

-- The start of `short_route`.
unfoldable pub short_numbers : List ℕ
short_numbers =
    (0 ∷ 1 ∷ 1 ∷ 1 ∷ replicate 7 0)
    ++ replicate 6 0
    ++ (0 ∷ 1 ∷ 0 ∷ 1 ∷ 0 ∷ 0 ∷ [])
    ++ (0 ∷ 1 ∷ replicate 4 0)
    ++ replicate 6 0

unfoldable pub atomic_cases : List Case
atomic_cases =
    atomic_answers_to merging [] gives (0 ∷ merging_numbers)
    -- 17 and 25, 19 and 20 stop; so do kinds that are no atomic steps. What is stopped changes nothing.
    ∷ atomic_answers_to merging (step_of 1 1 2 ∷ step_of 2 1 2 ∷ step_of 2 1 3 ∷ step_of 5 1 0 ∷ step_of 6 1 0 ∷ step_of 3 1 0 ∷ [])
    gives ((1 ∷ 17 ∷ 17 ∷ 25 ∷ 19 ∷ 20 ∷ 13 ∷ []) ++ merging_numbers)
    -- 16: no next, for requests and for Enter.
    ∷ atomic_answers_to short_route (step_of 1 1 2 ∷ step_of 2 1 2 ∷ step_of 5 1 0 ∷ []) gives ((1 ∷ 16 ∷ 16 ∷ 16 ∷ []) ++ short_numbers)
    -- Whole requests: the box grants and the train records at once. 18, 22 and 24 stop then.
    ∷ atomic_answers_to merging taking gives (replicate 4 0 ++ taken_numbers)
    ∷ atomic_answers_to merging
    (taking ++ (step_of 1 1 3 ∷ step_of 1 1 4 ∷ step_of 2 1 3 ∷ step_of 1 2 3 ∷ step_of 1 2 4 ∷ step_of 2 2 3 ∷ []))
    gives ((1 ∷ 0 ∷ 0 ∷ 0 ∷ 18 ∷ 18 ∷ 18 ∷ 22 ∷ 22 ∷ 24 ∷ []) ++ taken_numbers)
    -- A move does what kind 5 or 6 does. 24 stops while train 1 crosses.
    ∷ atomic_answers_to merging (taking ++ (step_of 5 1 0 ∷ step_of 2 2 3 ∷ step_of 6 1 0 ∷ []))
    gives
    ((1 ∷ 0 ∷ 0 ∷ 0 ∷ 0 ∷ 24 ∷ 0 ∷ [])
    ++ (0 ∷ 2 ∷ 2 ∷ 1 ∷ replicate 7 0)
    ++ (0 ∷ 2 ∷ 1 ∷ 1 ∷ replicate 7 0)
    ++ replicate 6 0
    ++ (0 ∷ 1 ∷ 0 ∷ 0 ∷ 0 ∷ 0 ∷ [])
    ++ (0 ∷ 1 ∷ 0 ∷ 0 ∷ 0 ∷ 2 ∷ [])
    ++ (0 ∷ 0 ∷ 0 ∷ 1 ∷ 0 ∷ 0 ∷ []))
    ∷ []

-- Train 1 of `merging` has 4 and the lock at box 3, and gives back 4.
unfoldable pub lock_kept : List Step
lock_kept = asked 1 1 3 ++ asked 2 1 3 ++ asked 7 1 3

-- Train 1 of table S has all that it needs to enter 2.
unfoldable pub ready : List Step
ready = asked 1 1 2 ++ asked 1 1 3 ++ asked 2 1 2

-- Giving back (02, ticket 2).
unfoldable pub giving_cases : List Case
giving_cases =
    -- A reservation: the box frees it when it answers, not before; then another train gets it.
    box_after opposed (asked 1 1 2 ++ (step_of 7 1 2 ∷ [])) 2 gives (0 ∷ 1 ∷ 0 ∷ 1 ∷ 1 ∷ 0 ∷ [])
    ∷ box_after opposed (asked 1 1 2 ++ (step_of 7 1 2 ∷ step_of 3 1 0 ∷ [])) 2 gives (0 ∷ 1 ∷ 0 ∷ 1 ∷ 0 ∷ 0 ∷ [])
    ∷ answers_to opposed (asked 1 1 2 ++ (step_of 7 1 2 ∷ []) ++ asked 1 2 2) gives (replicate 5 0 ++ (22 ∷ 22 ∷ []))
    ∷ answers_to opposed (asked 1 1 2 ++ asked 7 1 2 ++ asked 1 2 2) gives (replicate 9 0)
    ∷ box_after opposed (asked 1 1 2 ++ asked 7 1 2 ++ asked 1 2 2) 2 gives (0 ∷ 1 ∷ 0 ∷ 1 ∷ 2 ∷ 0 ∷ [])
    -- A lock: the same, and position and reservations stay. Next may be given back before the lock.
    ∷ box_after merging (lock_kept ++ (step_of 8 1 3 ∷ [])) 3 gives (0 ∷ 1 ∷ 1 ∷ 0 ∷ 1 ∷ 2 ∷ [])
    ∷ box_after merging (lock_kept ++ (step_of 8 1 3 ∷ step_of 3 1 0 ∷ [])) 3 gives (0 ∷ 1 ∷ 0 ∷ 0 ∷ 1 ∷ 2 ∷ [])
    ∷ answers_to merging (lock_kept ++ (step_of 8 1 3 ∷ []) ++ asked 1 2 3 ++ asked 2 2 3) gives (replicate 14 0 ++ (24 ∷ 24 ∷ []))
    ∷ answers_to merging (lock_kept ++ asked 8 1 3 ++ asked 1 2 3 ++ asked 2 2 3) gives (replicate 18 0)
    ∷ box_after merging (lock_kept ++ asked 8 1 3 ++ asked 1 2 3 ++ asked 2 2 3) 3 gives (0 ∷ 2 ∷ 2 ∷ 2 ∷ 1 ∷ 2 ∷ [])
    ∷ box_after table_s (ready ++ asked 8 1 2) 2 gives (0 ∷ 1 ∷ 0 ∷ 1 ∷ 1 ∷ 0 ∷ [])
    ∷ box_after merging (asked 1 2 3 ++ asked 2 2 3 ++ asked 8 2 3) 3 gives (0 ∷ 2 ∷ 0 ∷ 2 ∷ 1 ∷ 2 ∷ [])
    -- 29: nothing recorded, at each end by itself, and after the give-back.
    ∷ answers_to table_s (step_of 7 1 2 ∷ step_of 7 1 3 ∷ step_of 8 1 2 ∷ []) gives (29 ∷ 29 ∷ 29 ∷ [])
    ∷ answers_to table_s (asked 1 1 2 ++ (step_of 7 1 3 ∷ [])) gives (0 ∷ 0 ∷ 0 ∷ 29 ∷ [])
    ∷ answers_to table_s (asked 1 1 3 ++ (step_of 7 1 2 ∷ [])) gives (0 ∷ 0 ∷ 0 ∷ 29 ∷ [])
    ∷ answers_to table_s (ready ++ asked 7 1 2 ++ asked 8 1 2 ++ (step_of 7 1 2 ∷ step_of 8 1 2 ∷ step_of 7 1 3 ∷ []))
    gives (replicate 15 0 ++ (29 ∷ 29 ∷ 0 ∷ []))
    -- 14, and 15 with a give-back open, sent and answered, or a request.
    ∷ answers_to table_s (step_of 7 0 2 ∷ step_of 8 3 2 ∷ []) gives (14 ∷ 14 ∷ [])
    ∷ answers_to table_s
    (asked 1 1 2
    ++ (step_of 7 1 2 ∷ step_of 1 1 2 ∷ step_of 2 1 2 ∷ step_of 7 1 2 ∷ step_of 8 1 2 ∷ step_of 3 1 0 ∷ step_of 7 1 2 ∷ []))
    gives (0 ∷ 0 ∷ 0 ∷ 0 ∷ 15 ∷ 15 ∷ 15 ∷ 15 ∷ 0 ∷ 15 ∷ [])
    ∷ answers_to table_s (step_of 1 1 2 ∷ step_of 7 1 2 ∷ step_of 8 1 2 ∷ step_of 7 1 9 ∷ step_of 8 1 9 ∷ []) gives (0 ∷ replicate 4 15)
    -- 16 before 17, and 17 before 29: no end of next; another box than the box ahead, and one that is no point.
    ∷ answers_to short_route (step_of 7 1 9 ∷ step_of 8 1 9 ∷ []) gives (16 ∷ 16 ∷ [])
    ∷ answers_to table_s (step_of 7 1 4 ∷ step_of 7 1 0 ∷ step_of 8 1 3 ∷ step_of 8 1 0 ∷ []) gives (17 ∷ 17 ∷ 17 ∷ 17 ∷ [])
    ∷ answers_to linked (step_of 8 1 2 ∷ []) gives (17 ∷ [])
    -- What is given back may be asked for again, and is recorded again.
    ∷ answers_to table_s (ready ++ asked 8 1 2 ++ asked 7 1 2 ++ asked 1 1 2 ++ asked 2 1 2 ++ (step_of 5 1 0 ∷ [])) gives (replicate 22 0)
    -- Enter: 19 from the moment that one of the three is given back.
    ∷ answers_to table_s (ready ++ (step_of 7 1 2 ∷ step_of 5 1 0 ∷ step_of 3 1 0 ∷ step_of 5 1 0 ∷ step_of 4 1 0 ∷ step_of 5 1 0 ∷ []))
    gives (replicate 10 0 ++ (19 ∷ 0 ∷ 19 ∷ 0 ∷ 19 ∷ []))
    ∷ answers_to table_s (ready ++ asked 7 1 3 ++ (step_of 5 1 0 ∷ [])) gives (replicate 12 0 ++ (19 ∷ []))
    ∷ answers_to table_s (ready ++ asked 8 1 2 ++ (step_of 5 1 0 ∷ [])) gives (replicate 12 0 ++ (19 ∷ []))
    -- A train that crosses gives back what it has of its next; Clear may come between.
    ∷ answers_to table_s (crossing ++ asked 1 1 4 ++ (step_of 7 1 4 ∷ step_of 6 1 0 ∷ step_of 3 1 0 ∷ step_of 4 1 0 ∷ [])) gives (replicate 17 0)
    ∷ box_after table_s (crossing ++ asked 1 1 4 ++ (step_of 7 1 4 ∷ step_of 6 1 0 ∷ step_of 3 1 0 ∷ [])) 4 gives (replicate 6 0)
    -- The order has a give-back where the box answers it, and not before, whatever is refused between.
    ∷ order_of opposed (asked 1 1 2 ++ (step_of 7 1 2 ∷ []) ++ asked 1 2 3) gives (0 ∷ 1 ∷ 1 ∷ 2 ∷ 1 ∷ 2 ∷ 3 ∷ [])
    ∷ order_of opposed (asked 1 1 2 ++ (step_of 7 1 2 ∷ []) ++ asked 1 2 3 ++ (step_of 3 1 0 ∷ []))
    gives (0 ∷ 1 ∷ 1 ∷ 2 ∷ 1 ∷ 2 ∷ 3 ∷ 7 ∷ 1 ∷ 2 ∷ [])
    ∷ order_of table_s (asked 1 1 2 ++ (step_of 7 1 2 ∷ step_of 1 1 3 ∷ step_of 3 1 0 ∷ [])) gives (0 ∷ 1 ∷ 1 ∷ 2 ∷ 7 ∷ 1 ∷ 2 ∷ [])
    ∷ order_of merging (lock_kept ++ asked 8 1 3) gives (0 ∷ 1 ∷ 1 ∷ 3 ∷ 2 ∷ 1 ∷ 3 ∷ 7 ∷ 1 ∷ 3 ∷ 8 ∷ 1 ∷ 3 ∷ [])
    ∷ atomic_box_after merging (lock_kept ++ (step_of 8 1 3 ∷ [])) 3 gives (0 ∷ 1 ∷ 1 ∷ 0 ∷ 1 ∷ 2 ∷ [])
    -- Atomic give-backs free and drop at once; 16, 17 and 29 stop them.
    ∷ atomic_answers_to merging (taking ++ (step_of 7 1 3 ∷ step_of 8 1 3 ∷ step_of 7 1 4 ∷ [])) gives (replicate 7 0 ++ merging_numbers)
    ∷ atomic_answers_to merging (step_of 7 1 3 ∷ step_of 8 1 3 ∷ step_of 7 1 2 ∷ step_of 8 1 2 ∷ [])
    gives ((1 ∷ 29 ∷ 29 ∷ 17 ∷ 17 ∷ []) ++ merging_numbers)
    ∷ atomic_answers_to short_route (step_of 7 1 2 ∷ step_of 8 1 2 ∷ []) gives ((1 ∷ 16 ∷ 16 ∷ []) ++ short_numbers)
    ∷ []

-- The train and box lines of the short route.
unfoldable pub short_text : List ℕ
short_text = bytes_of "train 1 1 0\nbox 1 0 0 0\nbox 2 0 1 0\nbox 3 0 1 0\nbox 4 0 0 0\n"

-- The steps of the crossing, as bytes.
unfoldable pub crossing_bytes : List ℕ
crossing_bytes =
    1 ∷ 1 ∷ 2 ∷ 3 ∷ 1 ∷ 0 ∷ 4 ∷ 1 ∷ 0 ∷ 1 ∷ 1 ∷ 3 ∷ 3 ∷ 1 ∷ 0 ∷ 4 ∷ 1 ∷ 0
    ∷ 2 ∷ 1 ∷ 2 ∷ 3 ∷ 1 ∷ 0 ∷ 4 ∷ 1 ∷ 0 ∷ 5 ∷ 1 ∷ 0 ∷ []

unfoldable pub text_cases : List Case
text_cases =
    -- No step; a last step of two bytes, and of one.
    printed short_route [] gives short_text
    ∷ printed short_route (6 ∷ 1 ∷ []) gives (bytes_of "1 6 1 13\n" ++ short_text)
    ∷ printed short_route (6 ∷ []) gives (bytes_of "1 6 0 13\n" ++ short_text)
    ∷ printed short_route (255 ∷ 100 ∷ []) gives (bytes_of "1 255 100 13\n" ++ short_text)
    -- Numbers up to the most steps, which is 65,535.
    ∷ decimal_of 0 gives bytes_of "0"
    ∷ decimal_of 10000 gives bytes_of "10000"
    ∷ decimal_of 65535 gives bytes_of "65535"
    ∷ steps_taken (replicate 196608 1) gives (65535 ∷ [])
    -- Where at most two steps are taken: two, one byte and four bytes more, and two with the second cut short.
    ∷ printed_up_to 2 short_route (6 ∷ 1 ∷ 0 ∷ 5 ∷ 1 ∷ 0 ∷ []) gives (bytes_of "1 6 1 20\n2 5 1 16\n" ++ short_text)
    ∷ printed_up_to 2 short_route (6 ∷ 1 ∷ 0 ∷ 5 ∷ 1 ∷ 0 ∷ 6 ∷ [])
    gives (bytes_of "1 6 1 20\n2 5 1 16\n" ++ short_text ++ bytes_of "more\n")
    ∷ printed_up_to 2 short_route (6 ∷ 1 ∷ 0 ∷ 5 ∷ 1 ∷ 0 ∷ 6 ∷ 1 ∷ 0 ∷ 9 ∷ [])
    gives (bytes_of "1 6 1 20\n2 5 1 16\n" ++ short_text ++ bytes_of "more\n")
    ∷ printed_up_to 2 short_route (6 ∷ 1 ∷ 0 ∷ 5 ∷ 1 ∷ []) gives (bytes_of "1 6 1 20\n2 5 1 13\n" ++ short_text)
    -- A crossing train is printed with its tail.
    ∷ printed table_s crossing_bytes
    gives
    (bytes_of "1 1 1 0\n2 3 1 0\n3 4 1 0\n4 1 1 0\n5 3 1 0\n6 4 1 0\n7 2 1 0\n8 3 1 0\n9 4 1 0\n10 5 1 0\n"
    ++ bytes_of "train 1 2 1\ntrain 2 4 0\nbox 1 0 0 0\nbox 2 1 1 1\nbox 3 0 1 0\nbox 4 0 0 0\n")
    ∷ []

unfoldable pub step_cases : List Case
step_cases = refusal_cases ++ box_cases ++ atomic_cases ++ giving_cases ++ text_cases
