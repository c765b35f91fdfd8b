-- Cases of one-way segments (02, ticket 6): files of version 2 with their codes, what is answered and left behind, and records made up by
-- hand.
use Rattle.std.specs.Prelude.{ℕ, true, false, List, [], ◌∷◌, ◌++◌, take, drop, set, replicate}
use Rattle.rules.specs.declared.Request.TheVariants.{Reserve, Lock, GiveBack, Unlock}
use Rattle.rules.specs.declared.Message.{Message}
use Rattle.rules.specs.declared.Message.TheVariants.{Idle, Sent, Answered}
use Rattle.rules.specs.declared.Segment.{Segment}
use Rattle.rules.specs.declared.Table.{Table}
use Rattle.rules.specs.declared.Line.{Line}
use Rattle.rules.specs.Rows.{set_nth}
use Rattle.rules.specs.File.{decode}
use Rattle.rules.specs.Line.{start_line, put_train, put_box}
use Rattle.rules.specs.Printout.{bytes_of}
use Rattle.rules.specs.Cases.{code_of, rewritten, answers_to, train_after, box_after, printed, run_to, written_to, checked, checked_box, order_of}
use Rattle.rules.specs.Cases.{atomic_answers_to, route_of, line_numbers, Case, ◌gives◌, step_of, track, table_s, one_start, opposed, asked, passage, ten_steps, sixteen_lines}
use Rattle.rules.specs.RadioCases.{untold}
use Rattle.rules.specs.RecordCases.{made, with_train, heard_on, table_part, untouched}

-- A file of version 1 on the track of table S as one of version 2, its four segments with these ways.
unfoldable pub with_ways : List ℕ → ℕ → ℕ → ℕ → ℕ → List ℕ
with_ways bytes w x y z =
    (0x4E ∷ 0x45 ∷ 0x54 ∷ 0 ∷ 2 ∷ [])
    ++ take 3 (drop 5 bytes)
    ++ (1 ∷ 2 ∷ w ∷ 2 ∷ 3 ∷ x ∷ 2 ∷ 3 ∷ y ∷ 3 ∷ 4 ∷ z ∷ [])
    ++ drop 16 bytes

-- Table S with both ways everywhere; and with segment 2 from B to A only, against train 1.
unfoldable pub both_ways : List ℕ
both_ways = with_ways table_s 0 0 0 0

unfoldable pub second_back : List ℕ
second_back = with_ways table_s 0 2 0 0

-- The bytes of table S as version 2.
unfoldable pub fifty_bytes : List ℕ
fifty_bytes =
    (0x4E ∷ 0x45 ∷ 0x54 ∷ 0 ∷ 2 ∷ 4 ∷ 4 ∷ 2 ∷ [])
    ++ (1 ∷ 2 ∷ 0 ∷ 2 ∷ 3 ∷ 0 ∷ 2 ∷ 3 ∷ 0 ∷ 3 ∷ 4 ∷ 0 ∷ [])
    ++ (0 ∷ 1 ∷ 0 ∷ 0 ∷ 0 ∷ 2 ∷ 1 ∷ 2 ∷ 3 ∷ 1 ∷ 2 ∷ 4 ∷ 2 ∷ 3 ∷ 1 ∷ 0 ∷ 4 ∷ 0 ∷ 0 ∷ 0 ∷ [])
    ++ (0 ∷ 3 ∷ 1 ∷ 2 ∷ 4 ∷ 1 ∷ 3 ∷ 4 ∷ 3 ∷ 1 ∷ [])

-- Two segments joined by a link, the second from B to A only, and a train with the route 1, 2.
unfoldable pub linked_back : List ℕ
linked_back =
    0x4E ∷ 0x45 ∷ 0x54 ∷ 0 ∷ 2 ∷ 2 ∷ 3 ∷ 1
    ∷ 1 ∷ 2 ∷ 0 ∷ 2 ∷ 3 ∷ 2
    ∷ 0 ∷ 1 ∷ 0 ∷ 0 ∷ 0 ∷ 1 ∷ 1 ∷ 2 ∷ 0 ∷ 0 ∷ 0 ∷ 2 ∷ 0 ∷ 0 ∷ 0
    ∷ 0 ∷ 2 ∷ 1 ∷ 2 ∷ []

-- The code of table S as version 2 with these ways, which is about no place of a route.
abbrev pub way_code : ℕ → ℕ → ℕ → ℕ → ℕ → Case
way_code w x y z c = code_of (with_ways table_s w x y z) gives (c ∷ 0 ∷ 0 ∷ [])

unfoldable pub way_file_cases : List Case
way_file_cases =
    -- Both ways everywhere: accepted, and written with the bytes that it was read from, 50 of them.
    code_of both_ways gives (0 ∷ 0 ∷ 0 ∷ [])
    ∷ rewritten both_ways gives fifty_bytes
    ∷ written_to (decode both_ways) (replicate 49 7) gives (26 ∷ 0 ∷ 0 ∷ replicate 49 7)
    ∷ written_to (decode second_back) (replicate 52 7) gives (0 ∷ 0 ∷ 0 ∷ second_back ++ (7 ∷ 7 ∷ []))
    -- A route as a part of the file begins four bytes later.
    ∷ route_of both_ways 1 gives (0 ∷ 0 ∷ 0 ∷ 42 ∷ 1 ∷ 2 ∷ 4 ∷ [])
    ∷ route_of both_ways 2 gives (0 ∷ 0 ∷ 0 ∷ 47 ∷ 4 ∷ 3 ∷ 1 ∷ [])
    -- 5: version 2 with version 1's length, and the reverse; one byte less, one more.
    ∷ code_of (set table_s 4 2) gives (5 ∷ 0 ∷ 0 ∷ [])
    ∷ code_of (set both_ways 4 1) gives (5 ∷ 0 ∷ 0 ∷ [])
    ∷ code_of (take 49 both_ways) gives (5 ∷ 0 ∷ 0 ∷ [])
    ∷ code_of (both_ways ++ (0 ∷ [])) gives (5 ∷ 0 ∷ 0 ∷ [])
    -- 3 before 5: version 3, and 258, whose low byte is 2.
    ∷ code_of (set both_ways 4 3) gives (3 ∷ 0 ∷ 0 ∷ [])
    ∷ code_of (set both_ways 3 1) gives (3 ∷ 0 ∷ 0 ∷ [])
    -- Each way of a segment on which no train starts; 6: a way above 2, of the first and the last segment, before 7 and 32.
    ∷ way_code 0 1 2 0 0
    ∷ way_code 0 3 0 0 6
    ∷ way_code 3 0 0 0 6
    ∷ way_code 0 0 0 255 6
    ∷ code_of (set (with_ways table_s 0 0 0 3) 20 3) gives (6 ∷ 0 ∷ 0 ∷ [])
    ∷ code_of (set both_ways 9 1) gives (6 ∷ 0 ∷ 0 ∷ [])
    ∷ way_code 2 0 3 0 6
    -- 32: train 1 against segment 1, train 2 against segment 4; both along their segments: accepted, whatever comes later on the route.
    ∷ way_code 2 0 0 0 32
    ∷ way_code 0 0 0 1 32
    ∷ way_code 1 0 0 2 0
    ∷ way_code 0 2 1 2 0
    ∷ code_of (with_ways (track 3 ++ (0 ∷ 1 ∷ 1 ∷ 1 ∷ 1 ∷ 4 ∷ 1 ∷ 1 ∷ 2 ∷ [])) 1 1 0 2) gives (32 ∷ 0 ∷ 0 ∷ [])
    -- After 28 and 12.
    ∷ code_of (with_ways (set table_s 45 2) 2 0 0 0) gives (28 ∷ 2 ∷ 3 ∷ [])
    ∷ code_of (with_ways one_start 1 0 0 0) gives (12 ∷ 0 ∷ 0 ∷ [])
    -- As the file is refused, so are its routes, its run and its printout.
    ∷ route_of (with_ways table_s 0 0 0 1) 1 gives (32 ∷ 0 ∷ 0 ∷ 0 ∷ [])
    ∷ run_to (with_ways table_s 2 0 0 0) ten_steps (replicate 12 7) gives (32 ∷ 0 ∷ 0 ∷ replicate 12 7)
    ∷ printed (with_ways table_s 0 0 0 1) [] gives bytes_of "file 32\n"
    ∷ []

unfoldable pub way_step_cases : List Case
way_step_cases =
    -- Both ways everywhere: the printout and the passage of table S.
    printed both_ways ten_steps gives sixteen_lines
    ∷ answers_to both_ways passage gives (replicate 11 0)
    ∷ train_after both_ways passage 1 gives (2 ∷ 0 ∷ [])
    ∷ box_after both_ways passage 3 gives (0 ∷ 1 ∷ 0 ∷ 2 ∷ 1 ∷ 0 ∷ [])
    -- Segment 2 against train 1: at either end the box says 31, and 31 is heard; it holds nothing, the order has nothing, and Enter is refused.
    ∷ code_of second_back gives (0 ∷ 0 ∷ 0 ∷ [])
    ∷ answers_to second_back (asked 1 1 2 ++ asked 1 1 3 ++ (step_of 5 1 0 ∷ [])) gives (0 ∷ 31 ∷ 31 ∷ 0 ∷ 31 ∷ 31 ∷ 19 ∷ [])
    ∷ box_after second_back (asked 1 1 2) 2 gives (0 ∷ 1 ∷ 0 ∷ 1 ∷ 0 ∷ 0 ∷ [])
    ∷ box_after second_back (asked 1 1 3) 3 gives (0 ∷ 1 ∷ 0 ∷ 2 ∷ 0 ∷ 0 ∷ [])
    ∷ order_of second_back (asked 1 1 2 ++ asked 1 1 3) gives (0 ∷ [])
    ∷ atomic_answers_to second_back (step_of 1 1 2 ∷ []) gives (1 ∷ 31 ∷ line_numbers (start_line (decode second_back)))
    -- A no like any other: lost and asked again it is 31 again.
    ∷ answers_to second_back (untold 1 1 2 ++ (step_of 4 1 0 ∷ [])) gives (0 ∷ 31 ∷ 0 ∷ 0 ∷ 31 ∷ 31 ∷ [])
    -- Rows Train come first: 17. A lock is not asked for the way: 25.
    ∷ answers_to second_back (step_of 1 1 4 ∷ asked 2 1 2) gives (17 ∷ 0 ∷ 25 ∷ 25 ∷ [])
    -- With segment 2 for train 1 it passes; train 2 of `opposed` is then against it, at either end, and before 22 at both. The other way
    -- round train 2 is along it.
    ∷ answers_to (with_ways table_s 0 1 0 0) passage gives (replicate 11 0)
    ∷ answers_to (with_ways opposed 0 1 0 0) (asked 1 2 3 ++ asked 1 2 2) gives (0 ∷ 31 ∷ 31 ∷ 0 ∷ 31 ∷ 31 ∷ [])
    ∷ answers_to (with_ways opposed 0 1 0 0) (asked 1 1 2 ++ asked 1 2 2) gives (0 ∷ 0 ∷ 0 ∷ 0 ∷ 31 ∷ 31 ∷ [])
    ∷ answers_to (with_ways opposed 0 1 0 0) (asked 1 1 3 ++ asked 1 2 3) gives (0 ∷ 0 ∷ 0 ∷ 0 ∷ 31 ∷ 31 ∷ [])
    ∷ answers_to (with_ways opposed 0 2 0 0) (asked 1 2 3) gives (0 ∷ 0 ∷ 0 ∷ [])
    ∷ answers_to (with_ways opposed 0 0 0 0) (asked 1 1 2 ++ asked 1 2 2) gives (0 ∷ 0 ∷ 0 ∷ 0 ∷ 22 ∷ 22 ∷ [])
    -- Segment 4, the last of train 1's route, against it: it goes as far as segment 2.
    ∷ answers_to (with_ways table_s 0 0 0 2) (passage ++ asked 1 1 3 ++ asked 1 1 4)
    gives (replicate 11 0 ++ (0 ∷ 31 ∷ 31 ∷ 0 ∷ 31 ∷ 31 ∷ []))
    -- A link: a train on 1 of two segments that the second leads back.
    ∷ answers_to linked_back (asked 1 1 2 ++ asked 1 1 3) gives (0 ∷ 31 ∷ 31 ∷ 0 ∷ 31 ∷ 31 ∷ [])
    -- 31 in a run and in a printout.
    ∷ run_to second_back (1 ∷ 1 ∷ 2 ∷ 3 ∷ 1 ∷ 0 ∷ 4 ∷ 1 ∷ 0 ∷ []) (replicate 4 7) gives (0 ∷ 0 ∷ 0 ∷ 0 ∷ 31 ∷ 31 ∷ 7 ∷ [])
    ∷ printed second_back (1 ∷ 1 ∷ 3 ∷ 3 ∷ 1 ∷ 0 ∷ [])
    gives (bytes_of "1 1 1 0\n2 3 1 31\ntrain 1 1 0\ntrain 2 4 0\nbox 1 0 0 0\nbox 2 0 1 0\nbox 3 0 1 0\nbox 4 0 0 0\n")
    ∷ []

-- A table record with another version, and with another segment s, all else as it was.
abbrev pub in_version : ℕ → Table → Table
in_version v t =
    record {
      version = v;
      n = t.n;
      m = t.m;
      k = t.k;
      segments = t.segments;
      boxes = t.boxes;
      trains = t.trains;
      routes = t.routes;
    }

abbrev pub with_segment : ℕ → Segment → Table → Table
with_segment s x t =
    record {
      version = t.version;
      n = t.n;
      m = t.m;
      k = t.k;
      segments = set_nth t.segments s x;
      boxes = t.boxes;
      trains = t.trains;
      routes = t.routes;
    }

-- A segment from box 2 to box 3, as segment 2 of table S is, with this way.
abbrev pub second_with : ℕ → Segment
second_with w = record { a = 2; b = 3; way = w }

-- Train 1 of table S, segment 2 from B to A only, with a message; box 2 with a holder of segment 2.
abbrev pub held_against : ℕ → Message → Line
held_against holder g =
    put_box (put_train (start_line (decode second_back)) 1 (made 0 3 1 1 false false false g)) 2
    (record { sensor = false; position = 1; lock = 0; stem = 1; left = holder; right = 0 })

-- The same table with segment 2 from A to B only, where train 1 is in force in direction 1 on the route 4, 2, 1, and asks for 2 at box 3.
abbrev pub turned_round : Line
turned_round =
    let l = start_line (decode (with_ways table_s 0 1 0 0)) in
    put_train
    (record { table = l.table; boxes = l.boxes; trains = l.trains; routes = set (set (set l.routes 0 4) 1 2) 2 1 })
    1
    (made 1 3 1 1 false false false (Sent (Reserve 3)))

unfoldable pub way_record_cases : List Case
way_record_cases =
    -- 3: a version 1 record with a way other than 0, of its last segment too, before 4; one beyond its n segments is not looked at.
    table_part (start_line (in_version 1 (decode second_back))) gives (3 ∷ 0 ∷ 0 ∷ [])
    ∷ untouched (start_line (in_version 1 (decode second_back)))
    ∷ untouched (start_line (in_version 1 (decode (with_ways table_s 0 0 0 2))))
    ∷ table_part (start_line (with_segment 2 (second_with 1) (decode (set table_s 7 17)))) gives (3 ∷ 0 ∷ 0 ∷ [])
    ∷ table_part (start_line (with_segment 2 (second_with 3) (decode table_s))) gives (3 ∷ 0 ∷ 0 ∷ [])
    ∷ checked (start_line (with_segment 2 (second_with 0) (decode table_s))) (step_of 1 1 2) gives (0 ∷ [])
    ∷ checked (start_line (with_segment 5 (second_with 1) (decode table_s))) (step_of 1 1 2) gives (0 ∷ [])
    -- The same record in version 2; in version 3: 3.
    ∷ checked (start_line (decode second_back)) (step_of 1 1 2) gives (0 ∷ [])
    ∷ table_part (start_line (in_version 3 (decode second_back))) gives (3 ∷ 0 ∷ 0 ∷ [])
    ∷ checked (start_line (with_segment 5 (second_with 3) (decode both_ways))) (step_of 1 1 2) gives (0 ∷ [])
    -- 6: a way above 2, after 4. 32: a train that starts against its segment.
    ∷ table_part (start_line (decode (set (with_ways table_s 0 3 0 0) 7 17))) gives (4 ∷ 0 ∷ 0 ∷ [])
    ∷ table_part (start_line (decode (with_ways table_s 0 3 0 0))) gives (6 ∷ 0 ∷ 0 ∷ [])
    ∷ untouched (start_line (decode (with_ways table_s 0 3 0 0)))
    ∷ table_part (start_line (decode (with_ways table_s 2 0 0 0))) gives (32 ∷ 0 ∷ 0 ∷ [])
    ∷ untouched (start_line (decode (with_ways table_s 2 0 0 0)))
    ∷ untouched (start_line (decode (with_ways table_s 0 0 0 1)))
    -- 32 is asked of the table, not of a route in force.
    ∷ heard_on (put_train (start_line (decode (with_ways table_s 1 0 0 0))) 1 (made 1 1 1 1 false false false Idle)) gives (21 ∷ [])
    -- The direction and the route in force decide 31. Enter asks the records alone.
    ∷ checked turned_round (step_of 3 1 0) gives (31 ∷ [])
    ∷ checked (put_train (start_line (decode second_back)) 1 (made 0 3 1 1 true true true Idle)) (step_of 5 1 0) gives (0 ∷ [])
    -- 31 is an answer to a reservation, in version 1 too, and to nothing else; 30 and 32 are none.
    ∷ checked (with_train 0 3 1 1 (Answered (Reserve 2) 31)) (step_of 4 1 0) gives (31 ∷ [])
    ∷ checked (with_train 0 3 1 1 (Answered (Reserve 2) 30)) (step_of 4 1 0) gives (27 ∷ [])
    ∷ checked (with_train 0 3 1 1 (Answered (Reserve 2) 32)) (step_of 4 1 0) gives (27 ∷ [])
    ∷ checked (held_against 0 (Answered (Unlock 2) 31)) (step_of 4 1 0) gives (27 ∷ [])
    ∷ checked (held_against 0 (Answered (Reserve 2) 31)) (step_of 4 1 0) gives (31 ∷ [])
    ∷ checked (held_against 0 (Answered (Lock 2) 31)) (step_of 4 1 0) gives (27 ∷ [])
    ∷ checked (held_against 0 (Answered (GiveBack 2) 31)) (step_of 4 1 0) gives (27 ∷ [])
    -- What the box has for the train is a yes before 31; free or another's, it is 31, and the box is as it was. A give-back is not asked.
    ∷ checked_box (held_against 1 (Sent (Reserve 2))) (step_of 3 1 0) 2 gives (0 ∷ 0 ∷ 1 ∷ 0 ∷ 1 ∷ 1 ∷ 0 ∷ [])
    ∷ checked_box (held_against 2 (Sent (Reserve 2))) (step_of 3 1 0) 2 gives (31 ∷ 0 ∷ 1 ∷ 0 ∷ 1 ∷ 2 ∷ 0 ∷ [])
    ∷ checked_box (held_against 0 (Sent (Reserve 2))) (step_of 3 1 0) 2 gives (31 ∷ 0 ∷ 1 ∷ 0 ∷ 1 ∷ 0 ∷ 0 ∷ [])
    ∷ checked_box (held_against 1 (Sent (GiveBack 2))) (step_of 3 1 0) 2 gives (0 ∷ 0 ∷ 1 ∷ 0 ∷ 1 ∷ 0 ∷ 0 ∷ [])
    ∷ []

unfoldable pub one_way_cases : List Case
one_way_cases = way_file_cases ++ way_step_cases ++ way_record_cases
