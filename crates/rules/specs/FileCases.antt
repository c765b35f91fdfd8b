-- Cases of files beside 01's own: for each code 2 to 12, 26 and 28 and each condition behind it, and for the order of the codes. Those of
-- version 2 are in OneWayCases.
use Rattle.std.specs.Prelude.{ℕ, ◌+◌, ◌-◌, ◌*◌, ◌/◌, List, [], ◌∷◌, ◌++◌, set, take, replicate}
use Rattle.rules.specs.Rows.{join_of}
use Rattle.rules.specs.File.{decode}
use Rattle.rules.specs.Line.{empty_line}
use Rattle.rules.specs.Printout.{bytes_of}
use Rattle.rules.specs.Cases.{code_of, sides_of, rewritten, train_after, box_after, printed, written_to, route_of, Case, ◌gives◌, track, table_s, parallel_route, one_start, ring, long_line}

-- Two segments joined by a link, and a train with the route 1, 2.
unfoldable pub linked : List ℕ
linked =
    0x4E ∷ 0x45 ∷ 0x54 ∷ 0 ∷ 1 ∷ 2 ∷ 3 ∷ 1
    ∷ 1 ∷ 2 ∷ 2 ∷ 3
    ∷ 0 ∷ 1 ∷ 0 ∷ 0 ∷ 0 ∷ 1 ∷ 1 ∷ 2 ∷ 0 ∷ 0 ∷ 0 ∷ 2 ∷ 0 ∷ 0 ∷ 0
    ∷ 0 ∷ 2 ∷ 1 ∷ 2 ∷ []

-- 48 segments, each between two borders, with m = 96 and k = 16, the most. Train i stands on segment 49 - i.
unfoldable pub separate : List ℕ
separate =
    (0x4E ∷ 0x45 ∷ 0x54 ∷ 0 ∷ 1 ∷ 48 ∷ 96 ∷ 16 ∷ [])
    ++ join_of 48 (λ j. (2 * j - 1) ∷ (2 * j) ∷ [])
    ++ join_of 96 (λ b. 0 ∷ ((b + 1) / 2) ∷ 0 ∷ 0 ∷ 0 ∷ [])
    ++ join_of 16 (λ i. 0 ∷ 1 ∷ (49 - i) ∷ [])

-- A point whose right is a segment between two other boxes.
unfoldable pub extra_branch : List ℕ
extra_branch =
    0x4E ∷ 0x45 ∷ 0x54 ∷ 0 ∷ 1 ∷ 3 ∷ 5 ∷ 0
    ∷ 1 ∷ 2 ∷ 2 ∷ 3 ∷ 4 ∷ 5
    ∷ 0 ∷ 1 ∷ 0 ∷ 0 ∷ 0 ∷ 2 ∷ 1 ∷ 2 ∷ 3 ∷ 1 ∷ 0 ∷ 2 ∷ 0 ∷ 0 ∷ 0
    ∷ 0 ∷ 3 ∷ 0 ∷ 0 ∷ 0 ∷ 0 ∷ 3 ∷ 0 ∷ 0 ∷ 0 ∷ []

-- One segment between two borders, and a third border at which nothing ends.
unfoldable pub stray_border : List ℕ
stray_border =
    0x4E ∷ 0x45 ∷ 0x54 ∷ 0 ∷ 1 ∷ 1 ∷ 3 ∷ 0
    ∷ 1 ∷ 2
    ∷ 0 ∷ 1 ∷ 0 ∷ 0 ∷ 0 ∷ 0 ∷ 1 ∷ 0 ∷ 0 ∷ 0 ∷ 0 ∷ 1 ∷ 0 ∷ 0 ∷ 0 ∷ []

-- One train whose route has so many segments, all of them 1.
unfoldable pub long_route : ℕ → List ℕ
long_route r = track 1 ++ (0 ∷ r ∷ replicate r 1)

-- Table S, and the table with the link, with byte `at` set to x: its code, which is about no place of a route.
abbrev pub changed : ℕ → ℕ → ℕ → Case
changed at x c = code_of (set table_s at x) gives (c ∷ 0 ∷ 0 ∷ [])

abbrev pub link_changed : ℕ → ℕ → ℕ → Case
link_changed at x c = code_of (set linked at x) gives (c ∷ 0 ∷ 0 ∷ [])

-- Table S with byte `at` set to x: its code, with train i and place p.
abbrev pub misrouted : ℕ → ℕ → ℕ → ℕ → ℕ → Case
misrouted at x c i p = code_of (set table_s at x) gives (c ∷ i ∷ p ∷ [])

unfoldable pub head_cases : List Case
head_cases =
    -- 2, the mark; 3, the version, by either byte; 2 before 3 before 4.
    changed 0 0 2
    ∷ changed 1 0 2
    ∷ changed 2 0x55 2
    ∷ changed 4 0 3
    ∷ changed 4 3 3
    ∷ changed 3 1 3
    ∷ code_of (set (set table_s 0 0) 4 3) gives (2 ∷ 0 ∷ 0 ∷ [])
    ∷ code_of (set (set table_s 4 3) 5 0) gives (3 ∷ 0 ∷ 0 ∷ [])
    -- 4: n = 0, m = 1, m = 97, k = 17; the most boxes and trains are accepted.
    ∷ changed 5 0 4
    ∷ changed 6 1 4
    ∷ changed 6 97 4
    ∷ changed 7 17 4
    ∷ code_of separate gives (0 ∷ 0 ∷ 0 ∷ [])
    -- 5: a route length that runs past the end; a train record that is not there; before 6; with any length byte.
    ∷ changed 37 255 5
    ∷ code_of (take 36 table_s) gives (5 ∷ 0 ∷ 0 ∷ [])
    ∷ code_of (set table_s 9 1 ++ (0 ∷ [])) gives (5 ∷ 0 ∷ 0 ∷ [])
    ∷ code_of (take 292 (long_route 255)) gives (5 ∷ 0 ∷ 0 ∷ [])
    ∷ []

unfoldable pub network_cases : List Case
network_cases =
    code_of linked gives (0 ∷ 0 ∷ 0 ∷ [])
    -- 6: an end box 0, an end box above m, both ends one box; of the last segment, before 7 of the first box.
    ∷ changed 8 0 6
    ∷ changed 8 5 6
    ∷ changed 15 0 6
    ∷ changed 15 5 6
    ∷ changed 9 1 6
    ∷ code_of (set (set table_s 16 3) 15 5) gives (6 ∷ 0 ∷ 0 ∷ [])
    -- 7: a kind above 2.
    ∷ changed 16 3 7
    ∷ link_changed 17 3 7
    -- 7: a needed segment 0 or above n: stem of a border, left and right of a point, left of a link.
    ∷ changed 17 0 7
    ∷ changed 17 5 7
    ∷ changed 23 0 7
    ∷ changed 23 5 7
    ∷ changed 24 0 7
    ∷ changed 24 5 7
    ∷ link_changed 19 0 7
    -- 7: an unused place not 0: left and right of a border, right of a link.
    ∷ changed 18 2 7
    ∷ changed 19 1 7
    ∷ link_changed 20 1 7
    -- 7: left = right at a point; positions that do not fit a point, a border, a link; of the last box, before 8 of the first.
    ∷ changed 24 2 7
    ∷ changed 25 0 7
    ∷ changed 25 3 7
    ∷ changed 20 1 7
    ∷ link_changed 21 1 7
    ∷ code_of (set (set table_s 17 4) 35 1) gives (7 ∷ 0 ∷ 0 ∷ [])
    -- 8: a segment listed without an end there: as stem, left and right.
    ∷ changed 17 4 8
    ∷ code_of (set (set table_s 16 1) 18 4) gives (8 ∷ 0 ∷ 0 ∷ [])
    ∷ code_of extra_branch gives (8 ∷ 0 ∷ 0 ∷ [])
    -- Stem sides: of table S; with segment 4, which has no end there, for the stem of box 1 and of box 2: 8; of a border at which nothing
    -- ends, while each end is listed: 8.
    ∷ sides_of table_s gives (1 ∷ 2 ∷ 1 ∷ 2 ∷ [])
    ∷ sides_of (set table_s 17 4) gives (0 ∷ 2 ∷ 1 ∷ 2 ∷ [])
    ∷ sides_of (set table_s 22 4) gives (1 ∷ 0 ∷ 1 ∷ 2 ∷ [])
    ∷ changed 22 4 8
    ∷ sides_of stray_border gives (1 ∷ 2 ∷ 0 ∷ [])
    ∷ code_of stray_border gives (8 ∷ 0 ∷ 0 ∷ [])
    -- 8: the stem on the side of its right branch (by A ends, by B ends), of its left, of a link's left, and listed again as left.
    ∷ code_of (set (set table_s 22 2) 23 1) gives (8 ∷ 0 ∷ 0 ∷ [])
    ∷ code_of (set (set table_s 27 2) 28 4) gives (8 ∷ 0 ∷ 0 ∷ [])
    ∷ code_of (set (set table_s 22 3) 24 1) gives (8 ∷ 0 ∷ 0 ∷ [])
    ∷ code_of (set (set linked 10 3) 11 2) gives (8 ∷ 0 ∷ 0 ∷ [])
    ∷ code_of (set (set (set (set linked 10 3) 11 2) 18 2) 19 1) gives (8 ∷ 0 ∷ 0 ∷ [])
    ∷ link_changed 19 1 8
    -- 8: box 2 as a link that leaves out segment 3 at its A end, box 3 at its B end; before 9.
    ∷ code_of (set (set (set table_s 21 1) 24 0) 25 0) gives (8 ∷ 0 ∷ 0 ∷ [])
    ∷ code_of (set (set (set table_s 26 1) 29 0) 30 0) gives (8 ∷ 0 ∷ 0 ∷ [])
    ∷ code_of (set (set ring 17 0) 19 0) gives (8 ∷ 0 ∷ 0 ∷ [])
    -- 9 before 10.
    ∷ code_of (set ring 7 1 ++ (0 ∷ 0 ∷ [])) gives (9 ∷ 0 ∷ 0 ∷ [])
    ∷ []

unfoldable pub placing_cases : List Case
placing_cases =
    -- 10: a direction above 1; routes of length 0, 65 and 255; after the network's codes; of the last train, before 11 and 28.
    changed 36 2 10
    ∷ code_of (long_route 0) gives (10 ∷ 0 ∷ 0 ∷ [])
    ∷ code_of (long_route 65) gives (10 ∷ 0 ∷ 0 ∷ [])
    ∷ code_of (long_route 255) gives (10 ∷ 0 ∷ 0 ∷ [])
    ∷ code_of (set (long_route 255) 9 1) gives (6 ∷ 0 ∷ 0 ∷ [])
    ∷ code_of (set (set table_s 38 0) 41 2) gives (10 ∷ 0 ∷ 0 ∷ [])
    ∷ code_of (set (set table_s 39 4) 41 2) gives (10 ∷ 0 ∷ 0 ∷ [])
    -- 10 of train 16 before 11 of train 1.
    ∷ code_of (set (set separate 586 0) 629 2) gives (10 ∷ 0 ∷ 0 ∷ [])
    -- 11: a route segment 0 or above n, the first and the last. 28: one that does not follow, the second and the last; a route against
    -- its direction.
    ∷ misrouted 38 0 11 1 1
    ∷ misrouted 45 5 11 2 3
    ∷ misrouted 39 4 28 1 2
    ∷ misrouted 45 2 28 2 3
    ∷ misrouted 41 0 28 2 2
    -- Of two faults the first counts: that on an earlier train's route, or earlier on one route. A place with both has 11.
    ∷ code_of (set (set table_s 40 1) 43 0) gives (28 ∷ 1 ∷ 3 ∷ [])
    ∷ code_of (set (set table_s 40 5) 44 1) gives (11 ∷ 1 ∷ 3 ∷ [])
    ∷ code_of (set (set table_s 39 4) 40 5) gives (28 ∷ 1 ∷ 2 ∷ [])
    ∷ code_of (set (set table_s 39 0) 40 1) gives (11 ∷ 1 ∷ 2 ∷ [])
    ∷ misrouted 39 5 11 1 2
    -- Both before 12.
    ∷ code_of (set one_start 40 0) gives (11 ∷ 1 ∷ 3 ∷ [])
    ∷ code_of (track 2 ++ (0 ∷ 1 ∷ 1 ∷ 0 ∷ 2 ∷ 1 ∷ 4 ∷ [])) gives (28 ∷ 2 ∷ 2 ∷ [])
    -- 12: trains 1 and 3.
    ∷ code_of (track 3 ++ (0 ∷ 1 ∷ 1 ∷ 0 ∷ 1 ∷ 2 ∷ 1 ∷ 1 ∷ 1 ∷ [])) gives (12 ∷ 0 ∷ 0 ∷ [])
    -- The start: a position of 2; the last box and the last train; a train of direction 1, whose segment is reserved at the
    -- border ahead of it and nowhere else.
    ∷ box_after (set table_s 25 2) [] 2 gives (0 ∷ 2 ∷ 0 ∷ 1 ∷ 0 ∷ 0 ∷ [])
    ∷ box_after separate [] 96 gives (0 ∷ 0 ∷ 0 ∷ 1 ∷ 0 ∷ 0 ∷ [])
    ∷ train_after separate [] 16 gives (33 ∷ 0 ∷ [])
    ∷ box_after (track 1 ++ (1 ∷ 1 ∷ 1 ∷ [])) [] 1 gives (0 ∷ 0 ∷ 0 ∷ 1 ∷ 0 ∷ 0 ∷ [])
    ∷ box_after (track 1 ++ (1 ∷ 1 ∷ 1 ∷ [])) [] 2 gives (0 ∷ 1 ∷ 0 ∷ 0 ∷ 0 ∷ 0 ∷ [])
    ∷ []

unfoldable pub writer_cases : List Case
writer_cases =
    -- 26: a buffer of 45 bytes stays as it was. 46 are enough; of 48 the last two stay.
    written_to (decode table_s) (replicate 45 7) gives (26 ∷ 0 ∷ 0 ∷ replicate 45 7)
    ∷ written_to (decode table_s) (replicate 46 7) gives (0 ∷ 0 ∷ 0 ∷ table_s)
    ∷ written_to (decode table_s) (replicate 48 7) gives (0 ∷ 0 ∷ 0 ∷ table_s ++ (7 ∷ 7 ∷ []))
    -- The table's code comes before 26.
    ∷ written_to (decode (set table_s 4 3)) [] gives (3 ∷ 0 ∷ 0 ∷ [])
    ∷ written_to (decode (set table_s 5 97)) [] gives (4 ∷ 0 ∷ 0 ∷ [])
    ∷ written_to (decode (set table_s 9 1)) (replicate 3 7) gives (6 ∷ 0 ∷ 0 ∷ replicate 3 7)
    ∷ written_to empty_line.table (7 ∷ []) gives (3 ∷ 0 ∷ 0 ∷ 7 ∷ [])
    ∷ written_to (decode (set table_s 45 5)) (replicate 3 7) gives (11 ∷ 2 ∷ 3 ∷ replicate 3 7)
    ∷ written_to (decode parallel_route) [] gives (28 ∷ 1 ∷ 2 ∷ [])
    ∷ rewritten separate gives separate
    ∷ rewritten long_line gives long_line
    -- A route as a part of the file: the reader's code, then 14; where the part begins; its bytes.
    ∷ route_of table_s 1 gives (0 ∷ 0 ∷ 0 ∷ 38 ∷ 1 ∷ 2 ∷ 4 ∷ [])
    ∷ route_of table_s 2 gives (0 ∷ 0 ∷ 0 ∷ 43 ∷ 4 ∷ 3 ∷ 1 ∷ [])
    ∷ route_of table_s 0 gives (14 ∷ 0 ∷ 0 ∷ 0 ∷ [])
    ∷ route_of table_s 3 gives (14 ∷ 0 ∷ 0 ∷ 0 ∷ [])
    ∷ route_of (set table_s 9 1) 0 gives (6 ∷ 0 ∷ 0 ∷ 0 ∷ [])
    ∷ route_of (set table_s 45 5) 1 gives (11 ∷ 2 ∷ 3 ∷ 0 ∷ [])
    ∷ route_of parallel_route 0 gives (28 ∷ 1 ∷ 2 ∷ 0 ∷ [])
    -- A refused file is printed as its code alone, whatever the input; with 11 and 28 train and place come after it, the last place of
    -- the longest route, train 16's, among them.
    ∷ printed [] (1 ∷ 1 ∷ 2 ∷ []) gives bytes_of "file 1\n"
    ∷ printed (set table_s 36 2) [] gives bytes_of "file 10\n"
    ∷ printed (set table_s 45 5) [] gives bytes_of "file 11 2 3\n"
    ∷ printed parallel_route (6 ∷ []) gives bytes_of "file 28 1 2\n"
    ∷ printed (set long_line 640 97) [] gives bytes_of "file 11 16 64\n"
    ∷ []

unfoldable pub file_cases : List Case
file_cases = head_cases ++ network_cases ++ placing_cases ++ writer_cases
