-- Cases of runs and of the printout in lent memory: their codes, what they leave in the buffers, and the line after a run.
use Rattle.std.specs.Prelude.{ℕ, ◌-◌, List, [], ◌∷◌, ◌++◌, set, take, replicate}
use Rattle.rules.specs.Rows.{join_of}
use Rattle.rules.specs.Printout.{bytes_of, most_file}
use Rattle.rules.specs.Cases.{code_of, run_to, run_line, room_for, printed_to, answers_beside, Case, ◌gives◌, table_s, parallel_route, short_route, merging, ten_steps, sixteen_lines}
use Rattle.rules.specs.StepCases.{merging_numbers, short_text}

-- The answers to the ten steps, as the printout has them.
unfoldable pub ten_answers : List ℕ
ten_answers = 0 ∷ 0 ∷ 0 ∷ 19 ∷ 0 ∷ 0 ∷ 0 ∷ 0 ∷ 25 ∷ 25 ∷ []

-- The line after them: train 1 has 2 recorded at its near end, train 2 has 3 at its far end; box 2 holds 1 and 2 for train 1 and
-- 3 for train 2, box 3 holds 4 for train 2.
unfoldable pub ten_numbers : List ℕ
ten_numbers =
    (0 ∷ 3 ∷ 1 ∷ 1 ∷ 1 ∷ replicate 6 0)
    ++ (1 ∷ 3 ∷ 1 ∷ 1 ∷ 0 ∷ 1 ∷ replicate 5 0)
    ++ replicate 6 0
    ++ (0 ∷ 1 ∷ 0 ∷ 1 ∷ 1 ∷ 2 ∷ [])
    ++ (0 ∷ 1 ∷ 0 ∷ 2 ∷ 0 ∷ 0 ∷ [])
    ++ replicate 6 0

-- A request of train 1 and the box's answer, as bytes; and table S after them: the answer is on its way.
unfoldable pub granting : List ℕ
granting = 1 ∷ 1 ∷ 2 ∷ 3 ∷ 1 ∷ 0 ∷ []

unfoldable pub granted_numbers : List ℕ
granted_numbers =
    (0 ∷ 3 ∷ 1 ∷ 1 ∷ 0 ∷ 0 ∷ 0 ∷ 2 ∷ 1 ∷ 2 ∷ 0 ∷ [])
    ++ (1 ∷ 3 ∷ 1 ∷ 1 ∷ replicate 7 0)
    ++ replicate 6 0
    ++ (0 ∷ 1 ∷ 0 ∷ 1 ∷ 1 ∷ 0 ∷ [])
    ++ (0 ∷ 1 ∷ 0 ∷ 2 ∷ 0 ∷ 0 ∷ [])
    ++ replicate 6 0

unfoldable pub run_cases : List Case
run_cases =
    -- The ten steps: of a buffer of twelve bytes the last two stay; ten are enough. 26: one of nine stays as it was, with no line.
    run_to table_s ten_steps (replicate 12 7) gives (0 ∷ 0 ∷ 0 ∷ ten_answers ++ (7 ∷ 7 ∷ []))
    ∷ run_to table_s ten_steps (replicate 10 7) gives (0 ∷ 0 ∷ 0 ∷ ten_answers)
    ∷ run_to table_s ten_steps (replicate 9 7) gives (26 ∷ 0 ∷ 0 ∷ replicate 9 7)
    ∷ run_line table_s ten_steps (replicate 12 7) gives (0 ∷ 0 ∷ 0 ∷ ten_numbers)
    ∷ run_line table_s ten_steps (replicate 9 7) gives (26 ∷ 0 ∷ 0 ∷ [])
    -- The file's code, with the buffer as it was and no line; before 26.
    ∷ run_to (take 45 table_s) ten_steps (replicate 12 7) gives (5 ∷ 0 ∷ 0 ∷ replicate 12 7)
    ∷ run_to (take 45 table_s) ten_steps (replicate 9 7) gives (5 ∷ 0 ∷ 0 ∷ replicate 9 7)
    ∷ run_line (take 45 table_s) ten_steps (replicate 12 7) gives (5 ∷ 0 ∷ 0 ∷ [])
    ∷ run_to (set table_s 45 5) ten_steps (replicate 9 7) gives (11 ∷ 2 ∷ 3 ∷ replicate 9 7)
    ∷ run_to parallel_route ten_steps (replicate 12 7) gives (28 ∷ 1 ∷ 2 ∷ replicate 12 7)
    ∷ run_line parallel_route ten_steps (replicate 12 7) gives (28 ∷ 1 ∷ 2 ∷ [])
    -- A last step of two bytes and of one: 13, and nothing is heard.
    ∷ run_to table_s (granting ++ (4 ∷ 1 ∷ [])) (replicate 4 7) gives (0 ∷ 0 ∷ 0 ∷ 0 ∷ 0 ∷ 13 ∷ 7 ∷ [])
    ∷ run_line table_s (granting ++ (4 ∷ 1 ∷ [])) (replicate 4 7) gives (0 ∷ 0 ∷ 0 ∷ granted_numbers)
    ∷ run_to table_s (granting ++ (4 ∷ [])) (replicate 3 7) gives (0 ∷ 0 ∷ 0 ∷ 0 ∷ 0 ∷ 13 ∷ [])
    ∷ run_line table_s (granting ++ (4 ∷ [])) (replicate 3 7) gives (0 ∷ 0 ∷ 0 ∷ granted_numbers)
    -- It counts for 26.
    ∷ run_to short_route (6 ∷ 1 ∷ []) [] gives (26 ∷ 0 ∷ 0 ∷ [])
    ∷ run_to short_route (5 ∷ 1 ∷ 0 ∷ 6 ∷ []) (7 ∷ []) gives (26 ∷ 0 ∷ 0 ∷ 7 ∷ [])
    -- No step.
    ∷ run_to short_route [] [] gives (0 ∷ 0 ∷ 0 ∷ [])
    ∷ run_to short_route [] (7 ∷ []) gives (0 ∷ 0 ∷ 0 ∷ 7 ∷ [])
    ∷ run_line merging [] [] gives (0 ∷ 0 ∷ 0 ∷ merging_numbers)
    ∷ []

-- The longest file that code 5 lets pass, of version 2: 96 segments, 96 boxes and 16 trains with 255 route bytes each, all of them 0.
unfoldable pub longest_file : List ℕ
longest_file =
    (0x4E ∷ 0x45 ∷ 0x54 ∷ 0 ∷ 2 ∷ 96 ∷ 96 ∷ 16 ∷ [])
    ++ replicate 768 0
    ++ join_of 16 (λ i. 0 ∷ 255 ∷ replicate 255 0)

unfoldable pub lent_cases : List Case
lent_cases =
    -- The room: 18 bytes for each step, a last one of one byte too, and for each of 113 lines.
    room_for [] gives (2034 ∷ [])
    ∷ room_for (6 ∷ []) gives (2052 ∷ [])
    ∷ room_for ten_steps gives (2214 ∷ [])
    -- The ten steps: of a buffer of 2,216 bytes those beyond the text stay; so do those beyond the answers.
    ∷ printed_to table_s ten_steps (replicate 12 9) (replicate 2216 7) gives (0 ∷ 156 ∷ sixteen_lines ++ replicate 2060 7)
    ∷ answers_beside table_s ten_steps (replicate 12 9) (replicate 2216 7) gives (0 ∷ ten_answers ++ (9 ∷ 9 ∷ []))
    -- The room asked for is enough. 26: a byte less, or an answer less, and both buffers stay as they were.
    ∷ printed_to short_route (6 ∷ []) (9 ∷ []) (replicate 2052 7) gives (0 ∷ 69 ∷ bytes_of "1 6 0 13\n" ++ short_text ++ replicate 1983 7)
    ∷ printed_to short_route (6 ∷ []) (9 ∷ []) (replicate 2051 7) gives (26 ∷ 0 ∷ replicate 2051 7)
    ∷ answers_beside short_route (6 ∷ []) (9 ∷ []) (replicate 2051 7) gives (26 ∷ 9 ∷ [])
    ∷ printed_to short_route (6 ∷ []) [] (replicate 2052 7) gives (26 ∷ 0 ∷ replicate 2052 7)
    ∷ answers_beside short_route (5 ∷ 1 ∷ 0 ∷ 6 ∷ []) (9 ∷ []) (replicate 2070 7) gives (26 ∷ 9 ∷ [])
    -- A refused file: its text, and the answers' buffer as it was. 26 comes before it.
    ∷ printed_to (take 45 table_s) (6 ∷ []) (9 ∷ []) (replicate 2052 7) gives (0 ∷ 7 ∷ bytes_of "file 5\n" ++ replicate 2045 7)
    ∷ answers_beside (take 45 table_s) (6 ∷ []) (9 ∷ []) (replicate 2052 7) gives (0 ∷ 9 ∷ [])
    ∷ printed_to parallel_route (6 ∷ []) (9 ∷ []) (replicate 2052 7) gives (0 ∷ 12 ∷ bytes_of "file 28 1 2\n" ++ replicate 2040 7)
    ∷ printed_to (take 45 table_s) (6 ∷ []) (9 ∷ []) (replicate 2051 7) gives (26 ∷ 0 ∷ replicate 2051 7)
    -- The most bytes of a file that are read: one more than the longest has that code 5 lets pass.
    ∷ code_of (take (most_file - 1) (longest_file ++ (0 ∷ 0 ∷ []))) gives (6 ∷ 0 ∷ 0 ∷ [])
    ∷ code_of (take most_file (longest_file ++ (0 ∷ 0 ∷ []))) gives (5 ∷ 0 ∷ 0 ∷ [])
    ∷ []
