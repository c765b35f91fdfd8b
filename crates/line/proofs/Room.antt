-- Buffers as long as the program's have room for every text.
use Rattle.std.proofs.Common.{ℕ, ◌≤◌, List, length, refl}
use Rattle.rules.specs.Printout.{most_steps, most_text, print_length, printed_text}
use Rattle.rules.proofs.Coded.{file_coded}
use Rattle.rules.proofs.Enough.{room_enough, text_front}

pub text_fits : (file input answers text : List ℕ) → most_steps ≤ length answers → most_text ≤ length text
    → print_length file input answers text ≤ length (printed_text file input answers text)
text_fits file input answers text room space = (text_front file input answers text _ _ room space refl refl).0

pub ruleset room = (file_coded, room_enough, text_front, text_fits)
