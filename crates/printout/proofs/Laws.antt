-- Laws of numbers in decimal, and of lines written one after the other.
use Rattle.std.proofs.Common.{ℕ, refl, suc, ◌+◌, ◌-◌, ◌*◌, ◌/◌, ◌^◌, ◌≤◌, ◌<◌, ◌≡◌, sym, ◌∙◌, Bool, true, false, cond, List, [], ◌∷◌, ◌++◌, append_assoc, append-nil, length, length-append, get_or, get_or-take, take, drop, length-drop, replicate, take_all, map, flat_map, sum_by, arith, lit≤, lt-ltb, le-ltb}
use Rattle.std.proofs.Math.Decide.{dec_lt}
use Rattle.std.specs.Int.{div_ceil}
use Rattle.std.specs.Fmt.{decimal as printed}
use Rattle.std.proofs.lemmas.Fmt.{decimal_digit, decimal_step, decimal_nonempty, length-decimal-le}
use Rattle.std.proofs.lemmas.List.{flat_map_more, take_more, drop_more, drop_all, get_or-replicate}
use Rattle.std.proofs.lemmas.List.Folds.{length-flat_map-take}
use Rattle.std.proofs.lemmas.List.Concat.{length-flat_map}
use Rattle.rules.specs.declared.Line.{Line}
use Rattle.rules.specs.Rows.{join_of}
use Rattle.rules.specs.Run.{step_count}
use Rattle.rules.specs.Line.{no_box, no_train, box_at, train_at, around_on, around}
use Rattle.rules.specs.Printout.{decimal_in, decimal, text_line, step_line, step_line_of, tail_of, train_line, box_line, line_text}
use Rattle.rules.proofs.Rows.{nth_at}
use Rattle.writing.specs.declared.pen.Pen.{Pen}
use Rattle.writing.specs.Written.{Written}
use Rattle.writing.proofs.Laws.{written_append, written_join_none, written_join}
use Rattle.printout.specs.Short.{Short, train_words, box_words}

-- A number in decimal is what the library prints of it.
last_digit : (x : ℕ) → x < 10 → decimal_in 1 x ≡ printed x
unfolding decimal_in
last_digit x h = rw (lt-ltb x 10 h) (sym (decimal_digit x h))

more_digits : (digits b : ℕ) → 10 * b ≤ 2 ^ 64 → ((x : ℕ) → x < b → decimal_in digits x ≡ printed x) → (x : ℕ) → x < 10 * b
    → decimal_in (suc digits) x ≡ printed x
unfolding decimal_in
more_digits digits b room same x h =
    elim (dec_lt x 10) [
      | yes l ↦ rw (lt-ltb x 10 l) (sym (decimal_digit x l))
      | no l ↦ rw (le-ltb x 10 (omega arith), same (x / 10) (omega arith)) (sym (decimal_step x (omega arith) (omega arith)))
    ]

pub printed_decimal : (x : ℕ) → x < 65536 → printed x ≡ decimal x
unfolding decimal
printed_decimal x h =
    let two = more_digits 1 10 (lit≤ tt) last_digit in
    let three = more_digits 2 100 (lit≤ tt) two in
    let four = more_digits 3 1000 (lit≤ tt) three in
    sym (more_digits 4 10000 (lit≤ tt) four x (omega arith))

pub one_digit : (x : ℕ) → x < 10 → decimal x ≡ (48 + x) ∷ []
one_digit x h = sym (printed_decimal x (omega arith)) ∙ decimal_digit x h

-- Its length.
short_length : (n x : ℕ) → 0 < n → x < 10 ^ n → x < 65536 → length (decimal x) ≤ n
short_length n x h k l = rw (← printed_decimal x l) (length-decimal-le n x h k (omega arith))

pub byte_length : (x : ℕ) → x < 256 → length (decimal x) ≤ 3
byte_length x h = short_length 3 x (omega arith) (omega arith) (omega arith)

-- The digits of a number, put at the end of five bytes.
pub count_fits : (x : ℕ) → x < 65536 → length (printed x) ≤ 5
count_fits x h = length-decimal-le 5 x (omega arith) (omega arith) (omega arith)

pub count_digits : (x s : ℕ) (v w : List ℕ) → x < 65536 → length v ≡ 5 → length w ≡ 5 → drop s w ≡ printed x ++ drop 5 v
    → take (5 - s) (drop s w) ≡ decimal x
count_digits x s v w h before after digits =
    let none : drop 5 v ≡ [] = drop_all 5 v (omega (arith, before)) in
    let all : drop s w ≡ decimal x = rw (none, append-nil, printed_decimal x h) at digits in
    rw (take_all (5 - s) (drop s w) (omega (arith, length-drop s w))) all

-- Those of a byte, put at the end of four spaces, with the space before them.
pub number_fits : (x : ℕ) → x < 256 → (0 < length (printed x)) × (length (printed x) ≤ 3)
number_fits x h = (decimal_nonempty x (omega arith), length-decimal-le 3 x (omega arith) (omega arith) (omega arith))

pub number_digits : (x s : ℕ) (w : List ℕ) → x < 256 → length w ≡ 4 → s + length (printed x) ≡ 4 → drop s w ≡ printed x ++ []
    → take s w ≡ take s (replicate 4 32) → take (4 - (s - 1)) (drop (s - 1) w) ≡ 32 ∷ decimal x
number_digits x s w h four size digits spaces =
    let fits = number_fits x h in
    let next : s - 1 + 1 ≡ s = omega arith in
    let tail : drop s w ≡ decimal x = rw (append-nil, printed_decimal x (omega arith)) at digits in
    let here : get_or w (s - 1) 0 ≡ 32 =
    sym (get_or-take s w (s - 1) 0 (omega arith)) ∙ rw spaces (get_or-take s (replicate 4 32) (s - 1) 0 (omega arith) ∙ get_or-replicate 4 (s - 1) 32 0 (omega arith)) in
    rw (take_all (4 - (s - 1)) (drop (s - 1) w) (omega (arith, length-drop (s - 1) w)), drop_more w (s - 1) 0 (omega arith), here, next, tail) refl

-- A word, and numbers with a space before each.
pub line_words : (w xs : List ℕ) → text_line (w ∷ map decimal xs) ≡ w ++ flat_map (λ x. 32 ∷ decimal x) xs ++ (10 ∷ [])
unfolding text_line
line_words w [] = rw append-nil
line_words w (x ∷ xs) = rw (line_words (decimal x) xs) (simp append_assoc)

pub line_length : (w xs : List ℕ) → length (text_line (w ∷ map decimal xs)) ≡ length w + length (flat_map (λ x. 32 ∷ decimal x) xs) + 1
line_length w xs = rw line_words (simp length-append)

-- The first i numbers after the word are written; one more, and the newline after all of them.
pub number_written : (w xs : List ℕ) (i : ℕ) {p q r : Pen} → i < length xs → Written p (w ++ flat_map (λ x. 32 ∷ decimal x) (take i xs)) q
    → Written q (32 ∷ decimal (get_or xs i 0)) r → Written p (w ++ flat_map (λ x. 32 ∷ decimal x) (take (i + 1) xs)) r
number_written w xs i h a b = rw (take_more xs i 0 h, ← flat_map_more) (written_append a b)

pub line_written : (w xs : List ℕ) (i : ℕ) {p q r : Pen} → length xs ≤ i → Written p (w ++ flat_map (λ x. 32 ∷ decimal x) (take i xs)) q
    → Written q (10 ∷ []) r → Written p (text_line (w ∷ map decimal xs)) r
line_written w xs i h a b = rw line_words (written_append (rw (take_all i xs h) at a) b)

-- What is written so far, and one number more, is shorter than the line.
pub number_within : (w xs : List ℕ) (i : ℕ) → i < length xs
    → length (w ++ flat_map (λ x. 32 ∷ decimal x) (take i xs)) + length (decimal (get_or xs i 0)) + 1
    < length (text_line (w ∷ map decimal xs))
number_within w xs i h = rw (line_length, length-append) (omega (arith, length-flat_map-take (λ x. 32 ∷ decimal x) xs i 0 h))

pub newline_within : (w xs : List ℕ) (i : ℕ) → length xs ≤ i
    → length (w ++ flat_map (λ x. 32 ∷ decimal x) (take i xs)) + 1 ≡ length (text_line (w ∷ map decimal xs))
newline_within w xs i h = rw (line_length, length-append, take_all i xs h)

-- A line of a word of at most 5 bytes and at most three bytes as numbers has at most 18 bytes, and so has that of a box.
line_size : (w xs : List ℕ) → length (text_line (w ∷ map decimal xs)) ≡ length w + sum_by (λ x. length (32 ∷ decimal x)) xs + 1
line_size w xs = rw (line_length, length-flat_map)

pub three_fit : (w : List ℕ) (a b c : ℕ) → length w ≤ 5 → a < 256 → b < 256 → c < 256
    → length (text_line (w ∷ decimal a ∷ decimal b ∷ decimal c ∷ [])) ≤ 18
three_fit w a b c h x y z =
    omega (arith, line_size w (a ∷ b ∷ c ∷ []), byte_length a x, byte_length b y, byte_length c z)

pub one_fits : (w : List ℕ) (a : ℕ) → length w ≤ 5 → a < 256 → length (text_line (w ∷ decimal a ∷ [])) ≤ 18
one_fits w a h x = omega (arith, line_size w (a ∷ []), byte_length a x)

pub word_fits : (w : List ℕ) → length w ≤ 5 → length (text_line (w ∷ [])) ≤ 18
word_fits w h = omega (arith, line_size w [])

pub box_fits : (w : List ℕ) (a b c d : ℕ) → length w ≤ 3 → a ≤ 96 → b ≤ 1 → c < 256 → d < 256
    → length (text_line (w ∷ decimal a ∷ decimal b ∷ decimal c ∷ decimal d ∷ [])) ≤ 18
box_fits w a b c d h x y u v =
    let number = short_length 2 a (omega arith) (omega arith) (omega arith) in
    let sensor = short_length 1 b (omega arith) (omega arith) (omega arith) in
    omega (arith, line_size w (a ∷ b ∷ c ∷ d ∷ []), number, sensor, byte_length c u, byte_length d v)

pub short_more : {n m : ℕ} {w : List ℕ} {p q : Pen} → n ≤ m → Short n p w q → Short m p w q
short_more h a = record { written = a.written; short = omega arith }

-- Lines, one more at a time.
pub short_none : (f : ℕ → List ℕ) (p : Pen) → Short (18 * 0) p (join_of 0 f) p
short_none f p = record { written = written_join_none f p; short = omega arith }

pub short_join : (f : ℕ → List ℕ) (i : ℕ) {w : List ℕ} {p q r : Pen} → Short (18 * i) p (join_of i f) q → f (i + 1) ≡ w → Short 18 q w r
    → Short (18 * (i + 1)) p (join_of (i + 1) f) r
short_join f i a e b = record { written = written_join f i a.written e b.written; short = omega arith }

-- The line of step i + 1, train i + 1 and box i + 1.
pub step_line_lem : (bytes answers : List ℕ) (i : ℕ)
    → step_line_of bytes answers (i + 1) ≡ step_line (i + 1) (get_or bytes (3 * i) 0) (get_or bytes (3 * i + 1) 0) (get_or answers i 0)
unfolding step_line_of
step_line_lem bytes answers i =
    let kind : 3 * (i + 1) - 2 ≡ 3 * i + 1 = omega arith in
    let train : 3 * (i + 1) - 1 ≡ 3 * i + 1 + 1 = omega arith in
    rw (kind, train, nth_at bytes (3 * i), nth_at bytes (3 * i + 1), nth_at answers i)

pub train_line_lem : (l : Line) (i n : ℕ) → i < n
    → train_line l (i + 1) ≡ train_words l.routes (i + 1) (get_or (take n l.trains) i no_train)
unfolding train_line tail_of around around_on train_at
train_line_lem l i n h = rw (nth_at, get_or-take)

pub box_line_lem : (l : Line) (i n : ℕ) → i < n → box_line l (i + 1) ≡ box_words (i + 1) (get_or (take n l.boxes) i no_box)
unfolding box_line box_at
box_line_lem l i n h = rw (nth_at, get_or-take)

pub steps_counted : (bytes : List ℕ) → div_ceil (length bytes) 3 ≡ step_count bytes
unfolding step_count
steps_counted bytes = omega arith

-- The text of a run, without and with its last line.
pub run_written : (l : Line) (n : ℕ) {more : Bool} {s : List ℕ} (m : List ℕ) {p q r u : Pen} → more ≡ false
    → (l.table.k ≤ 16) × (l.table.m ≤ 96) → Short (18 * n) p s q → Short (18 * l.table.k) q (join_of l.table.k (train_line l)) r
    → Short (18 * l.table.m) r (join_of l.table.m (box_line l)) u → Short (18 * (n + 113)) p (s ++ line_text l ++ cond more m []) u
unfolding line_text
run_written l n m e h a b c =
    record {
      written = rw (e, append-nil) (written_append a.written (written_append b.written c.written));
      short = omega arith;
    }

pub more_written : (l : Line) (n : ℕ) {more : Bool} {s m : List ℕ} {p q r u v : Pen} → more ≡ true → (l.table.k ≤ 16) × (l.table.m ≤ 96)
    → Short (18 * n) p s q → Short (18 * l.table.k) q (join_of l.table.k (train_line l)) r
    → Short (18 * l.table.m) r (join_of l.table.m (box_line l)) u → Short 18 u m v
    → Short (18 * (n + 113)) p (s ++ line_text l ++ cond more m []) v
unfolding line_text
more_written l n e h a b c d =
    record {
      written = rw e (written_append (written_append a.written (written_append b.written c.written)) d.written);
      short = omega arith;
    }
