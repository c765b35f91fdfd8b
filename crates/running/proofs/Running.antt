-- What holds while the steps of a run are taken: what is left to do from here ends in what there was to do from the start.
use Rattle.std.proofs.Common.{ℕ, zero, suc, ◌+◌, ◌*◌, ◌/◌, ◌%◌, ◌≤◌, ◌<◌, ◌≡◌, refl, sym, ◌∙◌, ap, List, [], ◌∷◌, ◌++◌, append-nil, add-one, arith, eq-eqb, ne_eqb, length, get_or, set, take, drop, length-set, take-append-drop, take-suc-set, drop-set-lt, drop-drop, get_or-take, get_or-drop}
use Rattle.std.proofs.lemmas.List.{set_split}
use Rattle.std.specs.Simd.{first_chunks}
use Rattle.std.proofs.Math.Seq.{append_snoc}
use Rattle.rules.specs.declared.Line.{Line}
use Rattle.rules.specs.declared.Outcome.{Outcome}
use Rattle.rules.specs.Steps.{Step}
use Rattle.rules.specs.History.{Call, line_after, events}
use Rattle.rules.proofs.Runs.{steps_drop, steps_end}
use Rattle.rules.specs.Run.{whole_steps, step_count, answers_of, partial_answer, answers_from}

-- The step with index n of a list of bytes.
abbrev pub step_at : List ℕ → ℕ → Step
step_at bytes n = record { kind = get_or bytes (3 * n) 0; train = get_or bytes (3 * n + 1) 0; box = get_or bytes (3 * n + 2) 0 }

-- Cut into chunks of three, the bytes have it at n.
chunk_at : (bytes : List ℕ) (k n j : ℕ) → n < k → j < 3 → get_or (get_or (first_chunks 3 k bytes) n []) j 0 ≡ get_or bytes (3 * n + j) 0
chunk_at bytes zero n j h low = absurd (omega arith)
chunk_at bytes (suc k) zero j h low = get_or-take 3 bytes j 0 low ∙ ap (λ (i : ℕ). get_or bytes i 0) (omega arith)
chunk_at bytes (suc k) (suc n) j h low =
    chunk_at (drop 3 bytes) k n j (omega arith) low ∙ get_or-drop 3 bytes (3 * n + j) 0 ∙ ap (λ (i : ℕ). get_or bytes i 0) (omega arith)

pub chunk-step : {chunks : List (List ℕ)} (bytes : List ℕ) (k n : ℕ) → chunks ≡ first_chunks 3 k bytes → n < k
    → record { kind = get_or (get_or chunks n []) 0 0; train = get_or (get_or chunks n []) 1 0; box = get_or (get_or chunks n []) 2 0 } ≡ step_at bytes n
chunk-step bytes k n is h =
    let kind : 3 * n + 0 ≡ 3 * n = omega arith in
    rw (is, chunk_at bytes k n 0 h (omega arith), chunk_at bytes k n 1 h (omega arith), chunk_at bytes k n 2 h (omega arith), kind) refl

-- What two lists share from index n on they share from the next on.
drop_more : (xs ys : List ℕ) (n : ℕ) → drop n xs ≡ drop n ys → drop (n + 1) xs ≡ drop (n + 1) ys
drop_more xs ys n e = sym (drop-drop 1 n xs) ∙ ap (λ (l : List ℕ). drop 1 l) e ∙ drop-drop 1 n ys

-- Calls from line l₀ on for all steps in `bytes`, into a buffer that was `before`: n steps are taken, the line is l and the buffer `answers`.
pub record Running (call : Call) (l₀ : Line) (bytes before : List ℕ) (l : Line) (answers : List ℕ) (n : ℕ) : Type 0 where
  pub within : n ≤ length bytes / 3
  pub line : line_after call l (whole_steps (drop (3 * n) bytes)) ≡ line_after call l₀ (whole_steps bytes)
  pub told : take n answers ++ answers_of (events call l (whole_steps (drop (3 * n) bytes))) ≡ answers_of (events call l₀ (whole_steps bytes))
  pub size : length answers ≡ length before
  pub rest : drop n answers ≡ drop n before

-- A turn takes one step.
pub running_turn : {call : Call} {l₀ l l' : Line} {bytes before answers : List ℕ} {n c : ℕ} → Running call l₀ bytes before l answers n → n < length bytes / 3
    → n < length answers → call l (step_at bytes n) ≡ record { code = c; line = l' }
    → Running call l₀ bytes before l' (set answers n c) (n + 1)
unfolding line_after events answers_of
running_turn {call} {l₀} {l} {l'} {bytes} {before} {answers} {n} {c} a h k e =
    let more = whole_steps (drop (3 * (n + 1)) bytes) in
    let after : (call l (step_at bytes n)).line ≡ l' = ap (λ (o : Outcome). o.line) e in
    let code : (call l (step_at bytes n)).code ≡ c = ap (λ (o : Outcome). o.code) e in
    let line : line_after call (call l (step_at bytes n)).line more ≡ line_after call l₀ (whole_steps bytes) =
    rw (steps_drop bytes n (omega arith)) at a.line in
    let told : take n answers ++ ((call l (step_at bytes n)).code ∷ answers_of (events call (call l (step_at bytes n)).line more)) ≡ answers_of (events call l₀ (whole_steps bytes)) =
    rw (steps_drop bytes n (omega arith)) at a.told in
    let taken : take (n + 1) (set answers n c) ≡ take n answers ++ (c ∷ []) = rw (add-one n) (take-suc-set answers n c k) in
    record {
      within = omega arith;
      line = rw after at line;
      told = rw taken (append_snoc (take n answers) c (answers_of (events call l' more)) ∙ (rw (after, code) at told));
      size = length-set answers n c ∙ a.size;
      rest = drop-set-lt (n + 1) answers n c (omega arith) ∙ drop_more answers before n a.rest;
    }

-- Where there is room for all answers, there is room for the next one.
pub running_room : (bytes answers : List ℕ) {n : ℕ} → step_count bytes ≤ length answers → n < length bytes / 3 → n < length answers
unfolding step_count
running_room bytes answers h k = omega arith

-- At the end: the line, and the buffer with the answers at its front; a last step that is not whole is answered 13.
pub running_line : {call : Call} {l₀ l : Line} {bytes before answers : List ℕ} {n : ℕ} → Running call l₀ bytes before l answers n → length bytes / 3 ≤ n
    → l ≡ line_after call l₀ (whole_steps bytes)
unfolding line_after
running_line {call} {l₀} {l} {bytes} {before} {answers} {n} a h = rw (steps_end bytes n (omega arith)) at a.line

all_told : {call : Call} {l₀ l : Line} {bytes before answers : List ℕ} {n : ℕ} → Running call l₀ bytes before l answers n → length bytes / 3 ≤ n
    → take n answers ++ [] ≡ answers_of (events call l₀ (whole_steps bytes))
unfolding events answers_of
all_told {call} {l₀} {l} {bytes} {before} {answers} {n} a h = rw (steps_end bytes n (omega arith)) at a.told

pub running_whole : {call : Call} {l₀ l : Line} {bytes before answers : List ℕ} {n : ℕ} → Running call l₀ bytes before l answers n → length bytes / 3 ≤ n
    → length bytes ≤ 3 * n → answers ≡ answers_from call l₀ bytes ++ drop (step_count bytes) before
unfolding answers_from partial_answer step_count
running_whole {call} {l₀} {l} {bytes} {before} {answers} {n} a h k =
    let least = a.within in
    let none : length bytes % 3 ≡ 0 = omega arith in
    let count : (length bytes + 2) / 3 ≡ n = omega arith in
    let told : take n answers ≡ answers_of (events call l₀ (whole_steps bytes)) = sym (append-nil (take n answers)) ∙ all_told a h in
    rw (eq-eqb _ _ none, append-nil, count, sym told, sym a.rest) (sym (take-append-drop n answers))

pub running_partial : {call : Call} {l₀ l : Line} {bytes before answers : List ℕ} {n : ℕ} → Running call l₀ bytes before l answers n → length bytes / 3 ≤ n
    → 3 * (length bytes / 3) < length bytes → step_count bytes ≤ length answers
    → set answers (length bytes / 3) 13 ≡ answers_from call l₀ bytes ++ drop (step_count bytes) before
unfolding answers_from partial_answer step_count
running_partial {call} {l₀} {l} {bytes} {before} {answers} {n} a h k r =
    let least = a.within in
    let here : length bytes / 3 ≡ n = omega arith in
    let some : (length bytes % 3 ≡ 0 → ⊥) = λ e. omega arith in
    let count : (length bytes + 2) / 3 ≡ n + 1 = omega arith in
    let told : take n answers ≡ answers_of (events call l₀ (whole_steps bytes)) = sym (append-nil (take n answers)) ∙ all_told a h in
    let rest : drop (n + 1) answers ≡ drop (n + 1) before = drop_more answers before n a.rest in
    let split : set answers n 13 ≡ take n answers ++ 13 ∷ drop (n + 1) answers = rw (add-one n) (set_split answers n 13 (omega arith)) in
    let stored : set answers (length bytes / 3) 13 ≡ take n answers ++ 13 ∷ drop (n + 1) answers = rw here split in
    stored ∙ rw (ne_eqb _ _ some, count, sym told, sym rest) (sym (append_snoc (take n answers) 13 (drop (n + 1) answers)))
