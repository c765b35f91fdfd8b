-- Code 9: a loop, in 01's words and as a test. proofs/Loop.antt proves that the test says yes exactly where a loop exists.
use Rattle.std.specs.Prelude.{ℕ, zero, suc, ◌≤◌, ◌≡◌, Bool, true, false, cond, not, ◌||◌, List, [], ◌∷◌}
use Rattle.rules.specs.Rows.{list_of}
use Rattle.rules.specs.Track.{Track, follows}

-- A number of one of n segments.
pub record SegmentOf (n : ℕ) (s : ℕ) : Type 0 where
  pub low : 1 ≤ s
  pub high : s ≤ n

-- A list of segments, each following the one before in direction 0, from its first to its last.
pub data Chain (n : ℕ) (track : Track) : ℕ → List ℕ → ℕ → Type 0 where
  single : {s : ℕ} → SegmentOf n s → Chain n track s (s ∷ []) s
  more : {s x z : ℕ} {l : List ℕ} → SegmentOf n s → follows track 0 s x ≡ true → Chain n track x l z → Chain n track s (s ∷ l) z

-- A loop: such a list whose first follows its last.
pub record Loop (n : ℕ) (track : Track) : Type 0 where
  pub first : ℕ
  pub segments : List ℕ
  pub last : ℕ
  pub chain : Chain n track first segments last
  pub closed : follows track 0 last first ≡ true

-- Some segment of the list comes before x.
unfoldable pub any_before : Track → List ℕ → ℕ → Bool
any_before track [] x = false
any_before track (s ∷ l) x = follows track 0 s x || any_before track l x

-- Those of a list that follow some segment of another.
unfoldable pub following : Track → List ℕ → List ℕ → List ℕ
following track before [] = []
following track before (x ∷ l) = cond (any_before track before x) (x ∷ following track before l) (following track before l)

-- The segments at which a chain of r + 1 segments ends, found in r rounds.
unfoldable pub chain_ends : ℕ → Track → ℕ → List ℕ
chain_ends n track zero = list_of n (λ s. s)
chain_ends n track (suc r) =
    let earlier = chain_ends n track r in
    following track earlier earlier

unfoldable pub is_empty : List ℕ → Bool
is_empty [] = true
is_empty (s ∷ l) = false

-- The test: some chain has n + 1 segments, so that it passes one of them twice.
unfoldable pub has_loop : ℕ → Track → Bool
has_loop n track = not (is_empty (chain_ends n track n))
