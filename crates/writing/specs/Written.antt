-- What a small writer asks of a table and leaves in a buffer.
use Rattle.std.specs.Prelude.{ℕ, ◌+◌, ◌≤◌, ◌<◌, ◌≡◌, List, length}
use Rattle.std.proofs.lemmas.List.Edits.{sets}
use Rattle.rules.specs.declared.Table.{Table}
use Rattle.rules.specs.Track.{train_plan_at}
use Rattle.writing.specs.declared.pen.Pen.{Pen}

-- The records that a table counts have their places in it, and each route has its 64.
pub record Bounded (t : Table) : Type 0 where
  pub segments : t.n ≤ 96
  pub boxes : t.m ≤ 96
  pub trains : t.k ≤ 16
  pub routes : (i : ℕ) → i < t.k → (train_plan_at t (i + 1)).length ≤ 64

-- A pen has room for so many bytes more.
abbrev pub HasRoom : Pen → ℕ → Type 0
HasRoom p n = p.at + n ≤ length p.buffer.now

-- The bytes w, written by the pen p, make q: the same buffer with w stored from the place of p on, and the place after them.
pub record Written (p : Pen) (w : List ℕ) (q : Pen) : Type 0 where
  pub next : q.at ≡ p.at + length w
  pub bytes : q.buffer.now ≡ sets p.buffer.now p.at w
  pub size : length q.buffer.now ≡ length p.buffer.now
  pub same : q.buffer.ghost_name ≡ p.buffer.ghost_name
