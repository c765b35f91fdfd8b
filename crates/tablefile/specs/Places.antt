-- Where a reader stands in a file.
use Rattle.std.specs.Prelude.{ℕ, ◌≤◌, List, ◌≡◌}
use Rattle.rules.specs.File.{train_count, segment_start, box_start, trains_from}
use Rattle.tablefile.specs.Whole.{Whole}

-- A place of a whole file is where its segment records begin, or its box records, or its train records.
pub record AtSegments (bytes : List ℕ) (at : ℕ) : Type 0 where
  pub whole : Whole bytes
  pub place : at ≡ segment_start bytes 1

pub record AtBoxes (bytes : List ℕ) (at : ℕ) : Type 0 where
  pub whole : Whole bytes
  pub place : at ≡ box_start bytes 1

pub record AtTrains (bytes : List ℕ) (at : ℕ) : Type 0 where
  pub whole : Whole bytes
  pub place : at ≡ trains_from bytes 0

-- The same of a file that may end anywhere: the counts of segments and boxes are bytes, so that the place is near the beginning.
pub record TrainsAt (bytes : List ℕ) (at : ℕ) : Type 0 where
  pub place : at ≡ trains_from bytes 0
  pub near : at ≤ 2048

-- A whole file has a train of this number.
pub record HasTrain (bytes : List ℕ) (i : ℕ) : Type 0 where
  pub whole : Whole bytes
  pub low : 1 ≤ i
  pub high : i ≤ train_count bytes
