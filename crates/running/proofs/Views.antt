-- What stands around each train, kept while trains move.
use Rattle.std.proofs.Common.{ℕ, suc, ◌<◌, ◌≡◌, sym, ◌∙◌, List, arith, length, get_or, set, length-set, get_or-set_same, get_or-set_other}
use Rattle.std.proofs.Math.Decide.{ℕ_discrete}
use Rattle.rules.specs.declared.Train.{Train}
use Rattle.rules.specs.declared.Around.{Around}
use Rattle.rules.specs.Line.{no_train}
use Rattle.running.specs.Loop.{Seen, no_around}

module _ {around : ℕ → Train → Around} {trains : List Train} {seen : List Around} (h : Seen around trains seen 16) (size : length trains ≡ 16)
    (i : ℕ) (low : i < 16) where
  -- A train changes, and what stands around it is looked up anew.
  pub seen-moved : (t : Train) (v : Around) → v ≡ around (suc i) t → Seen around (set trains i t) (set seen i v) 16
  seen-moved t v e =
      record {
        size = length-set seen i v ∙ h.size;
        is = λ p l.
            elim (ℕ_discrete p i) [
              | yes here ↦
                  rw (here, get_or-set_same seen i v no_around (omega (arith, h.size)), get_or-set_same trains i t no_train (omega (arith, size))) e
              | no other ↦
                  rw (get_or-set_other seen i p v no_around other, get_or-set_other trains i p t no_train other) (h.is p l)
            ];
      }

  -- A train changes, and what stands around it stays.
  pub seen_stays : (t : Train) → around (suc i) t ≡ around (suc i) (get_or trains i no_train) → Seen around (set trains i t) seen 16
  seen_stays t e =
      record {
        size = h.size;
        is = λ p l.
            elim (ℕ_discrete p i) [
              | yes here ↦ rw (here, get_or-set_same trains i t no_train (omega (arith, size))) (h.is i low ∙ sym e)
              | no other ↦ rw (get_or-set_other trains i p t no_train other) (h.is p l)
            ];
      }
