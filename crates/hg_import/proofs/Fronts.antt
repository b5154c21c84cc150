-- What a file gives, piece by piece.
use Rattle.std.proofs.Common.{ℕ, ◌≡◌, ◌+◌, ◌-◌, ◌≤◌, List, [], ◌∷◌, ◌++◌, length, take, ap, sym, ◌∙◌, arith, subst}
use Rattle.std.proofs.Common.{length-append}
use Rattle.std.proofs.lemmas.List.{append-nil, length-take-le}
use Rattle.std.proofs.KnownBytes.{Consumes-trans}
use Rattle.std.specs.Io.KnownBytes.{Consumes}
use Rattle.hg_connection.proofs.DeviceLemmas.{Adds-trans}
use Rattle.hg_connection.specs.Devices.{Failed, Gave, Input, ReadAnswer, ReadsOnce, TellsMore}
use Rattle.hg_import.specs.Fronts.{FailsToGive}

-- What was read so far, by which reads, and how much is left to read.
pub record HasRead (bytes : List ℕ) (a b : Input) (left most : ℕ) : Type 0 where
  pub gone : Consumes a.left b.left bytes
  pub sum : length bytes + left ≡ most
  pub reads : List ReadAnswer
  pub told : TellsMore a.reads b.reads reads

-- one piece more
pub reads_more : (a b d : Input) (bytes new piece : List ℕ) (left next got most : ℕ) → HasRead bytes a b left most
    → ReadsOnce b d (Gave (take got piece)) → got ≤ length piece → got ≤ left → new ≡ bytes ++ take got piece
    → next ≡ left - got → HasRead new a d next most
reads_more a b d bytes new piece left next got most so_far more within below is less = record {
  gone = subst (Consumes a.left d.left) (sym is)
      (Consumes-trans a.left b.left d.left bytes (take got piece) so_far.gone more.bytes);
  sum = omega (
    arith,
    so_far.sum,
    below,
    less,
    ap length is,
    length-append bytes (take got piece),
    length-take-le got piece within,
  );
  reads = so_far.reads ++ Gave (take got piece) ∷ [];
  told = Adds-trans a.reads b.reads d.reads so_far.reads (Gave (take got piece) ∷ []) so_far.told more.told;
}

-- a read that failed
pub reads_none : (a b d : Input) (bytes new : List ℕ) (left next most : ℕ) → HasRead bytes a b left most
    → ReadsOnce b d Failed → new ≡ bytes → next ≡ left → HasRead new a d next most
reads_none a b d bytes new left next most so_far none is rest = record {
  gone = subst (Consumes a.left d.left) (append-nil bytes ∙ sym is)
      (Consumes-trans a.left b.left d.left bytes [] so_far.gone none.bytes);
  sum = omega (arith, so_far.sum, rest, ap length is);
  reads = so_far.reads ++ Failed ∷ [];
  told = Adds-trans a.reads b.reads d.reads so_far.reads (Failed ∷ []) so_far.told none.told;
}

-- the last read failed
pub fails_to_give : (a b d : Input) (bytes : List ℕ) (left most : ℕ) → HasRead bytes a b left most
    → ReadsOnce b d Failed → FailsToGive a d
fails_to_give a b d bytes left most so_far none =
    (so_far.reads, Adds-trans a.reads b.reads d.reads so_far.reads (Failed ∷ []) so_far.told none.told)
