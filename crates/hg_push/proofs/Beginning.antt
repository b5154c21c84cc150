-- A book in which no push is opened.
use Rattle.std.proofs.Common.{◌≡◌, [], sym, arith, nat_le, nat_lt}
use Rattle.std.proofs.lemmas.Bool.{and_parts, leb-true, ltb-true}
use Rattle.hg_push.specs.History.{Running}
use Rattle.hg_push.specs.Book.{Book, HoldsHistory}

pub holds_none : {A R D E : Type 0} (run : Running A R D E) (first : R) (b : Book A R D E) → b.repo ≡ first
    → b.journal ≡ [] → b.next ≡ b.first_push → HoldsHistory run first [] b
holds_none {A} {R} run first b repo journal next = record {
  state = λ i. record { repo = sym repo i; journal = sym journal i };
  legal = tt;
  opened = tt;
  rows = λ p opened.
      let both = and_parts (nat_le b.first_push p) (nat_lt p b.next) opened in
      absurd (omega (arith, leb-true b.first_push p both.0, ltb-true p b.next both.1, next));
}
