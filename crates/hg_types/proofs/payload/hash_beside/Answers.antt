use Rattle.std.proofs.Common.{rules, ◌≡◌, ◌<◌, length, inl, inr, arith}
use Rattle.std.proofs.lemmas.Bool.{cases_lt}
use Rattle.std.proofs.lemmas.List.{get_or_default}
use Rattle.std.proofs.Math.ListN.{get_or}
use Rattle.hg_digests.specs.declared.place.Place.{Place}
use Rattle.hg_digests.specs.Messages.{IsWithin}
use Rattle.hg_types.proofs.payload.hash_beside.Goals as goal

pub places-preserved : goal.places-preserved
places-preserved g c = λ k d below. elim (cases_lt k c.places.place-index) [
  | inl a ↦ c.places.invariant k d a
  | inr b ↦
      let e : c.places.place-index ≡ k = omega arith in
      let nowhere : Place = record { first = 0; second = 0; from = 0; to = 0 } in
      let within : IsWithin (length c.args.bytes.now) (get_or c.args.places.now c.places.place-index nowhere) = search rules in
      let there : c.places.place-index < length c.args.places.now = omega arith in
      let same : get_or c.args.places.now c.places.place-index d ≡ get_or c.args.places.now c.places.place-index nowhere =
      get_or_default c.args.places.now c.places.place-index d nowhere there in
      rw (← e) (rw same within)
]

pub digests-requires : goal.digests-requires
digests-requires g c = λ k d below. c.places.invariant k d (omega arith)
