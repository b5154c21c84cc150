-- The parts of a reply can be written.
use Rattle.std.proofs.Common.{ℕ, ◌<◌, ◌^◌, List, [], ◌∷◌, length, All, codes, decimal, refl, arith}
use Rattle.std.proofs.lemmas.Fmt.{length-decimal-le}
use Rattle.std.proofs.lemmas.List.Elements.{All-push}
use Rattle.hg_types.specs.declared.part.Param.{Param}
use Rattle.hg_params.specs.Header.{AreDistinct}
use Rattle.hg_params.specs.Writing.{FitsParam}
use Rattle.hg_parts.specs.Replies.{answering, reply_part, IsReply}
use Rattle.hg_parts.specs.code.Replies.{CanReply}

no_params : {A : Type 0} → All (FitsParam {A = A}) []
no_params k d low = absurd (omega (arith, low))

id_short : (id : ℕ) → id < 2 ^ 32 → length (decimal id) < 256
id_short id few =
    let low : id < 10 ^ 10 = omega arith in
    let fits : id < 2 ^ 64 = omega arith in
    let short = length-decimal-le 10 id (omega arith) low fits in
    omega arith

pub is_reply : {A : Type 0} (kind key value : List ℕ) (id : ℕ) → CanReply kind key value → id < 2 ^ 32
    → IsReply (reply_part {A = A} kind id key value)
unfolding reply_part AreDistinct
is_reply {A} kind key value id can few = record {
  writable = record {
    kind_is = can.kind_is;
    kind_fits = can.kind_fits;
    mandatory_fit = omega arith;
    advisory_fit = omega arith;
    in_order = refl;
    params_fit = All-push (FitsParam {A = A}) (first ∷ []) second
        (All-push (FitsParam {A = A}) [] first no_params
        (record { key = omega arith; value = id_short id few }))
        (record { key = can.key_fits; value = can.value_fits });
    distinct = ((can.key_differs, tt), (tt, tt));
  };
  bare = refl;
}
  where
    first : Param A
    first = answering (codes "in-reply-to") (decimal id)

    second : Param A
    second = answering key value
