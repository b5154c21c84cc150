-- The replies of a run can be written.
use Rattle.std.proofs.Common.{◌≡◌, ◌≤◌, ◌+◌, ℕ, List, [], ◌∷◌, ◌++◌, length, Option, Some, None, IfSome}
use Rattle.std.proofs.Common.{arith}
use Rattle.std.proofs.lemmas.List.{length-append}
use Rattle.std.proofs.lemmas.List.Elements.{All-push}
use Rattle.hg_types.specs.declared.part.Part.{Part}
use Rattle.hg_params.specs.Writing.{IsWritable}
use Rattle.hg_parts.specs.Replies.{IsReply}
use Rattle.hg_repo.specs.Run.{with_reply}
use Rattle.hg_repo.specs.Replies.{AreReplies}

module _ {A : Type 0} where
  pub no_replies : AreReplies {A = A} 0 []
  no_replies = record {
    few = omega arith;
    writable = λ k d low. absurd (omega (arith, low));
    bare = λ k d low. absurd (omega (arith, low));
  }

  -- a reply more; its number changes nothing of how it is written
  pub one_more : (count : ℕ) (replies : List (Part A)) (reply : Option (Part A)) → AreReplies count replies
      → IfSome reply IsReply → AreReplies (count + 1) (with_reply replies reply)
  one_more count replies None are one =
      record { few = omega (arith, are.few); writable = are.writable; bare = are.bare }
  one_more count replies (Some reply) are one =
      let told : Part A = record reply { id = length replies } in
      let more : length (replies ++ told ∷ []) ≤ count + 1 = omega
      (arith, are.few, length-append replies (told ∷ [])) in
      record {
        few = more;
        writable = All-push IsWritable replies told are.writable
            (record {
              kind_is = one.writable.kind_is;
              kind_fits = one.writable.kind_fits;
              mandatory_fit = one.writable.mandatory_fit;
              advisory_fit = one.writable.advisory_fit;
              in_order = one.writable.in_order;
              params_fit = one.writable.params_fit;
              distinct = one.writable.distinct;
            });
        bare = All-push (λ (part : Part A). part.payload ≡ []) replies told are.bare one.bare;
      }
