-- The bytes of a store with a shut gate.
use Rattle.std.proofs.Common.{◌≡◌, ◌∙◌, ap, List, ℕ, [], ◌∷◌, ◌++◌}
use Rattle.sha1.specs.Sha1.{sha1}
use Rattle.hg_store.specs.declared.head.Head.{Head}
use Rattle.hg_store.specs.Head.{first_digest, head_bytes, version_of}
use Rattle.hg_store.specs.Entries.{Entry}
use Rattle.hg_store.specs.Log.{at_rest}
use Rattle.hg_store.specs.Records.{frames}

-- the bytes as they are put together
pub rest_is : (head : Head) (records : List Entry) (none first shown digest framed shown_framed both all : List ℕ)
    → none ≡ [] → first ≡ none ++ head_bytes head → shown ≡ first → digest ≡ sha1 shown
    → framed ≡ frames (version_of head) digest records → shown_framed ≡ framed → both ≡ first ++ shown_framed → all ≡ both ++ 0 ∷ []
    → all ≡ at_rest head records
rest_is head records none first shown digest framed shown_framed both all none_is first_is shown_is digest_is framed_is same both_is all_is =
    let first_eq : first ≡ head_bytes head = first_is ∙ ap (λ (l : List ℕ). l ++ head_bytes head) none_is in
    let digest_eq : digest ≡ first_digest head = digest_is ∙ ap sha1 (shown_is ∙ first_eq) in
    let framed_eq : shown_framed ≡ frames (version_of head) (first_digest head) records =
    same ∙ framed_is ∙ ap (λ (d : List ℕ). frames (version_of head) d records) digest_eq in
    all_is ∙ ap (λ (l : List ℕ). l ++ 0 ∷ []) (both_is ∙ (λ i. first_eq i ++ framed_eq i))
