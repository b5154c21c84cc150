-- What is read as a store is not damaged.
use Rattle.std.proofs.Common.{◌≡◌, ◌⊎◌, inr, ℕ, List, [], ◌∷◌, ◌++◌, refl, sym, ap, subst, ◌∙◌, append_assoc}
use Rattle.std.specs.List.{AllByRecursion}
use Rattle.hg_store.specs.declared.head.Head.{Head}
use Rattle.hg_store.specs.Entries.{Entry}
use Rattle.hg_store.specs.declared.head.Version.{Version}
use Rattle.hg_store.specs.Files.{IsDamagedStore, IsStore}
use Rattle.hg_store.specs.Head.{first_digest, version_of}
use Rattle.hg_store.specs.Records.{digest_of, IsRecord, frame, frames, last_digest, IsEnd, IsTorn, IsDamaged, ReadsRecords}
use Rattle.hg_store.proofs.Frames.{frame_is}
use Rattle.hg_store.proofs.Heads.{heads_are}
use Rattle.hg_store.proofs.OneReading.{stopped, end_or_damage, record_or_none}

-- the records of a reading, and those before the damage, are the same as far as both go
sound : (version : Version) (before : List ℕ) (a b : List Entry) (x y : List ℕ) → AllByRecursion (IsRecord version) a
    → AllByRecursion (IsRecord version) b → IsEnd x ⊎ IsTorn version x → IsDamaged version (last_digest version before b) y
    → frames version before a ++ x ≡ frames version before b ++ y → ⊥
sound version before [] [] x y ia ib ex damaged same =
    end_or_damage version before x ex (subst (IsDamaged version before) (sym same) damaged)
sound version before [] (s ∷ b) x y ia ib ex damaged same =
    stopped version before s (frames version (digest_of version before s) b ++ y) x ib.0 ex
    (sym (same ∙ append_assoc (frame version before s) (frames version (digest_of version before s) b) y))
sound version before (r ∷ a) [] x y ia ib ex damaged same =
    record_or_none version before y r (frames version (digest_of version before r) a ++ x) (digest_of version before r) (record {
      spelled = sym same ∙ append_assoc (frame version before r) (frames version (digest_of version before r) a) x;
      is = ia.0;
      digest = refl;
    }) (inr damaged)
sound version before (r ∷ a) (s ∷ b) x y ia ib ex damaged same =
    let first = frame_is version before r s (frames version (digest_of version before r) a ++ x) (frames version (digest_of version before s) b ++ y)
    ia.0 ib.0 (sym (append_assoc (frame version before r) (frames version (digest_of version before r) a) x) ∙ same
    ∙ append_assoc (frame version before s) (frames version (digest_of version before s) b) y) in
    let others : s ≡ r = sym first.0 in
    let rest : frames version (digest_of version before r) a ++ x ≡ frames version (digest_of version before r) b ++ y =
    first.1 ∙ ap (λ (q : Entry). frames version (digest_of version before q) b ++ y) others in
    sound version (digest_of version before r) a b x y ia.1 ib.1 ex
    (subst (λ (q : Entry). IsDamaged version (last_digest version (digest_of version before q) b) y) others damaged) rest

pub not_damaged : (file : List ℕ) (head : Head) (records : List Entry) (tail : List ℕ) (whole : ℕ)
    → IsStore file head records tail → IsDamagedStore file whole → ⊥
not_damaged file head records tail whole p q =
    let heads = heads_are head q.head p.behind q.behind p.begins.allowed q.begins.allowed
    (sym p.begins.spelled ∙ q.begins.spelled) in
    let reads : ReadsRecords (version_of q.head) (first_digest q.head) q.behind records tail =
    subst (λ (l : List ℕ). ReadsRecords (version_of q.head) (first_digest q.head) l records tail) heads.1
    (subst (λ (h : Head). ReadsRecords (version_of h) (first_digest h) p.behind records tail) heads.0 p.reads) in
    sound (version_of q.head) (first_digest q.head) records q.records tail q.tail reads.each q.each reads.ends
    q.damaged (sym reads.spelled ∙ q.spelled)
