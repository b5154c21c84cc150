-- Records, one after the other, and one more.
use Rattle.std.proofs.Common.{◌≡◌, ℕ, List, [], ◌∷◌, ◌++◌, refl, sym, ap, ◌∙◌, append_assoc}
use Rattle.std.proofs.lemmas.List.{append-nil}
use Rattle.std.specs.List.{AllByRecursion}
use Rattle.hg_store.specs.Entries.{Entry}
use Rattle.hg_store.specs.declared.head.Version.{Version}
use Rattle.hg_store.specs.Records.{digest_of, IsRecord, frame, frames, last_digest}

pub frames-push : (version : Version) (before : List ℕ) (rs : List Entry) (r : Entry) → frames version before (rs ++ r ∷ [])
    ≡ frames version before rs ++ frame version (last_digest version before rs) r
frames-push version before [] r = append-nil (frame version before r)
frames-push version before (q ∷ rs) r =
    ap (λ (l : List ℕ). frame version before q ++ l) (frames-push version (digest_of version before q) rs r)
    ∙ sym (append_assoc (frame version before q) (frames version (digest_of version before q) rs)
    (frame version (last_digest version (digest_of version before q) rs) r))

pub last_digest-push : (version : Version) (before : List ℕ) (rs : List Entry) (r : Entry) → last_digest version before (rs ++ r ∷ [])
    ≡ digest_of version (last_digest version before rs) r
last_digest-push version before [] r = refl
last_digest-push version before (q ∷ rs) r = last_digest-push version (digest_of version before q) rs r

pub each-push : (version : Version) (rs : List Entry) (r : Entry) → AllByRecursion (IsRecord version) rs → IsRecord version r
    → AllByRecursion (IsRecord version) (rs ++ r ∷ [])
each-push version [] r each is = (is, tt)
each-push version (q ∷ rs) r each is = (each.0, each-push version rs r each.1 is)
