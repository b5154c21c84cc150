-- The push of a file.
use Rattle.std.proofs.Common.{ℕ, ◌≡◌, ◌++◌, List, [], take, drop, ap, sym, ◌∙◌, subst, take-append-drop}
use Rattle.hg_types.specs.declared.limits.Limits.{Limits}
use Rattle.hg_push.specs.Run.{RepositoryOf}
use Rattle.hg_connection.specs.Devices.{Input}
use Rattle.hg_recovery.specs.Replays.{ReplaysOne}
use Rattle.hg_store.specs.Entries.{Entry}
use Rattle.hg_import.specs.Imports.{GivesFront, PushesFile}

-- the front of its bytes was run
pub pushes_file : {A : Type 0} (says : ℕ → Type 0) (limits own : Limits) (first last : RepositoryOf A)
    (file left : Input) (bytes given : List ℕ) (count time : ℕ) (entry : Entry) → own ≡ limits
    → GivesFront own file left bytes → given ≡ bytes → entry.bundle ≡ take count bytes → says time
    → entry.stamp.time ≡ time → entry.stamp.name ≡ [] → ReplaysOne limits first (take count given) last
    → PushesFile says limits first file left entry last
pushes_file says limits own first last file left bytes given count time entry same gives is bundle_is said time_is
    unnamed ran = record {
      bytes = bytes;
      read = subst (λ (l : Limits). GivesFront l file left bytes) same gives;
      behind = drop count bytes;
      spelled = sym (take-append-drop count bytes) ∙ ap (λ (l : List ℕ). l ++ drop count bytes) (sym bundle_is);
      timed = subst says (sym time_is) said;
      unnamed = unnamed;
      ran = subst (λ (l : List ℕ). ReplaysOne limits first l last)
          (ap (take count) is ∙ sym bundle_is) ran;
    }
