-- The part `bookmarks`: names, and the changeset that each is to be on, or none.
use Rattle.std.specs.Prelude.{ℕ, Bool, List, Option, Some, None, Ok, Err, if◌then◌else◌}
use Rattle.std.specs.List.{list_all}
use Rattle.hg_types.specs.declared.part.Part.{Part}
use Rattle.hg_log.specs.Changeset.{Changeset}
use Rattle.hg_keys.specs.Bookmarks.{set_each}
use Rattle.hg_keys.specs.Payload.{Entry, entries_of}
use Rattle.hg_keys.specs.PushKey.{is_known_target}
use Rattle.hg_parts.specs.declared.refusal.Refusal.TheVariants.{BadPart, UnknownNode}
use Rattle.hg_parts.specs.Repository.{Repository}
use Rattle.hg_parts.specs.Handled.{Outcome}

-- each changeset that a bookmark is to be on is known
abbrev pub are_known : List Changeset → List Entry → Bool
are_known rows entries = list_all (λ entry. is_known_target rows entry.0) entries

-- sets each bookmark, where all changesets are known
abbrev pub handle_entries : {A : Type 0} → Repository A → ℕ → List Entry → Outcome A
handle_entries repo place entries =
    if are_known repo.rows entries
    then Ok (record { repo = record repo { bookmarks = set_each entries repo.bookmarks }; reply = None })
    else Err (UnknownNode place)

-- as `handle_entries`, where the payload can be read
abbrev pub handle_read : {A : Type 0} → Repository A → ℕ → Option (List Entry) → Outcome A
handle_read repo place (Some entries) = handle_entries repo place entries
handle_read repo place None = Err (BadPart place)

-- what a `bookmarks` part makes of a repository
abbrev pub handle_bookmarks : {A : Type 0} → Repository A → ℕ → Part A → Outcome A
handle_bookmarks repo place part = handle_read repo place (entries_of part.payload)
