-- What is written of a store that is read beside its server.
use Rattle.std.specs.Prelude.{ℕ, List, Option}
use Rattle.hg_connection.specs.Devices.{Output}
use Rattle.hg_connection.specs.declared.sending.Sending.TheVariants.{Whole as sent_whole}
use Rattle.hg_connection.specs.Sent.{Sends}
use Rattle.hg_store_tools.specs.declared.fault.StoreEnd.{StoreEnd}
use Rattle.hg_store_tools.specs.declared.form.BundleForm.{BundleForm}
use Rattle.hg_store_tools.specs.Listing.{ListsFrom}
use Rattle.hg_store_tools.specs.Logging.{LogsFrom}
use Rattle.hg_store_tools.specs.declared.follow.FollowEnd.{FollowEnd}
use Rattle.hg_store_tools.specs.Reporting.{Reports}
use Rattle.hg_store_tools.specs.Trails.{IsFollowed}

-- the report of some file that is a store was written, whole, and flushed
abbrev pub ReportsStore : (A : Type 0) → Output → Output → Type 0
ReportsStore A before after = (file : List ℕ) × (ending : StoreEnd) × (text : List ℕ) × (count : ℕ)
    × Reports A file ending text × Sends sent_whole count before after text

-- the bundles of some store were written from a place on in that form, one after the other
abbrev pub LogsStore : (A : Type 0) → ℕ → BundleForm → Option (List ℕ) → Option (List ℕ) → Type 0
LogsStore A from form before after = (ending : StoreEnd) × LogsFrom form A from ending before after

-- the frames of a store that was followed were written from a place on in that form, as far as it says
abbrev pub FollowsStore : (A : Type 0) → ℕ → BundleForm → Option (List ℕ) → Option (List ℕ) → Type 0
FollowsStore A from form before after = (end : FollowEnd) × IsFollowed form A from end before after

-- the lines of the pushes of some store were written from a place on, one after the other
abbrev pub ListsStore : (A : Type 0) → ℕ → Option (List ℕ) → Option (List ℕ) → Type 0
ListsStore A from before after = (ending : StoreEnd) × ListsFrom A from ending before after
