-- What is refused since its texts are long, since its deltas copy too much, or since their bases are not known.
use Rattle.std.specs.Prelude.{ℕ, ◌≡◌, ◌⊎◌, Bool, false, not, List, [], codes, length, map, Option, Some, None, bytes_eq}
use Rattle.std.specs.List.{list_any}
use Rattle.hg_types.specs.declared.entry.Entry.{Entry}
use Rattle.hg_types.specs.NullId.{null_id}
use Rattle.hg_log.specs.Changeset.{Changeset}
use Rattle.hg_push.specs.Run.{RepositoryOf}
use Rattle.hg_push.specs.History.{History}
use Rattle.hg_serve.specs.Answers.{Looks}
use Rattle.hg_http.specs.Policies.{Asked, HasAsked}
use Rattle.hg_http.specs.declared.hook.policy.Verdict.{Verdict}
use Rattle.hg_http.specs.declared.hook.policy.Verdict.TheVariants as Verdicts
use Rattle.hg_weighing.specs.Lengths.{length_in}
use Rattle.hg_sizes.specs.Changesets.{BeginsWith, HasNoBundle}
use Rattle.hg_sizes.specs.Bases.{excess_of_bases}
use Rattle.hg_sizes.specs.Weights.{excess_of, first_of}
use Rattle.hg_sizes.specs.declared.weighing.Excess.{Excess}
use Rattle.hg_sizes.specs.declared.weighing.Excess.TheVariants.{LongText, MuchCopied, UnknownBases}

-- whether a delta is on a changeset, and not on nothing
abbrev pub has_bases : {A : Type 0} → List (Entry A) → Bool
has_bases entries = list_any (λ entry. not (bytes_eq entry.base.0 null_id)) entries

-- What is too much of a push of so many bytes with these changesets in a repository of these rows: of the texts, by the
-- lengths of the bases that are here, or else of the bases.
abbrev pub excess_in : {A : Type 0} → ℕ → ℕ → List (Entry A) → List Changeset → Option Excess
excess_in most bytes entries rows =
    first_of (excess_of most bytes entries (map (λ entry. length_in rows entry.base) entries))
    (excess_of_bases most rows entries)

-- The same in the repository at one point of the serial order; where no delta is on a changeset, wherever.
pub data IsExcessOf {A : Type 0} (first : RepositoryOf A) (most bytes : ℕ) (entries : List (Entry A))
    (found : Option Excess) : Type 0 where
  alone : has_bases entries ≡ false → found ≡ excess_of most bytes entries [] → IsExcessOf first most bytes entries found
  looked : (before after : History A) (repo : RepositoryOf A) → Looks first before after repo →
      found ≡ excess_in most bytes entries repo.rows → IsExcessOf first most bytes entries found

-- What is too much of a push with that body, if anything is. Of a body that begins with no bundle nothing is.
pub data IsExcess {A : Type 0} (first : RepositoryOf A) (most : ℕ) (body : List ℕ) (found : Option Excess) : Type 0 where
  no_bundle : HasNoBundle A first.settings.limits body → found ≡ None → IsExcess first most body found
  weighed : (entries : List (Entry A)) → BeginsWith first.settings.limits body entries →
      IsExcessOf first most (length body) entries found → IsExcess first most body found

-- the line that says why a push is refused
abbrev pub line_of : Excess → List ℕ
line_of LongText = codes "the text of a changeset is longer than --text allows"
line_of MuchCopied = codes "the deltas of the changesets copy too much from their bases"
line_of UnknownBases = codes "the deltas of more than four changesets are on bases that are not known"

-- it is refused by that line, or for want of memory
abbrev pub refusal_by : {A : Type 0} → Excess → Verdict A → Type 0
refusal_by excess verdict = (verdict ≡ Verdicts.Refused (line_of excess)) ⊎ (verdict ≡ Verdicts.NoMemory)

-- Of a push of which nothing is too much a policy was asked, and it said so. One of which something is too much is
-- refused, and nobody was asked. So it is where memory was refused.
pub data HasWeighed {A : Type 0} (first : RepositoryOf A) (most : ℕ) (body : List ℕ) (asked said : Asked A)
    (verdict : Verdict A) : Type 0 where
  light : IsExcess first most body None → HasAsked asked said body verdict → HasWeighed first most body asked said verdict
  heavy : (excess : Excess) → IsExcess first most body (Some excess) → refusal_by excess verdict → said ≡ asked →
      HasWeighed first most body asked said verdict
  lacks : verdict ≡ Verdicts.NoMemory → said ≡ asked → HasWeighed first most body asked said verdict
