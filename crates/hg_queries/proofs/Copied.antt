-- What is made of a view is that of the repository that the view is of.
use Rattle.std.proofs.Common.{◌≡◌, ◌<◌, ℕ, List, [], ◌∷◌, length, get_or, true, ap, Option, None, Some, Result, Ok, Err, sym, subst, ◌∙◌}
use Rattle.std.specs.Prelude.{IfOk}
use Rattle.std.specs.List.{AllZip, list_any}
use Rattle.std.proofs.lemmas.List.Folds.{list_any_at}
use Rattle.hg_parts.specs.Repository.{Repository}
use Rattle.hg_wireproto.specs.declared.batch.BatchCommand.{BatchCommand}
use Rattle.hg_wireproto.specs.BranchMap.{IsBranchMap}
use Rattle.hg_wireproto.specs.Heads.{IsHeadsText}
use Rattle.hg_wireproto.specs.Lookup.{begun_text}
use Rattle.hg_wireproto.specs.Viewed.{Viewed}
use Rattle.hg_http.specs.declared.command.Read.{Read}
use Rattle.hg_http.specs.Commands.{read_of, subject_of}
use Rattle.hg_http.specs.Requests.{argument_in}
use Rattle.hg_queries.specs.Copied.{is_branches, is_heads, HasTextFor}
use Rattle.hg_queries.specs.Copied.{IsCommandPiece, IsCopyOf, IsJoinedOf, IsOfPiece, IsOnePiece, IsPieceIf, IsPieceOf}
use Rattle.hg_queries.specs.Texts.{IsBatchText, IsCommandText, IsTextIf, IsTextOf}
use Rattle.hg_queries.specs.declared.long.Piece.{Piece}
use Rattle.hg_queries.specs.declared.long.Piece.TheVariants.{Short, AllHeads, Branches, Begun}
use Rattle.hg_queries.proofs.Lists.{AllZip_through}

-- the heads of a view are those of the repository
pub heads_of : {A : Type 0} (repo : Repository A) (view : Viewed A) (text : List ℕ) → IsCopyOf repo view
    → IsHeadsText view.rows text → IsHeadsText repo.rows text
heads_of repo view text copied is = subst (λ rows. IsHeadsText rows text) copied.rows is

-- the branches of a view are those of the repository
pub branches_of : {A : Type 0} (repo : Repository A) (view : Viewed A) (text : List ℕ) → IsCopyOf repo view
    → IsBranchMap view.rows view.markers view.phases text → IsBranchMap repo.rows repo.markers repo.phases text
branches_of repo view text copied is =
    subst (λ rows. IsBranchMap rows repo.markers repo.phases text) copied.rows
    (subst (λ ms. IsBranchMap view.rows ms repo.phases text) copied.markers
    (subst (λ phases. IsBranchMap view.rows view.markers phases text) copied.phases is))

-- the text of a piece is what is answered
pub told : {A : Type 0} (repo : Repository A) (view : Viewed A) → IsCopyOf repo view → (read : Read)
    (about : List ℕ) (piece : Piece A) (text : List ℕ) → IsPieceOf repo read about piece
    → IsOfPiece view piece text → IsTextOf repo read about text
told repo view copied read about (Short made) text is so = subst (IsTextOf repo read about) (sym so) is
told repo view copied read about AllHeads text is so =
    subst (λ r. IsTextOf repo r about text) (sym is) (heads_of repo view text copied so)
told repo view copied read about Branches text is so =
    subst (λ r. IsTextOf repo r about text) (sym is) (branches_of repo view text copied so)
told repo view copied read about (Begun key) text is so =
    subst (λ r. IsTextOf repo r about text) (sym is.0)
    (so ∙ ap (λ rows. begun_text rows key) copied.rows ∙ ap (begun_text repo.rows) is.1 ∙ sym is.2)

-- one piece has the text of its command
pub one_told : {A : Type 0} (repo : Repository A) (view : Viewed A) (read : Read) (about : List ℕ) (piece : Piece A)
    (pieces : List (Piece A)) (text : List ℕ) → IsCopyOf repo view → IsOnePiece repo read about pieces
    → pieces ≡ piece ∷ [] → IsOfPiece view piece text → IsTextOf repo read about text
one_told repo view read about piece pieces text copied one is so =
    let same : one.piece ≡ piece = (let a = one.alone in cc) in
    told repo view copied read about piece text (subst (IsPieceOf repo read about) same one.is_piece) so

-- the text of a piece is that of its command
piece_told : {A : Type 0} (repo : Repository A) (view : Viewed A) → IsCopyOf repo view
    → (command : BatchCommand A) (piece : Piece A) (text : List ℕ) → IsCommandPiece repo command piece
    → IsOfPiece view piece text → IsCommandText repo command text
piece_told {A} repo view copied command piece text = by (read_of command.name) piece
  where
    by : (read : Option Read) (piece : Piece A) → IsPieceIf repo command read piece → IsOfPiece view piece text
        → IsTextIf repo command read text
    by None (Short made) is so = so ∙ is
    by None AllHeads is so = absurd is
    by None Branches is so = absurd is
    by None (Begun key) is so = absurd is
    by (Some read) piece is so =
        told repo view copied read (argument_in command.arguments (subject_of read)) piece text is so

pub batch_told : {A : Type 0} (repo : Repository A) (view : Viewed A) (commands : List (BatchCommand A))
    (pieces : List (Piece A)) (text : List ℕ) → IsCopyOf repo view → AllZip (IsCommandPiece repo) commands pieces
    → IsJoinedOf view pieces text → IsBatchText repo commands text
batch_told repo view commands pieces text copied each so = record {
  texts = so.texts;
  each = AllZip_through (IsCommandPiece repo) (IsOfPiece view) (IsCommandText repo)
      (piece_told repo view copied) commands pieces so.texts each so.each;
  joined = so.joined;
}

-- each piece has the text that it asks for
pub has_text : {A : Type 0} (view : Viewed A) (heads branches : List ℕ) (pieces : List (Piece A)) (i : ℕ)
    (piece : Piece A) → (list_any is_heads pieces ≡ true → IsHeadsText view.rows heads)
    → (list_any is_branches pieces ≡ true → IsBranchMap view.rows view.markers view.phases branches)
    → i < length pieces → piece ≡ get_or pieces i piece → HasTextFor view heads branches piece
has_text view heads branches pieces i (Short made) first second low is = tt
has_text view heads branches pieces i AllHeads first second low is =
    first (list_any_at is_heads pieces i AllHeads low (ap is_heads (sym is)))
has_text view heads branches pieces i Branches first second low is =
    second (list_any_at is_branches pieces i Branches low (ap is_branches (sym is)))
has_text view heads branches pieces i (Begun key) first second low is = tt

-- what holds of a value holds of it in other words
pub if_ok : {X E : Type 0} (r : Result X E) (P Q : X → Type 0) → ((x : X) → P x → Q x) → IfOk r P → IfOk r Q
if_ok (Ok x) P Q so is = so x is
if_ok (Err e) P Q so is = tt
