-- What has a word for each head, or wants the ids in their order, is made from a view of the changesets.
use Rattle.std.specs.Prelude.{ℕ, ◌≡◌, Bool, true, false, List, [], ◌∷◌, Option, Some, None, length, min, ⊤}
use Rattle.std.specs.List.{AllZip, list_any}
use Rattle.hg_parts.specs.Repository.{Repository}
use Rattle.hg_wireproto.specs.declared.batch.BatchCommand.{BatchCommand}
use Rattle.hg_wireproto.specs.Batch.{answers_joined}
use Rattle.hg_wireproto.specs.BranchMap.{IsBranchMap}
use Rattle.hg_wireproto.specs.Heads.{IsHeadsText}
use Rattle.hg_wireproto.specs.Lookup.{begun_text, is_beginning, lookup_text}
use Rattle.hg_wireproto.specs.Viewed.{shown_of, IsFrontOf, Since, Viewed}
use Rattle.hg_http.specs.declared.command.Read.{Read}
use Rattle.hg_http.specs.declared.command.Read.TheVariants.{Heads, Known, ListKeys, Lookup, BranchMap}
use Rattle.hg_http.specs.Commands.{read_of, subject_of}
use Rattle.hg_http.specs.Requests.{argument_in}
use Rattle.hg_queries.specs.Texts.{IsTextOf}
use Rattle.hg_queries.specs.declared.long.Piece.{Piece}
use Rattle.hg_queries.specs.declared.long.Piece.TheVariants.{Short, AllHeads, Branches, Begun}
use Rattle.hg_queries.specs.declared.reading.Asked.{Asked}
use Rattle.hg_queries.specs.declared.reading.Asked.TheVariants.{Command, Commands}
use Rattle.hg_queries.specs.declared.reading.Brought.{Brought}

-- The answer has a word for each head: the command asks for the heads, or for the branches with their heads. Or it
-- takes long to find: the command looks up a beginning of digits.
abbrev pub is_long : Read → List ℕ → Bool
is_long Heads about = true
is_long Known about = false
is_long ListKeys about = false
is_long Lookup about = is_beginning about
is_long BranchMap about = true

-- a name of no command that reads has no long answer
abbrev pub is_long_if : {A : Type 0} → BatchCommand A → Option Read → Bool
is_long_if command None = false
is_long_if command (Some read) = is_long read (argument_in command.arguments (subject_of read))

-- a command of a batch has a long answer
abbrev pub asks_long : {A : Type 0} → BatchCommand A → Bool
asks_long command = is_long_if command (read_of command.name)

-- one of a batch's commands does
abbrev pub have_long : {A : Type 0} → List (BatchCommand A) → Bool
have_long commands = list_any asks_long commands

-- the view is of the repository's changesets, markers and phases
pub record IsCopyOf {A : Type 0} (repo : Repository A) (view : Viewed A) : Type 0 where
  pub rows : view.rows ≡ repo.rows
  pub markers : view.markers ≡ repo.markers
  pub phases : view.phases ≡ repo.phases

-- the view is of the first of them, and what was public then is public
abbrev pub IsFront : {A : Type 0} → Viewed A → Repository A → Type 0
IsFront view repo = IsFrontOf view repo.rows repo.markers repo.phases

-- the text of a piece
abbrev pub IsOfPiece : {A : Type 0} → Viewed A → Piece A → List ℕ → Type 0
IsOfPiece view (Short made) text = text ≡ made
IsOfPiece view AllHeads text = IsHeadsText view.rows text
IsOfPiece view Branches text = IsBranchMap view.rows view.markers view.phases text
IsOfPiece view (Begun key) text = text ≡ begun_text view.rows key

-- a piece asks for the heads
abbrev pub is_heads : {A : Type 0} → Piece A → Bool
is_heads (Short made) = false
is_heads AllHeads = true
is_heads Branches = false
is_heads (Begun key) = false

-- a piece asks for the branches with their heads
abbrev pub is_branches : {A : Type 0} → Piece A → Bool
is_branches (Short made) = false
is_branches AllHeads = false
is_branches Branches = true
is_branches (Begun key) = false

-- of the two texts that are made of the view, the piece has the one that it asks for
abbrev pub HasTextFor : {A : Type 0} → Viewed A → List ℕ → List ℕ → Piece A → Type 0
HasTextFor view heads branches (Short made) = ⊤
HasTextFor view heads branches AllHeads = IsHeadsText view.rows heads
HasTextFor view heads branches Branches = IsBranchMap view.rows view.markers view.phases branches
HasTextFor view heads branches (Begun key) = ⊤

-- the texts of pieces, in order, escaped, with a `;` between
pub record IsJoinedOf {A : Type 0} (view : Viewed A) (pieces : List (Piece A)) (text : List ℕ) : Type 0 where
  pub texts : List (List ℕ)
  pub each : AllZip (IsOfPiece view) pieces texts
  pub joined : text ≡ answers_joined texts

-- Asked about that, the repository answers this piece. A key is left where the ids alone say what it names.
abbrev pub IsPieceOf : {A : Type 0} → Repository A → Read → List ℕ → Piece A → Type 0
IsPieceOf repo read about (Short text) = IsTextOf repo read about text
IsPieceOf repo read about AllHeads = read ≡ Heads
IsPieceOf repo read about Branches = read ≡ BranchMap
IsPieceOf repo read about (Begun key) =
    (read ≡ Lookup) × (key ≡ about) × (lookup_text repo.rows repo.bookmarks about ≡ begun_text repo.rows about)

-- a name of no command that reads has no answer
abbrev pub IsNoPiece : {A : Type 0} → Piece A → Type 0
IsNoPiece (Short text) = text ≡ []
IsNoPiece AllHeads = ⊥
IsNoPiece Branches = ⊥
IsNoPiece (Begun key) = ⊥

abbrev pub IsPieceIf : {A : Type 0} → Repository A → BatchCommand A → Option Read → Piece A → Type 0
IsPieceIf repo command None piece = IsNoPiece piece
IsPieceIf repo command (Some read) piece =
    IsPieceOf repo read (argument_in command.arguments (subject_of read)) piece

-- a command of a batch is answered this piece
abbrev pub IsCommandPiece : {A : Type 0} → Repository A → BatchCommand A → Piece A → Type 0
IsCommandPiece repo command piece = IsPieceIf repo command (read_of command.name) piece

-- one command is answered by this piece, and by no other
pub record IsOnePiece {A : Type 0} (repo : Repository A) (read : Read) (about : List ℕ) (pieces : List (Piece A))
    : Type 0 where
  pub piece : Piece A
  pub alone : pieces ≡ piece ∷ []
  pub is_piece : IsPieceOf repo read about piece

-- what is asked is answered by these pieces: one command, or those of a batch
abbrev pub ArePieces : {A : Type 0} → Repository A → Asked A → List (Piece A) → Type 0
ArePieces repo (Command read about) pieces = IsOnePiece repo read about.now pieces
ArePieces repo (Commands commands) pieces = AllZip (IsCommandPiece repo) commands.now pieces

-- what came to a view of so many changesets and markers, of which these changesets were obsolete
abbrev pub IsCameTo : {A : Type 0} → Repository A → ℕ → ℕ → List ℕ → Since A → Type 0
IsCameTo repo first known seen came = came ≡ record {
  first = min first (length repo.rows);
  known = min known (length repo.markers);
  public = shown_of (min first (length repo.rows)) repo.phases seen;
  rows = repo.rows;
  markers = repo.markers;
  phases = repo.phases;
}

-- what a look brought of what was asked: the pieces, and what came to the view
pub record IsBrought {A : Type 0} (repo : Repository A) (first known : ℕ) (seen : List ℕ)
    (asked : Asked A) (brought : Brought A) : Type 0
  where
    pub pieces : ArePieces repo asked brought.pieces
    pub came : IsCameTo repo first known seen brought.came
