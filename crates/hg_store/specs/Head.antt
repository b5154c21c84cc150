-- The head of a store: what it is, and how the server was set up that writes it.
use Rattle.std.specs.Prelude.{ℕ, ◌≡◌, ◌≢◌, ◌⊎◌, ◌<◌, ◌≤◌, Bool, true, false, List, [], ◌∷◌, ◌++◌, Option, Some, None, length, take, ⊤}
use Rattle.std.specs.Int.{w32, to_be_bytes}
use Rattle.sha1.specs.Sha1.{sha1}
use Rattle.hg_types.specs.declared.limits.Limits.{Limits}
use Rattle.hg_types.specs.Limits.{IsAllowed}
use Rattle.hg_store.specs.declared.head.Head.{Head}
use Rattle.hg_store.specs.declared.head.Setup.{Setup}
use Rattle.hg_store.specs.declared.head.Version.{Version}
use Rattle.hg_store.specs.declared.head.Version.TheVariants.{First, Second}
use Rattle.hg_store.specs.declared.head.HeadFault.{HeadFault}
use Rattle.hg_store.specs.declared.head.HeadFault.TheVariants.{TooShort, Magic, Version as OtherVersion, Publishing, BadLimits}

-- the letters HGPUSHES
abbrev pub magic : List ℕ
magic = 72 ∷ 71 ∷ 80 ∷ 85 ∷ 83 ∷ 72 ∷ 69 ∷ 83 ∷ []

-- 1 where the server publishes, else 0
abbrev pub publishing_byte : Bool → ℕ
publishing_byte false = 0
publishing_byte true = 1

-- four bytes, the high byte first
abbrev pub limit_bytes : ℕ → List ℕ
limit_bytes limit = to_be_bytes w32 limit

-- the seven limits, in their order
abbrev pub limits_bytes : Limits → List ℕ
limits_bytes limits =
    limit_bytes limits.params ++ (limit_bytes limits.payload ++ (limit_bytes limits.stream
    ++ (limit_bytes limits.parts ++ (limit_bytes limits.text ++ (limit_bytes limits.rows
    ++ limit_bytes limits.revisions)))))

-- a store has a name of its own from version 2 on
abbrev pub version_by : Option (List ℕ) → Version
version_by None = First
version_by (Some identity) = Second

-- the version of the format
abbrev pub version_of : Head → Version
version_of head = version_by head.identity

-- its number
abbrev pub version_byte : Version → ℕ
version_byte First = 1
version_byte Second = 2

-- the bytes that name a store, if it has a name
abbrev pub identity_bytes : Option (List ℕ) → List ℕ
identity_bytes None = []
identity_bytes (Some identity) = identity

-- how many bytes a head has
abbrev pub head_size : Version → ℕ
head_size First = 38
head_size Second = 54

-- the magic, the version, the publishing byte, the limits, and the bytes that name the store
abbrev pub head_bytes : Head → List ℕ
head_bytes head = magic ++ version_byte (version_of head) ∷ publishing_byte head.publishing
    ∷ limits_bytes head.limits ++ identity_bytes head.identity

-- the digest that stands before the first record
abbrev pub first_digest : Head → List ℕ
first_digest head = sha1 (head_bytes head)

-- a name has 16 bytes
abbrev pub IsIdentity : Option (List ℕ) → Type 0
IsIdentity None = ⊤
IsIdentity (Some identity) = length identity ≡ 16

-- The limits of the head are allowed, and its name has as many bytes as a name has.
pub record IsHead (head : Head) : Type 0 where
  pub limits : IsAllowed head.limits
  pub identity : IsIdentity head.identity

-- how the server is set up that wrote the head
abbrev pub setup_of : Head → Setup
setup_of head = record { publishing = head.publishing; limits = head.limits }

-- the head of version 2, with that name, of a server that is set up in this way
abbrev pub head_for : Setup → List ℕ → Head
head_for setup identity = record {
  publishing = setup.publishing;
  limits = setup.limits;
  identity = Some identity;
}

-- The file begins with this head, and then this follows.
pub record BeginsWithHead (file : List ℕ) (head : Head) (behind : List ℕ) : Type 0 where
  pub spelled : file ≡ head_bytes head ++ behind
  pub allowed : IsHead head

-- the head stands at the front of the file
abbrev pub HasHead : List ℕ → Head → Type 0
HasHead file head = (behind : List ℕ) × BeginsWithHead file head behind

-- After the magic stands the version 2, and the file is shorter than a head of it.
pub record HasShortHead (file : List ℕ) : Type 0 where
  pub behind : List ℕ
  pub spelled : file ≡ magic ++ 2 ∷ behind
  pub short : length file < 54

-- The first eight of at least 38 bytes are no magic.
pub record HasOtherMagic (file : List ℕ) : Type 0 where
  pub long : 37 < length file
  pub other : take 8 file ≢ magic

-- After the magic stands another version than 1 and 2.
pub record HasOtherVersion (file : List ℕ) : Type 0 where
  pub long : 37 < length file
  pub number : ℕ
  pub behind : List ℕ
  pub spelled : file ≡ magic ++ number ∷ behind
  pub other : (version : Version) → number ≢ version_byte version

-- The publishing byte is neither 0 nor 1.
pub record HasBadPublishing (file : List ℕ) : Type 0 where
  pub version : Version
  pub long : head_size version ≤ length file
  pub publishing : ℕ
  pub behind : List ℕ
  pub spelled : file ≡ magic ++ version_byte version ∷ publishing ∷ behind
  pub bad : 1 < publishing

-- After the publishing byte stand no limits that are allowed.
pub record HasBadLimits (file : List ℕ) : Type 0 where
  pub version : Version
  pub long : head_size version ≤ length file
  pub publishing : Bool
  pub behind : List ℕ
  pub spelled : file ≡ magic ++ version_byte version ∷ publishing_byte publishing ∷ behind
  pub bad : (limits : Limits) (more : List ℕ) → behind ≡ limits_bytes limits ++ more → IsAllowed limits → ⊥

-- why a file has no head, by the fault that is reported
abbrev pub IsRefusedFor : HeadFault → List ℕ → Type 0
IsRefusedFor TooShort file = (length file < 38) ⊎ HasShortHead file
IsRefusedFor Magic file = HasOtherMagic file
IsRefusedFor OtherVersion file = HasOtherVersion file
IsRefusedFor Publishing file = HasBadPublishing file
IsRefusedFor BadLimits file = HasBadLimits file

-- a file has one head at most, and one that has a head is refused for no reason
pub record HasOneHead (file : List ℕ) (head : Head) : Type 0 where
  pub one : (other : Head) → HasHead file other → other ≡ head
  pub taken : (fault : HeadFault) → IsRefusedFor fault file → ⊥
