-- What becomes of an interrupting part, by its header alone.
--
-- Two types are known: `output` without known parameters, and `error:abort` with `message` and `hint`. A type
-- that is not known, or a mandatory parameter that is not known, makes the part unsupported.
use Rattle.std.specs.Prelude.{ℕ, Bool, ◌&&◌, ◌||◌, not, List, if◌then◌else◌, codes, map}
use Rattle.std.specs.List.{list_all, list_any}
use Rattle.std.specs.Char.{to_ascii_lowercase, is_ascii_uppercase}
use Rattle.std.specs.Str.{bytes_eq}
use Rattle.hg_params.specs.declared.head.Head.{Head}
use Rattle.hg_stream.specs.declared.interrupting.Verdict.{Verdict}
use Rattle.hg_stream.specs.declared.interrupting.Verdict.TheVariants.{Dropped, Aborts, Refused}

-- the type is that one, in whatever case
abbrev pub is_type : List ℕ → List ℕ → Bool
is_type kind name = bytes_eq (map to_ascii_lowercase kind) name

-- a parameter that `error:abort` may have: its message or its hint
abbrev pub is_known_to_abort : List ℕ → Bool
is_known_to_abort key = bytes_eq key (codes "message") || bytes_eq key (codes "hint")

-- an `error:abort` whose mandatory parameters are known
abbrev pub is_abort : {A : Type 0} → Head A → Bool
is_abort head = is_type head.kind (codes "error:abort")
    && list_all (λ param. not param.mandatory || is_known_to_abort param.key) head.params

-- an `output` without mandatory parameters
abbrev pub is_output : {A : Type 0} → Head A → Bool
is_output head = is_type head.kind (codes "output") && list_all (λ param. not param.mandatory) head.params

-- a supported `error:abort` aborts the push, a supported `output` is dropped; what is not supported is
-- refused where it is mandatory, and dropped where not
abbrev pub verdict_of : {A : Type 0} → Head A → Verdict
verdict_of head = if is_abort head then Aborts
    else (if is_output head then Dropped else (if list_any is_ascii_uppercase head.kind then Refused
    else Dropped))
