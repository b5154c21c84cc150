-- How many replies a run leaves, and that none of them has a payload.
use Rattle.std.proofs.Common.{◌≡◌, ◌≤◌, ◌+◌, ℕ, suc, Bool, List, [], ◌∷◌, ◌++◌, length, All, ap, refl, subst}
use Rattle.std.proofs.Common.{Option, Some, None, IfSome, Result, Ok, Err, arith}
use Rattle.std.proofs.lemmas.List.{length-append}
use Rattle.std.proofs.lemmas.List.Elements.{All-push}
use Rattle.hg_types.specs.declared.part.Part.{Part}
use Rattle.hg_parts.specs.declared.source.Source.{Source}
use Rattle.hg_parts.specs.declared.refusal.Refusal.{Refusal}
use Rattle.hg_parts.specs.Repository.{Repository}
use Rattle.hg_parts.specs.Handled.{Handled, Outcome}
use Rattle.hg_parts.specs.Handle.{handle}
use Rattle.hg_repo.specs.declared.done.Done.{Done}
use Rattle.hg_repo.specs.Run.{Progress, start, with_reply, progress_after, and_then, run_from, run_of}
use Rattle.hg_repo.specs.Run.{done_by}

-- the law `replies_have_no_payload`
abbrev pub LeaveBare : Type 0 → Type 0
LeaveBare A = (source : Source) (repo : Repository A) (replying : Bool) (place : ℕ) (part : Part A)
    (given : Handled A) → handle source repo replying place part ≡ Ok given
    → IfSome given.reply (λ reply. reply.payload ≡ [])

module _ {A : Type 0} where
  abbrev pub AreBare : List (Part A) → Type 0
  AreBare replies = All (λ reply. reply.payload ≡ []) replies

  -- so many replies came after the old ones at most, and none of them has a payload
  pub record Adds (count : ℕ) (old new : List (Part A)) : Type 0 where
    pub few : length new ≤ length old + count
    pub bare : AreBare old → AreBare new

  adds_none : (replies last : List (Part A)) → replies ≡ last → Adds 0 replies last
  adds_none replies last same =
      let count : length replies ≡ length last = ap (λ (l : List (Part A)). length l) same in
      record { few = omega (arith, count); bare = λ bare. subst AreBare same bare }

  adds_one : (replies : List (Part A)) (reply : Option (Part A))
      → IfSome reply (λ reply. reply.payload ≡ []) → Adds 1 replies (with_reply replies reply)
  adds_one replies None one = record { few = omega arith; bare = λ bare. bare }
  adds_one replies (Some reply) one =
      let told : Part A = record reply { id = length replies } in
      let more = length-append replies (told ∷ []) in
      let few : length (replies ++ told ∷ []) ≤ length replies + 1 = omega (arith, more) in
      let P : Part A → Type 0 = λ part. part.payload ≡ [] in
      record { few = few; bare = λ bare. All-push P replies told bare one }

  adds_on : (n : ℕ) (old middle new : List (Part A)) → Adds 1 old middle → Adds n middle new
      → Adds (suc n) old new
  adds_on n old middle new first rest =
      let a = first.few in
      let b = rest.few in
      record { few = omega (arith, a, b); bare = λ bare. rest.bare (first.bare bare) }

  -- what a run of these parts from a place on adds to the replies so far
  abbrev RunAdds : Source → ℕ → Progress A → List (Part A) → Progress A → Type 0
  RunAdds source place progress parts last =
      run_from source place progress parts ≡ Ok last → Adds (length parts) progress.replies last.replies

  module _ (law : LeaveBare A) (source : Source) where
    at_part : (place : ℕ) (progress : Progress A) (part : Part A) (parts : List (Part A)) (last : Progress A)
        (result : Outcome A) → handle source progress.repo progress.replying place part ≡ result
        → ((given : Handled A) → RunAdds source (place + 1) (progress_after place progress part given) parts last)
        → and_then result (λ given. run_from source (place + 1) (progress_after place progress part given) parts)
        ≡ Ok last → Adds (suc (length parts)) progress.replies last.replies
    at_part place progress part parts last (Ok given) handled rest is =
        let bare = law source progress.repo progress.replying place part given handled in
        adds_on (length parts) progress.replies (with_reply progress.replies given.reply) last.replies
        (adds_one progress.replies given.reply bare) (rest given is)
    at_part place progress part parts last (Err refusal) handled rest is = cc

    replies_in : Result (Progress A) (Refusal A) → List (Part A)
    replies_in (Ok progress) = progress.replies
    replies_in (Err refusal) = []

    run_adds : (place : ℕ) (progress : Progress A) (parts : List (Part A)) (last : Progress A)
        → RunAdds source place progress parts last
    unfolding replies_in
    run_adds place progress [] last is = adds_none progress.replies last.replies (ap replies_in is)
    run_adds place progress (part ∷ parts) last is =
        let result = handle source progress.repo progress.replying place part in
        at_part place progress part parts last result refl
        (λ given. run_adds (place + 1) (progress_after place progress part given) parts last) is

    replies_of : Result (Repository A × Done A) (Refusal A) → List (Part A)
    replies_of (Ok done) = done.1.replies
    replies_of (Err refusal) = []

    done_adds : (repo new : Repository A) (parts : List (Part A)) (done : Done A)
        (result : Result (Progress A) (Refusal A)) → run_from source 0 (start repo) parts ≡ result
        → done_by result ≡ Ok (new, done) → Adds (length parts) [] done.replies
    unfolding replies_of
    done_adds repo new parts done (Ok progress) ran is =
        subst (Adds (length parts) []) (ap replies_of is) (run_adds 0 (start repo) parts progress ran)
    done_adds repo new parts done (Err refusal) ran is = cc

    pub run_of-adds : (repo : Repository A) (parts : List (Part A)) (new : Repository A) (done : Done A)
        → run_of source repo parts ≡ Ok (new, done) → Adds (length parts) [] done.replies
    unfolding run_of
    run_of-adds repo parts new done is =
        done_adds repo new parts done (run_from source 0 (start repo) parts) refl is
