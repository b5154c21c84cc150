-- A store that is gone through once.
use Rattle.std.proofs.Common.{ℕ, ◌+◌, List, ◌++◌, length, Option}
use Rattle.hg_store.specs.Entries.{Entry}
use Rattle.hg_store.specs.Pieces.{HasToGive}
use Rattle.hg_store.specs.declared.head.Head.{Head}
use Rattle.hg_store_tools.specs.Reading.{IsRead, IsUnread}
use Rattle.hg_store_tools.specs.Visiting.{Begins, StopsVisiting, Visits, failed, unread}
use Rattle.hg_store_tools.specs.declared.fault.Fault.{Fault}
use Rattle.hg_store_tools.specs.declared.fault.StoreEnd.{StoreEnd}
use Rattle.hg_store_tools.proofs.Files.{has_front, is_read, is_unread, is_unread_at, whole_file}

module _ {T : Type 0} (head : Head) (digest : List ℕ) (a b c : Option (List ℕ)) (begins : Begins a b head digest)
    (step : ℕ → Entry → T → T → Type 0) (first last : T) where
  pub checked : (ending : StoreEnd) → Visits step head digest b c ending first last
      → (file : List ℕ) × HasToGive a file × (found : Head) × (records : List Entry)
      × IsRead file found records ending
  checked ending visits =
      let at = whole_file head digest a b c begins visits.records visits.tail visits.each visits.gone in (
        at.file,
        at.is,
        head,
        visits.records,
        is_read head digest a b c begins visits.records visits.tail visits.each visits.gone ending visits.over
            visits.ends,
      )

  pub not_checked : (fails : ℕ → Entry → Fault → T → T → Type 0) (fault : Fault)
      → StopsVisiting step fails head digest b c fault first last
      → ((place : ℕ) (entry : Entry) (before after : T) → fails place entry fault before after → ⊥)
      → (file : List ℕ) × HasToGive a file × IsUnread fault file
  not_checked fails fault stops never = elim stops [
    | unread records tail mid each gone why visited ↦
        let at = whole_file head digest a b mid begins records tail each gone in
        let front = has_front head digest a b mid begins records tail each gone in (
          at.file,
          at.is,
          is_unread fault at.file head records (tail ++ at.rest) front
              (is_unread_at head digest a b mid begins records tail each gone fault why),
        )
    | failed records entry mid each gone visited why ↦ absurd (never (0 + length records) entry mid last why)
  ]
