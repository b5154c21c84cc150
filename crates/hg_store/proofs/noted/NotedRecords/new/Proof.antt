-- A struct without bytes is made, and its ghost value is the one that the contract names.
use Rattle.std.proofs.Common.{[], ◌∷◌, refl}
use contract.Running.{tables, tables_of}
use Rattle.hg_types.proofs.Walks.{Ura, Val, SProp, ent, Memory, Routine, Calls, Loops, WpFn, Tables, Fun, WpFn-mono}
use Rattle.hg_types.proofs.Walks.{Logic, ‵, raw, ◌⊛◌, ◌$◌, ◌∵◌, !, qed, move, keep, drop, split, fjoin, suffices}
use Rattle.hg_types.proofs.Walks.{done, agg, enter, returns, no_more, alloc_all, pass_all, free_all, look_at, sets}
use Rattle.hg_types.proofs.Walks.{owns, types_at, nothing, Clauses, closing, alive, Meets, triple_of, entered, says}
use Rattle.hg_types.proofs.Walks.{Stays, walk_of, ends_at, walk_Meets, none, makes_none}
use Rattle.hg_store.specs.contracts.noted.NotedRecords as NotedRecords
use Rattle.hg_store.specs.contracts.noted.NotedRecords.new as F
use Rattle.hg_store.specs.contracts.noted.NotedRecords.new.Key.{name as #self}
use Rattle.hg_store.proofs.noted.NotedRecords.new.Statement as stated
use Rattle.hg_store.proofs.noted.NotedRecords.new.Code as code

abbrev stays : Stays F.ended.signature.params F.ended.kept
stays = tt

module _ {M : Type 1} {𝓤 : Ura M} (𝓛 : Logic 𝓤) (memory : Memory → SProp 𝓤) (run : Routine → Fun 𝓤) where
  open 𝓛 use {H}

  abbrev clauses : Clauses 𝓤 F.ended
  clauses = F.clauses 𝓛 memory run

  module _ (C : Calls 𝓤 H) (Λ : Loops 𝓤 H) (z : (walk_of 𝓛 F.ended stays clauses).Ghost) where
    abbrev Left : Val → SProp 𝓤
    Left = (walk_of 𝓛 F.ended stays clauses).post z

    abbrev made : (NotedRecords.the_row).Denot
    made = record { entries = [] }

    runs : ent 𝓤 ((walk_of 𝓛 F.ended stays clauses).pre z)
        (WpFn 𝓤 H C Λ code.function ((walk_of 𝓛 F.ended stays clauses).args z) Left)
    runs =
        qed 𝓛 ((raw (alive 𝓛 F.ended.signature z.0.0 z.0.1)
        ⊛ ‵ (owns (types_at F.ended.signature.params z.0.0) z.0.3 z.0.4))
        ∷ raw ((clauses z.0.0 z.0.3).requires z.1) ∷ []) ∵
        keep ! (0 ∷ []) $ split ! $ move ! (1 ∷ []) $ drop ! $
        enter ! C Λ code.function [] Left $ alloc_all ! (λ l. pass_all ! refl tt $
        sets ! (agg ! (no_more !)) refl (tt, tt) $ nothing ! $ makes_none ! $ fjoin ! $
        returns ! (look_at ! 0 refl) $ free_all ! refl $
        suffices ! _ (ends_at 𝓛 F.ended stays clauses z none made tt tt) $ says ! refl $
        nothing ! $ move ! (2 ∷ 0 ∷ 1 ∷ []) $ done !)

  meets : (𝓣 : Tables 𝓤 H)
      → Meets 𝓛 F.ended.signature (WpFn 𝓤 H 𝓣.C 𝓣.Λ code.function) (closing 𝓛 F.ended clauses)
  meets 𝓣 =
      walk_Meets 𝓛 F.ended stays tt clauses (WpFn 𝓤 H 𝓣.C 𝓣.Λ code.function)
      (WpFn-mono 𝓤 H 𝓛.laws 𝓣 code.function) (runs 𝓣.C 𝓣.Λ)

pub new_spec : {M : Type 1} → stated.statement M
unfolding tables_of
new_spec 𝓤 𝓛 𝓜 𝓡 wired =
    let 𝓣 : Tables 𝓤 𝓛.H = tables_of 𝓤 𝓛.H 𝓜 (tables 𝓤 𝓛.H 𝓜 𝓡 𝓡.env) in
    entered 𝓤 𝓛.H (triple_of 𝓛 F.ended.signature (closing 𝓛 F.ended (clauses 𝓛 𝓜.mem 𝓡.returns))) 𝓣.C 𝓣.Λ
    #self code.function (code.unfolded 𝓤 𝓛.H 𝓜 𝓡 wired) (meets 𝓛 𝓜.mem 𝓡.returns 𝓣)
