-- A struct without bytes is made, and its ghost value is the one that the contract names.
use Rattle.std.proofs.Common.{List, [], ◌∷◌, ◌++◌, refl}
use contract.Running.{tables, tables_of}
use denote.Signature.{named_lft}
use Rattle.hg_types.proofs.Walks.{Ura, Val, vptr, SProp, ent, Memory, Routine, Calls, Loops, WpFn, Tables, Fun}
use Rattle.hg_types.proofs.Walks.{WpFn-mono, Logic, ‵, raw, ◌⊛◌, prop, ◌$◌, ◌∵◌, !, qed, move, keep, drop, split}
use Rattle.hg_types.proofs.Walks.{fsplit, fjoin, feq_l, regoal, suffices, done, agg, enter, returns, no_more}
use Rattle.hg_types.proofs.Walks.{alloc_all, pass_all, free_all, look_at, sets, yes, owns, RefOf, plain, types_at}
use Rattle.hg_types.proofs.Walks.{nothing, Clauses, closing, alive, Meets, triple_of, entered, says, Stays}
use Rattle.hg_types.proofs.Walks.{stay_dropped, walk_of, ends_at, walk_Meets, Goes-dropped, none, makes_none}
use Rattle.hg_store.specs.contracts.noted.NotedRecords as NotedRecords
use Rattle.hg_store.specs.contracts.entry.Passed as Passed
use Rattle.hg_store.specs.contracts.noted.NotedRecords.and as F
use Rattle.hg_store.specs.contracts.noted.NotedRecords.and.Key.{name as #self}
use Rattle.hg_store.proofs.noted.NotedRecords.and.Statement as stated
use Rattle.hg_store.proofs.noted.NotedRecords.and.Code as code

abbrev stays : Stays F.ended.signature.params F.ended.kept
stays = (stay_dropped _ yes, (stay_dropped _ yes, tt))

module _ {M : Type 1} {𝓤 : Ura M} (𝓛 : Logic 𝓤) (memory : Memory → SProp 𝓤) (run : Routine → Fun 𝓤) where
  open 𝓛 use {H}

  abbrev clauses : Clauses 𝓤 F.ended
  clauses = F.clauses 𝓛 memory run

  module _ (C : Calls 𝓤 H) (Λ : Loops 𝓤 H) (z : (walk_of 𝓛 F.ended stays clauses).Ghost) where
    abbrev Left : Val → SProp 𝓤
    Left = (walk_of 𝓛 F.ended stays clauses).post z

    -- the machine's values of the two references
    abbrev before : Val
    before = vptr z.0.3.0.ref_ptr.0 z.0.3.0.ref_ptr.1

    abbrev one : Val
    one = vptr z.0.3.1.0.ref_ptr.0 z.0.3.1.0.ref_ptr.1

    abbrev made : (NotedRecords.the_row).Denot
    made = record { entries = z.0.3.0.now.entries ++ z.0.3.1.0.now ∷ [] }

    runs : ent 𝓤 ((walk_of 𝓛 F.ended stays clauses).pre z)
        (WpFn 𝓤 H C Λ code.function ((walk_of 𝓛 F.ended stays clauses).args z) Left)
    runs =
        qed 𝓛 ((raw (alive 𝓛 F.ended.signature z.0.0 z.0.1)
        ⊛ ‵ (owns (types_at F.ended.signature.params z.0.0) z.0.3 z.0.4))
        ∷ raw ((clauses z.0.0 z.0.3).requires z.1) ∷ []) ∵
        keep ! (0 ∷ []) $ split ! $ move ! (1 ∷ []) $
        fsplit ! $ fsplit ! $ feq_l ! (λ first. drop ! $ fsplit ! $ fsplit ! $ feq_l ! (λ second. drop ! $ drop ! $
        regoal ! (λ (us : List Val). prop (WpFn 𝓤 H C Λ code.function (us ++ (z.0.4.1.0 ++ [])) Left)) first refl $
        regoal ! (λ (us : List Val). prop (WpFn 𝓤 H C Λ code.function ((before ∷ []) ++ (us ++ [])) Left))
        second refl $
        enter ! C Λ code.function (before ∷ one ∷ []) Left $
        alloc_all ! (λ l. pass_all ! refl ((tt, tt), ((tt, tt), tt)) $
        sets ! (agg ! (no_more !)) refl (tt, tt) $ nothing ! $ makes_none ! $ fjoin ! $
        returns ! (look_at ! 0 refl) $ free_all ! refl $
        suffices ! _ (ends_at 𝓛 F.ended stays clauses z none made (tt, (tt, tt)) (tt, (tt, tt))) $
        says ! refl $ nothing ! $ nothing ! $ fjoin ! $ nothing ! $ fjoin ! $ move ! (2 ∷ 0 ∷ 1 ∷ []) $ done !)))

  meets : (𝓣 : Tables 𝓤 H)
      → Meets 𝓛 F.ended.signature (WpFn 𝓤 H 𝓣.C 𝓣.Λ code.function) (closing 𝓛 F.ended clauses)
  meets 𝓣 =
      walk_Meets 𝓛 F.ended stays (
        Goes-dropped 𝓛 3 (RefOf (0 ∷ []) tt (plain (λ _. NotedRecords.the_row)) (λ _. tt)) yes (λ κs x f. refl),
        (
          Goes-dropped 𝓛 3 (RefOf (1 ∷ []) tt (plain (λ κs. Passed.the_row (named_lft 3 2 tt κs))) (λ _. tt)) yes
              (λ κs x f. refl),
          tt,
        ),
      ) clauses (WpFn 𝓤 H 𝓣.C 𝓣.Λ code.function) (WpFn-mono 𝓤 H 𝓛.laws 𝓣 code.function) (runs 𝓣.C 𝓣.Λ)

pub and_spec : {M : Type 1} → stated.statement M
unfolding tables_of
and_spec 𝓤 𝓛 𝓜 𝓡 wired =
    let 𝓣 : Tables 𝓤 𝓛.H = tables_of 𝓤 𝓛.H 𝓜 (tables 𝓤 𝓛.H 𝓜 𝓡 𝓡.env) in
    entered 𝓤 𝓛.H (triple_of 𝓛 F.ended.signature (closing 𝓛 F.ended (clauses 𝓛 𝓜.mem 𝓡.returns))) 𝓣.C 𝓣.Λ
    #self code.function (code.unfolded 𝓤 𝓛.H 𝓜 𝓡 wired) (meets 𝓛 𝓜.mem 𝓡.returns 𝓣)
