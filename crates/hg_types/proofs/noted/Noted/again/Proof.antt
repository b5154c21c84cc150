-- A struct without bytes is made, and its ghost value is the one that the contract names.
use Rattle.std.proofs.Common.{List, [], ◌∷◌, ◌++◌, refl}
use contract.Running.{tables, tables_of}
use Rattle.hg_types.proofs.Walks.{Ura, Fn, Args, a_type, Val, vptr, inst_fn, SProp, ent, Memory, Routine, Calls}
use Rattle.hg_types.proofs.Walks.{Loops, WpFn, Tables, Fun, WpFn-mono, Logic, ‵, raw, ◌⊛◌, prop, ◌$◌, ◌∵◌, !, qed}
use Rattle.hg_types.proofs.Walks.{move, keep, drop, split, fsplit, fjoin, feq_l, regoal, suffices, done, agg, enter}
use Rattle.hg_types.proofs.Walks.{returns, and_then, no_more, alloc_all, pass_all, free_all, look_at, get, sets, yes}
use Rattle.hg_types.proofs.Walks.{RattleType, owns, RefOf, Is, param, layouts, plain, types_at, nothing, owned, makes}
use Rattle.hg_types.proofs.Walks.{Clauses, Ended, closing, alive, Meets, triple_of, entered, says, Stays}
use Rattle.hg_types.proofs.Walks.{stay_dropped, walk_of, ends_at, walk_Meets, Goes-dropped, none, one, makes_one}
use Rattle.std.specs.contracts.marker.PhantomData as Mark
use Rattle.hg_types.specs.contracts.noted.Noted as Noted
use Rattle.hg_types.specs.contracts.noted.Noted.again as F
use Rattle.hg_types.specs.contracts.noted.Noted.again.Key.{name as #self}
use Rattle.hg_types.proofs.noted.Noted.again.Statement as stated
use Rattle.hg_types.proofs.noted.Noted.again.Code as code

module _ (T : RattleType) where
  abbrev args : Args
  args = layouts (a_type ∷ []) (T, tt)

  abbrev function : Fn
  function = inst_fn args code.function

  abbrev ended : Ended
  ended = F.ended T

  abbrev stays : Stays ended.signature.params ended.kept
  stays = (stay_dropped (RefOf (0 ∷ []) tt (plain (λ _. Noted.the_row (param 0 T))) (λ _. tt)) yes, tt)

  module _ {M : Type 1} {𝓤 : Ura M} (𝓛 : Logic 𝓤) (memory : Memory → SProp 𝓤) (run : Routine → Fun 𝓤) where
    open 𝓛 use {H}

    abbrev clauses : Clauses 𝓤 ended
    clauses = F.clauses T 𝓛 memory run

    module _ (C : Calls 𝓤 H) (Λ : Loops 𝓤 H) (z : (walk_of 𝓛 ended stays clauses).Ghost) where
      abbrev Left : Val → SProp 𝓤
      Left = (walk_of 𝓛 ended stays clauses).post z

      -- the machine's value of the reference
      abbrev value : Val
      value = vptr z.0.3.0.ref_ptr.0 z.0.3.0.ref_ptr.1

      abbrev made : (Noted.the_row (param 0 T)).Denot
      made = record { of = record {}; items = z.0.3.0.now.items }

      runs : ent 𝓤 ((walk_of 𝓛 ended stays clauses).pre z)
          (WpFn 𝓤 H C Λ function ((walk_of 𝓛 ended stays clauses).args z) Left)
      runs =
          qed 𝓛 ((raw (alive 𝓛 ended.signature z.0.0 z.0.1)
          ⊛ ‵ (owns (types_at ended.signature.params z.0.0) z.0.3 z.0.4))
          ∷ raw ((clauses z.0.0 z.0.3).requires z.1) ∷ []) ∵
          keep ! (0 ∷ []) $ split ! $ move ! (1 ∷ []) $
          fsplit ! $ fsplit ! $ feq_l ! (λ is. drop ! $ drop ! $
          regoal ! (λ (us : List Val). prop (WpFn 𝓤 H C Λ function (us ++ []) Left)) is refl $
          enter ! C Λ function (value ∷ []) Left $ alloc_all ! (λ l. pass_all ! refl ((tt, tt), tt) $
          sets ! (agg ! (no_more !)) refl (tt, tt) $
          sets ! (agg ! (and_then ! (get ! refl) (no_more !))) refl (tt, (tt, tt)) $
          nothing ! $ owned ! (Mark.the_row (param 0 T)) (Is (Mark.the_row (param 0 T)))
          (makes (Mark.the_type (param 0 T)) tt 𝓛) (record {}) (none ∷ []) (tt, (refl, tt)) $
          makes_one ! (Mark.the_row (param 0 T)) (record {}) none $ fjoin ! $
          returns ! (look_at ! 0 refl) $ free_all ! refl $
          suffices ! _ (ends_at 𝓛 ended stays clauses z (one none) made (tt, tt) (tt, tt)) $ says ! refl $
          nothing ! $ nothing ! $ fjoin ! $ move ! (2 ∷ 0 ∷ 1 ∷ []) $ done !))

    meets : (𝓣 : Tables 𝓤 H)
        → Meets 𝓛 ended.signature (WpFn 𝓤 H 𝓣.C 𝓣.Λ function) (closing 𝓛 ended clauses)
    meets 𝓣 =
        walk_Meets 𝓛 ended stays (
          Goes-dropped 𝓛 2 (RefOf (0 ∷ []) tt (plain (λ _. Noted.the_row (param 0 T))) (λ _. tt)) yes
              (λ κs x f. refl),
          tt,
        ) clauses (WpFn 𝓤 H 𝓣.C 𝓣.Λ function)
        (WpFn-mono 𝓤 H 𝓛.laws 𝓣 function) (runs 𝓣.C 𝓣.Λ)

pub again_spec : {M : Type 1} → stated.statement M
unfolding tables_of
again_spec 𝓤 𝓛 𝓜 𝓡 wired T lawful =
    let 𝓣 : Tables 𝓤 𝓛.H = tables_of 𝓤 𝓛.H 𝓜 (tables 𝓤 𝓛.H 𝓜 𝓡 𝓡.env) in
    entered 𝓤 𝓛.H (triple_of 𝓛 (ended T).signature (closing 𝓛 (ended T) (clauses T 𝓛 𝓜.mem 𝓡.returns))) 𝓣.C 𝓣.Λ
    (#self (args T)) (function T) (code.unfolded 𝓤 𝓛.H 𝓜 𝓡 wired (T, tt)) (meets T 𝓛 𝓜.mem 𝓡.returns 𝓣)
