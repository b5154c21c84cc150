-- How a walk makes a struct that has no bytes, and the words that such walks share.
use Rattle.std.proofs.Common.{List, [], ◌∷◌, refl}
use types.Kit.{Goal, Step, step, Item, fpack, feq_i}
use denote.RattleType.{Valss}
use denote.Struct.Struct.{Struct, Shape, within}
pub use seplogic.Ra.Ura.{Ura}
pub use mir.Syntax.{Fn, Args, a_type}
pub use mir.Val.{Val, vptr, vstruct, vcons, vnil}
pub use mir.MapTy.{inst_fn}
pub use base.Logic.{SProp, ent}
pub use prog.Memory.{Memory}
pub use prog.Routine.{Routine}
pub use prog.Wp.{Calls, Loops, WpFn, Tables}
pub use contract.Monad.{Fun}
pub use sound.WpLaws.{WpFn-mono}
pub use types.Logic.{Logic}
pub use types.Kit.{‵, raw, ◌⊛◌, prop, ◌$◌, ◌∵◌, !, qed, move, keep, drop, split, fsplit, fjoin, feq_l, regoal}
pub use types.Kit.{suffices, done}
pub use types.Part.{agg}
pub use types.Run.{enter, returns, and_then, no_more}
pub use types.ByLocal.{alloc_all, pass_all, free_all, look_at, get, sets}
pub use denote.Exit.{yes}
pub use denote.RattleType.{RattleType, owns}
pub use denote.Builtin.{RefOf}
pub use denote.Laws.{Is}
pub use denote.Param.{param, layouts}
pub use denote.Signature.{plain, types_at}
pub use denote.Steps.{nothing, owned}
pub use denote.Struct.Laws.{makes}
pub use denote.Struct.Tuple.{Tuple}
pub use denote.Triple.Clauses.{Clauses, Ended, closing}
pub use denote.Triple.Entry.{alive}
pub use denote.Triple.Spec.{Meets, triple_of}
pub use denote.Triple.Table.{entered}
pub use denote.Triple.Walked.{says, Stays, stay_dropped, walk_of, ends_at, walk_Meets, Goes-dropped}

-- a struct by its fields alone: what it owns does not read its name
abbrev pub shape_of : List RattleType → Shape
shape_of fields = record { name = []; args = []; types = []; fields = fields }

abbrev pub none : Val
none = vstruct vnil

abbrev pub one : Val → Val
one field = vstruct (vcons field vnil)

module _ {M : Type 1} {𝓤 : Ura M} {𝓛 : Logic 𝓤} {K : Type 0} {Γ : List (Item 𝓤)} {G : Goal 𝓤 𝓛.H} where
  -- a struct without fields is made
  pub makes_none : K → Step K 𝓛 (‵ ((Struct (shape_of [])).own_val tt (none ∷ [])) ∷ Γ) G Γ G
  makes_none t = step (λ s.
      nothing t $ feq_i t (List Val) (none ∷ []) (none ∷ []) refl $ fjoin t $
      fpack t (Valss []) (within (shape_of []) tt (none ∷ [])) tt $ s)

  -- a struct of one field is made of the field
  pub makes_one : K → (R : RattleType) (x : R.Denot) (u : Val)
      → Step K 𝓛 (‵ ((Struct (shape_of (R ∷ []))).own_val (x, tt) (one u ∷ [])) ∷ Γ) G
      (‵ (R.own_val x (u ∷ [])) ∷ Γ) G
  makes_one t R x u = step (λ s.
      nothing t $ move t (1 ∷ 0 ∷ []) $ fjoin t $ feq_i t (List Val) (one u ∷ []) (one u ∷ []) refl $ fjoin t $
      fpack t (Valss (R ∷ [])) (within (shape_of (R ∷ [])) (x, tt) (one u ∷ [])) (u ∷ [], tt) $ s)
