-- The names that the walks of `src/past.rt` cite, and the one step that both take. Assumes `Logic`.
pub use Rattle.std.proofs.Common.{List, [], ◌∷◌, ◌++◌, refl}
pub use seplogic.Ra.Ura.{Ura}
pub use mir.Syntax.{Fn}
pub use mir.Val.{Val, vnil, vptr, vstruct}
pub use base.Logic.{SProp, ent}
pub use prog.Memory.{Memory}
pub use prog.Routine.{Routine}
pub use prog.Wp.{Calls, Loops, Tables, WpFn}
pub use contract.Monad.{Fun}
pub use contract.Running.{tables}
unfoldable pub use contract.Running.{tables_of}
pub use sound.WpLaws.{WpFn-mono}
pub use types.Logic.{Logic}
pub use types.Kit.{‵, raw, prop, ◌⊛◌, ◌$◌, ◌∵◌, !, qed, move, keep, drop, split, fsplit, fjoin}
pub use types.Kit.{fpack, feq_i, feq_l, regoal, suffices, done, Goal, Item, Step, step}
pub use types.Part.{agg}
pub use types.Run.{enter, no_more, returns}
pub use types.ByLocal.{alloc_all, free_all, look_at, pass_all, sets}
pub use denote.Builtin.{RefOf}
pub use denote.Exit.{yes}
pub use denote.RattleType.{RattleType, Valss, owns}
pub use denote.Signature.{named_lft, plain, types_at}
pub use denote.Steps.{nothing}
pub use denote.Struct.Struct.{Struct, within}
pub use denote.Triple.Clauses.{Clauses, Ended, closing}
pub use denote.Triple.Entry.{alive}
pub use denote.Triple.Spec.{Meets, triple_of}
pub use denote.Triple.Table.{entered}
pub use denote.Triple.Walked.{Goes-dropped, Stays, ends_at, says, stay_dropped, walk_Meets, walk_of}

-- a struct of which nothing is left at run time
abbrev pub nobody : Val
nobody = vstruct vnil

abbrev pub bodiless : RattleType
bodiless = Struct (record { name = []; args = []; types = []; fields = [] })

-- it is made of nothing
pub from_nothing : {M : Type 1} {𝓤 : Ura M} {𝓛 : Logic 𝓤} {K : Type 0} {Γ : List (Item 𝓤)}
    {G : Goal 𝓤 𝓛.H} → K → Step K 𝓛 (‵ (bodiless.own_val tt (nobody ∷ [])) ∷ Γ) G Γ G
from_nothing k = step (λ rest.
    nothing k $ feq_i k (List Val) (nobody ∷ []) (nobody ∷ []) refl $ fjoin k $
    fpack k (Valss []) (within (record { name = []; args = []; types = []; fields = [] }) tt
    (nobody ∷ [])) tt $ rest)
