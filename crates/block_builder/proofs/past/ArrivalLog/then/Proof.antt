-- `then` makes nothing of what it is lent, and chooses the arrivals with one more. Assumes `Logic`.
use Rattle.block_builder.proofs.Walks.{List, [], ◌∷◌, ◌++◌, refl, Ura, Fn, Val, vptr, SProp, ent}
use Rattle.block_builder.proofs.Walks.{Memory, Routine, Calls, Loops, Tables, WpFn, Fun, tables}
use Rattle.block_builder.proofs.Walks.{tables_of, WpFn-mono, Logic, ‵, raw, prop, ◌⊛◌, ◌$◌, ◌∵◌, ! }
use Rattle.block_builder.proofs.Walks.{qed, move, keep, drop, split, fsplit, fjoin, feq_l, regoal}
use Rattle.block_builder.proofs.Walks.{suffices, done, agg, enter, no_more, returns, alloc_all}
use Rattle.block_builder.proofs.Walks.{free_all, look_at, pass_all, sets, RefOf, yes, owns}
use Rattle.block_builder.proofs.Walks.{named_lft, plain, types_at, nothing, Clauses, Ended, closing}
use Rattle.block_builder.proofs.Walks.{alive, Meets, triple_of, entered, Goes-dropped, Stays}
use Rattle.block_builder.proofs.Walks.{ends_at, says, stay_dropped, walk_Meets, walk_of, nobody}
use Rattle.block_builder.proofs.Walks.{from_nothing}
use Rattle.block_builder.specs.ArrivalRef.{noted}
use Rattle.block_builder.specs.contracts.past.ArrivalLog as contract_past
use Rattle.block_builder.specs.contracts.past.ArrivalRef as contract_came
use Rattle.block_builder.specs.contracts.past.ArrivalLog.then as contract
use Rattle.block_builder.specs.contracts.past.ArrivalLog.then.Key.{name as #then}
use Rattle.block_builder.proofs.past.ArrivalLog.then.Statement as stated
use Rattle.block_builder.proofs.past.ArrivalLog.then.Code as code

abbrev body : Fn
body = code.function

abbrev ended : Ended
ended = contract.ended

abbrev stayed : Stays ended.signature.params ended.kept
stayed = (stay_dropped _ yes, (stay_dropped _ yes, tt))

module _ {M : Type 1} {𝓤 : Ura M} (𝓛 : Logic 𝓤) (memory : Memory → SProp 𝓤)
    (returns_of : Routine → Fun 𝓤) where
  open 𝓛 use {H}

  abbrev clauses : Clauses 𝓤 ended
  clauses = contract.clauses 𝓛 memory returns_of

  module _ (C : Calls 𝓤 H) (Λ : Loops 𝓤 H) (given : (walk_of 𝓛 ended stayed clauses).Ghost) where
    abbrev Goal : Val → SProp 𝓤
    Goal = (walk_of 𝓛 ended stayed clauses).post given

    abbrev lifetimes : SProp 𝓤
    lifetimes = alive 𝓛 ended.signature given.0.0 given.0.1

    walks : ent 𝓤 ((walk_of 𝓛 ended stayed clauses).pre given)
        (WpFn 𝓤 H C Λ body ((walk_of 𝓛 ended stayed clauses).args given) Goal)
    walks =
        let past = given.0.3.0 in
        let came = given.0.3.1.0 in
        let vals = given.0.4 in
        let past_at : Val = vptr past.ref_ptr.0 past.ref_ptr.1 in
        let came_at : Val = vptr came.ref_ptr.0 came.ref_ptr.1 in
        let made : (contract_past.the_row).Denot =
        record { arrivals = noted past.now.arrivals came.now } in
        qed 𝓛 ((raw lifetimes ⊛ ‵ (owns (types_at ended.signature.params given.0.0) given.0.3 vals))
        ∷ raw ((clauses given.0.0 given.0.3).requires given.1) ∷ []) ∵
        keep ! (0 ∷ []) $ split ! $ move ! (1 ∷ []) $ fsplit ! $
        fsplit ! $ feq_l ! (λ is_past. drop ! $ fsplit ! $
        fsplit ! $ feq_l ! (λ is_came. drop ! $ drop ! $
        regoal ! (λ (us : List Val). prop (WpFn 𝓤 H C Λ body (us ++ (vals.1.0 ++ [])) Goal)) is_past
        refl $
        regoal ! (λ (us : List Val). prop (WpFn 𝓤 H C Λ body ((past_at ∷ []) ++ (us ++ [])) Goal))
        is_came refl $
        enter ! C Λ body (past_at ∷ came_at ∷ []) Goal $ alloc_all !
        (λ l. pass_all ! refl ((tt, tt), ((tt, tt), tt)) $
        sets ! (agg ! (no_more !)) refl (tt, tt) $
        nothing ! $ from_nothing ! $ fjoin ! $
        returns ! (look_at ! 0 refl) $ free_all ! refl $
        suffices ! _ (ends_at 𝓛 ended stayed clauses given nobody made (tt, (tt, tt))
        (tt, (tt, tt))) $ says ! refl $
        nothing ! $ nothing ! $ fjoin ! $ nothing ! $ fjoin ! $ move ! (2 ∷ 0 ∷ 1 ∷ []) $ done !)))

  -- neither of what is lent is given back changed
  meets : (𝓣 : Tables 𝓤 H) → Meets 𝓛 ended.signature (WpFn 𝓤 H 𝓣.C 𝓣.Λ body)
      (closing 𝓛 ended clauses)
  meets 𝓣 =
      let past_goes = Goes-dropped 𝓛 3
      (RefOf (0 ∷ []) tt (plain (λ _. contract_past.the_row)) (λ _. tt)) yes (λ κs x f. refl) in
      let came_goes = Goes-dropped 𝓛 3
      (RefOf (1 ∷ []) tt (plain (λ κs. contract_came.the_row (named_lft 3 2 tt κs))) (λ _. tt))
      yes (λ κs x f. refl) in
      walk_Meets 𝓛 ended stayed (past_goes, (came_goes, tt)) clauses (WpFn 𝓤 H 𝓣.C 𝓣.Λ body)
      (WpFn-mono 𝓤 H 𝓛.laws 𝓣 body) (walks 𝓣.C 𝓣.Λ)

pub then_spec : {M : Type 1} → stated.statement M
unfolding tables_of
then_spec 𝓤 𝓛 𝓜 𝓡 wired =
    let 𝓣 : Tables 𝓤 𝓛.H = tables_of 𝓤 𝓛.H 𝓜 (tables 𝓤 𝓛.H 𝓜 𝓡 𝓡.env) in
    entered 𝓤 𝓛.H (triple_of 𝓛 ended.signature (closing 𝓛 ended (clauses 𝓛 𝓜.mem 𝓡.returns))) 𝓣.C
    𝓣.Λ #then body
    (code.unfolded 𝓤 𝓛.H 𝓜 𝓡 wired) (meets 𝓛 𝓜.mem 𝓡.returns 𝓣)
