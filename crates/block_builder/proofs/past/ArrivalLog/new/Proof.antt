-- `new` makes nothing of nothing, and chooses that nothing came. Assumes `Logic`.
use Rattle.block_builder.proofs.Walks.{[], ◌∷◌, refl, Ura, Fn, Val, SProp, ent, Memory, Routine}
use Rattle.block_builder.proofs.Walks.{Calls, Loops, Tables, WpFn, Fun, tables, tables_of}
use Rattle.block_builder.proofs.Walks.{WpFn-mono, Logic, ‵, raw, ◌⊛◌, ◌$◌, ◌∵◌, !, qed, move, keep}
use Rattle.block_builder.proofs.Walks.{drop, split, fjoin, suffices, done, agg, enter, no_more}
use Rattle.block_builder.proofs.Walks.{returns, alloc_all, free_all, look_at, pass_all, sets, owns}
use Rattle.block_builder.proofs.Walks.{types_at, nothing, Clauses, Ended, closing, alive, Meets}
use Rattle.block_builder.proofs.Walks.{triple_of, entered, Stays, ends_at, says, walk_Meets}
use Rattle.block_builder.proofs.Walks.{walk_of, nobody, from_nothing}
use Rattle.block_builder.specs.contracts.past.ArrivalLog as contract_past
use Rattle.block_builder.specs.contracts.past.ArrivalLog.new as contract
use Rattle.block_builder.specs.contracts.past.ArrivalLog.new.Key.{name as #new}
use Rattle.block_builder.proofs.past.ArrivalLog.new.Statement as stated
use Rattle.block_builder.proofs.past.ArrivalLog.new.Code as code

abbrev body : Fn
body = code.function

abbrev ended : Ended
ended = contract.ended

abbrev stayed : Stays ended.signature.params ended.kept
stayed = tt

module _ {M : Type 1} {𝓤 : Ura M} (𝓛 : Logic 𝓤) (memory : Memory → SProp 𝓤)
    (returns_of : Routine → Fun 𝓤) where
  open 𝓛 use {H}

  abbrev clauses : Clauses 𝓤 ended
  clauses = contract.clauses 𝓛 memory returns_of

  module _ (C : Calls 𝓤 H) (Λ : Loops 𝓤 H) (given : (walk_of 𝓛 ended stayed clauses).Ghost) where
    abbrev Goal : Val → SProp 𝓤
    Goal = (walk_of 𝓛 ended stayed clauses).post given

    abbrev lifetimes : SProp 𝓤
    lifetimes = alive 𝓛 ended.signature given.0.0 given.0.1

    walks : ent 𝓤 ((walk_of 𝓛 ended stayed clauses).pre given)
        (WpFn 𝓤 H C Λ body ((walk_of 𝓛 ended stayed clauses).args given) Goal)
    walks =
        let args = given.0.3 in
        let made : (contract_past.the_row).Denot = record { arrivals = [] } in
        qed 𝓛 ((raw lifetimes ⊛ ‵ (owns (types_at ended.signature.params given.0.0) args given.0.4))
        ∷ raw ((clauses given.0.0 args).requires given.1) ∷ []) ∵
        keep ! (0 ∷ []) $ split ! $ move ! (1 ∷ []) $ drop ! $
        enter ! C Λ body [] Goal $ alloc_all ! (λ l. pass_all ! refl tt $
        sets ! (agg ! (no_more !)) refl (tt, tt) $
        nothing ! $ from_nothing ! $ fjoin ! $
        returns ! (look_at ! 0 refl) $ free_all ! refl $
        suffices ! _ (ends_at 𝓛 ended stayed clauses given nobody made tt tt) $ says ! refl $
        nothing ! $ move ! (2 ∷ 0 ∷ 1 ∷ []) $ done !)

  meets : (𝓣 : Tables 𝓤 H) → Meets 𝓛 ended.signature (WpFn 𝓤 H 𝓣.C 𝓣.Λ body)
      (closing 𝓛 ended clauses)
  meets 𝓣 =
      walk_Meets 𝓛 ended stayed tt clauses (WpFn 𝓤 H 𝓣.C 𝓣.Λ body) (WpFn-mono 𝓤 H 𝓛.laws 𝓣 body)
      (walks 𝓣.C 𝓣.Λ)

pub new_spec : {M : Type 1} → stated.statement M
unfolding tables_of
new_spec 𝓤 𝓛 𝓜 𝓡 wired =
    let 𝓣 : Tables 𝓤 𝓛.H = tables_of 𝓤 𝓛.H 𝓜 (tables 𝓤 𝓛.H 𝓜 𝓡 𝓡.env) in
    entered 𝓤 𝓛.H (triple_of 𝓛 ended.signature (closing 𝓛 ended (clauses 𝓛 𝓜.mem 𝓡.returns))) 𝓣.C
    𝓣.Λ #new body
    (code.unfolded 𝓤 𝓛.H 𝓜 𝓡 wired) (meets 𝓛 𝓜.mem 𝓡.returns 𝓣)
