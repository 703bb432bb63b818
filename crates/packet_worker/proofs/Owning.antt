-- What a pass saw of an input stands with that input.
use Rattle.std.proofs.Common.{◌≡◌, ℕ, suc, ◌+◌, ◌<◌, true, List, [], ◌∷◌}
use Rattle.std.proofs.Common.{length, get_or, inl, inr, refl, ap, ◌∙◌, subst, arith}
use Rattle.std.proofs.lemmas.List.Elements.{All-contains, Contains-append_cases}
use Rattle.std.specs.List.{Contains}
use Rattle.input_rule.specs.declared.view.Look.{Look}
use Rattle.input_rule.specs.Views.{HasSeen}
use Rattle.input_cells.specs.Faces.{AreOwnLooks, looks_of}
use Rattle.input_cells.specs.Faces.{AreNumbered, HasView, InputFace, IsReadOf, SeatFace, face_of}
use Rattle.input_cells.proofs.Passes.{as_many, face_at}
use Rattle.session_laws.specs.Steps.{SawBlock}

-- a look is one of the seat of its input
own_at : (n : ℕ) (reads : List SeatFace) (l : Look)
    → ((k : ℕ) (d : SeatFace) → k < length reads → (get_or reads k d).view.shape.input ≡ n + k)
    → AreOwnLooks reads → Contains (looks_of reads) l → l.present ≡ true
    → (k : ℕ) × (l.input ≡ n + k) × HasView reads k (λ v. HasSeen v l.tick)
own_at n [] l numbered own h saw = absurd (let k = h.1 in omega arith)
own_at n (p ∷ ps) l numbered own h saw =
    elim (Contains-append_cases p.view.looks (looks_of ps) l h) [
      | inl here ↦
          let at : l.input ≡ p.view.shape.input =
          All-contains (λ (x : Look). x.input ≡ p.view.shape.input) p.view.looks l
          (own 0 p (omega arith)) here in (
            0,
            at ∙ numbered 0 p (omega arith),
            record { look = l; among = here; input_is = at; tick_is = refl; saw_it = saw },
          )
      | inr later ↦
          let r = own_at (n + 1) ps l
          (λ k d lt. numbered (suc k) d (omega arith) ∙ omega arith)
          (λ k d lt. own (suc k) d (omega arith)) later saw in
          (suc r.0, r.1 ∙ omega arith, r.2)
    ]

numbers : (table : List InputFace) (reads : List SeatFace) → AreNumbered table
    → IsReadOf table reads → (k : ℕ) (d : SeatFace) → k < length reads
    → (get_or reads k d).view.shape.input ≡ 0 + k
numbers table reads numbered is k d lt =
    let n = as_many table reads is in
    ap (λ (t : InputFace). t.shape.input) (face_at table reads k d (face_of d) is (omega arith))
    ∙ numbered k (face_of d) (omega arith) ∙ omega arith

-- what a pass has seen of an input
pub seen_here : (table : List InputFace) (reads : List SeatFace) (input tick : ℕ)
    → AreNumbered table → IsReadOf table reads → AreOwnLooks reads
    → SawBlock (looks_of reads) input tick
    → HasView reads input (λ v. HasSeen v tick)
seen_here table reads input tick numbered is own h =
    let r = own_at 0 reads h.look (numbers table reads numbered is) own h.among h.saw_it in
    let at : r.0 ≡ input = (let a = r.1 in omega (arith, a, h.input_is)) in
    subst (λ (z : ℕ × ℕ). HasView reads z.0 (λ v. HasSeen v z.1)) (λ k. (at k, h.tick_is k)) r.2
