-- What is made of streams that are counted from 1, and the labels of channels.
use Rattle.std.proofs.Common.{◌≡◌, ℕ, ◌+◌, ◌<◌, List, [], ◌∷◌, ◌++◌, length, get_or, drop, map, zero-add, refl, sym, ap, ◌∙◌, append_assoc}
use Rattle.std.specs.Fmt.{decimal}
use Rattle.std.specs.List.{enumerate_from}
use Rattle.std.proofs.lemmas.List.{drop_more}
use Rattle.std.proofs.lemmas.List.FromFn.{map-range_with_len_more}
use Rattle.sdp_audio.specs.Made.{numbered_labels}

-- one label more
pub labels_more : (n : ℕ) → numbered_labels (n + 1) ≡ numbered_labels n ++ decimal (n + 1) ∷ []
labels_more n = map-range_with_len_more (λ k. decimal (k + 1)) 0 n n (zero-add n)

-- one stream more
pub made_more : {A X : Type 0} (make : ℕ × A → X) (made new whole : List X) (all : List A) (i number : ℕ) (d : A) → i < length all
    → new ≡ made ++ make (number, get_or all i d) ∷ [] → made ++ map make (enumerate_from number (drop i all)) ≡ whole
    → new ++ map make (enumerate_from (number + 1) (drop (i + 1) all)) ≡ whole
made_more {A} {X} make made new whole all i number d within e held =
    let behind = map make (enumerate_from (number + 1) (drop (i + 1) all)) in
    ap (λ (xs : List X). xs ++ behind) e
    ∙ append_assoc made (make (number, get_or all i d) ∷ []) behind
    ∙ ap (λ (xs : List A). made ++ map make (enumerate_from number xs)) (sym (drop_more all i d within))
    ∙ held
