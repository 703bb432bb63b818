-- A walk over packets, claim by claim.
use Rattle.std.proofs.Common.{◌≡◌, ℕ, zero, suc, ◌+◌, ◌<◌, ◌≤◌, List, [], ◌∷◌, ◌++◌, length, map, drop, get_or}
use Rattle.std.proofs.Common.{refl, sym, ap, subst, ◌∙◌, arith, append_assoc}
use Rattle.std.proofs.Common.{drop-cons, Result, Ok, Err}
use Rattle.std.specs.Prelude.{OnOk}
use Rattle.std.proofs.lemmas.List.{append-nil, drop_all}
use Rattle.io_caps.specs.declared.device.DeviceParts.{DeviceParts}
use Rattle.book_words.specs.declared.history.ClaimItem.{ClaimItem}
use Rattle.monitors.specs.declared.packets.Seen.{Seen}
use Rattle.monitors.specs.Lines.{Meaning, lines_of, last_lines, retired_lines, remaining}
use Rattle.monitors.specs.Packets.{seen_of}
use Rattle.monitors.proofs.Runs.{lines_of-cons, lines_of-nil, lines_of-none}

nil_of : {X : Type 0} (xs : List X) → length xs ≡ 0 → xs ≡ []
nil_of [] e = refl
nil_of (x ∷ xs) e = absurd (omega (arith, e))

-- what is left to write where there is no monitor more: nothing
pub walked_none : {B : Type 0} (list : List B) (m : B → Meaning) (rest : List Seen) (out whole : List ℕ) → length list ≡ 0
    → out ++ lines_of (map m list) rest ≡ whole → out ≡ whole
walked_none {B} list m rest out whole empty is =
    sym (append-nil out)
    ∙ ap (λ (xs : List ℕ). out ++ xs) (sym (lines_of-none rest))
    ∙ ap (λ (bs : List B). out ++ lines_of (map m bs) rest) (sym (nil_of list empty))
    ∙ is

-- one claim more
pub walked_more : {B : Type 0} (list new : List B) (m : B → Meaning) (device : DeviceParts) (claims : List ClaimItem)
    (i : ℕ) (claim : ClaimItem) (seen : Seen) (out written whole : List ℕ)
    → i < length claims → claim ≡ get_or claims i claim → seen ≡ seen_of device claim
    → map m new ≡ remaining seen (map m list) → written ≡ out ++ retired_lines seen (map m list)
    → out ++ lines_of (map m list) (map (seen_of device) (drop i claims)) ≡ whole
    → written ++ lines_of (map m new) (map (seen_of device) (drop (i + 1) claims)) ≡ whole
walked_more list new m device claims i claim seen out written whole lt is saw list_is written_is so_far =
    let rest = map (seen_of device) (drop (i + 1) claims) in
    let place : suc i ≡ i + 1 = omega arith in
    let next : map (seen_of device) (drop i claims) ≡ seen ∷ rest =
    ap (map (seen_of device)) (drop-cons claims i claim lt
    ∙ ap (λ (k : ℕ). get_or claims i claim ∷ drop k claims) place)
    ∙ ap (λ (s : Seen). s ∷ rest) (ap (seen_of device) (sym is) ∙ sym saw)
    in
    rw (written_is, list_is)
    (append_assoc out (retired_lines seen (map m list)) (lines_of (remaining seen (map m list)) rest)
    ∙ ap (λ (xs : List ℕ). out ++ xs) (sym (lines_of-cons (map m list) seen rest))
    ∙ ap (λ (packets : List Seen). out ++ lines_of (map m list) packets) (sym next)
    ∙ so_far)

-- no claim more
pub walked_all : {B : Type 0} (list lent : List B) (m : B → Meaning) (device : DeviceParts) (claims : List ClaimItem)
    (i : ℕ) (out written whole : List ℕ)
    → length claims ≤ i → lent ≡ list → written ≡ out ++ last_lines (map m lent)
    → out ++ lines_of (map m list) (map (seen_of device) (drop i claims)) ≡ whole → written ≡ whole
walked_all {B} list lent m device claims i out written whole past lent_is written_is so_far =
    written_is
    ∙ ap (λ (bs : List B). out ++ last_lines (map m bs)) lent_is
    ∙ ap (λ (xs : List ℕ). out ++ xs) (sym (lines_of-nil (map m list)))
    ∙ ap (λ (cs : List ClaimItem). out ++ lines_of (map m list) (map (seen_of device) cs)) (sym (drop_all i claims past))
    ∙ so_far

-- what follows where a call was well
pub on_ok : {A E P Q : Type 0} (r : Result A E) → (P → Q) → OnOk r P → OnOk r Q
on_ok (Ok x) f p = f p
on_ok (Err e) f p = p

-- a text that three parts were appended to, one after the other
pub three_parts : (old a b c x y z : List ℕ) → x ≡ old ++ a → y ≡ x ++ b → z ≡ y ++ c → z ≡ old ++ (a ++ (b ++ c))
three_parts old a b c x y z first second third =
    third
    ∙ ap (λ (t : List ℕ). t ++ c) (second ∙ ap (λ (t : List ℕ). t ++ b) first ∙ append_assoc old a b)
    ∙ append_assoc old (a ++ b) c
    ∙ ap (λ (t : List ℕ). old ++ t) (append_assoc a b c)
